use Rattle.std.proofs.Common.{◌+◌, ◌<◌, ◌≡◌, ℕ, List, [], ◌++◌, drop, length, ap, sym, ◌∙◌, arith}
use Rattle.std.proofs.lemmas.List.{drop_all}
use Rattle.an_postings.specs.Live.{live}
use Rattle.an_postings.proofs.LiveLemmas.{live-none, next_gone, next_rise}
use Rattle.an_postings.proofs.noted.append_live.Goals as goal

pub loop-at-preserved : goal.loop-at-preserved
loop-at-preserved c =
    let gone = c.args.gone.now.items in
    let at = c.loop-at.at in
    let within : at < length gone =
    omega (arith, c.loop-at-test.true, c.len-at-end.ensures, c.args.gone.now.ok) in
    record {
      rises = c.in_ok-left.ensures.rises;
      live =
          c.in_ok-left.ensures.live (drop (at + 1) gone)
          (next_rise gone at c.index.result.now within c.index.ensures c.requires.gone)
          ∙ ap (λ (l : List ℕ). c.loop-at.places.items ++ live c.loop-at.left.now l)
          (sym (next_gone gone at c.index.result.now within c.index.ensures c.requires.gone))
          ∙ c.loop-at.invariant.live;
    }

pub returns : goal.returns
returns c =
    let gone = c.args.gone.now.items in
    let none : drop c.loop-at.at gone ≡ [] =
    drop_all c.loop-at.at gone
    (omega (arith, c.loop-at-test.false, c.len-at-end.ensures, c.args.gone.now.ok)) in
    record {
      live = c.in_ok-extend_from_slice.ensures.items
          ∙ ap (λ (l : List ℕ). c.loop-at.places.items ++ l)
          (sym (ap (live c.loop-at.left.now) none ∙ live-none c.loop-at.left.now))
          ∙ c.loop-at.invariant.live;
    }
