use Rattle.std.proofs.Common.{◌≡◌, ◌+◌, ◌++◌, length, sym, ap, subst, ◌∙◌}
use Rattle.std.specs.Prelude.{filter}
use Rattle.an_model.specs.Targets.{targets_of}
use Rattle.an_anchor.proofs.CountLemmas.{counted-passed}
use Rattle.an_anchor.proofs.TargetLemmas.{kept-count}
use Rattle.an_anchor.specs.Comments.{anchor_item, is_about, numbered}
use Rattle.an_anchor.specs.Walk.{HasCounted, is_kept_about, meets}
use Rattle.an_anchor.proofs.counting.count_note.Goals as goal

pub returns-in_ok-counted : goal.returns-in_ok-counted
returns-in_ok-counted c =
    let asked = c.args.asked.now in
    let targets = c.as_slice.ensures.value ∙ c.in_ok-targets.ensures.targets in
    record {
      counted = λ comments has.
          subst (λ targets. HasCounted (anchor_item asked.base.now asked.texts.now) asked.window
          (comments ++ filter (is_about asked.iri.now) (numbered c.args.row.now 0 targets))
          c.in_ok-counted.counted) targets
          (c.in_ok-counted.ensures.counted comments has);
    }

pub returns-in_ok-counted-2 : goal.returns-in_ok-counted-2
returns-in_ok-counted-2 c =
    let asked = c.args.asked.now in
    let targets = targets_of c.args.kept.now in
    let more = filter (is_about asked.iri.now) (numbered c.args.row.now 0 targets) in
    let count : c.count_about-count.result ≡ length more =
    c.count_about-count.ensures
    ∙ ap (λ kept. length (filter (is_kept_about asked.iri.now) kept)) c.targets.ensures.targets
    ∙ kept-count c.args.row.now asked.iri.now 0 targets in
    let off =
    ap (meets asked.window c.args.counted.total) (sym count) ∙ sym c.meets.ensures
    ∙ c.if-meets.false in
    record {
      counted = λ comments has.
          counted-passed (anchor_item asked.base.now asked.texts.now) asked.window
          comments c.args.counted _ has more off c.in_ok-counted-2.ensures.items
          (c.in_ok-counted-2.ensures.total ∙ ap (λ n. c.args.counted.total + n) count);
    }
