use Rattle.std.proofs.Common.{◌≡◌, arith, ℕ, List, ap, ◌∙◌, take, length}
use Rattle.std.specs.List.{sum_by}
use Rattle.std.proofs.lemmas.List.{take_all}
use Rattle.an_base.specs.Totals.{capped}
use Rattle.an_postings.specs.declared.class_postings.ClassPostings.{ClassPostings}
use Rattle.an_postings.specs.Totals.{counted}
use Rattle.an_postings.proofs.SumsOverClasses.{sum-swap}
use Rattle.an_postings.proofs.totals.total_in.Goals as goal

pub returns : goal.returns
returns c =
    let xs = c.args.lists.now in
    let ks = c.args.classes.now in
    let end : c.loop-own.own-index ≡ length xs = omega arith in
    record {
      total =
          c.loop-own.invariant
          ∙ ap (λ (i : ℕ). capped (sum_by (counted ks) (take i xs))) end
          ∙ ap (λ (l : List ClassPostings). capped (sum_by (counted ks) l))
          (take_all (length xs) xs (omega arith))
          ∙ ap (λ (s : ℕ). capped s) (sum-swap 0 xs ks c.requires.ascends c.requires.rises);
    }
