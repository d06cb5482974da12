use Rattle.std.proofs.Common.{rules, ◌≡◌, length, ◌∙◌, sym}
use Rattle.an_postings.proofs.LiveLemmas.{live-bare}
use Rattle.an_postings.proofs.noted.runs_of.Goals as goal

pub returns-then-is_empty : goal.returns-then-is_empty
returns-then-is_empty c =
    let none : length c.args.gone.now.items ≡ 0 = search rules in
    record {
      runs =
          c.as_slices.ensures.items
          ∙ sym (live-bare c.args.all.now.items c.args.gone.now.items none);
    }
