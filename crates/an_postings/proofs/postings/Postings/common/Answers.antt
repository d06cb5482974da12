use Rattle.std.proofs.Common.{List, ap, ◌∙◌}
use Rattle.std.proofs.lemmas.Result.{IfOk-weaker}
use Rattle.std.specs.List.{flat_map}
use Rattle.std.specs.Prelude.{filter}
use Rattle.an_slots.specs.Places.{ascending, has}
use Rattle.an_postings.specs.Lists.{places_at}
use Rattle.an_postings.specs.declared.class_postings.ClassPostings.{ClassPostings}
use Rattle.an_postings.proofs.postings.Postings.common.Goals as goal

pub returns : goal.returns
returns c =
    let same =
    ap (λ (lists : List ClassPostings). filter
    (λ place. has place (ascending (flat_map (places_at lists) c.args.classes.now)))
    c.args.places.now) c.lists_of.ensures.lists in
    record {
      common = IfOk-weaker c.common_in.result _ _ (λ p h. h ∙ same) c.common_in.ensures.common;
    }
