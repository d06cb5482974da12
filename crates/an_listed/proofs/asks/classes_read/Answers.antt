use Rattle.std.proofs.Common.{ℕ, Bool, filter, ap, ◌∙◌}
use Rattle.std.proofs.lemmas.Result.{IfOk-weaker}
use Rattle.an_policy.specs.Audience.{identity}
use Rattle.an_postings.specs.Postings.{places_in}
use Rattle.an_slots.specs.Slot.{slot_of}
use Rattle.an_listed.specs.Filed.{reads}
use Rattle.an_listed.proofs.ReadLemmas.{read-others, read-passes, rises-read}
use Rattle.an_listed.proofs.asks.classes_read.Goals as goal

pub returns : goal.returns
returns c =
    let passes : ℕ → Bool = reads (identity c.args.who.now) c.args.classes.now in
    let own = c.in_ok-own.own.items in
    let same = ap (filter passes) c.as_slice.ensures.value in
    let found = c.those_read.ensures.read in record {
      rises =
          IfOk-weaker c.those_read.result _ _
          (λ read is. rises-read passes own read.items (is ∙ same) c.in_ok-own.ensures.rises) found;
      read =
          IfOk-weaker c.those_read.result _ _
          (λ read is. read-passes passes own read.items (is ∙ same)) found;
      others =
          IfOk-weaker c.those_read.result _ _
          (λ read is. read-others passes own read.items (is ∙ same)
          (λ class. places_in c.args.lists.now (slot_of c.args.text.now c.args.term.now class))
          c.in_ok-own.ensures.others) found;
    }
