use Rattle.std.proofs.Common.{ℕ, List, Bool, ap, ◌∙◌}
use Rattle.std.specs.List.{flat_map}
use Rattle.std.specs.Option.{option_copied}
use Rattle.std.proofs.lemmas.Result.{IfOk-weaker}
use Rattle.an_policy.specs.Audience.{identity}
use Rattle.an_postings.specs.Postings.{places_in}
use Rattle.an_slots.specs.Places.{ascending}
use Rattle.an_slots.specs.Slot.{slot_of}
use Rattle.an_listed.specs.Filed.{reads}
use Rattle.an_listed.proofs.ReadLemmas.{words-read}
use Rattle.an_listed.proofs.register.Register.with_term.Goals as goal

pub returns : goal.returns
returns c =
    let lists = c.lists_within-lists.result.now in
    let text = c.text_within-text.result.now in
    let term = c.args.term.now in
    let passes : ℕ → Bool = reads (identity c.args.who.now) c.args.classes.now in record {
      places = IfOk-weaker c.places.result _ _ (λ places is rows stands.
          is
          ∙ ap (λ (cs : List ℕ).
          ascending (flat_map (λ class. places_in lists (slot_of text term class)) cs))
          c.as_slice.ensures.value
          ∙ words-read c.args.self.now rows stands (option_copied c.args.manifest) lists
          text c.lists_within-lists.ensures.lists c.text_within-text.ensures term passes
          c.in_ok-read.read.items c.in_ok-read.ensures.read c.in_ok-read.ensures.others)
          c.places.ensures.places;
    }
