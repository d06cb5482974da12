use Rattle.std.proofs.Common.{ℕ, [], List, Bool, ◌&&◌, ap, ◌∙◌}
use Rattle.std.specs.List.{flat_map}
use Rattle.std.proofs.lemmas.Result.{IfOk-weaker}
use Rattle.an_policy.specs.Audience.{identity}
use Rattle.an_postings.specs.Postings.{places_in}
use Rattle.an_slots.specs.Places.{ascending, places_from}
use Rattle.an_slots.specs.Slot.{slot_of}
use Rattle.an_state.specs.View.{is_on}
use Rattle.an_listed.specs.Filed.{reads}
use Rattle.an_listed.specs.declared.filed.Filed.{Filed}
use Rattle.an_listed.proofs.ReadLemmas.{whole-read}
use Rattle.an_listed.proofs.register.Register.readable_on.Goals as goal

pub returns : goal.returns
returns c =
    let manifest = c.as_str-manifest.result.now in
    let passes : ℕ → Bool = reads (identity c.args.who.now) c.args.classes.now in record {
      places = IfOk-weaker c.places.result _ _ (λ places is rows stands.
          is
          ∙ ap (λ (cs : List ℕ). ascending
          (flat_map (λ class. places_in c.args.self.now.whole (slot_of manifest [] class)) cs))
          c.as_slice.ensures.value
          ∙ whole-read c.args.self.now rows stands manifest passes c.in_ok-read.read.items
          c.in_ok-read.ensures.read c.in_ok-read.ensures.others
          ∙ ap (λ (m : List ℕ).
          places_from (λ (row : Filed). is_on m row.note && passes row.class) 0 rows)
          c.as_str-manifest.ensures.value) c.places.ensures.places;
    }
