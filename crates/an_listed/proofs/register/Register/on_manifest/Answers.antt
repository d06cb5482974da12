use Rattle.std.proofs.Common.{ℕ, [], List, ap, ◌∙◌}
use Rattle.std.specs.List.{flat_map}
use Rattle.std.proofs.lemmas.Result.{IfOk-weaker}
use Rattle.an_postings.specs.Postings.{places_in}
use Rattle.an_slots.specs.Places.{ascending, places_from}
use Rattle.an_slots.specs.Slot.{slot_of}
use Rattle.an_state.specs.View.{is_on}
use Rattle.an_listed.specs.declared.filed.Filed.{Filed}
use Rattle.an_listed.proofs.ReadLemmas.{whole-all}
use Rattle.an_listed.proofs.register.Register.on_manifest.Goals as goal

pub returns : goal.returns
returns c =
    let manifest = c.as_str-manifest.result.now in record {
      places = IfOk-weaker c.places.result _ _ (λ places is rows stands.
          is
          ∙ ap (λ (cs : List ℕ). ascending
          (flat_map (λ class. places_in c.args.self.now.whole (slot_of manifest [] class)) cs))
          c.as_slice.ensures.value
          ∙ whole-all c.args.self.now rows stands manifest c.in_ok-own.own.items
          c.in_ok-own.ensures.others
          ∙ ap (λ (m : List ℕ). places_from (λ (row : Filed). is_on m row.note) 0 rows)
          c.as_str-manifest.ensures.value) c.places.ensures.places;
    }
