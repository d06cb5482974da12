-- A harvest of what a caller sees of a coherent state has what is in its view.
use Rattle.std.proofs.Common.{◌≡◌, ℕ, Bool, true, false, not, if◌then◌else◌, List, [], map, Option, Some, None, IsTrue, refl, sym, ap, ◌∙◌}
use Rattle.std.specs.Prelude.{is_none}
use Rattle.an_base.specs.Outcome.{passes}
use Rattle.an_feed.specs.Told.{IsNamed, change_told, iri_of, lives, object_of_key}
use Rattle.an_feed.proofs.IriLemmas.{lives_told, only_told}
use Rattle.an_harvest.specs.Live.{object_at}
use Rattle.an_harvest.specs.declared.known.KnownObject.{KnownObject}
use Rattle.an_keyed.specs.Key.{Key}
use Rattle.an_laws.specs.Coherent.{Coherent, is_in_view, is_told}
use Rattle.an_laws.proofs.ToldLemmas as view
use Rattle.an_lines.specs.Harvest.{AreHarvested}
use Rattle.an_lines.proofs.HarvestLemmas.{view-told}
use Rattle.an_list.specs.Site.{Site}
use Rattle.an_policy.specs.Audience.{Identity}
use Rattle.an_policy.specs.Seen.{is_deletion}
use Rattle.an_rows.specs.Valid.{is_valid}
use Rattle.an_state.specs.State.{State}
use Rattle.an_state.specs.View.{last_change, view_of}
use Rattle.an_state.specs.declared.activity.Seen.{Seen}

-- whether an object is a manifest, where it is there
abbrev pub kind_there : Key → Bool → Option Bool
kind_there key there = if there then Some (is_none key.owner) else None

lives-told : (key : Key) (seen : List Seen) → lives key seen ≡ kind_there key (is_told seen key)
lives-told key seen = by (last_change key seen)
  where
    kept : (deleted : Bool)
        → (if deleted then None else Some (is_none key.owner)) ≡ kind_there key (not deleted)
    kept true = refl
    kept false = refl

    by : (change : Option Seen)
        → elim change [
          | None ↦ None
          | Some change ↦ if is_deletion change.kind then None else Some (is_none key.owner)
        ]
        ≡ kind_there key (passes (λ change. not (is_deletion change.kind)) change)
    by None = refl
    by (Some change) = kept (is_deletion change.kind)

there-is : (key : Key) (there manifest : Bool) → kind_there key there ≡ Some manifest
    → (there ≡ true) × (manifest ≡ is_none key.owner)
there-is key true manifest is = (refl, some-same (sym is))
  where
    some-same : {a b : Bool} → ◌≡◌ {A = Option Bool} (Some a) (Some b) → a ≡ b
    some-same is = cc is
there-is key false manifest is = absurd (cc is)

module _ (site : Site) (s : State) (who : Identity) (objects : List KnownObject) where
  harvest-has : (key : Key) → IsTrue (is_valid s) → Coherent s → IsNamed (object_of_key key)
      → AreHarvested site (view_of s who) objects
      → object_at objects (iri_of site.base (object_of_key key))
      ≡ kind_there key (is_in_view (view_of s who) key)
  harvest-has key valid coherent named are =
      are.live (iri_of site.base (object_of_key key))
      ∙ lives_told site.base key (view_of s who).seen named (view-told s (Some who) valid)
      ∙ lives-told key (view_of s who).seen
      ∙ ap (kind_there key) (sym (view.view-told s who key coherent))

  harvest-only : (id : List ℕ) (manifest : Bool) → IsTrue (is_valid s) → Coherent s
      → AreHarvested site (view_of s who) objects → object_at objects id ≡ Some manifest
      → (key : Key) × IsNamed (object_of_key key) × (iri_of site.base (object_of_key key) ≡ id)
      × IsTrue (is_in_view (view_of s who) key) × (manifest ≡ is_none key.owner)
  harvest-only id manifest valid coherent are is =
      let (key, named, same) =
      only_told site.base id (view_of s who).seen manifest (view-told s (Some who) valid)
      (sym (are.live id) ∙ is) in
      let found =
      there-is key (is_in_view (view_of s who) key) manifest
      (sym (harvest-has key valid coherent named are) ∙ ap (object_at objects) same ∙ is) in
      (key, named, same, found.0, found.1)

pub harvest_has : (site : Site) (s : State) (who : Identity) (key : Key)
    (objects : List KnownObject) → IsTrue (is_valid s) → Coherent s → IsNamed (object_of_key key)
    → AreHarvested site (view_of s who) objects
    → object_at objects (iri_of site.base (object_of_key key))
    ≡ (if is_in_view (view_of s who) key then Some (is_none key.owner) else None)
harvest_has site s who key objects = harvest-has site s who objects key

pub harvest_only : (site : Site) (s : State) (who : Identity) (id : List ℕ) (manifest : Bool)
    (objects : List KnownObject) → IsTrue (is_valid s) → Coherent s
    → AreHarvested site (view_of s who) objects
    → object_at objects id ≡ Some manifest
    → (key : Key) × IsNamed (object_of_key key) × (iri_of site.base (object_of_key key) ≡ id)
    × IsTrue (is_in_view (view_of s who) key) × (manifest ≡ is_none key.owner)
harvest_only site s who id manifest objects = harvest-only site s who objects id manifest

pub ruleset viewed = (harvest_has, harvest_only)
