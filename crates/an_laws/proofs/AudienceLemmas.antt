-- The audience of the first row of an object, and those of all its rows.
use Rattle.std.proofs.Common.{◌≡◌, ℕ, Bool, false, List, [], ◌∷◌, Option, Some, None, option_and_then, is_some, map, inl, inr, refl, sym, ap, subst, ◌∙◌}
use Rattle.std.specs.Prelude.{All, IsTrue, filter, find, option_to_list}
use Rattle.std.proofs.lemmas.Bool.{cases_Bool, cond-true, cond-false}
use Rattle.std.proofs.lemmas.List.Elements.{All-nil, All-cons, All-head}
use Rattle.std.proofs.lemmas.Option.{same_Some}
use Rattle.an_keyed.specs.Key.{Key, same_key}
use Rattle.an_keyed.proofs.PutLemmas.{row_of-find}
use Rattle.an_policy.specs.declared.group.Audience.{Audience}
use Rattle.an_state.specs.View.{audience_of_manifest, audience_of_note}
use Rattle.an_state.specs.State.{State, ManifestState, NoteState, manifest_key, note_key, manifest_row, note_row, is_distinct}
use Rattle.an_state.specs.declared.activity.Activity.{Activity}
use Rattle.an_state.proofs.DistinctLemmas.{manifests-distinct, notes-distinct}
use Rattle.an_laws.specs.Coherent.{activities_of, audiences_of, has_row, Chain, has_any, Coherent}
use Rattle.an_laws.proofs.RowLemmas.{one_of}

-- a manifest is told by no owner, an annotation by its own
abbrev pub key_at : Option (List ℕ) → List ℕ → Key
key_at owner name = record { owner = owner; name = name }

-- who may read the object, by its first row
abbrev pub audience_of : State → Key → Option Audience
audience_of s key = elim key.owner [
  | None ↦ option_and_then audience_of_manifest (manifest_row s key.name)
  | Some owner ↦ option_and_then (audience_of_note s) (note_row s owner key.name)
]

-- what is coherent, as far as first rows go
abbrev pub CoherentFirst : State → Type 0
CoherentFirst s =
    (key : Key)
    → Chain None (activities_of key s.activities) (audience_of s key)
    × (has_row s key ≡ has_any (activities_of key s.activities))

module _ {R : Type 0} (has : R → Bool) (f : R → Option Audience)
    (P : Option Audience → Type 0) where
  -- what holds for all rows holds for the first
  pub first_of_all : (row : R) (rows : List R) → All P (map f (filter has rows))
      → find has rows ≡ Some row → P (f row)
  first_of_all row [] all found = absurd (cc)
  first_of_all row (first ∷ rows) all found = elim (cases_Bool (has first)) [
    | inl is ↦
        subst (λ r. P (f r)) (same_Some first row (sym (cond-true _ _ _ is) ∙ found))
        (All-head P (f first) (map f (filter has rows)) (rw is at all))
    | inr isnt ↦ first_of_all row rows (rw isnt at all) (sym (cond-false _ _ _ isnt) ∙ found)
  ]

  all_of_one : (o : Option R) → ((row : R) → o ≡ Some row → P (f row))
      → All P (map f (option_to_list o))
  all_of_one None each = All-nil P
  all_of_one (Some row) each = All-cons P (f row) [] (each row refl) (All-nil P)

  -- and the other way where there is one at most
  pub all_of_first : (rows : List R) → filter has rows ≡ option_to_list (find has rows)
      → ((row : R) → find has rows ≡ Some row → P (f row)) → All P (map f (filter has rows))
  all_of_first rows one each = rw one (all_of_one (find has rows) each)

-- ---- from all rows to the first

none-any : (activities : List Activity) → has_any activities ≡ false → activities ≡ []
none-any [] none = refl
none-any (activity ∷ activities) none = absurd (cc)

chain-none : (activities : List Activity) → has_any activities ≡ false → Chain None activities None
chain-none activities none = rw (none-any activities none) refl

module _ (s : State) (key : Key) where
  abbrev EndsIn : Option Audience → Type 0
  EndsIn audience = Chain None (activities_of key s.activities) audience

first-manifest : (s : State) (name : List ℕ) (o : Option ManifestState) → manifest_row s name ≡ o
    → All (EndsIn s (key_at None name)) (audiences_of s (key_at None name))
    → has_row s (key_at None name) ≡ has_any (activities_of (key_at None name) s.activities)
    → EndsIn s (key_at None name) (option_and_then audience_of_manifest (manifest_row s name))
first-manifest s name None is all rows = rw is (chain-none _ (sym rows ∙ ap is_some is))
first-manifest s name (Some row) is all rows =
    rw is (first_of_all (λ r. same_key (manifest_key r) (key_at None name)) audience_of_manifest
    (EndsIn s (key_at None name)) row s.manifests all
    (sym (row_of-find manifest_key (key_at None name) s.manifests) ∙ is))

first-note : (s : State) (owner name : List ℕ) (o : Option NoteState) → note_row s owner name ≡ o
    → All (EndsIn s (key_at (Some owner) name)) (audiences_of s (key_at (Some owner) name))
    → has_row s (key_at (Some owner) name)
    ≡ has_any (activities_of (key_at (Some owner) name) s.activities)
    → EndsIn s (key_at (Some owner) name)
    (option_and_then (audience_of_note s) (note_row s owner name))
first-note s owner name None is all rows = rw is (chain-none _ (sym rows ∙ ap is_some is))
first-note s owner name (Some row) is all rows =
    rw is (first_of_all (λ r. same_key (note_key r) (key_at (Some owner) name))
    (audience_of_note s) (EndsIn s (key_at (Some owner) name)) row s.notes all
    (sym (row_of-find note_key (key_at (Some owner) name) s.notes) ∙ is))

first_at : (s : State) (owner : Option (List ℕ)) (name : List ℕ)
    → All (EndsIn s (key_at owner name)) (audiences_of s (key_at owner name))
    → has_row s (key_at owner name) ≡ has_any (activities_of (key_at owner name) s.activities)
    → EndsIn s (key_at owner name) (audience_of s (key_at owner name))
first_at s None name all rows = first-manifest s name (manifest_row s name) refl all rows
first_at s (Some owner) name all rows =
    first-note s owner name (note_row s owner name) refl all rows

pub coherent-first : (s : State) → Coherent s → CoherentFirst s
coherent-first s coherent key =
    (first_at s key.owner key.name (coherent key).0 (coherent key).1, (coherent key).1)

-- ---- and back, where names are distinct

all_at : (s : State) (owner : Option (List ℕ)) (name : List ℕ) → IsTrue (is_distinct s)
    → EndsIn s (key_at owner name) (audience_of s (key_at owner name))
    → All (EndsIn s (key_at owner name)) (audiences_of s (key_at owner name))
all_at s None name distinct chain =
    all_of_first (λ r. same_key (manifest_key r) (key_at None name)) audience_of_manifest
    (EndsIn s (key_at None name)) s.manifests
    (one_of manifest_key (key_at None name) s.manifests (manifests-distinct s distinct))
    (λ row found.
    let is = row_of-find manifest_key (key_at None name) s.manifests ∙ found in rw is at chain)
all_at s (Some owner) name distinct chain =
    all_of_first (λ r. same_key (note_key r) (key_at (Some owner) name))
    (audience_of_note s) (EndsIn s (key_at (Some owner) name)) s.notes
    (one_of note_key (key_at (Some owner) name) s.notes (notes-distinct s distinct))
    (λ row found.
    let is = row_of-find note_key (key_at (Some owner) name) s.notes ∙ found in rw is at chain)

pub all-audiences : (s : State) (key : Key) → IsTrue (is_distinct s) → CoherentFirst s
    → All (Chain None (activities_of key s.activities)) (audiences_of s key)
all-audiences s key distinct coherent = all_at s key.owner key.name distinct (coherent key).0
