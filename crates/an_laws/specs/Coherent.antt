-- How the activities tell the rows: what the change stream says of an object is how the object
-- stands.
use Rattle.std.specs.Prelude.{◌≡◌, List, [], ◌∷◌, Bool, true, false, not, is_some, All, filter, map}
use Rattle.std.specs.Prelude.{Option, None, Some}
use Rattle.an_base.specs.Outcome.{passes}
use Rattle.an_keyed.specs.Key.{Key, same_key}
use Rattle.an_policy.specs.declared.group.Audience.{Audience}
use Rattle.an_policy.specs.Seen.{is_deletion}
use Rattle.an_state.specs.State.{State, manifest_key, note_key, manifest_row, note_row}
use Rattle.an_state.specs.View.{View, activity_key, manifest_in, note_in, last_change}
use Rattle.an_state.specs.View.{audience_of_manifest, audience_of_note}
use Rattle.an_state.specs.declared.activity.Activity.{Activity}
use Rattle.an_state.specs.declared.activity.Seen.{Seen}

-- the activities of one object, in order
abbrev pub activities_of : Key → List Activity → List Activity
activities_of key activities = filter (λ activity. same_key (activity_key activity) key) activities

-- who may read the object, by each of its rows: nobody by a tombstone
abbrev pub audiences_of : State → Key → List (Option Audience)
audiences_of s key = elim key.owner [
  | None ↦ map audience_of_manifest (filter (λ row. same_key (manifest_key row) key) s.manifests)
  | Some owner ↦ map (audience_of_note s) (filter (λ row. same_key (note_key row) key) s.notes)
]

abbrev pub has_row : State → Key → Bool
has_row s key = elim key.owner [
  | None ↦ is_some (manifest_row s key.name)
  | Some owner ↦ is_some (note_row s owner key.name)
]

-- each activity begins with the audience that the one before it ended with
abbrev pub Chain : Option Audience → List Activity → Option Audience → Type 0
Chain before [] now = before ≡ now
Chain before (activity ∷ activities) now =
    (activity.before ≡ before) × Chain activity.after activities now

abbrev pub has_any : List Activity → Bool
has_any [] = false
has_any (activity ∷ activities) = true

-- the activities of each object lead from no audience to the one that each of its rows has, and an
-- object has activities exactly where it has a row
abbrev pub Coherent : State → Type 0
Coherent s =
    (key : Key) → All (Chain None (activities_of key s.activities)) (audiences_of s key) ×
    (has_row s key ≡ has_any (activities_of key s.activities))

-- ---- what a caller sees

-- the object is in the view
abbrev pub is_in_view : View → Key → Bool
is_in_view view key = elim key.owner [
  | None ↦ is_some (manifest_in view key.name)
  | Some owner ↦ is_some (note_in view owner key.name)
]

-- the caller saw a change of the object, and the last one was no deletion
abbrev pub is_told : List Seen → Key → Bool
is_told seen key = passes (λ change. not (is_deletion change.kind)) (last_change key seen)
