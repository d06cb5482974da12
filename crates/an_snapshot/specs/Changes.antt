-- For private clauses: the changes that are kept beside a state, each with the number of a pair:
-- the classes of who could read its object before, and of who can after.
use Rattle.std.specs.Prelude.{◌≡◌, ℕ, List, [], ◌∷◌, ◌++◌, All, ⊤, flat_map, map}
use Rattle.std.specs.Prelude.{Option, Some, None, option_and_then, option_map, slice_get}
use Rattle.std.specs.List.{filter_map}
use Rattle.an_policy.specs.Audience.{Identity, deciding}
use Rattle.an_policy.specs.Classes.{class_of}
use Rattle.an_policy.specs.Seen.{as_seen}
use Rattle.an_policy.specs.declared.group.Audience.{Audience}
use Rattle.an_policy.specs.declared.kind.Kind.{Kind}
use Rattle.an_state.specs.State.{State}
use Rattle.an_state.specs.View.{object_of_activity, seen_as}
use Rattle.an_state.specs.declared.activity.Activity.{Activity}
use Rattle.an_state.specs.declared.activity.Seen.{Seen}
use Rattle.an_state.specs.declared.entry.Entry.{Entry}
use Rattle.an_state.specs.declared.entry.Entry.TheVariants.{Restored, Done}
use Rattle.an_state.specs.declared.entry.Row.{Row}
use Rattle.an_state.specs.declared.entry.Row.TheVariants as kept
use Rattle.an_snapshot.specs.declared.change.ClassChange.{ClassChange}
use Rattle.an_snapshot.specs.PairLists.{kind_at}
use Rattle.an_snapshot.specs.declared.change.FiledChange.{FiledChange}

-- ---- what is kept

-- an audience goes with the class of what of it decides who may read, and none with none
abbrev pub IsClassOf : List Audience → Option Audience → Option ℕ → Type 0
IsClassOf classes None None = ⊤
IsClassOf classes None (Some class) = ⊥
IsClassOf classes (Some audience) None = ⊥
IsClassOf classes (Some audience) (Some class) =
    class_of (deciding audience) classes ≡ Some class

-- the pair is that of the change's two audiences
abbrev pub IsPairOf : List Audience → Activity → Option ClassChange → Type 0
IsPairOf classes activity None = ⊥
IsPairOf classes activity (Some pair) =
    IsClassOf classes activity.before pair.before × IsClassOf classes activity.after pair.after

-- the change is kept with the number of its pair
abbrev pub IsChangeFiled : List Audience → List ClassChange → FiledChange → Type 0
IsChangeFiled classes pairs change =
    IsPairOf classes change.activity (slice_get pairs change.pair)

abbrev pub activities_in : List FiledChange → List Activity
activities_in changes = map (λ change. change.activity) changes

abbrev pub numbers_in : List FiledChange → List ℕ
numbers_in changes = map (λ change. change.pair) changes

-- changes, the pairs that they may have, and for how many changes more there is memory
pub record KeptChanges : Type 0 where
  pub rows : List FiledChange
  pub pairs : List ClassChange
  pub room : ℕ

-- the state's changes are kept in their order, each with its pair
pub record AreChanges (s : State) (classes : List Audience) (changes : KeptChanges) : Type 0 where
  pub activities : activities_in changes.rows ≡ s.activities
  pub filed : All (IsChangeFiled classes changes.pairs) changes.rows

-- ---- what an entry adds

-- the activity that a row is, if it is one
abbrev pub added_by_row : Row → List Activity
added_by_row (kept.Reader row) = []
added_by_row (kept.Manifest row) = []
added_by_row (kept.Note row) = []
added_by_row (kept.Activity activity) = activity ∷ []

-- the activities that an entry adds after those before
abbrev pub added_by : Entry → List Activity
added_by (Restored row) = added_by_row row
added_by (Done command moment by rows activities) = flat_map added_by_row rows ++ activities

-- ---- what a caller sees

-- the audience of a class, where it has one
abbrev pub audience_in : List Audience → Option ℕ → Option Audience
audience_in classes class = option_and_then (slice_get classes) class

-- what a change of these classes is for the caller
abbrev pub kind_in : Identity → List Audience → ClassChange → Option Kind
kind_in who classes change =
    as_seen who (audience_in classes change.before) (audience_in classes change.after)

-- the same for each pair
abbrev pub kinds_in : Identity → List Audience → List ClassChange → List (Option Kind)
kinds_in who classes pairs = map (kind_in who classes) pairs

-- a change as a caller sees it for whom it is of this kind
abbrev pub seen_of : Activity → Option Kind → Option Seen
seen_of activity kind =
    option_map (λ kind. record {
      moment = activity.at;
      object = object_of_activity activity;
      kind = kind;
    }) kind

-- what is seen of changes whose pairs are of these kinds for the caller
abbrev pub seen_by_kinds : List (Option Kind) → List FiledChange → List Seen
seen_by_kinds kinds changes =
    filter_map (λ change. seen_of change.activity (kind_at kinds change.pair)) changes

-- the changes that the caller sees, in their order
abbrev pub seen_in : Identity → List FiledChange → List Seen
seen_in who changes = filter_map (λ change. seen_as who change.activity) changes
