-- What lives after changes.
use Rattle.std.specs.Prelude.{ℕ, List, [], ◌∷◌, ◌++◌, Bool, bytes_eq, find, filter, ◌≡◌}
use Rattle.std.specs.Prelude.{Option, Some, None, option_map, if◌then◌else◌}
use Rattle.std.specs.List.{last_or}
use Rattle.std.specs.Option.{option_to_list}
use Rattle.std.specs.Ordering.{nat_cmp, is_lt, is_gt}
use Rattle.std.specs.Cmp.Lexicographic.{slice_cmp}
use Rattle.std.specs.List.Sorted.{IsStrictlySortedBy}
use Rattle.std.specs.Prelude.{map, String, string_bytes}
use Rattle.std.specs.BTreeMap.{BTreeMap, get_by_text}
use Rattle.std.specs.declared.alloc.Global.{Global}
use Rattle.an_policy.specs.Seen.{is_deletion}
use Rattle.an_harvest.specs.Feed.{Change}
use Rattle.an_harvest.specs.declared.known.KnownObject.{KnownObject}

-- objects that are known, and by how many activities
pub record Harvest : Type 0 where
  pub objects : List KnownObject
  pub items : ℕ

-- the ids ascend by their bytes, each once
abbrev pub Ascend : List KnownObject → Type 0
Ascend objects = IsStrictlySortedBy (slice_cmp nat_cmp) (map (λ object. object.id) objects)

-- whether an object is a manifest, where it is there
abbrev pub object_at : List KnownObject → List ℕ → Option Bool
object_at objects id =
    option_map (λ object. object.manifest) (find (λ object. bytes_eq object.id id) objects)

-- the last change of an object
abbrev pub last_of : List ℕ → List Change → Option Change
last_of id changes = last_or None (filter (λ change. bytes_eq change.id id) changes)

-- what a change leaves: the manifest or annotation that it names, and nothing where it deletes it
abbrev pub left_by : Change → Option Bool
left_by change = if is_deletion change.kind then None else Some change.manifest

-- an object is what its last change leaves, and what it was known as where there is none
abbrev pub live_at : List KnownObject → List Change → List ℕ → Option Bool
live_at known changes id =
    elim (last_of id changes) [ None ↦ object_at known id | Some change ↦ left_by change ]

abbrev pub IsLive : List KnownObject → List Change → List KnownObject → Type 0
IsLive known changes objects = (id : List ℕ) → object_at objects id ≡ live_at known changes id

-- ---- for private clauses

-- what the last change of an object leaves, where it has one
abbrev pub left_at : List Change → List ℕ → Option (Option Bool)
left_at changes id = option_map left_by (last_of id changes)

-- the map has what the last changes leave
abbrev pub Tells : List Change → BTreeMap (String Global) (Option Bool) → Type 0
Tells changes map = (id : List ℕ) → get_by_text map id ≡ left_at changes id

-- what a change leaves, with the object that it is of
abbrev pub leaving : Change → List ℕ × Option Bool
leaving change = (change.id, left_by change)

-- the object of an entry of the map, where it lives
abbrev pub object_of : String Global × Option Bool → Option KnownObject
object_of entry =
    option_map (λ manifest. record { id = string_bytes entry.0; manifest = manifest }) entry.1

-- the objects that come before an id by its bytes, and those that come after it
abbrev pub before : List ℕ → List KnownObject → List KnownObject
before id objects = filter (λ object. is_lt (slice_cmp nat_cmp object.id id)) objects

abbrev pub after : List ℕ → List KnownObject → List KnownObject
after id objects = filter (λ object. is_gt (slice_cmp nat_cmp object.id id)) objects

-- the objects, but of each id with an entry in the map the object of that entry, where it lives
abbrev pub merge : List (String Global × Option Bool) → List KnownObject → List KnownObject
merge [] objects = objects
merge (entry ∷ entries) objects =
    before (string_bytes entry.0) objects
    ++ (option_to_list (object_of entry)
    ++ merge entries (after (string_bytes entry.0) objects))
