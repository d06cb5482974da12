-- What the bodies of a stream of changes report to a harvest (IIIF Change Discovery API 1.0).
use Rattle.std.specs.Prelude.{ℕ, ◌+◌, ◌-◌, ◌==◌, nat_le, List, [], length, drop, codes}
use Rattle.std.specs.Prelude.{Bool, true, false, ◌&&◌, bytes_eq, if◌then◌else◌, is_ok, is_some}
use Rattle.std.specs.Prelude.{Option, Some, None, option_and_then, option_map, unwrap_or}
use Rattle.std.specs.List.{filter_map, list_all}
use Rattle.serde_json.specs.Data.{Data}
use Rattle.serde_json.specs.Find.{get, as_number, as_array, as_u64}
use Rattle.an_base.specs.Front.{after_front}
use Rattle.an_base.specs.Items.{items_list}
use Rattle.an_base.specs.Member.{text_in}
use Rattle.an_base.specs.Moment.{moment_of}
use Rattle.an_base.specs.Outcome.{only_if, passes}
use Rattle.an_policy.specs.declared.kind.Kind.{Kind}
use Rattle.an_policy.specs.declared.kind.Kind.TheVariants.{Create, Update, Delete}

-- ---- members

-- the whole number that a member is
abbrev pub number_in : List ℕ → Data → Option ℕ
number_in name tree = option_and_then as_u64 (option_and_then as_number (get name tree))

-- the items of the array that a member is
abbrev pub items_in : List ℕ → Data → Option (List Data)
items_in name tree = option_map items_list (option_and_then as_array (get name tree))

-- the IRI of the thing that a member is
abbrev pub id_in : List ℕ → Data → Option (List ℕ)
id_in name tree = option_and_then (text_in (codes "id")) (get name tree)

-- ---- activities

-- what an activity says: what became of a manifest or an annotation
pub record Change : Type 0 where
  pub id : List ℕ
  pub manifest : Bool
  pub kind : Kind

abbrev pub kind_told : List ℕ → Option Kind
kind_told text =
    if bytes_eq text (codes "Create") then Some Create
    else (if bytes_eq text (codes "Update") then Some Update
    else (if bytes_eq text (codes "Delete") then Some Delete else None))

-- whether a type is that of manifests, where it is that of annotations or of manifests
abbrev pub manifest_told : List ℕ → Option Bool
manifest_told text =
    if bytes_eq text (codes "Manifest") then Some true
    else (if bytes_eq text (codes "Annotation") then Some false else None)

abbrev pub kind_in : Data → Option Kind
kind_in tree = option_and_then kind_told (text_in (codes "type") tree)

abbrev pub manifest_in : Data → Option Bool
manifest_in tree =
    option_and_then manifest_told
    (option_and_then (text_in (codes "type")) (get (codes "object") tree))

abbrev pub has_moment : Data → Bool
has_moment tree = passes (λ text. is_ok (moment_of text)) (text_in (codes "endTime") tree)

-- the change that an item reports, where it is an activity
abbrev pub change_of : Data → Option Change
change_of tree =
    if has_moment tree then
    option_and_then (λ id. option_and_then (λ manifest. option_map (λ kind.
    record { id = id; manifest = manifest; kind = kind }) (kind_in tree)) (manifest_in tree))
    (id_in (codes "object") tree)
    else None

abbrev pub is_activity : Data → Bool
is_activity tree = is_some (change_of tree)

-- the changes that activities report, in their order
abbrev pub changes_of : List Data → List Change
changes_of items = filter_map change_of items

-- ---- the stream and its pages

-- the target that the id of a member names: what the id goes on with after the base
abbrev pub target_in : List ℕ → List ℕ → Data → Option (List ℕ)
target_in base name tree = option_and_then (after_front base) (id_in name tree)

-- of a stream: how many activities it has, at least as many as are known, and its last page
pub record Feed : Type 0 where
  pub total : ℕ
  pub last : List ℕ

abbrev pub feed_of : List ℕ → ℕ → Data → Option Feed
feed_of base known tree =
    option_and_then (λ total. option_map (λ last. record { total = total; last = last })
    (target_in base (codes "last") tree))
    (option_and_then (only_if (nat_le known)) (number_in (codes "totalItems") tree))

-- of a page: how many activities stand before it, those on it, and the page to get next
pub record Page : Type 0 where
  pub start : ℕ
  pub items : List Data
  pub next : Option (List ℕ)

-- the items of a page
abbrev pub page_items : Data → List Data
page_items tree = unwrap_or (items_in (codes "orderedItems") tree) []

-- where a page of activities starts that ends at this place, which is where the page after it
-- starts, and of the last page how many activities the stream has
abbrev pub place_of : ℕ → Data → Option ℕ
place_of end tree =
    option_and_then (λ start. option_and_then (λ items.
    if list_all is_activity items && (start + length items == end) then Some start else None)
    (items_in (codes "orderedItems") tree)) (number_in (codes "startIndex") tree)

-- The page to get next: none where the page starts with one of the activities that are known, or
-- right after them. Else the page has an activity, and names the page before it.
abbrev pub page_before : List ℕ → ℕ → ℕ → ℕ → Data → Option (Option (List ℕ))
page_before base known start count tree =
    if nat_le start known then Some None
    else (if count == 0 then None else option_map Some (target_in base (codes "prev") tree))

abbrev pub page_of : List ℕ → ℕ → ℕ → Data → Option Page
page_of base known end tree =
    option_and_then (λ start. option_map (λ next.
    record { start = start; items = page_items tree; next = next })
    (page_before base known start (length (page_items tree)) tree)) (place_of end tree)

-- the changes on a page after those that are known
abbrev pub changes_after : ℕ → Page → List Change
changes_after known page = changes_of (drop (known - page.start) page.items)
