-- Parts of a manifest's tree (IIIF Presentation API 3.0): language maps and canvases.
use Rattle.std.specs.Prelude.{ℕ, ◌^◌, [], ◌∷◌, List, length, Bool, true, ◌&&◌, codes, nat_lt}
use Rattle.std.specs.Prelude.{is_some, option_and_then, unwrap_or}
use Rattle.serde_json.specs.Data.{Data, Items, no_items, item, Members, no_members, member}
use Rattle.serde_json.specs.Find.{get, as_str, as_number, as_u64, as_array, as_object}
use Rattle.an_base.specs.Outcome.{passes}
use Rattle.an_base.specs.Member.{text_in, member_count, has_type}

-- the member is a text that isn't empty
abbrev pub has_some_text : List ℕ → Data → Bool
has_some_text name tree = passes (λ found. nat_lt 0 (length found)) (text_in name tree)

-- the member is a whole number from 1 to 4,294,967,295
abbrev pub has_size : List ℕ → Data → Bool
has_size name tree =
    passes (λ n. nat_lt 0 n && nat_lt n (2 ^ 32)) (option_and_then as_u64 (option_and_then as_number
    (get name tree)))

-- each item is a text
abbrev pub are_texts : Items → Bool
are_texts no_items = true
are_texts (item tree items) = is_some (as_str tree) && are_texts items

-- each member is an array of texts, which may be empty
abbrev pub are_text_lists : Members → Bool
are_text_lists no_members = true
are_text_lists (member name tree members) =
    passes are_texts (as_array tree) && are_text_lists members

-- a language map (section 4): an object of arrays of texts, with one at least
unfoldable pub is_language_map : Data → Bool
is_language_map tree = nat_lt 0 (member_count tree) && passes are_text_lists (as_object tree)

-- a canvas (section 5.3): it has an id, a height and a width
unfoldable pub is_canvas : Data → Bool
is_canvas tree =
    has_type (codes "Canvas") tree && has_some_text (codes "id") tree && has_size
    (codes "height") tree && has_size (codes "width") tree

-- the ids of canvases, in their order
abbrev pub canvas_ids : Items → List (List ℕ)
canvas_ids no_items = []
canvas_ids (item tree items) = unwrap_or (text_in (codes "id") tree) [] ∷ canvas_ids items
