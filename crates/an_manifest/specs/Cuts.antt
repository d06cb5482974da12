-- Where the text of an object is cut, so that a member of it gets one value more.
use Rattle.std.specs.Prelude.{ℕ, ◌+◌, ◌-◌, List, [], ◌∷◌, codes, length, Option, Some, None}
use Rattle.serde_json.specs.Data.{Data, Items, no_items, item}
use Rattle.serde_json.specs.Find.{get, as_array}
use Rattle.serde_json.specs.Written.{compact_text}
use Rattle.an_base.specs.Cut.{cut, members_in}
use Rattle.an_base.specs.Write.{name_text}
use Rattle.an_manifest.specs.declared.cut.Cut.{Cut}
use Rattle.an_manifest.specs.declared.cut.Part.{Part}
use Rattle.an_manifest.specs.declared.cut.SheetCuts.{SheetCuts}

-- the items of an array are cut out behind its bracket; another value behind the colon before it
abbrev pub first_cut : Option Items → ℕ → ℕ
first_cut None start = start - 1
first_cut (Some items) start = start

abbrev pub last_cut : Option Items → ℕ → ℕ → ℕ
last_cut None start end = end
last_cut (Some no_items) start end = start
last_cut (Some (item value items)) start end = end - 1

-- the cuts around a member's values, which stand between these places
abbrev pub cut_around : ℕ → ℕ → Option Items → ℕ → ℕ → Cut
cut_around size below items start end = record {
  size = size;
  below = below;
  first = first_cut items start;
  last = last_cut items start end;
  above = end;
}

-- the cuts where a member would stand
abbrev pub no_cut : ℕ → ℕ → Cut
no_cut size below = record {
  size = size;
  below = below;
  first = below;
  last = below;
  above = below;
}

abbrev pub cut_if : List ℕ → ℕ → ℕ → Option Data → Cut
cut_if name size below None = no_cut size below
cut_if name size below (Some value) =
    let start = below + length (name_text name) in
    cut_around size below (as_array value) start (start + length (compact_text value))

-- the cuts of an object's text around the values of a member, or where they would stand
unfoldable pub cuts_at : List ℕ → Data → Cut
cuts_at name tree =
    cut_if name (length (compact_text tree)) (cut name (members_in tree)) (get name tree)

-- where a member stands in an object's text, or would stand
abbrev pub part_at : List ℕ → Data → Part
part_at name tree = record {
  below = (cuts_at name tree).below;
  above = (cuts_at name tree).above;
}

-- the cuts of each canvas around its annotations
abbrev pub canvas_cuts : Items → List Cut
canvas_cuts no_items = []
canvas_cuts (item canvas canvases) = cuts_at (codes "annotations") canvas ∷ canvas_cuts canvases

-- the cuts of a manifest
abbrev pub sheet_cuts : Data → SheetCuts
sheet_cuts tree = record {
  context = cut (codes "@context") (members_in tree);
  id = cut (codes "id") (members_in tree);
  items = cuts_at (codes "items") tree;
  label = part_at (codes "label") tree;
  service = cuts_at (codes "service") tree;
}
