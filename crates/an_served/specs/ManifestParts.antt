-- For private clauses: what stands between the cuts of a manifest's text, and the parts that are
-- written of one that is served.
use Rattle.std.specs.Prelude.{ℕ, ◌-◌, ◌≤◌, ◌≡◌, List, [], ◌∷◌, ◌++◌, codes, length}
use Rattle.std.specs.Prelude.{slice_range, if◌then◌else◌}
use Rattle.json.specs.Print.{escape}
use Rattle.serde_json.specs.Data.{Data, Members, no_members, member}
use Rattle.serde_json.specs.Written.{compact_text}
use Rattle.an_base.specs.Cut.{is_before, below, members_in}
use Rattle.an_base.specs.Items.{trees_in}
use Rattle.an_base.specs.Write.{member_text, commas, item_commas}
use Rattle.an_iri.specs.Iris.{manifest_iri}
use Rattle.an_manifest.specs.declared.cut.Cut.{Cut}

-- the members whose names stand behind this one
abbrev pub beyond : List ℕ → Members → Members
beyond name no_members = no_members
beyond name (member other value members) =
    if is_before name other then member other value (beyond name members) else beyond name members

-- a text with a comma in place of its first sign, which is a bracket, a colon or a comma
abbrev pub led : List ℕ → List ℕ
led [] = []
led (sign ∷ signs) = 44 ∷ signs

-- what stands between two cuts, behind a comma
unfoldable pub piece : List ℕ → ℕ → ℕ → List ℕ
piece text from to = led (slice_range text from to)

-- the cuts lie in a text of this length, in order
pub record Fits (cut : Cut) (whole : ℕ) : Type 0 where
  pub size : cut.size ≡ whole
  pub below : cut.below ≤ whole
  pub values : cut.first ≤ cut.last
  pub last : cut.last ≤ whole
  pub above : cut.above ≤ whole - 1

-- what the cuts of an object's text part: the members before a name, the values of its member, and
-- the members behind it
pub record IsCutAt (name : List ℕ) (tree : Data) (cut : Cut) : Type 0 where
  pub fits : Fits cut (length (compact_text tree))
  pub front : piece (compact_text tree) 0 cut.below ≡ commas (below name (members_in tree))
  pub values : piece (compact_text tree) cut.first cut.last ≡ item_commas (trees_in name tree)
  pub back : piece (compact_text tree) cut.above (cut.size - 1)
      ≡ commas (beyond name (members_in tree))

-- ---- a served manifest, part by part

-- the members before a manifest's canvases, with its context and its IRI
unfoldable pub heading_text : Members → Data → Data → List ℕ
heading_text members context id =
    let front = below (codes "items") members in
    let low = below (codes "id") front in
    commas (below (codes "@context") low) ++ (member_text (codes "@context") context
    ++ (commas (beyond (codes "@context") low) ++ (member_text (codes "id") id
    ++ commas (beyond (codes "id") front))))

-- the members behind them, with its services
unfoldable pub ending_text : Members → Data → List ℕ
ending_text members services =
    let back = beyond (codes "items") members in
    commas (below (codes "service") back) ++ (member_text (codes "service") services
    ++ commas (beyond (codes "service") back))

-- the text of the page of a canvas, up to the canvas's number
unfoldable pub page_front : List ℕ → List ℕ → List ℕ
page_front base name =
    codes "{\"id\":\"" ++ (escape (manifest_iri base name) ++ codes "/canvases/")
