-- What is found in a tree without floats has none.
use Rattle.std.proofs.Common.{◌≡◌, List, ℕ, false, Option, Some, None, Ordering, Less, Equal, Greater, nat_cmp, refl}
use Rattle.std.proofs.lemmas.Bool.{or_parts}
use Rattle.std.specs.Cmp.Lexicographic.{slice_cmp}
use Rattle.std.specs.Ordering.{match_ordering}
use Rattle.serde_json.specs.Data.{Data, null, boolean, number, string, array, object, Members, no_members, member}
use Rattle.serde_json.specs.Find.{get, get_member}
use Rattle.serde_json.specs.Written.{has_float, items_have_float, members_have_float}
use Rattle.an_manifest.specs.Manifest.{array_in}

-- what may be there has no float
abbrev pub HasNone : Option Data → Type 0
HasNone None = Unit {0}
HasNone (Some tree) = has_float tree ≡ false

HasNone-found : (o : Ordering) (tree : Data) (rest : Option Data) → has_float tree ≡ false
    → HasNone rest → HasNone (match_ordering o rest (Some tree) rest)
HasNone-found Less tree rest t h = h
HasNone-found Equal tree rest t h = t
HasNone-found Greater tree rest t h = h

HasNone-get_member : (name : List ℕ) (members : Members) → members_have_float members ≡ false
    → HasNone (get_member name members)
HasNone-get_member name no_members h = tt
HasNone-get_member name (member other tree members) h =
    let parts = or_parts (has_float tree) (members_have_float members) h in
    HasNone-found (slice_cmp nat_cmp name other) tree _ parts.0
    (HasNone-get_member name members parts.1)

pub HasNone-get : (name : List ℕ) (tree : Data) → has_float tree ≡ false → HasNone (get name tree)
HasNone-get name null h = tt
HasNone-get name (boolean b) h = tt
HasNone-get name (number n) h = tt
HasNone-get name (string text) h = tt
HasNone-get name (array items) h = tt
HasNone-get name (object members) h = HasNone-get_member name members h

pub has_float-array_in : (found : Option Data) → HasNone found
    → items_have_float (array_in found) ≡ false
has_float-array_in None h = refl
has_float-array_in (Some null) h = refl
has_float-array_in (Some (boolean b)) h = refl
has_float-array_in (Some (number n)) h = refl
has_float-array_in (Some (string text)) h = refl
has_float-array_in (Some (array items)) h = h
has_float-array_in (Some (object fields)) h = refl
