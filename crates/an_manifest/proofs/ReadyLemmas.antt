-- What is kept of a manifest is an object with canvases, and so are these.
use Rattle.std.proofs.Common.{◌≡◌, ℕ, suc, ◌+◌, ◌<◌, ◌==◌, List, [], ◌∷◌, length, Bool, true, false, not, ◌&&◌, nat_lt, if◌then◌else◌, codes, Option, Some, None, Ordering, Less, Equal, Greater, nat_cmp, is_none, option_map, IsTrue, refl, sym, ap, ◌∙◌, position, arith}
use Rattle.std.proofs.lemmas.Bool.{and_parts}
use Rattle.std.proofs.lemmas.Bool.Decides.{nat_tests}
use Rattle.std.specs.Cmp.Lexicographic.{slice_cmp}
use Rattle.std.specs.List.{prefix_len}
use Rattle.std.specs.Ordering.{match_ordering}
use Rattle.serde_json.specs.Data.{Data, null, boolean, number, string, array, object, Items, no_items, item, Members, no_members, member}
use Rattle.serde_json.specs.Events.{items_len}
use Rattle.serde_json.specs.Find.{get, get_member}
use Rattle.an_base.specs.Items.{items_list, first_bad}
use Rattle.an_base.specs.Member.{has_type}
use Rattle.an_base.specs.Outcome.{when, first_of, passes}
use Rattle.an_base.specs.Tree.{ascend, names, is_whole, items_are_whole, members_are_whole, is_tree}
use Rattle.an_base.specs.Write.{name_text, member_text, commas}
use Rattle.an_base.proofs.TreeTexts.{member_parts}
use Rattle.an_manifest.specs.declared.sheet.SheetError.{SheetError}
use Rattle.an_manifest.specs.declared.sheet.SheetError.TheVariants.{WrongType, Label, Items as NoItems, Canvas, Version2}
use Rattle.an_manifest.specs.Manifest.{is_version_2, array_in, canvases_in, manifest_refusals, is_manifest, is_kept}
use Rattle.an_manifest.specs.Shape.{is_language_map, is_canvas, has_some_text, has_size}

-- ---- an object

pub record IsReady (tree : Data) : Type 0 where
  pub members : Members
  pub is : tree ≡ object members
  pub order : ascend (names members) ≡ true
  pub some : 0 < length (commas members)

some_commas : (name : List ℕ) (value : Data) (members : Members)
    → 0 < length (commas (member name value members))
unfolding member_text name_text
some_commas name value _ = omega arith

typed : (name : List ℕ) (tree : Data) → has_type name tree ≡ true → is_whole tree ≡ true
    → IsReady tree
typed name null h whole = absurd (cc)
typed name (boolean b) h whole = absurd (cc)
typed name (number n) h whole = absurd (cc)
typed name (string text) h whole = absurd (cc)
typed name (array items) h whole = absurd (cc)
typed name (object no_members) h whole = absurd (cc)
typed name (object (member first value members)) h whole = record {
  members = member first value members;
  is = refl;
  order = (and_parts (ascend (names (member first value members))) _ whole).0;
  some = some_commas first value members;
}

-- ---- its canvases

abbrev pub AreReady : Items → Type 0
AreReady no_items = Unit {0}
AreReady (item tree items) = IsReady tree × AreReady items

none_if : (b : Bool) (n : ℕ) → (if b then Some n else None) ≡ None → b ≡ false
none_if true n h = absurd (cc)
none_if false n h = refl

not_below : (n m : ℕ) → nat_lt (1 + n) (suc m) ≡ false → nat_lt n m ≡ false
not_below n m h = grind (arith, nat_tests)

impossible : (m : ℕ) → nat_lt 0 (suc m) ≡ false → ⊥
impossible m h = grind (arith, nat_tests)

first_good : (b : Bool) (test : Data → Bool) (tree : Data) (trees : List Data) → test tree ≡ b
    → position (λ t. not (test t)) (tree ∷ trees) ≡ None
    → (b ≡ true) × (position (λ t. not (test t)) trees ≡ None)
first_good true test tree trees is h =
    let n = prefix_len (λ t. not (not (test t))) trees in
    let more : (if nat_lt (1 + n) (suc (length trees)) then Some (1 + n) else None) ≡ None =
    sym (rw is refl) ∙ h in
    (refl, rw (not_below n (length trees) (none_if _ (1 + n) more)) refl)
first_good false test tree trees is h =
    let found : (if nat_lt 0 (suc (length trees)) then Some 0 else None) ≡ None =
    sym (rw is refl) ∙ h in
    absurd (impossible (length trees) (none_if _ 0 found))

canvas_type : (tree : Data) → is_canvas tree ≡ true → has_type (codes "Canvas") tree ≡ true
unfolding is_canvas
canvas_type tree h =
    let sized =
    and_parts (has_type (codes "Canvas") tree && has_some_text (codes "id") tree
    && has_size (codes "height") tree) _ h in
    let named =
    and_parts (has_type (codes "Canvas") tree && has_some_text (codes "id") tree) _ sized.0 in
    (and_parts (has_type (codes "Canvas") tree) _ named.0).0

canvases_ready : (items : Items) → first_bad is_canvas items ≡ None → items_are_whole items ≡ true
    → AreReady items
canvases_ready no_items good whole = tt
canvases_ready (item tree items) good whole =
    let first = first_good (is_canvas tree) is_canvas tree (items_list items) refl good in
    let parts = and_parts (is_whole tree) _ whole in (
      typed (codes "Canvas") tree (canvas_type tree first.0) parts.0,
      canvases_ready items first.1 parts.1,
    )

-- ---- a manifest

passed : (a b c d : Bool) (bad : Option SheetError)
    → is_none
    (first_of (when a Version2 ∷ when b WrongType ∷ when c Label ∷ when d NoItems ∷ bad ∷ []))
    ≡ true
    → (b ≡ false) × (d ≡ false) × (bad ≡ None)
passed true b c d bad h = absurd (cc)
passed false true c d bad h = absurd (cc)
passed false false true d bad h = absurd (cc)
passed false false false true bad h = absurd (cc)
passed false false false false (Some e) h = absurd (cc)
passed false false false false None h = (refl, refl, refl)

no_code : (bad : Option ℕ) → option_map Canvas bad ≡ None → bad ≡ None
no_code None h = refl
no_code (Some at) h = absurd (cc)

is_true : (b : Bool) → not b ≡ false → b ≡ true
is_true true h = refl
is_true false h = absurd (cc)

nothing : (found : Option Data) → is_none found ≡ true → found ≡ None
nothing None h = refl
nothing (Some tree) h = absurd (cc)

-- a manifest's items are an array
an_array : (found : Option Data) → (items_len (array_in found) == 0) ≡ false
    → found ≡ Some (array (array_in found))
an_array None h = absurd (cc)
an_array (Some null) h = absurd (cc)
an_array (Some (boolean b)) h = absurd (cc)
an_array (Some (number n)) h = absurd (cc)
an_array (Some (string text)) h = absurd (cc)
an_array (Some (array items)) h = refl
an_array (Some (object members)) h = absurd (cc)

whole_found : (o : Ordering) (rest : Option Data) (tree value : Data) → is_whole tree ≡ true
    → (rest ≡ Some value → is_whole value ≡ true)
    → match_ordering o rest (Some tree) rest ≡ Some value → is_whole value ≡ true
whole_found Less rest tree value whole later h = later h
whole_found Equal rest tree value whole later h =
    let same : tree ≡ value = cc in ap is_whole (sym same) ∙ whole
whole_found Greater rest tree value whole later h = later h

whole_member : (name : List ℕ) (members : Members) (value : Data) → members_are_whole members ≡ true
    → get_member name members ≡ Some value → is_whole value ≡ true
whole_member name no_members value whole h = absurd (cc)
whole_member name (member other tree members) value whole h =
    let parts = member_parts other tree members whole in
    whole_found (slice_cmp nat_cmp name other) (get_member name members) tree value parts.1
    (whole_member name members value parts.2) h

pub record IsSheet (tree : Data) : Type 0 where
  pub ready : IsReady tree
  pub no_context : get_member (codes "@context") ready.members ≡ None
  pub no_id : get_member (codes "id") ready.members ≡ None
  pub found : get_member (codes "items") ready.members ≡ Some (array (canvases_in tree))
  pub canvases : AreReady (canvases_in tree)

pub is_sheet : (tree : Data) → IsTrue (is_tree tree) → IsTrue (is_kept tree) → IsSheet tree
unfolding is_tree is_kept is_manifest manifest_refusals
is_sheet tree t h =
    let kept =
    and_parts (is_manifest tree && is_none (get (codes "@context") tree))
    (is_none (get (codes "id") tree)) h in
    let manifest = and_parts (is_manifest tree) (is_none (get (codes "@context") tree)) kept.0 in
    let whole : is_whole tree ≡ true = (and_parts (is_whole tree) _ t).0 in
    let good =
    passed (is_version_2 tree) (not (has_type (codes "Manifest") tree))
    (not (passes is_language_map (get (codes "label") tree)))
    (items_len (canvases_in tree) == 0) (option_map Canvas (first_bad is_canvas (canvases_in tree)))
    manifest.0 in
    let ready = typed (codes "Manifest") tree (is_true _ good.0) whole in
    let found : get (codes "items") tree ≡ Some (array (canvases_in tree)) =
    an_array (get (codes "items") tree) good.1 in
    let same : (name : List ℕ) → get name tree ≡ get_member name ready.members =
    λ name. ap (get name) ready.is in
    let members_whole : members_are_whole ready.members ≡ true =
    (and_parts (ascend (names ready.members)) _ (sym (ap is_whole ready.is) ∙ whole)).1 in
    let items = sym (same (codes "items")) ∙ found in
    record {
      ready = ready;
      no_context = sym (same (codes "@context")) ∙ nothing (get (codes "@context") tree) manifest.1;
      no_id = sym (same (codes "id")) ∙ nothing (get (codes "id") tree) kept.1;
      found = items;
      canvases =
          canvases_ready (canvases_in tree) (no_code _ good.2)
          (whole_member (codes "items") ready.members
          (array (canvases_in tree)) members_whole items);
    }
