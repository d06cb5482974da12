-- What is kept of a manifest is that manifest.
use Rattle.std.proofs.Common.{◌≡◌, ℕ, List, true, false, ◌&&◌, codes, bytes_eq, Option, Some, None, Ok, is_none, IsTrue, true≢false, refl, sym, ap, ◌∙◌}
use Rattle.std.proofs.lemmas.Bool.{and_from, and_parts}
use Rattle.std.proofs.lemmas.Slice.Eq.{bytes_eq-Decides}
use Rattle.serde_json.specs.Data.{Data, null, boolean, number, string, array, object}
use Rattle.serde_json.specs.Find.{get}
use Rattle.serde_json.proofs.Views.{items_len-items_view}
use Rattle.an_base.specs.Object.{without_member}
use Rattle.an_base.proofs.ObjectLemmas.{get-without_member}
use Rattle.an_base.proofs.ItemLemmas.{first_bad-items_view}
use Rattle.an_base.specs.Outcome.{unless, first_of}
use Rattle.an_base.specs.Tree.{ascend, names, is_whole, is_tree}
use Rattle.an_base.proofs.ObjectLemmas.{is_tree-without_member}
use Rattle.an_manifest.specs.Manifest.{manifest_refusals, is_manifest, is_kept, kept_tree, manifest_of, canvases_of}
use Rattle.an_manifest.proofs.TakeLemmas.{get_member-without_same, without-absent}

apart : (name other : List ℕ) → bytes_eq name other ≡ false → name ≡ other → ⊥
apart name other e same = true≢false (sym ((bytes_eq-Decides name other).1 same) ∙ e)

-- the other members are kept
get-kept_tree : (name : List ℕ) (tree : Data) → bytes_eq name (codes "@context") ≡ false
    → bytes_eq name (codes "id") ≡ false → get name (kept_tree tree) ≡ get name tree
unfolding kept_tree
get-kept_tree name tree c i =
    get-without_member name (codes "id") (without_member (codes "@context") tree)
    (apart name (codes "id") i)
    ∙ get-without_member name (codes "@context") tree (apart name (codes "@context") c)

manifest_refusals-kept_tree : (tree : Data)
    → manifest_refusals (kept_tree tree) ≡ manifest_refusals tree
unfolding manifest_refusals
manifest_refusals-kept_tree tree =
    rw (
      get-kept_tree (codes "@type") tree refl refl,
      get-kept_tree (codes "sequences") tree refl refl,
      get-kept_tree (codes "type") tree refl refl,
      get-kept_tree (codes "label") tree refl refl,
      get-kept_tree (codes "items") tree refl refl,
    )

pub is_manifest-kept_tree : (tree : Data) → is_manifest (kept_tree tree) ≡ is_manifest tree
unfolding is_manifest
is_manifest-kept_tree tree = rw (manifest_refusals-kept_tree tree)

pub canvases_of-kept_tree : (tree : Data) → canvases_of (kept_tree tree) ≡ canvases_of tree
canvases_of-kept_tree tree = rw (get-kept_tree (codes "items") tree refl refl)

pub ruleset counting = (items_len-items_view, first_bad-items_view)

-- ---- what isn't kept isn't there

get-without_same : (name : List ℕ) (tree : Data) → is_tree tree ≡ true
    → get name (without_member name tree) ≡ None
unfolding is_tree
get-without_same name null t = refl
get-without_same name (boolean b) t = refl
get-without_same name (number n) t = refl
get-without_same name (string text) t = refl
get-without_same name (array items) t = refl
get-without_same name (object members) t =
    let whole = and_parts (is_whole (object members)) _ t in
    get_member-without_same name members (and_parts (ascend (names members)) _ whole.0).0

pub is_kept-kept_tree : (tree : Data) → is_tree tree ≡ true → is_manifest tree ≡ true
    → is_kept (kept_tree tree) ≡ true
unfolding is_kept
is_kept-kept_tree tree t m =
    let named = without_member (codes "@context") tree in
    let context : get (codes "@context") (kept_tree tree) ≡ None =
    unfold kept_tree in
    get-without_member (codes "@context") (codes "id") named
    (apart (codes "@context") (codes "id") refl)
    ∙ get-without_same (codes "@context") tree t in
    let id : get (codes "id") (kept_tree tree) ≡ None =
    unfold kept_tree in
    get-without_same (codes "id") named (is_tree-without_member (codes "@context") tree t) in
    and_from _ _ (and_from _ _ (is_manifest-kept_tree tree ∙ m) (ap is_none context))
    (ap is_none id)

without_member-absent : (name : List ℕ) (tree : Data) → get name tree ≡ None
    → without_member name tree ≡ tree
without_member-absent name null h = refl
without_member-absent name (boolean b) h = refl
without_member-absent name (number n) h = refl
without_member-absent name (string text) h = refl
without_member-absent name (array items) h = refl
without_member-absent name (object members) h = ap object (without-absent name members h)

nothing : {A : Type 0} (found : Option A) → is_none found ≡ true → found ≡ None
nothing None h = refl
nothing (Some a) h = absurd (cc)

-- what is kept is kept again as it is
pub kept_again : (tree : Data) → IsTrue (is_kept tree) → manifest_of tree ≡ Ok tree
unfolding is_kept is_manifest manifest_of kept_tree
kept_again tree h =
    let parts =
    and_parts (is_manifest tree && is_none (get (codes "@context") tree))
    (is_none (get (codes "id") tree)) h in
    let first = and_parts (is_manifest tree) (is_none (get (codes "@context") tree)) parts.0 in
    let context =
    without_member-absent (codes "@context") tree (nothing (get (codes "@context") tree) first.1) in
    let id = without_member-absent (codes "id") tree (nothing (get (codes "id") tree) parts.1) in
    ap (λ refusal.
    unless refusal (without_member (codes "id") (without_member (codes "@context") tree)))
    (nothing (first_of (manifest_refusals tree)) first.0)
    ∙ ap (λ kept. Ok (without_member (codes "id") kept)) context ∙ ap Ok id

pub ruleset keeping = (is_kept-kept_tree, canvases_of-kept_tree)
