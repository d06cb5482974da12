-- What is kept of a tree has none of the members that the server writes.
use Rattle.std.proofs.Common.{◌≡◌, ℕ, List, Bool, true, false, ◌&&◌, if◌then◌else◌, Option, Some, None, is_none, IsTrue, bytes_eq, codes, nat_cmp, Less, Equal, Greater, Ordering, true≢false, is_eq, refl, sym, ap, ◌∙◌}
use Rattle.std.proofs.lemmas.Bool.{and_from, and_parts}
use Rattle.std.proofs.lemmas.Map.Text.{is_eq-slice_cmp}
use Rattle.std.proofs.lemmas.Slice.Eq.{bytes_eq-Decides}
use Rattle.std.specs.Cmp.Lexicographic.{slice_cmp}
use Rattle.std.specs.List.{list_all}
use Rattle.std.specs.Ordering.{match_ordering, is_lt}
use Rattle.serde_json.specs.Data.{Data, null, boolean, number, string, array, object, Members, no_members, member}
use Rattle.serde_json.specs.Find.{get, get_member}
use Rattle.an_base.specs.Object.{without, without_member}
use Rattle.an_base.specs.Tree.{ascend, names, is_tree}
use Rattle.an_base.proofs.KeptLemmas.{ordered}
use Rattle.an_base.proofs.ObjectLemmas.{get-without_member, is_tree-without_member}
use Rattle.an_model.specs.Note.{is_bare, kept}

passed : (o : Ordering) (found : Option Data) (d : Data) → is_eq o ≡ false → found ≡ None
    → match_ordering o found (Some d) found ≡ None
passed Less found d h none = none
passed Equal found d h none = absurd (true≢false h)
passed Greater found d h none = none

behind_is_not : (o : Ordering) → is_lt o ≡ true → is_eq o ≡ false
behind_is_not Less h = refl
behind_is_not Equal h = absurd (cc)
behind_is_not Greater h = refl

-- a name before all others is none of them
absent_before : (name : List ℕ) (ms : Members)
    → list_all (λ later. is_lt (slice_cmp nat_cmp name later)) (names ms) ≡ true
    → get_member name ms ≡ None
absent_before name no_members h = refl
absent_before name (member other d ms) h =
    let parts = and_parts (is_lt (slice_cmp nat_cmp name other)) _ h in
    passed (slice_cmp nat_cmp name other) _ d (behind_is_not _ parts.0)
    (absent_before name ms parts.1)

absent_step : (name other : List ℕ) (d : Data) (ms : Members) (b : Bool) → bytes_eq name other ≡ b
    → list_all (λ later. is_lt (slice_cmp nat_cmp other later)) (names ms) ≡ true
    → get_member name (without name ms) ≡ None
    → get_member name (if b then ms else member other d (without name ms)) ≡ None
absent_step name other d ms true same later rest =
    let is : name ≡ other = (bytes_eq-Decides name other).0 same in
    ap (λ n. get_member n ms) is ∙ absent_before other ms later
absent_step name other d ms false apart later rest =
    passed (slice_cmp nat_cmp name other) _ d (is_eq-slice_cmp name other ∙ apart) rest

absent_without : (name : List ℕ) (ms : Members) → ascend (names ms) ≡ true
    → get_member name (without name ms) ≡ None
absent_without name no_members h = refl
absent_without name (member other d ms) h =
    let parts =
    and_parts (list_all (λ later. is_lt (slice_cmp nat_cmp other later)) (names ms)) _ h in
    absent_step name other d ms (bytes_eq name other) refl parts.0 (absent_without name ms parts.1)

-- a member that is taken out is absent
taken_out : (name : List ℕ) (tree : Data) → IsTrue (is_tree tree)
    → get name (without_member name tree) ≡ None
taken_out name null h = refl
taken_out name (boolean b) h = refl
taken_out name (number n) h = refl
taken_out name (string text) h = refl
taken_out name (array items) h = refl
taken_out name (object ms) h = absent_without name ms (ordered (object ms) h)

-- and stays absent when another is taken out
stays_out : (name other : List ℕ) (tree : Data) → bytes_eq name other ≡ false → get name tree ≡ None
    → get name (without_member other tree) ≡ None
stays_out name other tree apart none =
    get-without_member name other tree
    (λ same. true≢false (sym ((bytes_eq-Decides name other).1 same) ∙ apart))
    ∙ none

all_absent : (a b c d e : Option Data) → a ≡ None → b ≡ None → c ≡ None → d ≡ None → e ≡ None
    → (is_none a && (is_none b && (is_none c && (is_none d && (is_none e && true))))) ≡ true
all_absent a b c d e p q r s t =
    and_from (is_none a) _ (ap is_none p)
    (and_from (is_none b) _ (ap is_none q)
    (and_from (is_none c) _ (ap is_none r)
    (and_from (is_none d) _ (ap is_none s) (and_from (is_none e) true (ap is_none t) refl))))

pub is_bare-kept : (tree : Data) → IsTrue (is_tree tree) → is_bare (kept tree) ≡ true
unfolding is_bare kept
is_bare-kept tree h =
    let context = without_member (codes "@context") tree in
    let id = without_member (codes "id") context in
    let creator = without_member (codes "creator") id in
    let created = without_member (codes "created") creator in
    let modified = without_member (codes "modified") created in
    let context_tree = is_tree-without_member (codes "@context") tree h in
    let id_tree = is_tree-without_member (codes "id") context context_tree in
    let creator_tree = is_tree-without_member (codes "creator") id id_tree in
    let created_tree = is_tree-without_member (codes "created") creator creator_tree in
    let no_context : get (codes "@context") modified ≡ None =
    stays_out (codes "@context") (codes "modified") created refl
    (stays_out (codes "@context") (codes "created") creator refl
    (stays_out (codes "@context") (codes "creator") id refl
    (stays_out (codes "@context") (codes "id") context refl
    (taken_out (codes "@context") tree h)))) in
    let no_id : get (codes "id") modified ≡ None =
    stays_out (codes "id") (codes "modified") created refl
    (stays_out (codes "id") (codes "created") creator refl
    (stays_out (codes "id") (codes "creator") id refl
    (taken_out (codes "id") context context_tree))) in
    let no_creator : get (codes "creator") modified ≡ None =
    stays_out (codes "creator") (codes "modified") created refl
    (stays_out (codes "creator") (codes "created") creator refl
    (taken_out (codes "creator") id id_tree)) in
    let no_created : get (codes "created") modified ≡ None =
    stays_out (codes "created") (codes "modified") created refl
    (taken_out (codes "created") creator creator_tree) in
    let no_modified : get (codes "modified") modified ≡ None =
    taken_out (codes "modified") created created_tree in
    all_absent (get (codes "@context") modified) (get (codes "created") modified)
    (get (codes "creator") modified) (get (codes "id") modified) (get (codes "modified") modified)
    no_context no_created no_creator no_id no_modified

-- ---- a tree that has none of them is kept as it is

same_step : (name other : List ℕ) (d : Data) (ms : Members) (o : Ordering) (b : Bool) → is_eq o ≡ b
    → (get_member name ms ≡ None → without name ms ≡ ms)
    → match_ordering o (get_member name ms) (Some d) (get_member name ms) ≡ None
    → (if b then ms else member other d (without name ms)) ≡ member other d ms
same_step name other d ms Less true h rest none = absurd (cc)
same_step name other d ms Less false h rest none = ap (member other d) (rest none)
same_step name other d ms Equal true h rest none = absurd (cc)
same_step name other d ms Equal false h rest none = absurd (cc)
same_step name other d ms Greater true h rest none = absurd (cc)
same_step name other d ms Greater false h rest none = ap (member other d) (rest none)

same_without : (name : List ℕ) (ms : Members) → get_member name ms ≡ None → without name ms ≡ ms
same_without name no_members none = refl
same_without name (member other d ms) none =
    same_step name other d ms (slice_cmp nat_cmp name other) (bytes_eq name other)
    (is_eq-slice_cmp name other) (same_without name ms) none

none_when : (found : Option Data) → is_none found ≡ true → found ≡ None
none_when None h = refl
none_when (Some d) h = absurd (cc)

same_tree : (name : List ℕ) (tree : Data) → is_none (get name tree) ≡ true
    → without_member name tree ≡ tree
same_tree name null none = refl
same_tree name (boolean b) none = refl
same_tree name (number n) none = refl
same_tree name (string text) none = refl
same_tree name (array items) none = refl
same_tree name (object ms) none = ap object (same_without name ms (none_when _ none))

pub kept_bare : (tree : Data) → is_bare tree ≡ true → kept tree ≡ tree
unfolding is_bare kept
kept_bare tree h =
    let context = and_parts (is_none (get (codes "@context") tree)) _ h in
    let created = and_parts (is_none (get (codes "created") tree)) _ context.1 in
    let creator = and_parts (is_none (get (codes "creator") tree)) _ created.1 in
    let id = and_parts (is_none (get (codes "id") tree)) _ creator.1 in
    let modified = and_parts (is_none (get (codes "modified") tree)) _ id.1 in
    ap (λ t. without_member (codes "modified") (without_member (codes "created")
    (without_member (codes "creator") (without_member (codes "id") t))))
    (same_tree (codes "@context") tree context.0)
    ∙ ap (λ t. without_member (codes "modified") (without_member (codes "created")
    (without_member (codes "creator") t))) (same_tree (codes "id") tree id.0)
    ∙ ap (λ t. without_member (codes "modified") (without_member (codes "created") t))
    (same_tree (codes "creator") tree creator.0)
    ∙ ap (without_member (codes "modified")) (same_tree (codes "created") tree created.0)
    ∙ same_tree (codes "modified") tree modified.0
