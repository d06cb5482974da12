-- The members between two names are a tree, and among them stand the bodies.
use Rattle.std.proofs.Common.{◌≡◌, ℕ, ◌≤◌, List, Bool, true, false, nat_le, if◌then◌else◌, Option, Some, None, IsTrue, codes, nat_cmp, Less, Equal, Greater, Ordering, refl, sym, ap, ◌∙◌, arith, true≢false}
use Rattle.std.proofs.lemmas.Bool.{and_from, and_parts}
use Rattle.std.proofs.lemmas.Bool.Decides.{nat_tests}
use Rattle.std.proofs.lemmas.Map.Lookups.{exact_bytes}
use Rattle.std.specs.Cmp.Lexicographic.{slice_cmp}
use Rattle.std.specs.List.{list_all, filter_map}
use Rattle.std.specs.Ordering.{match_ordering}
use Rattle.serde_json.specs.Data.{Data, null, boolean, number, string, array, object, Members, no_members, member, depth, members_depth}
use Rattle.serde_json.specs.Find.{get, get_member}
use Rattle.an_base.specs.Cut.{is_before, below, above, is_object, members_in}
use Rattle.an_base.specs.Items.{many_if, items_list}
use Rattle.an_base.specs.Tree.{ascend, names, is_whole, members_are_whole, is_tree, max_tree_depth}
use Rattle.an_base.proofs.TreeTexts.{member_parts}
use Rattle.an_model.specs.Bodies.{body_of, text_of_body, bodies_from, texts_of}

-- ---- some of the members of a tree are a tree

record IsPart (part whole : Members) : Type 0 where
  all : (test : List ℕ → Bool) → list_all test (names whole) ≡ true
      → list_all test (names part) ≡ true
  ascends : ascend (names whole) ≡ true → ascend (names part) ≡ true
  is_whole : members_are_whole whole ≡ true → members_are_whole part ≡ true
  shallow : members_depth part ≤ members_depth whole

part_skip : (name : List ℕ) (value : Data) (part whole : Members) → IsPart part whole
    → IsPart part (member name value whole)
part_skip name value part whole is = record {
  all = λ test h. is.all test (and_parts (test name) _ h).1;
  ascends = λ h. is.ascends (and_parts (list_all (is_before name) (names whole)) _ h).1;
  is_whole = λ h. is.is_whole (member_parts name value whole h).2;
  shallow = omega (arith, is.shallow);
}

part_take : (name : List ℕ) (value : Data) (part whole : Members) → IsPart part whole
    → IsPart (member name value part) (member name value whole)
part_take name value part whole is = record {
  all =
      λ test h. let parts = and_parts (test name) _ h in and_from _ _ parts.0 (is.all test parts.1);
  ascends =
      λ h.
      let parts = and_parts (list_all (is_before name) (names whole)) _ h in
      and_from _ _ (is.all (is_before name) parts.0) (is.ascends parts.1);
  is_whole =
      λ h.
      let parts = member_parts name value whole h in
      and_from _ _ (and_from _ _ parts.0 parts.1) (is.is_whole parts.2);
  shallow = omega (arith, is.shallow);
}

part-below : (high : List ℕ) (members : Members) → IsPart (below high members) members
part-below high no_members =
    record { all = λ test h. h; ascends = λ h. h; is_whole = λ h. h; shallow = omega arith }
part-below high (member name value members) =
    elim (is_before name high)
    as (λ b. IsPart (if b then member name value (below high members) else below high members)
    (member name value members)) [
      | true ↦ part_take name value _ members (part-below high members)
      | false ↦ part_skip name value _ members (part-below high members)
    ]

part-above : (low : List ℕ) (members : Members) → IsPart (above low members) members
part-above low no_members =
    record { all = λ test h. h; ascends = λ h. h; is_whole = λ h. h; shallow = omega arith }
part-above low (member name value members) =
    elim (is_before name low)
    as (λ b. IsPart (if b then above low members else member name value (above low members))
    (member name value members)) [
      | true ↦ part_skip name value _ members (part-above low members)
      | false ↦ part_take name value _ members (part-above low members)
    ]

less_deep : (a b n : ℕ) → a ≤ b → nat_le b n ≡ true → nat_le a n ≡ true
less_deep a b n h e = grind (arith, nat_tests)

tree-part : (part whole : Members) → IsPart part whole → IsTrue (is_tree (object whole))
    → IsTrue (is_tree (object part))
unfolding is_tree
tree-part part whole is tree =
    let parts = and_parts (is_whole (object whole)) _ tree in
    let both = and_parts (ascend (names whole)) _ parts.0 in
    let fewer = is.shallow in
    and_from _ _ (and_from _ _ (is.ascends both.0) (is.is_whole both.1))
    (less_deep (depth (object part)) (depth (object whole)) max_tree_depth
    (omega (arith, fewer)) parts.1)

pub between_tree : (low high : List ℕ) (tree : Data) → IsTrue (is_tree tree) → is_object tree ≡ true
    → IsTrue (is_tree (object (below high (above low (members_in tree)))))
between_tree low high null t is = absurd (cc)
between_tree low high (boolean b) t is = absurd (cc)
between_tree low high (number n) t is = absurd (cc)
between_tree low high (string text) t is = absurd (cc)
between_tree low high (array items) t is = absurd (cc)
between_tree low high (object members) t is =
    tree-part _ _ (part-below high (above low members)) (tree-part _ _ (part-above low members) t)

-- ---- the members of names between stay

keeps : (wanted name : List ℕ) (value : Data) (part whole : Members)
    → get_member wanted part ≡ get_member wanted whole
    → get_member wanted (member name value part) ≡ get_member wanted (member name value whole)
keeps wanted name value part whole same =
    ap (λ found. match_ordering (slice_cmp nat_cmp wanted name) found (Some value) found) same

-- a member that is left out has another name
leaves : (wanted name : List ℕ) (value : Data) (part whole : Members) (test : List ℕ → Bool)
    → test wanted ≡ true → test name ≡ false → get_member wanted part ≡ get_member wanted whole
    → get_member wanted part ≡ get_member wanted (member name value whole)
leaves wanted name value part whole test is isnt same = by (slice_cmp nat_cmp wanted name) refl
  where
    by : (o : Ordering) → slice_cmp nat_cmp wanted name ≡ o
        → get_member wanted part
        ≡ match_ordering o (get_member wanted whole) (Some value) (get_member wanted whole)
    by Less e = same
    by Equal e = absurd (true≢false (sym is ∙ ap test (exact_bytes wanted name e) ∙ isnt))
    by Greater e = same

get-below : (wanted high : List ℕ) (members : Members) → is_before wanted high ≡ true
    → get_member wanted (below high members) ≡ get_member wanted members
get-below wanted high no_members order = refl
get-below wanted high (member name value members) order =
    by (is_before name high) refl (get-below wanted high members order)
  where
    by : (b : Bool) → is_before name high ≡ b
        → get_member wanted (below high members) ≡ get_member wanted members
        → get_member wanted
        (if b then member name value (below high members) else below high members)
        ≡ get_member wanted (member name value members)
    by true e same = keeps wanted name value _ members same
    by false e same =
        leaves wanted name value _ members (λ other. is_before other high) order e same

not_before : List ℕ → List ℕ → Bool
not_before low name = if is_before name low then false else true

get-above : (wanted low : List ℕ) (members : Members) → not_before low wanted ≡ true
    → get_member wanted (above low members) ≡ get_member wanted members
unfolding not_before
get-above wanted low no_members order = refl
get-above wanted low (member name value members) order =
    by (is_before name low) refl (get-above wanted low members order)
  where
    by : (b : Bool) → is_before name low ≡ b
        → get_member wanted (above low members) ≡ get_member wanted members
        → get_member wanted (if b then above low members else member name value (above low members))
        ≡ get_member wanted (member name value members)
    by true e same =
        leaves wanted name value _ members (not_before low) order
        (ap (λ b. if b then false else true) e) same
    by false e same = keeps wanted name value _ members same

-- ---- the bodies stand between `@context` and `created`

get-between : (wanted : List ℕ) (members : Members) → not_before (codes "@context") wanted ≡ true
    → is_before wanted (codes "created") ≡ true
    → get_member wanted (below (codes "created") (above (codes "@context") members))
    ≡ get_member wanted members
get-between wanted members low high =
    get-below wanted (codes "created") (above (codes "@context") members) high
    ∙ get-above wanted (codes "@context") members low

texts_by : Option Data → Option Data → List (List ℕ)
texts_by None body = filter_map text_of_body (filter_map body_of (items_list (many_if body)))
texts_by (Some value) body = filter_map text_of_body (bodies_from (Some value) null)

texts-by : (value : Option Data) (tree : Data)
    → filter_map text_of_body (bodies_from value tree) ≡ texts_by value (get (codes "body") tree)
unfolding texts_by
texts-by None tree = refl
texts-by (Some value) tree = refl

texts-object : (part whole : Members)
    → get_member (codes "bodyValue") part ≡ get_member (codes "bodyValue") whole
    → get_member (codes "body") part ≡ get_member (codes "body") whole
    → texts_of (object part) ≡ texts_of (object whole)
unfolding texts_of
texts-object part whole value body =
    texts-by (get_member (codes "bodyValue") part) (object part)
    ∙ ap (λ v. texts_by v (get_member (codes "body") part)) value
    ∙ ap (texts_by (get_member (codes "bodyValue") whole)) body
    ∙ sym (texts-by (get_member (codes "bodyValue") whole) (object whole))

pub between_texts : (tree : Data) → is_object tree ≡ true
    → texts_of (object (below (codes "created") (above (codes "@context") (members_in tree))))
    ≡ texts_of tree
unfolding not_before
between_texts null is = absurd (cc)
between_texts (boolean b) is = absurd (cc)
between_texts (number n) is = absurd (cc)
between_texts (string text) is = absurd (cc)
between_texts (array items) is = absurd (cc)
between_texts (object members) is =
    texts-object _ members (get-between (codes "bodyValue") members refl refl)
    (get-between (codes "body") members refl refl)
