-- What is served of an annotation is a tree, so that its text reads back.
use Rattle.std.proofs.Common.{◌≡◌, ℕ, ℤ, ◌≤◌, max, List, [], ◌∷◌, Bool, true, codes, Option, Some, None, Less, Equal, Greater, Ordering, nat_cmp, nat_le, refl, ap, ◌∙◌, arith, IsTrue, IfSome}
use Rattle.std.proofs.lemmas.Bool.{and_from, and_parts}
use Rattle.std.proofs.lemmas.Bool.Decides.{nat_tests}
use Rattle.std.proofs.lemmas.Cmp.{nat_list_cmp_total}
use Rattle.std.proofs.lemmas.Str.{is_utf8-from_IsUtf8, IsUtf8-from_ascii}
use Rattle.std.specs.Cmp.Lexicographic.{slice_cmp}
use Rattle.std.specs.List.{list_all}
use Rattle.std.specs.Ordering.{match_ordering, is_lt, ordering_reverse}
use Rattle.std.specs.Char.{encode_utf8}
use Rattle.std.specs.Str.{is_utf8, chars}
use Rattle.serde_json.specs.Data.{Data, null, boolean, number, string, array, object, Members, no_members, member, put, depth, members_depth}
use Rattle.serde_json.specs.Written.{compact_text}
use Rattle.an_base.specs.Cut.{is_before, is_object}
use Rattle.an_base.specs.Kept.{IsKept, tree_in}
use Rattle.an_base.specs.Moment.{IsMoment, moment_text}
use Rattle.an_base.specs.Object.{with_member}
use Rattle.an_base.specs.Tree.{ascend, names, is_whole, members_are_whole, is_tree, max_tree_depth}
use Rattle.an_base.proofs.KeptLemmas.{kept_text, tree_in-text}
use Rattle.an_base.proofs.MomentLaws.{moment_text-ascii}
use Rattle.an_base.proofs.TreeTexts.{no_float_in_tree}
use Rattle.an_served.specs.Note.{dressed}
use Rattle.an_model.specs.Note.{note_refusal}
use Rattle.an_model.proofs.KeptNoteLemmas.{note_is_object}

-- ---- the members with one put among them

less : (o : Ordering) → is_lt o ≡ true → o ≡ Less
less Less h = refl
less Equal h = absurd (cc)
less Greater h = absurd (cc)

all-behind : (k l : List ℕ) → is_before k l ≡ true → (texts : List (List ℕ))
    → list_all (is_before l) texts ≡ true → list_all (is_before k) texts ≡ true
all-behind k l h [] all = refl
all-behind k l h (text ∷ texts) all =
    let parts = and_parts (is_before l text) _ all in
    and_from _ _ (ap is_lt (nat_list_cmp_total.trans k l text (less _ h) (less _ parts.0)))
    (all-behind k l h texts parts.1)

all-put : (p : List ℕ → Bool) (k : List ℕ) (d : Data) (ms : Members) → p k ≡ true
    → list_all p (names ms) ≡ true → list_all p (names (put k d ms)) ≡ true
all-put p k d no_members h all = and_from _ _ h refl
all-put p k d (member l e ms) h all =
    let parts = and_parts (p l) _ all in
    elim (slice_cmp nat_cmp k l)
    as (λ o. list_all p (names
    (match_ordering o (member k d (member l e ms)) (member l d ms) (member l e (put k d ms))))
    ≡ true) [
      | Less ↦ and_from _ _ h all
      | Equal ↦ all
      | Greater ↦ and_from _ _ parts.0 (all-put p k d ms h parts.1)
    ]

ascend-put : (k : List ℕ) (d : Data) (ms : Members) → ascend (names ms) ≡ true
    → ascend (names (put k d ms)) ≡ true
ascend-put k d no_members h = refl
ascend-put k d (member l e ms) h =
    let parts = and_parts (list_all (is_before l) (names ms)) _ h in
    at (slice_cmp nat_cmp k l) refl parts.0 parts.1 (ascend-put k d ms parts.1)
  where
    at : (o : Ordering) → slice_cmp nat_cmp k l ≡ o → list_all (is_before l) (names ms) ≡ true
        → ascend (names ms) ≡ true → ascend (names (put k d ms)) ≡ true
        → ascend (names
        (match_ordering o (member k d (member l e ms)) (member l d ms) (member l e (put k d ms))))
        ≡ true
    at Less o behind order rest =
        and_from _ _ (and_from _ _ (ap is_lt o) (all-behind k l (ap is_lt o) (names ms) behind))
        (and_from _ _ behind order)
    at Equal o behind order rest = and_from _ _ behind order
    at Greater o behind order rest =
        and_from _ _ (all-put (is_before l) k d ms
        (ap is_lt (nat_list_cmp_total.antisymm l k ∙ ap ordering_reverse o)) behind) rest

whole-put : (k : List ℕ) (d : Data) (ms : Members) → is_utf8 k ≡ true → is_whole d ≡ true
    → members_are_whole ms ≡ true → members_are_whole (put k d ms) ≡ true
whole-put k d no_members name value h = and_from _ _ (and_from _ _ name value) refl
whole-put k d (member l e ms) name value h =
    let parts = and_parts _ (members_are_whole ms) h in
    let first = and_parts (is_utf8 l) (is_whole e) parts.0 in
    elim (slice_cmp nat_cmp k l)
    as (λ o. members_are_whole
    (match_ordering o (member k d (member l e ms)) (member l d ms) (member l e (put k d ms)))
    ≡ true) [
      | Less ↦ and_from _ _ (and_from _ _ name value) h
      | Equal ↦ and_from _ _ (and_from _ _ first.0 value) parts.1
      | Greater ↦ and_from _ _ parts.0 (whole-put k d ms name value parts.1)
    ]

depth-put : (k : List ℕ) (d : Data) (ms : Members)
    → members_depth (put k d ms) ≤ max (depth d) (members_depth ms)
depth-put k d no_members = omega arith
depth-put k d (member l e ms) =
    let more = depth-put k d ms in
    elim (slice_cmp nat_cmp k l)
    as (λ o. members_depth
    (match_ordering o (member k d (member l e ms)) (member l d ms) (member l e (put k d ms)))
    ≤ max (depth d) (max (depth e) (members_depth ms))) [
      | Less ↦ omega arith
      | Equal ↦ omega arith
      | Greater ↦ omega arith
    ]

-- ---- a tree with a text put into it

shallow : (a b n : ℕ) → a ≤ b → nat_le b n ≡ true → nat_le a n ≡ true
shallow a b n h e = grind (arith, nat_tests)

is_tree-with : (k text : List ℕ) (tree : Data) → is_utf8 k ≡ true → is_utf8 text ≡ true
    → is_tree tree ≡ true → is_tree (with_member k (string text) tree) ≡ true
unfolding is_tree
is_tree-with k text null name value t = t
is_tree-with k text (boolean b) name value t = t
is_tree-with k text (number n) name value t = t
is_tree-with k text (string other) name value t = t
is_tree-with k text (array items) name value t = t
is_tree-with k text (object members) name value t =
    let parts = and_parts (is_whole (object members)) _ t in
    let whole = and_parts (ascend (names members)) _ parts.0 in
    let deep = depth-put k (string text) members in
    and_from _ _ (and_from _ _ (ascend-put k (string text) members whole.0)
    (whole-put k (string text) members name value whole.1))
    (shallow (depth (object (put k (string text) members))) (depth (object members)) max_tree_depth
    (omega arith) parts.1)

object-with : (k : List ℕ) (d tree : Data) → is_object tree ≡ true
    → is_object (with_member k d tree) ≡ true
object-with k d null h = h
object-with k d (boolean b) h = h
object-with k d (number n) h = h
object-with k d (string text) h = h
object-with k d (array items) h = h
object-with k d (object ms) h = refl

-- ---- what is served

moment-utf8 : (m : ℤ) → IsMoment m → is_utf8 (moment_text m) ≡ true
moment-utf8 m h = is_utf8-from_IsUtf8 _ (IsUtf8-from_ascii _ (moment_text-ascii m h))

created-utf8 : is_utf8 (codes "created") ≡ true
unfolding is_utf8 chars encode_utf8
created-utf8 = refl

creator-utf8 : is_utf8 (codes "creator") ≡ true
unfolding is_utf8 chars encode_utf8
creator-utf8 = refl

id-utf8 : is_utf8 (codes "id") ≡ true
unfolding is_utf8 chars encode_utf8
id-utf8 = refl

modified-utf8 : is_utf8 (codes "modified") ≡ true
unfolding is_utf8 chars encode_utf8
modified-utf8 = refl

with_created : (id creator : List ℕ) (created : ℤ) (tree : Data) → is_utf8 id ≡ true
    → is_utf8 creator ≡ true → IsMoment created → is_tree tree ≡ true
    → is_tree (dressed id creator created None tree) ≡ true
with_created id creator created tree iri who when t =
    is_tree-with (codes "id") id _ id-utf8 iri
    (is_tree-with (codes "creator") creator _ creator-utf8 who
    (is_tree-with (codes "created") (moment_text created) tree created-utf8
    (moment-utf8 created when) t))

object-dressed : (id creator : List ℕ) (created : ℤ) (tree : Data) → is_object tree ≡ true
    → is_object (dressed id creator created None tree) ≡ true
object-dressed id creator created tree h =
    object-with (codes "id") _ _
    (object-with (codes "creator") _ _ (object-with (codes "created") _ tree h))

dressed_is_tree : (id creator : List ℕ) (created : ℤ) (modified : Option ℤ) (tree : Data)
    → is_utf8 id ≡ true → is_utf8 creator ≡ true → IsMoment created → IfSome modified IsMoment
    → is_tree tree ≡ true → is_tree (dressed id creator created modified tree) ≡ true
dressed_is_tree id creator created None tree iri who when then t =
    with_created id creator created tree iri who when t
dressed_is_tree id creator created (Some moment) tree iri who when then t =
    is_tree-with (codes "modified") (moment_text moment) _ modified-utf8 (moment-utf8 moment then)
    (with_created id creator created tree iri who when t)

dressed_is_object : (id creator : List ℕ) (created : ℤ) (modified : Option ℤ) (tree : Data)
    → is_object tree ≡ true → is_object (dressed id creator created modified tree) ≡ true
dressed_is_object id creator created None tree h = object-dressed id creator created tree h
dressed_is_object id creator created (Some moment) tree h =
    object-with (codes "modified") _ _ (object-dressed id creator created tree h)

-- what is served of an annotation can be kept, and is what its text says
pub record IsServed (text : List ℕ) (tree : Data) : Type 0 where
  pub kept : IsKept text
  pub reads : tree_in text ≡ tree

pub dressed_is_served : (id creator : List ℕ) (created : ℤ) (modified : Option ℤ) (tree : Data)
    (text : List ℕ) → is_utf8 id ≡ true → is_utf8 creator ≡ true → IsMoment created
    → IfSome modified IsMoment
    → IsTrue (is_tree tree) → note_refusal tree ≡ None
    → text ≡ compact_text (dressed id creator created modified tree)
    → IsServed text (dressed id creator created modified tree)
dressed_is_served id creator created modified tree text iri who when then t note written =
    let whole = dressed_is_tree id creator created modified tree iri who when then t in
    record {
      kept =
          kept_text _ text whole
          (dressed_is_object id creator created modified tree (note_is_object tree note)) written;
      reads = tree_in-text _ text whole written;
    }

pub ruleset no_float = (no_float_in_tree)
