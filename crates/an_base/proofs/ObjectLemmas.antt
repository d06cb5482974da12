-- What putting members into an object and taking them out keeps.
use Rattle.std.proofs.Common.{◌≡◌, ℕ, ◌≤◌, max, List, [], ◌∷◌, Bool, true, false, nat_le, if◌then◌else◌, Less, Equal, Greater, nat_cmp, string_bytes, refl, ◌∙◌, arith, Some, bytes_eq, true≢false, ap, sym, is_eq}
use Rattle.std.proofs.lemmas.Bool.{or_parts, and_from, and_parts}
use Rattle.std.proofs.lemmas.Bool.Decides.{nat_tests}
use Rattle.std.proofs.lemmas.Map.Text.{is_eq-slice_cmp}
use Rattle.std.proofs.lemmas.Slice.Eq.{bytes_eq-Decides}
use Rattle.std.specs.Cmp.Lexicographic.{slice_cmp}
use Rattle.std.specs.List.{list_all}
use Rattle.std.specs.Map.{remove_entry}
use Rattle.std.specs.BTreeMap.{is_at}
use Rattle.std.specs.Ordering.{match_ordering, is_lt, is_eq}
use Rattle.serde_json.specs.Data.{Data, null, boolean, number, string, array, object, Members, no_members, member, put, depth, members_depth}
use Rattle.serde_json.specs.Find.{get, get_member}
use Rattle.serde_json.specs.View.{members_view}
use Rattle.serde_json.specs.Written.{has_float, members_have_float}
use Rattle.serde_json.proofs.Views.{Entry}
use Rattle.an_base.specs.Object.{with_member, without, without_member}
use Rattle.an_base.specs.Tree.{ascend, names, is_whole, members_are_whole, is_tree, max_tree_depth}
use Rattle.an_base.proofs.TreeTexts.{member_parts}

-- ---- a member that is put

members_have_float-put : (name : List ℕ) (value : Data) (members : Members)
    → has_float value ≡ false → members_have_float members ≡ false
    → members_have_float (put name value members) ≡ false
members_have_float-put name value no_members v m = rw v
members_have_float-put name value (member other tree members) v m =
    let parts = or_parts (has_float tree) (members_have_float members) m in
    elim (slice_cmp nat_cmp name other)
    as (λ o. members_have_float
    (match_ordering o (member name value (member other tree members)) (member other value members)
    (member other tree (put name value members))) ≡ false) [
      | Less ↦ rw (v, m)
      | Equal ↦ rw (v, parts.1)
      | Greater ↦ rw (parts.0, members_have_float-put name value members v parts.1)
    ]

pub has_float-with_member : (name : List ℕ) (value tree : Data) → has_float value ≡ false
    → has_float tree ≡ false → has_float (with_member name value tree) ≡ false
has_float-with_member name value null v t = t
has_float-with_member name value (boolean b) v t = t
has_float-with_member name value (number n) v t = t
has_float-with_member name value (string text) v t = t
has_float-with_member name value (array items) v t = t
has_float-with_member name value (object members) v t =
    members_have_float-put name value members v t

-- ---- a member that is taken out

members_view-if : (b : Bool) (es fs : List Entry)
    → members_view (if b then es else fs) ≡ (if b then members_view es else members_view fs)
members_view-if true es fs = refl
members_view-if false es fs = refl

pub members_view-remove_entry : (name : List ℕ) (es : List Entry)
    → members_view (remove_entry (is_at (λ k. slice_cmp nat_cmp name (string_bytes k))) es)
    ≡ without name (members_view es)
members_view-remove_entry name [] = refl
members_view-remove_entry name (e ∷ es) =
    members_view-if (is_eq (slice_cmp nat_cmp name (string_bytes e.0))) es _
    ∙ rw (is_eq-slice_cmp name (string_bytes e.0), members_view-remove_entry name es)

all-without : (test : List ℕ → Bool) (name : List ℕ) (members : Members)
    → list_all test (names members) ≡ true → list_all test (names (without name members)) ≡ true
all-without test name no_members h = refl
all-without test name (member other value members) h =
    let parts = and_parts (test other) _ h in
    elim (bytes_eq name other)
    as (λ b. list_all test
    (names (if b then members else member other value (without name members))) ≡ true) [
      | true ↦ parts.1
      | false ↦ and_from _ _ parts.0 (all-without test name members parts.1)
    ]

ascend-without : (name : List ℕ) (members : Members) → ascend (names members) ≡ true
    → ascend (names (without name members)) ≡ true
ascend-without name no_members h = refl
ascend-without name (member other value members) h =
    let parts =
    and_parts (list_all (λ later. is_lt (slice_cmp nat_cmp other later)) (names members)) _ h in
    elim (bytes_eq name other)
    as (λ b.
    ascend (names (if b then members else member other value (without name members))) ≡ true) [
      | true ↦ parts.1
      | false ↦
          and_from _ _ (all-without _ name members parts.0) (ascend-without name members parts.1)
    ]

whole-without : (name : List ℕ) (members : Members) → members_are_whole members ≡ true
    → members_are_whole (without name members) ≡ true
whole-without name no_members h = refl
whole-without name (member other value members) h =
    let parts = member_parts other value members h in
    elim (bytes_eq name other)
    as (λ b.
    members_are_whole (if b then members else member other value (without name members)) ≡ true) [
      | true ↦ parts.2
      | false ↦ and_from _ _ (and_from _ _ parts.0 parts.1) (whole-without name members parts.2)
    ]

depth-without : (name : List ℕ) (members : Members)
    → members_depth (without name members) ≤ members_depth members
depth-without name no_members = omega arith
depth-without name (member other value members) =
    let fewer = depth-without name members in
    elim (bytes_eq name other)
    as (λ b. members_depth (if b then members else member other value (without name members))
    ≤ max (depth value) (members_depth members)) [
      | true ↦ omega arith
      | false ↦ omega arith
    ]

shallow : (a b n : ℕ) → a ≤ b → nat_le b n ≡ true → nat_le a n ≡ true
shallow a b n h e = grind (arith, nat_tests)

pub is_tree-without_member : (name : List ℕ) (tree : Data) → is_tree tree ≡ true
    → is_tree (without_member name tree) ≡ true
unfolding is_tree
is_tree-without_member name null t = t
is_tree-without_member name (boolean b) t = t
is_tree-without_member name (number n) t = t
is_tree-without_member name (string text) t = t
is_tree-without_member name (array items) t = t
is_tree-without_member name (object members) t =
    let parts = and_parts (is_whole (object members)) _ t in
    let whole = and_parts (ascend (names members)) _ parts.0 in
    let fewer = depth-without name members in
    and_from _ _
    (and_from _ _ (ascend-without name members whole.0) (whole-without name members whole.1))
    (shallow (depth (object (without name members))) (depth (object members)) max_tree_depth
    (omega arith) parts.1)

pub ruleset putting = (has_float-with_member)

-- the members of other names stay
skips : (wanted name : List ℕ) (value : Data) (members : Members) → (wanted ≡ name → ⊥)
    → get_member wanted (member name value members) ≡ get_member wanted members
skips wanted name value members other =
    elim (slice_cmp nat_cmp wanted name)
    as (λ o. is_eq o ≡ false
    → match_ordering o (get_member wanted members) (Some value) (get_member wanted members)
    ≡ get_member wanted members) [
      | Less ↦ λ h. refl
      | Equal ↦ λ h. absurd (true≢false h)
      | Greater ↦ λ h. refl
    ] (is_eq-slice_cmp wanted name ∙ differ (bytes_eq wanted name) refl)
  where
    differ : (b : Bool) → bytes_eq wanted name ≡ b → b ≡ false
    differ true e = absurd (other ((bytes_eq-Decides wanted name).0 e))
    differ false e = refl

get_member-without : (wanted name : List ℕ) (members : Members) → (wanted ≡ name → ⊥)
    → get_member wanted (without name members) ≡ get_member wanted members
get_member-without wanted name no_members apart = refl
get_member-without wanted name (member other value members) apart =
    at (bytes_eq name other) refl (get_member-without wanted name members apart)
  where
    at : (b : Bool) → bytes_eq name other ≡ b
        → get_member wanted (without name members) ≡ get_member wanted members
        → get_member wanted (if b then members else member other value (without name members))
        ≡ get_member wanted (member other value members)
    at true e fewer =
        sym (skips wanted other value members
        (λ h. apart (h ∙ sym ((bytes_eq-Decides name other).0 e))))
    at false e fewer =
        ap (λ r. match_ordering (slice_cmp nat_cmp wanted other) r (Some value) r) fewer

pub get-without_member : (wanted name : List ℕ) (tree : Data) → (wanted ≡ name → ⊥)
    → get wanted (without_member name tree) ≡ get wanted tree
get-without_member wanted name null apart = refl
get-without_member wanted name (boolean b) apart = refl
get-without_member wanted name (number n) apart = refl
get-without_member wanted name (string text) apart = refl
get-without_member wanted name (array items) apart = refl
get-without_member wanted name (object members) apart = get_member-without wanted name members apart

pub ruleset taking_out = (members_view-remove_entry, is_tree-without_member)
