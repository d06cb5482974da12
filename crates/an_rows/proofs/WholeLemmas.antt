-- The value of a valid row is whole and isn't deep, so that its text reads back.
use Rattle.std.proofs.Common.{◌≡◌, ℕ, ◌^◌, ◌≤◌, max, ℤ, pos, negsuc, List, [], ◌∷◌, length, Bool, true, false, not, ◌==◌, nat_lt, Option, Some, None, Ok, is_none, option_map, inl, inr, refl, sym, ap, ◌∙◌, arith, ltb-true}
use Rattle.std.proofs.lemmas.Bool.{and_from, and_parts, cases_Bool}
use Rattle.std.proofs.lemmas.Bool.Decides.{nat_tests}
use Rattle.std.proofs.lemmas.Grind.{common_steps}
use Rattle.std.proofs.lemmas.Str.{is_utf8-from_IsUtf8, IsUtf8-from_ascii}
use Rattle.std.proofs.lemmas.Str.Ascii.{IsAscii-cons, IsAscii-nil}
use Rattle.std.specs.Str.{IsAscii}
use Rattle.std.specs.List.{list_all, position}
use Rattle.std.specs.Prelude.{if◌then◌else◌}
use Rattle.std.specs.Str.{is_utf8}
use Rattle.serde_json.specs.Data.{Data, boolean, number, string, object, unsigned, Members, no_members, member, depth, members_depth}
use Rattle.serde_json.specs.Find.{of_integer}
use Rattle.serde_json.specs.Written.{compact_text}
use Rattle.an_base.specs.Moment.{is_moment}
use Rattle.an_base.specs.Name.{is_name, is_name_sign, bad_sign, is_dash}
use Rattle.an_base.specs.Outcome.{when, first_of}
use Rattle.an_base.specs.Token.{is_token, is_token_sign}
use Rattle.an_base.specs.Tree.{ascend, names, is_whole_number, is_whole, members_are_whole, is_tree}
use Rattle.an_base.specs.Value.{if_whole, value_of}
use Rattle.an_base.specs.declared.name.NameError.TheVariants.{Empty, Long, Sign}
use Rattle.an_base.specs.declared.tree.TreeError.TheVariants.{Json}
use Rattle.an_base.specs.Outcome.{or_refuse}
use Rattle.an_base.proofs.ValueLemmas.{value_read_back}
use Rattle.an_policy.specs.Group.{group_text, is_valid_group}
use Rattle.an_policy.specs.declared.group.Group.{Group}
use Rattle.an_policy.specs.declared.group.Group.TheVariants.{Public, Private, Named}
use Rattle.an_policy.specs.declared.reader.Role.{Role}
use Rattle.an_policy.specs.declared.reader.Role.TheVariants as role
use Rattle.an_rows.specs.RowTree.{given, role_text, moment_tree}

-- ---- texts

abbrev pub is_small : ℕ → Bool
is_small b = nat_lt b 128

small-ascii : (text : List ℕ) → list_all is_small text ≡ true → IsAscii text
small-ascii [] h = IsAscii-nil
small-ascii (b ∷ text) h =
    let parts = and_parts _ _ h in
    IsAscii-cons b text (ltb-true _ _ parts.0) (small-ascii text parts.1)

pub small-utf8 : (text : List ℕ) → list_all is_small text ≡ true → is_utf8 text ≡ true
small-utf8 text h = is_utf8-from_IsUtf8 text (IsUtf8-from_ascii text (small-ascii text h))

all-small : (p : ℕ → Bool) → ((b : ℕ) → p b ≡ true → is_small b ≡ true) → (text : List ℕ)
    → list_all p text ≡ true → list_all is_small text ≡ true
all-small p small [] all = refl
all-small p small (b ∷ text) all =
    let parts = and_parts _ _ all in and_from _ _ (small b parts.0) (all-small p small text parts.1)

name_sign-small : (b : ℕ) → is_name_sign b ≡ true → is_small b ≡ true
name_sign-small b h = grind (arith, nat_tests)

token_sign-small : (b : ℕ) → is_token_sign b ≡ true → is_small b ≡ true
token_sign-small b h = grind (arith, nat_tests)

position-first : {A : Type 0} (p : A → Bool) (x : A) (xs : List A) → p x ≡ true
    → position p (x ∷ xs) ≡ Some 0
position-first p x xs passes = rw passes (grind (arith, common_steps))

position-behind : {A : Type 0} (p : A → Bool) (x : A) (xs : List A) → p x ≡ false
    → position p (x ∷ xs) ≡ None → position p xs ≡ None
position-behind p x xs fails none = grind (arith, common_steps)

-- where no byte is another sign, all are such signs
none-other : (p : ℕ → Bool) (text : List ℕ) → position (λ b. not (p b)) text ≡ None
    → list_all p text ≡ true
none-other p [] none = refl
none-other p (b ∷ text) none = elim (cases_Bool (p b)) [
  | inl is ↦
      and_from _ _ is (none-other p text (position-behind (λ b. not (p b)) b text (ap not is) none))
  | inr isnt ↦
      let some : ◌≡◌ {A = Option ℕ} None (Some 0) =
      sym none ∙ position-first (λ b. not (p b)) b text (ap not isnt) in
      absurd (cc)
]

no_sign : (empty long : Bool) (at : Option ℕ)
    → is_none (first_of (when empty Empty ∷ when long Long ∷ option_map Sign at ∷ [])) ≡ true
    → at ≡ None
no_sign true long at h = absurd (cc)
no_sign false true at h = absurd (cc)
no_sign false false None h = refl
no_sign false false (Some at) h = absurd (cc)

no_bad : (dash : Bool) (at : Option ℕ) → (if dash then Some 0 else at) ≡ None → at ≡ None
no_bad true at h = absurd (cc)
no_bad false at h = h

pub name-utf8 : (text : List ℕ) → is_name text ≡ true → is_utf8 text ≡ true
name-utf8 text h =
    let none =
    no_bad (is_dash text) (position (λ b. not (is_name_sign b)) text)
    (no_sign (length text == 0) (nat_lt 64 (length text)) (bad_sign text) h) in
    small-utf8 text
    (all-small is_name_sign name_sign-small text (none-other is_name_sign text none))

pub token-utf8 : (text : List ℕ) → is_token text ≡ true → is_utf8 text ≡ true
token-utf8 text h =
    small-utf8 text (all-small is_token_sign token_sign-small text (and_parts _ _ h).1)

pub role-utf8 : (its : Role) → is_utf8 (role_text its) ≡ true
role-utf8 role.Reader = small-utf8 _ refl
role-utf8 role.Writer = small-utf8 _ refl
role-utf8 role.Curator = small-utf8 _ refl

pub group-utf8 : (group : Group) → is_valid_group group ≡ true → is_utf8 (group_text group) ≡ true
group-utf8 Public h = small-utf8 _ refl
group-utf8 Private h = small-utf8 _ refl
group-utf8 (Named name) h = name-utf8 name (and_parts _ _ (and_parts _ _ h).0).0

-- ---- values

-- a whole value, no deeper than a tree
pub record Fine (value : Data) : Type 0 where
  pub whole : is_whole value ≡ true
  pub shallow : depth value ≤ 100

pub record FineMembers (members : Members) : Type 0 where
  pub whole : members_are_whole members ≡ true
  pub shallow : members_depth members ≤ 100

pub fine-none : FineMembers no_members
fine-none = record { whole = refl; shallow = omega arith }

pub max-both : (a b c : ℕ) → a ≤ c → b ≤ c → max a b ≤ c
max-both a b c h k = grind arith

pub fine-member : (name : List ℕ) (value : Data) (members : Members) → list_all is_small name ≡ true
    → Fine value → FineMembers members → FineMembers (member name value members)
fine-member name value members small fine more = record {
  whole = and_from _ _ (and_from _ _ (small-utf8 name small) fine.whole) more.whole;
  shallow = max-both (depth value) (members_depth members) 100 fine.shallow more.shallow;
}

pub fine-text : (text : List ℕ) → is_utf8 text ≡ true → Fine (string text)
fine-text text utf8 = record { whole = utf8; shallow = omega arith }

pub fine-flag : (live : Bool) → Fine (boolean live)
fine-flag live = record { whole = refl; shallow = omega arith }

pub fine-number : (n : ℕ) → nat_lt n (2 ^ 64) ≡ true → Fine (number (unsigned n))
fine-number n small = record { whole = small; shallow = omega arith }

moment-whole : (m : ℤ) → is_moment m ≡ true → is_whole_number (of_integer m) ≡ true
unfolding is_moment
moment-whole (pos n) h = grind (arith, nat_tests)
moment-whole (negsuc n) h = grind (arith, nat_tests)

pub fine-moment : (m : ℤ) → is_moment m ≡ true → Fine (moment_tree m)
fine-moment m h = record { whole = moment-whole m h; shallow = omega arith }

pub fine-tree : (tree : Data) → is_tree tree ≡ true → Fine tree
unfolding is_tree
fine-tree tree h =
    let parts = and_parts (is_whole tree) _ h in
    record { whole = parts.0; shallow = grind (arith, nat_tests) }

pub fine-given : (name : List ℕ) (value : Option Data) (members : Members)
    → list_all is_small name ≡ true
    → ((its : Data) → value ≡ Some its → Fine its) → FineMembers members
    → FineMembers (given name value members)
fine-given name None others small fine more = more
fine-given name (Some its) others small fine more =
    fine-member name its others small (fine its refl) more

-- ---- the text reads back

pub value-read : (members : Members) → FineMembers members → ascend (names members) ≡ true
    → value_of (compact_text (object members)) ≡ Ok (object members)
unfolding value_of
value-read members fine order =
    let whole : is_whole (object members) ≡ true = and_from _ _ order fine.whole in
    let deep : depth (object members) ≤ 127 = omega (arith, fine.shallow) in
    ap (λ found. or_refuse Json found if_whole) (value_read_back (object members) whole deep)
    ∙ rw whole refl
