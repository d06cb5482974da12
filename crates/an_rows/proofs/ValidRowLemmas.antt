-- Each row that is read is valid, kind by kind.
use Rattle.std.proofs.Common.{◌≡◌, ℕ, suc, List, [], ◌∷◌, ◌++◌, length, Bool, true, false, not, ◌&&◌, nat_le, codes, Option, Some, None, Result, Ok, Err, option_and_then, inl, inr, refl, sym, ap, ◌∙◌, append_assoc, append-nil}
use Rattle.std.proofs.lemmas.Bool.{cases_Bool, and_from, cond-true, cond-false, eq-eqb}
use Rattle.std.proofs.lemmas.Option.{same_Some}
use Rattle.std.proofs.lemmas.Slice.Eq.{bytes_eq-Decides}
use Rattle.std.specs.Result.{result_ok}
use Rattle.serde_json.specs.Data.{Data, null, boolean, number, string, array, object, Items, no_items, item}
use Rattle.serde_json.specs.Events.{items_len}
use Rattle.serde_json.specs.Find.{get, as_str}
use Rattle.an_base.specs.Member.{text_in}
use Rattle.an_base.specs.Name.{is_name}
use Rattle.an_base.specs.Token.{is_token}
use Rattle.an_base.specs.Tree.{is_whole}
use Rattle.an_policy.specs.Audience.{is_among, is_group_name}
use Rattle.an_policy.specs.Reader.{is_user, token_in, role_in, user_in, group_in as group_of_item, groups_with, groups_of_tree, groups_in, reader_of}
use Rattle.an_policy.specs.declared.reader.Reader.{Reader}
use Rattle.an_policy.specs.declared.reader.ReaderError.{ReaderError}
use Rattle.an_policy.specs.declared.reader.ReaderError.TheVariants as error
use Rattle.an_state.specs.Commands.{is_number}
use Rattle.an_state.specs.State.{ReaderState}
use Rattle.an_rows.specs.RowRead.{name_in, flag_in, number_in, version_in, reader_named, reader_row_in}
use Rattle.an_rows.specs.Valid.{are_groups, are_groups_behind, is_valid_reader, is_valid_reader_row}
use Rattle.an_rows.specs.declared.refusal.RowError.{RowError}
use Rattle.an_rows.specs.declared.refusal.RowError.TheVariants.{Bytes}
use Rattle.an_rows.proofs.ValidLemmas.{refused, same_Ok, found-passed, text-utf8}

-- ---- the groups of a reader

record Groups (before all : List (List ℕ)) (items : Items) : Type 0 where
  names : List (List ℕ)
  behind : all ≡ before ++ names
  good : are_groups_behind before names ≡ true
  many : length names ≡ items_len items

pub and_then-found : {A B : Type 0} (f : A → Option B) (found : Option A) (y : B)
    → option_and_then f found ≡ Some y → (x : A) × (found ≡ Some x) × (f x ≡ Some y)
and_then-found f None y is = absurd (cc)
and_then-found f (Some x) y is = (x, refl, is)

groups-behind : (before all : List (List ℕ)) (items : Items) → groups_with before items ≡ Some all
    → Groups before all items
groups-behind before all no_items is = record {
  names = [];
  behind = sym (same_Some before all is) ∙ sym (append-nil before);
  good = refl;
  many = refl;
}
groups-behind before all (item tree items) is =
    let found =
    and_then-found (λ name. groups_with (before ++ name ∷ []) items)
    (group_of_item before tree) all is in
    let passed =
    found-passed (λ name. is_group_name name && not (is_among before name))
    (as_str tree) found.0 found.1 in
    let rest = groups-behind (before ++ found.0 ∷ []) all items found.2 in
    record {
      names = found.0 ∷ rest.names;
      behind = rest.behind ∙ append_assoc before (found.0 ∷ []) rest.names;
      good = and_from _ _ passed.1 rest.good;
      many = ap suc rest.many;
    }

tree-groups : (tree : Data) (all : List (List ℕ)) → groups_of_tree tree ≡ Some all
    → are_groups all ≡ true
unfolding are_groups
tree-groups (array items) all is = elim (cases_Bool (nat_le (items_len items) 64)) [
  | inl few ↦
      let found =
      groups-behind [] all items (sym (cond-true _ (groups_with [] items) None few) ∙ is) in
      and_from _ _
      (ap (λ l. nat_le (length l) 64) found.behind ∙ ap (λ n. nat_le n 64) found.many ∙ few)
      (ap (are_groups_behind []) found.behind ∙ found.good)
  | inr many ↦
      let none : ◌≡◌ {A = Option (List (List ℕ))} None (Some all) =
      sym (cond-false _ (groups_with [] items) None many) ∙ is in
      absurd (cc)
]
tree-groups null all is = absurd (cc)
tree-groups (boolean b) all is = absurd (cc)
tree-groups (number n) all is = absurd (cc)
tree-groups (string s) all is = absurd (cc)
tree-groups (object fields) all is = absurd (cc)

found-groups : (found : Option Data) (all : List (List ℕ))
    → (elim found [ None ↦ Some [] | Some groups ↦ groups_of_tree groups ]) ≡ Some all
    → are_groups all ≡ true
unfolding are_groups
found-groups None all is = ap are_groups (sym (same_Some [] all is))
found-groups (Some tree) all is = tree-groups tree all is

-- ---- a reader

record IsRead (tree : Data) (name : List ℕ) (version : ℕ) (reader : Reader) : Type 0 where
  token : token_in tree ≡ Some reader.token
  user : user_in tree ≡ Some reader.user
  groups : groups_in tree ≡ Some reader.groups
  named : reader.name ≡ name
  numbered : reader.version ≡ version

reader-parts : (tree : Data) (name : List ℕ) (version : ℕ) (reader : Reader)
    → reader_of tree name version ≡ Ok reader → IsRead tree name version reader
reader-parts tree name version reader is =
    let token = refused error.Token (token_in tree) _ reader is in
    let role = refused error.Role (role_in tree) _ reader token.2 in
    let user = refused error.User (user_in tree) _ reader role.2 in
    let groups = refused error.Groups (groups_in tree) _ reader user.2 in
    let same = same_Ok {E = ReaderError} _ reader groups.2 in
    record {
      token = token.1 ∙ ap (λ r. Some r.token) same;
      user = user.1 ∙ ap (λ r. Some r.user) same;
      groups = groups.1 ∙ ap (λ r. Some r.groups) same;
      named = sym (ap (λ r. r.name) same);
      numbered = sym (ap (λ r. r.version) same);
    }

pub ok-found : {A E : Type 0} (read : Result A E) (x : A) → result_ok read ≡ Some x → read ≡ Ok x
ok-found (Ok y) x is = ap Ok (same_Some y x is)
ok-found (Err e) x is = absurd (cc)

valid-reader : (tree : Data) (name : List ℕ) (version : ℕ) (reader : Reader) → is_whole tree ≡ true
    → IsRead tree name version reader → is_valid_reader reader ≡ true
valid-reader tree name version reader whole read =
    let token = found-passed is_token (text_in (codes "token") tree) reader.token read.token in
    let user = found-passed is_user (text_in (codes "user") tree) reader.user read.user in
    and_from _ _ (and_from _ _ token.1
    (and_from _ _ user.1 (text-utf8 (codes "user") tree reader.user whole user.0)))
    (found-groups (get (codes "groups") tree) reader.groups read.groups)

module _ (tree : Data) (whole : is_whole tree ≡ true) (row : ReaderState) where
  valid-named : (name : List ℕ) (version : ℕ) (live : Bool) → is_name name ≡ true
      → is_number version ≡ true → reader_named name version live tree ≡ Ok row
      → is_valid_reader_row row ≡ true
  unfolding is_valid_reader_row
  valid-named name version false named numbered is =
      ap is_valid_reader_row
      (sym (same_Ok {E = RowError} (record { name = name; version = version; live = None }) row is))
      ∙ and_from _ _ (and_from _ _ (and_from _ _ named numbered) refl) refl
  valid-named name version true named numbered is =
      let found = refused Bytes (result_ok (reader_of tree name version)) _ row is in
      let read =
      reader-parts tree name version found.0
      (ok-found (reader_of tree name version) found.0 found.1) in
      ap is_valid_reader_row (sym
      (same_Ok {E = RowError} (record { name = name; version = version; live = Some found.0 })
      row found.2))
      ∙ and_from _ _ (and_from _ _ (and_from _ _ named numbered)
      (and_from _ _ ((bytes_eq-Decides found.0.name name).1 read.named)
      (eq-eqb found.0.version version read.numbered)))
      (valid-reader tree name version found.0 whole read)

  pub valid-reader_row : reader_row_in tree ≡ Ok row → is_valid_reader_row row ≡ true
  unfolding reader_row_in
  valid-reader_row is =
      let name = refused Bytes (name_in (codes "name") tree) _ row is in
      let version = refused Bytes (version_in tree) _ row name.2 in
      let live =
      refused Bytes (flag_in tree) (λ live. reader_named name.0 version.0 live tree) row
      version.2 in
      valid-named name.0 version.0 live.0
      (found-passed is_name (text_in (codes "name") tree) name.0 name.1).1
      (found-passed is_number (number_in tree) version.0 version.1).1 live.2

-- a reader that a tree describes has the name and the number, and is a valid one
pub described-valid : (tree : Data) (name : List ℕ) (version : ℕ) (reader : Reader)
    → is_whole tree ≡ true → reader_of tree name version ≡ Ok reader
    → (reader.name ≡ name) × (reader.version ≡ version) × (is_valid_reader reader ≡ true)
described-valid tree name version reader whole is =
    let read = reader-parts tree name version reader is in
    (read.named, read.numbered, valid-reader tree name version reader whole read)
