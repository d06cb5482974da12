-- The text of a valid row of a reader, a manifest or an annotation reads back as the row.
use Rattle.std.proofs.Common.{◌≡◌, ℕ, suc, ◌^◌, max, ℤ, pos, negsuc, List, [], ◌∷◌, ◌++◌, length, Bool, true, false, not, ◌&&◌, nat_lt, nat_le, codes, bytes_eq, Option, Some, None, Result, Ok, option_and_then, refl, sym, ap, ◌∙◌, arith}
use Rattle.std.proofs.lemmas.Bool.{and_from, and_parts, cond-true}
use Rattle.std.proofs.Common.{eqb-true}
use Rattle.std.proofs.lemmas.Bool.Decides.{nat_tests}
use Rattle.std.proofs.lemmas.List.{append_assoc, append-nil}
use Rattle.std.proofs.lemmas.Slice.Eq.{bytes_eq-Decides}
use Rattle.std.specs.Result.{result_ok}
use Rattle.serde_json.specs.Data.{boolean, number, string, array, object, unsigned, Members, no_members, items_depth}
use Rattle.serde_json.specs.Events.{items_len}
use Rattle.serde_json.specs.Find.{as_i64, of_integer}
use Rattle.serde_json.specs.Written.{compact_text}
use Rattle.an_base.specs.Moment.{is_moment}
use Rattle.an_base.specs.Name.{is_name}
use Rattle.an_base.specs.Outcome.{only_if, or_refuse}
use Rattle.an_base.specs.Token.{is_token}
use Rattle.an_base.specs.Tree.{ascend, names, items_are_whole}
use Rattle.an_base.specs.Value.{value_of}
use Rattle.an_policy.specs.Audience.{is_among, is_group_name}
use Rattle.an_policy.specs.Reader.{is_user, groups_with, groups_in, token_in, role_in, user_in, role_named, reader_of}
use Rattle.an_policy.specs.declared.reader.Reader.{Reader}
use Rattle.an_policy.specs.declared.reader.ReaderError.TheVariants as error
use Rattle.an_policy.specs.declared.reader.Role.{Role}
use Rattle.an_policy.specs.declared.reader.Role.TheVariants as role
use Rattle.an_state.specs.Commands.{is_number}
use Rattle.an_state.specs.Rows.{reader_agrees}
use Rattle.an_state.specs.Sound.{agrees}
use Rattle.an_state.specs.State.{ReaderState}
use Rattle.an_state.specs.declared.entry.Row.{Row}
use Rattle.an_state.specs.declared.entry.Row.TheVariants as kept
use Rattle.an_rows.specs.RowTree.{text_items, role_text, live_reader_members, reader_tombstone_members, row_members, row_text, table_of}
use Rattle.an_rows.specs.Valid.{are_groups, are_groups_behind, is_iri, is_valid_reader, is_valid_reader_row, if_any}
use Rattle.an_rows.specs.RowRead.{then_read, name_in, version_in, flag_in, reader_named, reader_row_in, row_in, row_of_text}
use Rattle.an_rows.specs.declared.format.Format.{Format}
use Rattle.an_rows.specs.declared.refusal.RowError.{RowError}
use Rattle.an_rows.specs.declared.refusal.RowError.TheVariants.{Bytes}
use Rattle.an_rows.proofs.WholeLemmas.{Fine, FineMembers, fine-none, fine-member, fine-text, fine-flag, fine-number, name-utf8, token-utf8, role-utf8, value-read}

-- ---- stages

pub next : {A B E : Type 0} (refusal : E) (found : Option A) (x : A) (go : A → Result B E)
    → found ≡ Some x → or_refuse refusal found go ≡ go x
next refusal found x go is = ap (λ o. or_refuse refusal o go) is

pub read_then : {A B : Type 0} (read : Result A RowError) (x : A) (go : A → Result B RowError)
    → read ≡ Ok x → then_read read go ≡ go x
read_then read x go is = ap (λ r. then_read r go) is

pub passing : {A : Type 0} (test : A → Bool) (x : A) → test x ≡ true → only_if test x ≡ Some x
passing test x h = cond-true _ _ _ h

pub number-small : (n : ℕ) → is_number n ≡ true → nat_lt n (2 ^ 64) ≡ true
unfolding is_number
number-small n h = grind (arith, nat_tests)

moment-small : (n : ℕ) → is_moment (pos n) ≡ true → nat_lt n (2 ^ 63) ≡ true
unfolding is_moment
moment-small n h = grind (arith, nat_tests)

-- a moment is read from its number
pub moment-read : (m : ℤ) → is_moment m ≡ true
    → option_and_then (only_if is_moment) (as_i64 (of_integer m)) ≡ Some m
moment-read (pos n) h =
    ap (option_and_then (only_if is_moment)) (cond-true _ _ _ (moment-small n h))
    ∙ passing is_moment (pos n) h
moment-read (negsuc n) h = passing is_moment (negsuc n) h

-- ---- groups

groups-read : (before names : List (List ℕ)) → are_groups_behind before names ≡ true
    → groups_with before (text_items names) ≡ Some (before ++ names)
groups-read before [] h = ap Some (sym (append-nil before))
groups-read before (name ∷ names) h =
    let parts = and_parts (is_group_name name && not (is_among before name)) _ h in
    ap (option_and_then (λ its. groups_with (before ++ its ∷ []) (text_items names)))
    (passing (λ its. is_group_name its && not (is_among before its)) name parts.0)
    ∙ groups-read (before ++ name ∷ []) names parts.1
    ∙ ap Some (append_assoc before (name ∷ []) names)

items_len-texts : (names : List (List ℕ)) → items_len (text_items names) ≡ length names
items_len-texts [] = refl
items_len-texts (name ∷ names) = ap suc (items_len-texts names)

groups-whole : (before names : List (List ℕ)) → are_groups_behind before names ≡ true
    → items_are_whole (text_items names) ≡ true
groups-whole before [] h = refl
groups-whole before (name ∷ names) h =
    let parts = and_parts (is_group_name name && not (is_among before name)) _ h in
    and_from _ _ (name-utf8 name (and_parts _ _ (and_parts _ _ (and_parts _ _ parts.0).0).0).0)
    (groups-whole (before ++ name ∷ []) names parts.1)

pub texts-shallow : (names : List (List ℕ)) → items_depth (text_items names) ≡ 0
texts-shallow [] = refl
texts-shallow (name ∷ names) = ap (λ n. max 0 n) (texts-shallow names)

fine-groups : (names : List (List ℕ)) → are_groups names ≡ true → Fine (array (text_items names))
unfolding are_groups
fine-groups names h = record {
  whole = groups-whole [] names (and_parts _ _ h).1;
  shallow = omega (arith, texts-shallow names);
}

role-named : (its : Role) → role_named (role_text its) ≡ Some its
role-named role.Reader = refl
role-named role.Writer = refl
role-named role.Curator = refl

reader-built : (name : List ℕ) (version : ℕ) (token : Option (List ℕ)) (role : Option Role)
    (user : Option (List ℕ)) (groups : Option (List (List ℕ))) (reader : Reader)
    → token ≡ Some reader.token → role ≡ Some reader.role → user ≡ Some reader.user
    → groups ≡ Some reader.groups
    → or_refuse {B = Reader} error.Token token
    (λ token. or_refuse error.Role role
    (λ role. or_refuse error.User user (λ user. or_refuse error.Groups groups (λ groups.
    Ok (record {
      name = name;
      version = version;
      token = token;
      role = role;
      user = user;
      groups = groups;
    })))))
    ≡ Ok (record {
      name = name;
      version = version;
      token = reader.token;
      role = reader.role;
      user = reader.user;
      groups = reader.groups;
    })
reader-built name version token role user groups reader a b c d = rw (a, b, c, d) refl

same-reader : (reader : Reader) (name : List ℕ) (version : ℕ) → reader.name ≡ name
    → reader.version ≡ version
    → ◌≡◌ {A = Reader} (record {
      name = name;
      version = version;
      token = reader.token;
      role = reader.role;
      user = reader.user;
      groups = reader.groups;
    }) reader
same-reader reader name version e f =
    λ i. record {
      name = sym e i;
      version = sym f i;
      token = reader.token;
      role = reader.role;
      user = reader.user;
      groups = reader.groups;
    }

-- ---- a reader

module _ (row : ReaderState) (reader : Reader) (live : row.live ≡ Some reader)
    (valid : is_valid_reader reader ≡ true) (named : is_name row.name ≡ true)
    (numbered : is_number row.version ≡ true) where
  fine-reader : FineMembers (live_reader_members row reader)
  unfolding live_reader_members
  fine-reader =
      let both = and_parts (is_token reader.token && is_iri reader.user) _ valid in
      let first = and_parts (is_token reader.token) _ both.0 in
      fine-member (codes "groups") (array (text_items reader.groups)) _ refl
      (fine-groups reader.groups both.1)
      (fine-member (codes "live") (boolean true) _ refl (fine-flag true)
      (fine-member (codes "name") (string row.name) _ refl
      (fine-text row.name (name-utf8 row.name named))
      (fine-member (codes "role") (string (role_text reader.role)) _ refl
      (fine-text (role_text reader.role) (role-utf8 reader.role))
      (fine-member (codes "token") (string reader.token) _ refl
      (fine-text reader.token (token-utf8 reader.token first.0))
      (fine-member (codes "user") (string reader.user) _ refl
      (fine-text reader.user (and_parts _ _ first.1).1)
      (fine-member (codes "version") (number (unsigned row.version)) no_members refl
      (fine-number row.version (number-small row.version numbered)) fine-none))))))

  order-reader : ascend (names (live_reader_members row reader)) ≡ true
  unfolding live_reader_members
  order-reader = refl

  name-reader : name_in (codes "name") (object (live_reader_members row reader)) ≡ Some row.name
  unfolding live_reader_members
  name-reader = passing is_name row.name named

  version-reader : version_in (object (live_reader_members row reader)) ≡ Some row.version
  unfolding live_reader_members
  version-reader = passing is_number row.version numbered

  flag-reader : flag_in (object (live_reader_members row reader)) ≡ Some true
  unfolding live_reader_members
  flag-reader = refl

  reader-read : reader_of (object (live_reader_members row reader)) row.name row.version
      ≡ Ok (record {
        name = row.name;
        version = row.version;
        token = reader.token;
        role = reader.role;
        user = reader.user;
        groups = reader.groups;
      })
  unfolding live_reader_members are_groups
  reader-read =
      let both = and_parts (is_token reader.token && is_iri reader.user) _ valid in
      let first = and_parts (is_token reader.token) _ both.0 in
      let groups = and_parts (nat_le (length reader.groups) 64) _ both.1 in
      let few : nat_le (items_len (text_items reader.groups)) 64 ≡ true =
      ap (λ n. nat_le n 64) (items_len-texts reader.groups) ∙ groups.0 in
      reader-built row.name row.version (token_in (object (live_reader_members row reader)))
      (role_in (object (live_reader_members row reader)))
      (user_in (object (live_reader_members row reader)))
      (groups_in (object (live_reader_members row reader))) reader
      (passing is_token reader.token first.0) (role-named reader.role)
      (passing is_user reader.user (and_parts _ _ first.1).0)
      (cond-true _ _ _ few ∙ groups-read [] reader.groups groups.1)

  row-reader : agrees row ≡ true → reader_row_in (object (live_reader_members row reader)) ≡ Ok row
  unfolding reader_row_in
  row-reader agree =
      let tree = object (live_reader_members row reader) in
      let agreed =
      and_parts (bytes_eq reader.name row.name) _
      (sym (ap (reader_agrees row.name row.version) live) ∙ agree) in
      let same =
      same-reader reader row.name row.version ((bytes_eq-Decides reader.name row.name).0 agreed.0)
      (eqb-true _ _ agreed.1) in
      next Bytes (name_in (codes "name") tree) row.name _ name-reader
      ∙ next Bytes (version_in tree) row.version _ version-reader
      ∙ next Bytes (flag_in tree) true
      (λ flag. reader_named row.name row.version flag tree) flag-reader
      ∙ next Bytes (result_ok (reader_of tree row.name row.version)) reader _
      (ap result_ok reader-read ∙ ap Some same)
      ∙ ap (λ its. Ok (record { name = row.name; version = row.version; live = its })) (sym live)

module _ (row : ReaderState) (named : is_name row.name ≡ true)
    (numbered : is_number row.version ≡ true) where
  fine-reader_tombstone : FineMembers (reader_tombstone_members row)
  unfolding reader_tombstone_members
  fine-reader_tombstone =
      fine-member (codes "live") (boolean false) _ refl (fine-flag false)
      (fine-member (codes "name") (string row.name) _ refl
      (fine-text row.name (name-utf8 row.name named))
      (fine-member (codes "version") (number (unsigned row.version)) no_members refl
      (fine-number row.version (number-small row.version numbered)) fine-none))

  order-reader_tombstone : ascend (names (reader_tombstone_members row)) ≡ true
  unfolding reader_tombstone_members
  order-reader_tombstone = refl

  row-reader_tombstone : row.live ≡ None
      → reader_row_in (object (reader_tombstone_members row)) ≡ Ok row
  unfolding reader_row_in reader_tombstone_members
  row-reader_tombstone dead =
      let tree = object (reader_tombstone_members row) in
      next Bytes (name_in (codes "name") tree) row.name _ (passing is_name row.name named)
      ∙ next Bytes (version_in tree) row.version _ (passing is_number row.version numbered)
      ∙ next Bytes (flag_in tree) false (λ flag. reader_named row.name row.version flag tree) refl
      ∙ ap (λ its. Ok (record { name = row.name; version = row.version; live = its })) (sym dead)

-- ---- any row

-- a row whose members are whole, ascend and are read is read from its text
pub read-from : (format : Format) (row : Row) (members : Members) → row_members format row ≡ members
    → FineMembers members → ascend (names members) ≡ true
    → row_in format (table_of row) (object members) ≡ Ok row
    → row_of_text format (table_of row) (row_text format row) ≡ Ok row
unfolding row_of_text
read-from format row members same fine order read =
    let value : value_of (row_text format row) ≡ Ok (object members) = unfold row_text in
    ap (λ m. value_of (compact_text (object m))) same ∙ value-read members fine order in
    next Bytes (result_ok (value_of (row_text format row))) (object members) _ (ap result_ok value)
    ∙ read_then (row_in format (table_of row) (object members)) row _ read
    ∙ cond-true _ _ _ ((bytes_eq-Decides (row_text format row) (row_text format row)).1 refl)

abbrev Reads : Format → ReaderState → Type 0
Reads format row = row_of_text format 1 (row_text format (kept.Reader row)) ≡ Ok (kept.Reader row)

reads-reader : (format : Format) (row : ReaderState) (live : Option Reader) → row.live ≡ live
    → is_valid_reader_row row ≡ true → Reads format row
unfolding is_valid_reader_row
reads-reader format row None is valid =
    let parts = and_parts (is_name row.name && is_number row.version && agrees row) _ valid in
    let first = and_parts (is_name row.name && is_number row.version) _ parts.0 in
    let both = and_parts (is_name row.name) _ first.0 in
    read-from format (kept.Reader row) (reader_tombstone_members row)
    (ap (λ live. elim live
    [ None ↦ reader_tombstone_members row | Some reader ↦ live_reader_members row reader ]) is)
    (fine-reader_tombstone row both.0 both.1) (order-reader_tombstone row both.0 both.1)
    (read_then (reader_row_in (object (reader_tombstone_members row))) row _
    (row-reader_tombstone row both.0 both.1 is))
reads-reader format row (Some reader) is valid =
    let parts = and_parts (is_name row.name && is_number row.version && agrees row) _ valid in
    let first = and_parts (is_name row.name && is_number row.version) _ parts.0 in
    let both = and_parts (is_name row.name) _ first.0 in
    let lives = sym (ap (if_any is_valid_reader) is) ∙ parts.1 in
    read-from format (kept.Reader row) (live_reader_members row reader)
    (ap (λ live. elim live
    [ None ↦ reader_tombstone_members row | Some reader ↦ live_reader_members row reader ]) is)
    (fine-reader row reader is lives both.0 both.1) (order-reader row reader is lives both.0 both.1)
    (read_then (reader_row_in (object (live_reader_members row reader))) row _
    (row-reader row reader is lives both.0 both.1 first.1))

pub reader-reads-back : (format : Format) (row : ReaderState) → is_valid_reader_row row ≡ true
    → Reads format row
reader-reads-back format row valid = reads-reader format row row.live refl valid
