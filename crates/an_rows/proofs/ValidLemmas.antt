-- What is read from bytes is a valid row, whose text the bytes are.
use Rattle.std.proofs.Common.{◌≡◌, ℕ, List, Bool, true, ◌&&◌, bytes_eq, Option, Some, None, Result, Ok, Err, option_and_then, nat_cmp, Less, Equal, Greater, Ordering, inl, inr, refl, sym, ap, subst, ◌∙◌}
use Rattle.std.proofs.lemmas.Bool.{cases_Bool, and_parts, cond-true, cond-false}
use Rattle.std.proofs.lemmas.Option.{same_Some}
use Rattle.std.proofs.lemmas.Slice.Eq.{bytes_eq-Decides}
use Rattle.std.specs.Cmp.Lexicographic.{slice_cmp}
use Rattle.std.specs.Ordering.{match_ordering}
use Rattle.std.specs.Result.{result_ok}
use Rattle.std.specs.Str.{is_utf8}
use Rattle.serde_json.specs.Data.{Data, null, boolean, number, string, array, object, Members, no_members, member}
use Rattle.serde_json.specs.Find.{get, get_member, as_str}
use Rattle.an_base.specs.Member.{text_in}
use Rattle.an_base.specs.Outcome.{only_if, or_refuse}
use Rattle.an_base.specs.Tree.{ascend, names, is_whole, members_are_whole, json_of}
use Rattle.an_base.specs.Value.{if_whole, value_of}
use Rattle.an_base.specs.declared.tree.TreeError.TheVariants.{Json, NotWhole}
use Rattle.an_state.specs.declared.entry.Row.{Row}
use Rattle.an_rows.specs.RowTree.{row_text}
use Rattle.an_rows.specs.RowRead.{then_read, if_its_text}
use Rattle.an_rows.specs.Valid.{if_any}
use Rattle.an_rows.specs.declared.format.Format.{Format}
use Rattle.an_rows.specs.declared.refusal.RowError.{RowError}
use Rattle.an_rows.specs.declared.refusal.RowError.TheVariants.{Bytes}

-- ---- what was read, where something came of it

pub refused : {A B E : Type 0} (refusal : E) (found : Option A) (go : A → Result B E) (y : B)
    → or_refuse refusal found go ≡ Ok y → (x : A) × (found ≡ Some x) × (go x ≡ Ok y)
refused refusal None go y is = absurd (cc)
refused refusal (Some x) go y is = (x, refl, is)

pub was_read : {A B : Type 0} (read : Result A RowError) (go : A → Result B RowError) (y : B)
    → then_read read go ≡ Ok y → (x : A) × (read ≡ Ok x) × (go x ≡ Ok y)
was_read (Ok x) go y is = (x, refl, is)
was_read (Err refusal) go y is = absurd (cc)

pub same_Ok : {A E : Type 0} (x y : A) → ◌≡◌ {A = Result A E} (Ok x) (Ok y) → x ≡ y
same_Ok x y is = cc

-- what a test lets through passes it
pub only-passed : {A : Type 0} (test : A → Bool) (x y : A) → only_if test x ≡ Some y
    → (x ≡ y) × (test y ≡ true)
only-passed {A = A} test x y is = elim (cases_Bool (test x)) [
  | inl h ↦
      let same : x ≡ y = same_Some x y (sym (cond-true _ _ _ h) ∙ is) in
      (same, subst (λ z. test z ≡ true) same h)
  | inr h ↦
      let none : ◌≡◌ {A = Option A} None (Some y) = sym (cond-false _ _ _ h) ∙ is in absurd (cc)
]

pub found-passed : {A : Type 0} (test : A → Bool) (found : Option A) (y : A)
    → option_and_then (only_if test) found ≡ Some y → (found ≡ Some y) × (test y ≡ true)
found-passed test None y is = absurd (cc)
found-passed test (Some x) y is = let both = only-passed test x y is in (ap Some both.0, both.1)

pub any-passed : {A : Type 0} (test : A → Bool) (found : Option A)
    → if_any test (option_and_then (only_if test) found) ≡ true
any-passed test None = refl
any-passed test (Some x) = elim (cases_Bool (test x)) [
  | inl h ↦ ap (if_any test) (cond-true _ (Some x) None h) ∙ h
  | inr h ↦ ap (if_any test) (cond-false _ (Some x) None h)
]

-- ---- the parts of a whole value are whole

by_order : (o : Ordering) (later : Option Data) (d value : Data)
    → match_ordering o later (Some d) later ≡ Some value → is_whole d ≡ true
    → (later ≡ Some value → is_whole value ≡ true) → is_whole value ≡ true
by_order Less later d value is whole rest = rest is
by_order Equal later d value is whole rest = ap is_whole (sym (same_Some d value is)) ∙ whole
by_order Greater later d value is whole rest = rest is

get_member-whole : (name : List ℕ) (fields : Members) (value : Data)
    → members_are_whole fields ≡ true → get_member name fields ≡ Some value → is_whole value ≡ true
get_member-whole name no_members value whole is = absurd (cc)
get_member-whole name (member other d fields) value whole is =
    let parts = and_parts (is_utf8 other && is_whole d) _ whole in
    by_order (slice_cmp nat_cmp name other) (get_member name fields) d value is
    (and_parts (is_utf8 other) _ parts.0).1 (get_member-whole name fields value parts.1)

pub get-whole : (name : List ℕ) (tree value : Data) → is_whole tree ≡ true
    → get name tree ≡ Some value → is_whole value ≡ true
get-whole name null value whole is = absurd (cc)
get-whole name (boolean b) value whole is = absurd (cc)
get-whole name (number n) value whole is = absurd (cc)
get-whole name (string text) value whole is = absurd (cc)
get-whole name (array items) value whole is = absurd (cc)
get-whole name (object fields) value whole is =
    get_member-whole name fields value (and_parts (ascend (names fields)) _ whole).1 is

as_str-whole : (found : Option Data) (text : List ℕ)
    → ((value : Data) → found ≡ Some value → is_whole value ≡ true)
    → option_and_then as_str found ≡ Some text → is_utf8 text ≡ true
as_str-whole None text whole is = absurd (cc)
as_str-whole (Some null) text whole is = absurd (cc)
as_str-whole (Some (boolean b)) text whole is = absurd (cc)
as_str-whole (Some (number n)) text whole is = absurd (cc)
as_str-whole (Some (string s)) text whole is =
    ap is_utf8 (sym (same_Some s text is)) ∙ whole (string s) refl
as_str-whole (Some (array items)) text whole is = absurd (cc)
as_str-whole (Some (object fields)) text whole is = absurd (cc)

-- a text in a whole value is UTF-8
pub text-utf8 : (name : List ℕ) (tree : Data) (text : List ℕ) → is_whole tree ≡ true
    → text_in name tree ≡ Some text → is_utf8 text ≡ true
text-utf8 name tree text whole is =
    as_str-whole (get name tree) text (λ value found. get-whole name tree value whole found) is

-- ---- the value and the text

whole-found : (found : Option Data) (tree : Data)
    → result_ok (or_refuse Json found if_whole) ≡ Some tree → is_whole tree ≡ true
whole-found None tree is = absurd (cc)
whole-found (Some value) tree is = elim (cases_Bool (is_whole value)) [
  | inl h ↦
      let same : value ≡ tree =
      same_Some value tree
      (sym (ap result_ok (cond-true (is_whole value) (Ok value) (Err NotWhole) h)) ∙ is) in
      subst (λ t. is_whole t ≡ true) same h
  | inr h ↦
      let none : ◌≡◌ {A = Option Data} None (Some tree) =
      sym (ap result_ok (cond-false (is_whole value) (Ok value) (Err NotWhole) h)) ∙ is in
      absurd (cc)
]

pub value-whole : (bytes : List ℕ) (tree : Data) → result_ok (value_of bytes) ≡ Some tree
    → is_whole tree ≡ true
unfolding value_of
value-whole bytes tree is = whole-found (json_of bytes) tree is

pub its-text : (format : Format) (bytes : List ℕ) (row r : Row)
    → if_its_text format bytes row ≡ Ok r → (row ≡ r) × (row_text format r ≡ bytes)
its-text format bytes row r is = elim (cases_Bool (bytes_eq (row_text format row) bytes)) [
  | inl h ↦
      let same : row ≡ r = same_Ok {E = RowError} row r (sym (cond-true _ _ _ h) ∙ is) in
      (same, ap (row_text format) (sym same) ∙ (bytes_eq-Decides (row_text format row) bytes).0 h)
  | inr h ↦
      let none : ◌≡◌ {A = Result Row RowError} (Err Bytes) (Ok r) = sym (cond-false _ _ _ h) ∙ is in
      absurd (cc)
]
