-- What the rows of the table are, from the rules that a database obeys.
use Rattle.std.proofs.Common.{codes, ◌≡◌, inl, inr, ℕ, ℤ, pos, negsuc, ◌≤◌, Bool, true, false, not, ◌&&◌, List, [], ◌∷◌, None, Some, Ordering, Less, Equal, Greater, int_cmp, refl, sym, ap, ◌∙◌, drop, arith, true≢false}
use Rattle.std.specs.Ordering.{is_eq, is_ne, is_le, is_ge}
use Rattle.std.proofs.lemmas.Bool.{and_parts, not-true, cases_Bool}
use Rattle.std.proofs.lemmas.Bool.Decides.{nat_tests}
use Rattle.std.proofs.lemmas.Int.{ints}
use Rattle.std.proofs.lemmas.Cmp.{tied_itself}
use Rattle.std.proofs.lemmas.Map.Lookups.{exact_signed}
use Rattle.sqlite_value.specs.declared.value.Value.{Value}
use Rattle.sqlite_value.specs.declared.value.Value.TheVariants.{Null, Int, Real, Text, Blob}
use Rattle.sqlite_value.specs.declared.keys.Collation.{Collation}
use Rattle.sqlite_value.specs.declared.keys.Collation.TheVariants.{Binary, NoCase, RTrim}
use Rattle.sqlite_value.specs.Order.{Row, value_cmp}
use Rattle.sqlite_value.specs.Keys.{plain}
use Rattle.sqlite_value.proofs.OrderLemmas.{value_cmp_total, value_cmp-Int}
use Rattle.sqlite_trees.specs.Tree.{Trees, rowid}
use Rattle.sqlite_trees.specs.View.{is_int}
use Rattle.sqlite_sql.specs.Ops.{is_true, from_truth, binary, is_null, is_false}
use Rattle.sqlite_sql.specs.declared.ops.BinaryOp.TheVariants.{Compare, And}
use Rattle.sqlite_sql.specs.declared.ops.CompareOp.TheVariants.{Le, Ge}
use Rattle.sqlite_schema.specs.declared.schema.Kind.TheVariants as kind
use Rattle.sqlite_schema.specs.declared.schema.Constraint.TheVariants.{Datatype, NotNull, Check, Unique}
use Rattle.sqlite_schema.specs.Rules.{suits, is_of, are_typed, are_present, passes_checks, equal, differ, agree, clashes, Obeys}
use Rattle.sqlite_rules.specs.Lists.{Has}
use Rattle.sqlite_rules.specs.Edit.{id_in}
use Rattle.sqlite_rules.proofs.ListLemmas.{all_has, some_from}
use Rattle.sqlite_rules.proofs.TableLemmas.{int_is}
use Rattle.sqlite_rules.proofs.PlaceLemmas.{tied_same}
use Rattle.an_sqlite.specs.Written.{column_of, cells, written}
use Rattle.an_sqlite.proofs.RowForms.{IsCellRow, IsAt, AreCells}
use Rattle.an_sqlite.specs.Tells.{Rises}

int_of : (v : Value) → is_of kind.Integer v ≡ true → not (is_null v) ≡ true → (n : ℤ) × (v ≡ Int n)
int_of Null h k = absurd (true≢false (sym k))
int_of (Int n) h k = (n, refl)
int_of (Real x) h k = absurd (true≢false (sym h))
int_of (Text t) h k = absurd (true≢false (sym h))
int_of (Blob b) h k = absurd (true≢false (sym h))

blob_of : (v : Value) → is_of kind.Blob v ≡ true → not (is_null v) ≡ true
    → (b : List ℕ) × (v ≡ Blob b)
blob_of Null h k = absurd (true≢false (sym k))
blob_of (Int n) h k = absurd (true≢false (sym h))
blob_of (Real x) h k = absurd (true≢false (sym h))
blob_of (Text t) h k = absurd (true≢false (sym h))
blob_of (Blob b) h k = (b, refl)

no_less : (n : ℤ) → not (is_false (binary (Compare Ge Binary) (Int n) (Int (pos 0)))) ≡ true
    → (k : ℕ) × (n ≡ pos k)
unfolding binary
no_less (pos k) h = (k, refl)
no_less (negsuc k) h = absurd (true≢false (sym (rw (value_cmp-Int (negsuc k) (pos 0)) at h)))

low_is : (k : ℕ) → is_le (int_cmp (pos k) (pos 255)) ≡ true → k ≤ 255
low_is k h = grind (arith, ints, nat_tests)

no_below : (k : ℕ) → is_ge (int_cmp (pos k) (pos 0)) ≡ true
no_below k = grind (arith, ints, nat_tests)

within : (n : ℤ)
    → not (is_false (binary And (binary (Compare Ge Binary) (Int n) (Int (pos 0)))
    (binary (Compare Le Binary) (Int n) (Int (pos 255))))) ≡ true
    → (k : ℕ) × (n ≡ pos k) × (k ≤ 255)
unfolding binary
within (negsuc k) h = absurd (true≢false (sym (rw (value_cmp-Int (negsuc k) (pos 0)) at h)))
within (pos k) h = elim (cases_Bool (is_le (int_cmp (pos k) (pos 255)))) [
  | inl low ↦ (k, refl, low_is k low)
  | inr high ↦
      absurd (true≢false (sym
      (rw (value_cmp-Int (pos k) (pos 0), value_cmp-Int (pos k) (pos 255), no_below k, high) at h)))
]

from_values : (i a b c : Value) (m n : ℤ) (v : List ℕ) → a ≡ Int m → b ≡ Int n → c ≡ Blob v
    → is_int i ≡ true → passes_checks cells (i ∷ a ∷ b ∷ c ∷ []) ≡ true
    → IsCellRow (i ∷ a ∷ b ∷ c ∷ [])
from_values i a b c m n v is_a is_b is_c keyed checks =
    let tests = and_parts _ _ (rw (is_a, is_b) at checks) in
    let low = within m tests.0 in
    let up = no_less n (and_parts _ _ tests.1).0 in
    record {
      id = id_in i;
      tab = low.0;
      key = up.0;
      val = v;
      is = four (int_is i keyed) (is_a ∙ ap Int low.1) (is_b ∙ ap Int up.1) is_c;
      low = low.2;
    }
  where
    four : {a b c d e f g h : Value} → a ≡ e → b ≡ f → c ≡ g → d ≡ h
        → a ∷ b ∷ c ∷ d ∷ [] ≡ e ∷ f ∷ g ∷ h ∷ []
    four p q r s = rw (p, q, r, s) refl

pub cell_row : (r : Row) → is_int (rowid r) ≡ true
    → are_typed None 0 cells.columns (drop 1 r) ≡ true → are_present None 0 cells.columns r ≡ true
    → passes_checks cells r ≡ true → IsCellRow r
cell_row [] keyed typed present checks = absurd (true≢false (sym keyed))
cell_row (i ∷ []) keyed typed present checks = absurd (true≢false (sym present))
cell_row (i ∷ a ∷ []) keyed typed present checks =
    absurd (true≢false (sym (and_parts _ _ present).1))
cell_row (i ∷ a ∷ b ∷ []) keyed typed present checks =
    absurd (true≢false (sym (and_parts _ _ (and_parts _ _ present).1).1))
cell_row (i ∷ a ∷ b ∷ c ∷ d ∷ more) keyed typed present checks =
    absurd (true≢false (sym (never (suits (column_of (codes "tab") kind.Integer) a)
    (suits (column_of (codes "key") kind.Integer) b)
    (suits (column_of (codes "val") kind.Blob) c) typed)))
  where
    never : (x y z : Bool) → x && (y && (z && false)) ≡ true → false ≡ true
    never true true true h = h
    never true true false h = h
    never true false z h = h
    never false y z h = h
cell_row (i ∷ a ∷ b ∷ c ∷ []) keyed typed present checks =
    let t0 = and_parts _ _ typed in
    let t1 = and_parts _ _ t0.1 in
    let t2 = and_parts _ _ t1.1 in
    let p0 = and_parts _ _ present in
    let p1 = and_parts _ _ p0.1 in
    let p2 = and_parts _ _ p1.1 in
    let first = int_of a t0.0 p0.0 in
    let second = int_of b t1.0 p1.0 in
    let third = blob_of c t2.0 p2.0 in
    from_values i a b c first.0 second.0 third.0 first.1 second.1 third.1 keyed checks

pub equal_itself : (how : Collation) (n : ℤ) → equal how (Int n) (Int n) ≡ true
unfolding binary
equal_itself Binary n = rw (tied_itself value_cmp_total (Int n)) refl
equal_itself NoCase n = rw (tied_itself value_cmp_total (Int n)) refl
equal_itself RTrim n = rw (tied_itself value_cmp_total (Int n)) refl

eq_truth : (o : Ordering) (m n : ℤ) → int_cmp m n ≡ o → is_eq o ≡ true → m ≡ n
eq_truth Less m n e h = absurd (true≢false (sym h))
eq_truth Equal m n e h = exact_signed m n e
eq_truth Greater m n e h = absurd (true≢false (sym h))

pub truth_is : (b : Bool) → is_true (from_truth (Some b)) ≡ b
truth_is true = refl
truth_is false = refl

pub equal_is : (how : Collation) (m n : ℤ) → equal how (Int m) (Int n) ≡ true → m ≡ n
unfolding binary
equal_is Binary m n h =
    eq_truth (int_cmp m n) m n refl (sym (truth_is _) ∙ rw (value_cmp-Int m n) at h)
equal_is NoCase m n h =
    eq_truth (int_cmp m n) m n refl (sym (truth_is _) ∙ rw (value_cmp-Int m n) at h)
equal_is RTrim m n h =
    eq_truth (int_cmp m n) m n refl (sym (truth_is _) ∙ rw (value_cmp-Int m n) at h)

no_ne : (o : Ordering) → is_ne o ≡ false → o ≡ Equal
no_ne Less h = absurd (true≢false h)
no_ne Equal h = refl
no_ne Greater h = absurd (true≢false h)

tied_if_not_differ : (m n : ℤ) → differ (Int m) (Int n) ≡ false → value_cmp (Int m) (Int n) ≡ Equal
unfolding binary
tied_if_not_differ m n h = no_ne _ (sym (truth_is _) ∙ h)

pub are_cells : (db : Trees) → Rises (db 0) → Obeys written db → AreCells (db 0)
are_cells db rises obeys = record { typed = typed; once = once }
  where
    typed : (r : Row) → Has (db 0) r → IsCellRow r
    typed r h =
        let d = and_parts _ _ (all_has _ (db 0) r (obeys.rules Datatype).0 h) in
        cell_row r (all_has _ (db 0) r rises.1 h) d.0 (all_has _ (db 0) r (obeys.rules NotNull).0 h)
        (all_has _ (db 0) r (obeys.rules Check).0 h)

    once : (tab key : ℕ) (r s : Row) → Has (db 0) r → Has (db 0) s → IsAt tab key r → IsAt tab key s
        → r ≡ s
    once tab key r s h k p q =
        let alone : clashes plain (1 ∷ 2 ∷ []) (db 0) s ≡ false =
        not-true _ (and_parts _ _ (all_has _ (db 0) s (obeys.rules Unique).0 k)).0 in
        let here = some_other alone in
        tied_same (db 0) r s rises.0 h k
        (rw (
          int_is (rowid r) (all_has _ (db 0) r rises.1 h),
          int_is (rowid s) (all_has _ (db 0) s rises.1 k),
        ) here)
      where
        same : agree plain (1 ∷ 2 ∷ []) r (1 ∷ 2 ∷ []) s ≡ true
        same =
            rw (
              p.tab_is,
              p.key_is,
              q.tab_is,
              q.key_is,
              equal_itself _ (pos tab),
              equal_itself _ (pos key),
            ) refl

        apart : differ (rowid r) (rowid s) ≡ true → clashes plain (1 ∷ 2 ∷ []) (db 0) s ≡ true
        apart d =
            some_from (λ other.
            agree plain (1 ∷ 2 ∷ []) other (1 ∷ 2 ∷ []) s && differ (rowid other) (rowid s))
            (db 0) r h (rw (same, d) refl)

        some_other : clashes plain (1 ∷ 2 ∷ []) (db 0) s ≡ false
            → value_cmp (Int (id_in (rowid r))) (Int (id_in (rowid s))) ≡ Equal
        some_other alone = elim (cases_Bool (differ (rowid r) (rowid s))) [
          | inl d ↦ absurd (true≢false (sym (apart d) ∙ alone))
          | inr d ↦
              tied_if_not_differ _ _ (rw (
                int_is (rowid r) (all_has _ (db 0) r rises.1 h),
                int_is (rowid s) (all_has _ (db 0) s rises.1 k),
              ) at d)
        ]
