-- What the writes of the rows are of the cells, and which cell the least row is.
use Rattle.std.proofs.Common.{◌≡◌, ◌⊎◌, inl, inr, ℕ, zero, suc, pos, ◌<◌, true, false, not, ◌&&◌, List, [], ◌∷◌, length, get_or, All, Some, Ordering, Less, Equal, Greater, ◌==◌, int_cmp, refl, sym, ap, subst, ◌∙◌, arith, true≢false}
use Rattle.std.specs.Ordering.{is_gt, is_eq, ordering_then}
use Rattle.std.specs.List.{list_any}
use Rattle.std.proofs.lemmas.Bool.{cases_Bool, not-true}
use Rattle.std.proofs.lemmas.Bool.Decides.{nat_tests}
use Rattle.std.proofs.lemmas.Int.{ints}
use Rattle.std.proofs.lemmas.Cmp.{tied_itself}
use Rattle.sqlite_value.specs.declared.value.Value.TheVariants.{Int}
use Rattle.sqlite_value.specs.Order.{Row, column}
use Rattle.sqlite_value.proofs.OrderLemmas.{value_cmp_total, value_cmp-Int}
use Rattle.sqlite_sql.specs.Query.{key_cmp}
use Rattle.sqlite_trees.specs.Tree.{rowid, has_rowid, without_rowid}
use Rattle.sqlite_trees.specs.declared.store.Shape.TheVariants as shape
use Rattle.sqlite_trees.proofs.TreeLemmas.{IsShaped-put_row, IsShaped-filter}
use Rattle.sqlite_rules.specs.Lists.{Has}
use Rattle.sqlite_rules.specs.Edit.{id_in, next_rowid}
use Rattle.sqlite_rules.proofs.ListLemmas.{all_has, has_at, has_filtered, has_kept}
use Rattle.sqlite_rules.proofs.TableLemmas.{int_is, put_has, has_put, put_all_keeps as put_row_keeps}
use Rattle.sqlite_rules.proofs.PlaceLemmas.{tied_same}
use Rattle.an_keep.specs.declared.cell.Cell.{Cell}
use Rattle.an_keep.specs.Cells.{comes_before, is_at, is_behind, Ascend, first_of, put_cell, take_cell}
use Rattle.an_keep.proofs.CellLemmas.{put-ascends, take-ascends}
use Rattle.an_sqlite.specs.Statements.{key, keys, shown, IsLeastOf}
use Rattle.an_sqlite.specs.Cells.{cell_of, table}
use Rattle.an_sqlite.specs.Cells.{shown_cell}
use Rattle.an_sqlite.proofs.RowForms.{row_of, IsCellRow, IsAt, AreCells, Puts, Takes}
use Rattle.an_sqlite.specs.Tells.{Rises}
use Rattle.an_sqlite.proofs.CellSetLemmas.{at_itself, has_new, has_old, put_cell_has, same_cells, first_is_least, put_all-ascends, put_all_from, put_all_has}

same_at : (a b c d : ℕ) → (a == c) && (b == d) ≡ true → (a ≡ c) × (b ≡ d)
same_at a b c d h = (grind (arith, nat_tests), grind (arith, nat_tests))

at_itself_nat : (a b : ℕ) → (a == a) && (b == b) ≡ true
at_itself_nat a b = grind (arith, nat_tests)

-- a row stands at the table and key of its cell
pub at_of : (tab key : ℕ) (r : Row) → IsCellRow r → is_at tab key (cell_of r) ≡ true
    → IsAt tab key r
at_of tab key r row h =
    let same =
    same_at row.tab row.key tab key (subst (λ x. is_at tab key (cell_of x) ≡ true) row.is h) in
    record {
      tab_is = ap (λ x. column x 1) row.is ∙ ap (λ n. Int (pos n)) same.0;
      key_is = ap (λ x. column x 2) row.is ∙ ap (λ n. Int (pos n)) same.1;
    }

pub of_at : (tab key : ℕ) (r : Row) → IsAt tab key r → is_at tab key (cell_of r) ≡ true
of_at tab key r at = rw (at.tab_is, at.key_is) (at_itself_nat tab key)

off_of : (tab key : ℕ) (r : Row) → IsCellRow r → (IsAt tab key r → ⊥)
    → is_at tab key (cell_of r) ≡ false
off_of tab key r row off = elim (cases_Bool (is_at tab key (cell_of r)))
    [ inl at ↦ absurd (off (at_of tab key r row at)) | inr no_at ↦ no_at ]

module _ (rows : List Row) (are : AreCells rows) where
  once : (y z : Row) → Has rows y → Has rows z
      → is_at (cell_of z).tab (cell_of z).key (cell_of y) ≡ true → cell_of y ≡ cell_of z
  once y z h k at =
      let own = at_of (cell_of z).tab (cell_of z).key z (are.typed z k) (at_itself (cell_of z)) in
      ap cell_of (are.once (cell_of z).tab (cell_of z).key y z h k
      (at_of (cell_of z).tab (cell_of z).key y (are.typed y h) at) own)

  pub table_has : (r : Row) → Has rows r → Has (table rows) (cell_of r)
  table_has r h = put_all_has cell_of rows [] r h once

pub table_ascends : (rows : List Row) → Ascend (table rows)
table_ascends rows = put_all-ascends cell_of rows [] refl

pub table_from : (rows : List Row) (c : Cell) → Has (table rows) c
    → (r : Row) × Has rows r × (c ≡ cell_of r)
table_from rows c h =
    elim (put_all_from cell_of rows [] c refl h) [ inl none ↦ absurd none | inr some ↦ some ]

is_equal : (o : Ordering) → is_eq o ≡ true → o ≡ Equal
is_equal Less h = absurd (true≢false (sym h))
is_equal Equal h = refl
is_equal Greater h = absurd (true≢false (sym h))

-- ---- a row put

none_left : (id : _) (rows : List Row) → list_any (has_rowid id) (without_rowid id rows) ≡ false
none_left id [] = refl
none_left id (r ∷ rows) = elim (cases_Bool (has_rowid id r))
    [ inl here ↦ rw here (none_left id rows) | inr other ↦ rw (other, other) (none_left id rows) ]

module _ (tab key : ℕ) (val : List ℕ) (old new : List Row) (rises : Rises old)
    (are : AreCells old) where
  abbrev put : Cell
  put = record { tab = tab; key = key; val = val }

  pub record PutsOnly : Type 0 where
    pub sound : (x : Row) → Has new x → (cell_of x ≡ put) ⊎ (Has old x × (IsAt tab key x → ⊥))
    pub there : (x : Row) × Has new x × (cell_of x ≡ put)
    pub kept : (x : Row) → Has old x → (IsAt tab key x → ⊥) → Has new x
    pub rise : Rises new

  pub puts_only : Puts tab key val old new → PutsOnly
  puts_only (inl a) =
      let n = row_of (next_rowid old) tab key val in record {
        sound =
            λ x h. elim (put_has n old x (subst (λ l. Has l x) a.is h))
            [ inl same ↦ inl (ap cell_of same) | inr was ↦ inr (was, a.none x was) ];
        there = (n, subst (λ l. Has l n) (sym a.is) (has_put n old), refl);
        kept =
            λ x h off.
            subst (λ l. Has l x) (sym a.is) (put_row_keeps (n ∷ []) old x (rw a.free refl) h);
        rise = subst Rises (sym a.is) (IsShaped-put_row n old refl rises);
      }
  puts_only (inr p) =
      let id = id_in (rowid p.row) in
      let n = row_of id tab key val in
      let left = without_rowid id old in
      let row_is = int_is (rowid p.row) (all_has _ old p.row rises.1 p.listed) in
      let itself : has_rowid id p.row ≡ true =
      rw row_is (ap is_eq (tied_itself value_cmp_total (Int id))) in
      let off =
      λ (x : Row) (h : Has left x). let was = has_filtered _ old x h in λ (at : IsAt tab key x).
      true≢false (sym itself
      ∙ ap (has_rowid id) (sym (are.once tab key x p.row was.0 p.listed at p.at))
      ∙ not-true _ was.1) in
      record {
        sound =
            λ x h. elim (put_has n left x (subst (λ l. Has l x) p.is h)) [
              | inl same ↦ inl (ap cell_of same)
              | inr was ↦ inr ((has_filtered _ old x was).0, off x was)
            ];
        there = (n, subst (λ l. Has l n) (sym p.is) (has_put n left), refl);
        kept =
            λ x h away. subst (λ l. Has l x) (sym p.is)
            (put_row_keeps (n ∷ []) left x (rw (none_left id old) refl)
            (has_kept (λ r. not (has_rowid id r)) old x h (elim (cases_Bool (has_rowid id x)) [
              | inl here ↦
                  absurd (away (subst (IsAt tab key)
                  (sym (tied_same old x p.row rises.0 h p.listed (rw row_is (is_equal _ here))))
                  p.at))
              | inr other ↦ rw other refl
            ])));
        rise =
            subst Rises (sym p.is) (IsShaped-put_row n left refl
            (IsShaped-filter shape.Table (λ r. not (has_rowid id r)) old rises));
      }

  pub put_table : Puts tab key val old new → AreCells new → table new ≡ put_cell put (table old)
  put_table puts now =
      let p = puts_only puts in
      same_cells (table new) (put_cell put (table old)) (table_ascends new)
      (put-ascends put (table old) (table_ascends old))
      (λ c h. let r = table_from new c h in elim (p.sound r.0 r.1) [
        | inl is ↦ subst (Has (put_cell put (table old))) (sym (r.2 ∙ is)) (has_new put (table old))
        | inr was ↦
            subst (Has (put_cell put (table old))) (sym r.2)
            (has_old put (table old) (cell_of r.0) (table_has old are r.0 was.0)
            (off_of tab key r.0 (are.typed r.0 was.0) was.1))
      ])
      (λ c h. elim (put_cell_has put (table old) c (table_ascends old) h) [
        | inl is ↦
            subst (Has (table new)) (p.there.2 ∙ sym is) (table_has new now p.there.0 p.there.1)
        | inr was ↦
            let r = table_from old c was.0 in
            subst (Has (table new)) (sym r.2)
            (table_has new now r.0 (p.kept r.0 r.1
            (λ at. true≢false (sym (of_at tab key r.0 at) ∙ ap (is_at tab key) (sym r.2) ∙ was.1))))
      ])

-- ---- a row taken away

module _ (tab key : ℕ) (old new : List Row) (rises : Rises old) (are : AreCells old) where
  pub record TakesOnly : Type 0 where
    pub sound : (x : Row) → Has new x → Has old x × (IsAt tab key x → ⊥)
    pub kept : (x : Row) → Has old x → (IsAt tab key x → ⊥) → Has new x
    pub rise : Rises new

  pub takes_only : Takes tab key old new → TakesOnly
  takes_only (inl l) = record {
    sound = λ x h. let was = subst (λ all. Has all x) l.is h in (was, l.none x was);
    kept = λ x h off. subst (λ all. Has all x) (sym l.is) h;
    rise = subst Rises (sym l.is) rises;
  }
  takes_only (inr d) =
      let id = id_in (rowid d.row) in
      let row_is = int_is (rowid d.row) (all_has _ old d.row rises.1 d.listed) in
      let itself : has_rowid id d.row ≡ true =
      rw row_is (ap is_eq (tied_itself value_cmp_total (Int id))) in
      record {
        sound =
            λ x h.
            let was =
            has_filtered (λ r. not (has_rowid id r)) old x (subst (λ all. Has all x) d.is h) in (
              was.0,
              λ at. true≢false (sym itself
                  ∙ ap (has_rowid id) (sym (are.once tab key x d.row was.0 d.listed at d.at))
                  ∙ not-true _ was.1),
            );
        kept =
            λ x h away. subst (λ all. Has all x) (sym d.is)
            (has_kept (λ r. not (has_rowid id r)) old x h (elim (cases_Bool (has_rowid id x)) [
              | inl here ↦
                  absurd (away (subst (IsAt tab key)
                  (sym (tied_same old x d.row rises.0 h d.listed (rw row_is (is_equal _ here))))
                  d.at))
              | inr other ↦ rw other refl
            ]));
        rise =
            subst Rises (sym d.is)
            (IsShaped-filter shape.Table (λ r. not (has_rowid id r)) old rises);
      }

  pub take_table : Takes tab key old new → AreCells new → table new ≡ take_cell tab key (table old)
  take_table takes now =
      let t = takes_only takes in
      same_cells (table new) (take_cell tab key (table old)) (table_ascends new)
      (take-ascends tab key (table old) (table_ascends old))
      (λ c h. let r = table_from new c h in let was = t.sound r.0 r.1 in
      subst (Has (take_cell tab key (table old))) (sym r.2)
      (has_kept (λ x. not (is_at tab key x)) (table old) (cell_of r.0) (table_has old are r.0 was.0)
      (rw (off_of tab key r.0 (are.typed r.0 was.0) was.1) refl)))
      (λ c h.
      let was = has_filtered (λ x. not (is_at tab key x)) (table old) c h in
      let r = table_from old c was.0 in
      subst (Has (table new)) (sym r.2)
      (table_has new now r.0 (t.kept r.0 r.1
      (λ at.
      true≢false (sym (of_at tab key r.0 at) ∙ ap (is_at tab key) (sym r.2) ∙ not-true _ was.1)))))

-- ---- the least row

all_then : {X : Type 0} (P : X → Type 0) (xs : List X) (x : X) → All P xs → Has xs x → P x
all_then P [] x all h = absurd h
all_then P (y ∷ xs) x all (inl same) = subst P (sym same) (all 0 y (omega arith))
all_then P (y ∷ xs) x all (inr later) =
    all_then P xs x (λ k d low. all (suc k) d (omega arith)) later

get_or_any : {X : Type 0} (xs : List X) (k : ℕ) (d e : X) → k < length xs
    → get_or xs k d ≡ get_or xs k e
get_or_any [] k d e low = absurd (omega arith)
get_or_any (x ∷ xs) zero d e low = refl
get_or_any (x ∷ xs) (suc k) d e low = get_or_any xs k d e (omega arith)

pub order_is : (t k t′ k′ : ℕ)
    → is_gt
    (ordering_then (int_cmp (pos t) (pos t′)) (ordering_then (int_cmp (pos k) (pos k′)) Equal))
    ≡ false
    → comes_before t′ k′ t k ≡ false
order_is t k t′ k′ h = grind (arith, ints, nat_tests)

not_behind_same : (t k : ℕ) → comes_before t k t k ≡ false
not_behind_same t k = grind (arith, nat_tests)

module _ (rows : List Row) (typed : (r : Row) → Has rows r → IsCellRow r) (row : Row)
    (l : IsLeastOf rows row) where
  abbrev least : Row
  least = get_or rows l.place []

  pub least_listed : Has rows least
  least_listed = has_at rows l.place least l.within (get_or_any rows l.place [] least l.within)

  pub least_shown : row ≡ shown_cell (cell_of least)
  least_shown =
      let r = typed least least_listed in
      l.is ∙ ap shown r.is ∙ ap (λ x. shown_cell (cell_of x)) (sym r.is)

  pub least_before : (x : Row) → Has rows x
      → is_behind (cell_of x).tab (cell_of x).key (cell_of least) ≡ false
  least_before x h =
      let r = typed x h in
      let s = typed least least_listed in
      by x least r s (all_then
      (λ x′. (key x′ ≡ key least) ⊎ (is_gt (key_cmp 0 keys (key least) (key x′)) ≡ false)) rows
      x l.least h)
    where
      by : (x y : Row) → IsCellRow x → IsCellRow y
          → (key x ≡ key y) ⊎ (is_gt (key_cmp 0 keys (key y) (key x)) ≡ false)
          → is_behind (cell_of x).tab (cell_of x).key (cell_of y) ≡ false
      by x y r s (inl same) =
          let both : key (row_of r.id r.tab r.key r.val) ≡ key (row_of s.id s.tab s.key s.val) =
          ap key (sym r.is) ∙ same ∙ ap key s.is in
          let tabs : r.tab ≡ s.tab = cc in
          let numbers : r.key ≡ s.key = cc in
          rw (r.is, s.is, tabs, numbers) (not_behind_same s.tab s.key)
      by x y r s (inr low) =
          rw (r.is, s.is) (order_is s.tab s.key r.tab r.key
          (rw
          (r.is, s.is, value_cmp-Int (pos s.tab) (pos r.tab), value_cmp-Int (pos s.key) (pos r.key))
          at low))

pub first_cell : (rows : List Row) → AreCells rows → (row : Row) → IsLeastOf rows row
    → (c : Cell) × (row ≡ shown_cell c) × (first_of (table rows) ≡ Some c)
first_cell rows are row l =
    let c = cell_of (get_or rows l.place []) in (
      c,
      least_shown rows are.typed row l,
      first_is_least (table rows) c (table_ascends rows)
          (table_has rows are _ (least_listed rows are.typed row l))
          (λ x h.
          let r = table_from rows x h in rw r.2 (least_before rows are.typed row l r.0 r.1)),
    )
