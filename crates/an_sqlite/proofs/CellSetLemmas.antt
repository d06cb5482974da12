-- Cells that ascend are told by which cells they are.
use Rattle.std.proofs.Common.{◌≡◌, ◌⊎◌, inl, inr, Bool, true, false, List, [], ◌∷◌, Some, refl, sym, ap, ap₂, subst, ◌∙◌, arith, true≢false, fold}
use Rattle.std.specs.List.{list_all}
use Rattle.std.proofs.lemmas.Bool.{and_parts, cases_Bool}
use Rattle.std.proofs.lemmas.Bool.Decides.{nat_tests}
use Rattle.sqlite_rules.specs.Lists.{Has}
use Rattle.sqlite_rules.proofs.ListLemmas.{test_has}
use Rattle.an_keep.specs.declared.cell.Cell.{Cell}
use Rattle.an_keep.specs.Cells.{is_at, is_before, is_behind, Ascend, first_of, put_cell}
use Rattle.an_keep.proofs.CellLemmas.{before-not_behind, before-not_at, behind-not_at, all_behind, put-ascends}

not_both : (x y : Cell) → is_behind x.tab x.key y ≡ true → is_behind y.tab y.key x ≡ true → ⊥
not_both x y p q = true≢false (sym q ∙ before-not_behind x.tab x.key y.tab y.key p)

not_behind_itself : (x : Cell) → is_behind x.tab x.key x ≡ true → ⊥
not_behind_itself x p = not_both x x p p

pub at_itself : (x : Cell) → is_at x.tab x.key x ≡ true
at_itself x = grind (arith, nat_tests)

-- ---- one cell put

pub has_new : (c : Cell) (cells : List Cell) → Has (put_cell c cells) c
has_new c [] = inl refl
has_new c (first ∷ cells) =
    by (is_before c.tab c.key first) (is_at c.tab c.key first) refl refl (has_new c cells)
  where
    by : (b a : Bool) → is_before c.tab c.key first ≡ b → is_at c.tab c.key first ≡ a
        → Has (put_cell c cells) c → Has (put_cell c (first ∷ cells)) c
    by true a e at rest = rw e (inr rest)
    by false true e at rest = rw (e, at) (inl refl)
    by false false e at rest = rw (e, at) (inl refl)

pub has_old : (c : Cell) (cells : List Cell) (x : Cell) → Has cells x → is_at c.tab c.key x ≡ false
    → Has (put_cell c cells) x
has_old c [] x h off = absurd h
has_old c (first ∷ cells) x h off =
    by (is_before c.tab c.key first) (is_at c.tab c.key first) refl refl h
    (λ k. has_old c cells x k off)
  where
    by : (b a : Bool) → is_before c.tab c.key first ≡ b → is_at c.tab c.key first ≡ a
        → Has (first ∷ cells) x → (Has cells x → Has (put_cell c cells) x)
        → Has (put_cell c (first ∷ cells)) x
    by true a e at (inl same) rest = rw e (inl same)
    by true a e at (inr later) rest = rw e (inr (rest later))
    by false true e at (inl same) rest =
        absurd (true≢false (sym at ∙ ap (is_at c.tab c.key) (sym same) ∙ off))
    by false true e at (inr later) rest = rw (e, at) (inr later)
    by false false e at here rest = rw (e, at) (inr here)

pub put_cell_has : (c : Cell) (cells : List Cell) (x : Cell) → Ascend cells
    → Has (put_cell c cells) x → (x ≡ c) ⊎ (Has cells x × (is_at c.tab c.key x ≡ false))
put_cell_has c [] x up (inl same) = inl same
put_cell_has c [] x up (inr none) = absurd none
put_cell_has c (first ∷ cells) x up h =
    by (is_before c.tab c.key first) (is_at c.tab c.key first) refl refl h
    (λ k. put_cell_has c cells x (and_parts _ _ up).1 k)
  where
    behind : is_before c.tab c.key first ≡ false → (y : Cell) → Has cells y
        → is_at c.tab c.key y ≡ false
    behind e y k =
        behind-not_at c.tab c.key y (test_has _ cells y (all_behind c.tab c.key first cells e up) k)

    by : (b a : Bool) → is_before c.tab c.key first ≡ b → is_at c.tab c.key first ≡ a
        → Has (put_cell c (first ∷ cells)) x
        → (Has (put_cell c cells) x → (x ≡ c) ⊎ (Has cells x × (is_at c.tab c.key x ≡ false)))
        → (x ≡ c) ⊎ (Has (first ∷ cells) x × (is_at c.tab c.key x ≡ false))
    by true a e at h rest = elim (rw e at h) [
      | inl same ↦ inr (inl same, ap (is_at c.tab c.key) same ∙ before-not_at c.tab c.key first e)
      | inr later ↦ elim (rest later) [ inl is ↦ inl is | inr was ↦ inr (inr was.0, was.1) ]
    ]
    by false true e at h rest = elim (rw (e, at) at h)
        [ inl same ↦ inl same | inr later ↦ inr (inr later, behind e x later) ]
    by false false e at h rest = elim (rw (e, at) at h) [
      | inl same ↦ inl same
      | inr (inl same) ↦ inr (inl same, ap (is_at c.tab c.key) same ∙ at)
      | inr (inr later) ↦ inr (inr later, behind e x later)
    ]

-- ---- the same cells

pub same_cells : (xs ys : List Cell) → Ascend xs → Ascend ys → ((c : Cell) → Has xs c → Has ys c)
    → ((c : Cell) → Has ys c → Has xs c) → xs ≡ ys
same_cells [] [] p q a b = refl
same_cells [] (y ∷ ys) p q a b = absurd (b y (inl refl))
same_cells (x ∷ xs) [] p q a b = absurd (a x (inl refl))
same_cells (x ∷ xs) (y ∷ ys) p q a b =
    let up = and_parts (list_all (is_behind x.tab x.key) xs) _ p in
    let uq = and_parts (list_all (is_behind y.tab y.key) ys) _ q in
    let first : x ≡ y = elim (a x (inl refl)) [
      | inl e ↦ e
      | inr later ↦ elim (b y (inl refl)) [
        | inl e ↦ sym e
        | inr also ↦ absurd (not_both x y (test_has _ xs y up.0 also) (test_has _ ys x uq.0 later))
      ]
    ] in
    ap₂ ◌∷◌ first (same_cells xs ys up.1 uq.1
    (λ c h. elim (a c (inr h)) [
      | inl e ↦
          absurd (not_behind_itself x
          (subst (λ z. is_behind x.tab x.key z ≡ true) (e ∙ sym first) (test_has _ xs c up.0 h)))
      | inr k ↦ k
    ])
    (λ c h. elim (b c (inr h)) [
      | inl e ↦
          absurd (not_behind_itself y
          (subst (λ z. is_behind y.tab y.key z ≡ true) (e ∙ first) (test_has _ ys c uq.0 h)))
      | inr k ↦ k
    ]))

-- ---- the first, and the first behind a place

pub first_is_least : (cells : List Cell) (c : Cell) → Ascend cells → Has cells c
    → ((x : Cell) → Has cells x → is_behind x.tab x.key c ≡ false) → first_of cells ≡ Some c
first_is_least [] c up h least = absurd h
first_is_least (y ∷ ys) c up (inl same) least = ap Some (sym same)
first_is_least (y ∷ ys) c up (inr later) least =
    absurd (true≢false (sym
    (test_has _ ys c (and_parts (list_all (is_behind y.tab y.key) ys) _ up).0 later)
    ∙ least y (inl refl)))

-- ---- many cells put, one after the other

module _ {X : Type 0} (f : X → Cell) where
  abbrev pub put_all : List Cell → List X → List Cell
  put_all = fold (λ cells x. put_cell (f x) cells)

  pub put_all-ascends : (xs : List X) (cells : List Cell) → Ascend cells → Ascend (put_all cells xs)
  put_all-ascends [] cells up = up
  put_all-ascends (x ∷ xs) cells up =
      put_all-ascends xs (put_cell (f x) cells) (put-ascends (f x) cells up)

  pub put_all_from : (xs : List X) (cells : List Cell) (c : Cell) → Ascend cells
      → Has (put_all cells xs) c → Has cells c ⊎ ((x : X) × Has xs x × (c ≡ f x))
  put_all_from [] cells c up h = inl h
  put_all_from (x ∷ xs) cells c up h =
      elim (put_all_from xs (put_cell (f x) cells) c (put-ascends (f x) cells up) h) [
        | inl put ↦ elim (put_cell_has (f x) cells c up put)
            [ inl same ↦ inr (x, inl refl, same) | inr was ↦ inl was.0 ]
        | inr later ↦ inr (later.0, inr later.1, later.2)
      ]

  pub put_all_keeps : (xs : List X) (cells : List Cell) (c : Cell) → Has cells c
      → ((x : X) → Has xs x → is_at (f x).tab (f x).key c ≡ true → c ≡ f x)
      → Has (put_all cells xs) c
  put_all_keeps [] cells c h once = h
  put_all_keeps (x ∷ xs) cells c h once =
      put_all_keeps xs (put_cell (f x) cells) c here (λ y k. once y (inr k))
    where
      here : Has (put_cell (f x) cells) c
      here = elim (cases_Bool (is_at (f x).tab (f x).key c)) [
        | inl at ↦
            subst (Has (put_cell (f x) cells)) (sym (once x (inl refl) at)) (has_new (f x) cells)
        | inr off ↦ has_old (f x) cells c h off
      ]

  pub put_all_has : (xs : List X) (cells : List Cell) (x : X) → Has xs x
      → ((y z : X) → Has xs y → Has xs z → is_at (f z).tab (f z).key (f y) ≡ true → f y ≡ f z)
      → Has (put_all cells xs) (f x)
  put_all_has [] cells x h once = absurd h
  put_all_has (y ∷ xs) cells x (inl same) once =
      put_all_keeps xs (put_cell (f y) cells) (f x)
      (subst (λ z. Has (put_cell (f y) cells) (f z)) (sym same) (has_new (f y) cells))
      (λ z k at. once x z (inl same) (inr k) at)
  put_all_has (y ∷ xs) cells x (inr later) once =
      put_all_has xs (put_cell (f y) cells) x later (λ a b k l. once a b (inr k) (inr l))
