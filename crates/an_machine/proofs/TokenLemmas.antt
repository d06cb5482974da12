-- Whether another reader has a token.
use Rattle.std.proofs.Common.{◌≡◌, ℕ, ◌+◌, ◌<◌, ◌≤◌, suc, arith, List, [], ◌∷◌, length, drop, get_or, Bool, true, false, ◌||◌, nat_lt, bytes_eq, Option, Some, None, option_map, inl, inr, refl, sym, ap, ◌∙◌}
use Rattle.std.specs.List.{filter_map, list_any, position, position_or_len}
use Rattle.std.proofs.Math.Bool.{cond}
use Rattle.std.proofs.lemmas.Bool.{cases_Bool, ltb-false}
use Rattle.std.proofs.lemmas.List.{at_drop_more, drop-drop, drop_all}
use Rattle.std.proofs.lemmas.Option.{cond_some, none-some, same_Some}
use Rattle.an_base.specs.Outcome.{passes}
use Rattle.an_policy.specs.declared.reader.Reader.{Reader}
use Rattle.an_keyed.specs.Marks.{is_mark, marked_place}
use Rattle.an_state.specs.State.{ReaderState, reader_token}
use Rattle.an_machine.specs.Refusals.{is_taken_from}

cond_none : {A : Type 0} (b : Bool) (x : A) → cond b (Some x) None ≡ None → b ≡ false
cond_none true x e = absurd (none-some x (sym e))
cond_none false x e = refl

module _ (name token : List ℕ) where
  -- whether a reader of another name among those that the rows lend has the token
  abbrev pub taken : List ReaderState → Bool
  taken rows = list_any (is_taken_from name token) (filter_map (λ row. row.live) rows)

  abbrev marked : ReaderState → Bool
  marked row = is_mark token (reader_token row)

  taken-lent : (live : Option Reader) (row : ReaderState) (rows : List ReaderState)
      → row.live ≡ live
      → taken (row ∷ rows) ≡ (passes (is_taken_from name token) live || taken rows)
  taken-lent None row rows e = rw e refl
  taken-lent (Some reader) row rows e = rw e refl

  taken-cons : (row : ReaderState) (rows : List ReaderState)
      → taken (row ∷ rows) ≡ (passes (is_taken_from name token) row.live || taken rows)
  taken-cons row rows = taken-lent row.live row rows refl

  unmarked : (live : Option Reader)
      → is_mark token (option_map (λ reader. reader.token) live) ≡ false
      → passes (is_taken_from name token) live ≡ false
  unmarked None isnt = refl
  unmarked (Some reader) isnt = rw isnt refl

  drop-suc : (row : ReaderState) (rows : List ReaderState) (n : ℕ)
      → drop (1 + n) (row ∷ rows) ≡ drop n rows
  drop-suc row rows n = let e : 1 + n ≡ suc n = omega arith in rw e refl

  -- no row before the first with the token takes it
  taken-past : (rows : List ReaderState)
      → taken rows ≡ taken (drop (position_or_len marked rows) rows)
  taken-past [] = refl
  taken-past (row ∷ rows) = elim (cases_Bool (marked row)) [
    | inl is ↦ rw is refl
    | inr isnt ↦
        rw isnt (taken-cons row rows
        ∙ rw (unmarked row.live isnt)
        (taken-past rows ∙ ap taken (sym (drop-suc row rows (position_or_len marked rows)))))
  ]

  module _ (rows : List ReaderState) (start : ℕ) where
    taken-at : (place : ℕ) (first : ReaderState) (k : ℕ)
        → position marked (drop start rows) ≡ Some k → place ≡ start + k → place < length rows
        → taken (drop start rows)
        ≡ (passes (is_taken_from name token) (get_or rows place first).live
        || taken (drop (place + 1) rows))
    taken-at place first k at is within =
        let first_at : position_or_len marked (drop start rows) ≡ k =
        (cond_some (nat_lt (position_or_len marked (drop start rows)) (length (drop start rows)))
        _ _ at).1 in
        taken-past (drop start rows)
        ∙ ap (λ i. taken (drop i (drop start rows))) first_at
        ∙ ap taken (drop-drop k start rows)
        ∙ ap (λ i. taken (drop i rows)) (sym is)
        ∙ at_drop_more taken rows place first within
        ∙ taken-cons (get_or rows place first) (drop (place + 1) rows)

    taken-from : (found : Option ℕ) (place : ℕ) (first : ReaderState)
        → position marked (drop start rows) ≡ found → Some place ≡ option_map (λ k. start + k) found
        → place < length rows
        → taken (drop start rows)
        ≡ (passes (is_taken_from name token) (get_or rows place first).live
        || taken (drop (place + 1) rows))
    taken-from None place first at is within = absurd (cc)
    taken-from (Some k) place first at is within =
        taken-at place first k at (same_Some place (start + k) is) within

    -- from the first row with the token on, it is that row that takes it, or one behind
    pub taken-next : (sought : List ℕ) (found : Option ℕ) (place : ℕ) (row : ReaderState)
        (takes : Bool) → found ≡ marked_place reader_token sought start rows → sought ≡ token
        → found ≡ Some place
        → place < length rows → row ≡ get_or rows place row
        → takes ≡ passes (is_taken_from name token) row.live
        → taken (drop start rows) ≡ (takes || taken (drop (place + 1) rows))
    taken-next sought found place row takes by same is within at does =
        taken-from (position marked (drop start rows)) place row refl
        (sym is ∙ by ∙ ap (λ t. marked_place reader_token t start rows) same) within
        ∙ ap (λ r. passes (is_taken_from name token) r.live || taken (drop (place + 1) rows))
        (sym at)
        ∙ ap (λ b. b || taken (drop (place + 1) rows)) (sym does)

    taken-nowhere : (found : Option ℕ) → position marked (drop start rows) ≡ found
        → None ≡ option_map (λ k. start + k) found → taken (drop start rows) ≡ false
    taken-nowhere (Some k) at is = absurd (cc)
    taken-nowhere None at is =
        let past : length (drop start rows) ≤ position_or_len marked (drop start rows) =
        ltb-false _ _ (cond_none
        (nat_lt (position_or_len marked (drop start rows)) (length (drop start rows))) _ at) in
        taken-past (drop start rows) ∙ ap taken (drop_all _ (drop start rows) past)

    -- where no row has the token, nobody does
    pub taken-none : (sought : List ℕ) (found : Option ℕ)
        → found ≡ marked_place reader_token sought start rows → sought ≡ token → found ≡ None
        → taken (drop start rows) ≡ false
    taken-none sought found by same is =
        taken-nowhere (position marked (drop start rows)) refl
        (sym is ∙ by ∙ ap (λ t. marked_place reader_token t start rows) same)
