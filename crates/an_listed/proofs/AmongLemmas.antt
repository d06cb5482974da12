-- The places of a term that a caller may read, looked up by the list of the class of each row.
use Rattle.std.proofs.Common.{◌≡◌, ℕ, Bool, true, false, eqb, ◌&&◌, List, Option, Some, None, sym, ap, ◌∙◌, refl, arith}
use Rattle.std.specs.Prelude.{bytes_eq, filter, slice_get}
use Rattle.std.specs.List.{list_any}
use Rattle.an_base.specs.Outcome.{passes}
use Rattle.an_base.specs.Totals.{totals_of}
use Rattle.an_base.specs.declared.span.TermTotal.{TermTotal}
use Rattle.an_model.specs.Bodies.{note_terms}
use Rattle.an_postings.specs.Lists.{places_at}
use Rattle.an_postings.specs.declared.class_postings.ClassPostings.{ClassPostings}
use Rattle.an_slots.specs.Places.{has, places_from}
use Rattle.an_slots.specs.Rows.{Row, is_in, is_posted, parts_in}
use Rattle.an_slots.specs.Slot.{Slot, slot_of}
use Rattle.an_slots.specs.Texts.{under}
use Rattle.an_state.proofs.AmongLemmas.{filter-same, has-places_from}
use Rattle.an_state.specs.State.{LiveNote}
use Rattle.an_state.specs.Terms.{has_term}
use Rattle.an_listed.specs.Filed.{is_under}
use Rattle.an_listed.specs.Keys.{keyed, keys_by, parts_by}
use Rattle.an_listed.specs.Stands.{Stands, kind_within, lists_within, text_within}
use Rattle.an_listed.specs.declared.filed.Filed.{Filed}
use Rattle.an_listed.specs.declared.kind.Kind.{Kind}
use Rattle.an_listed.specs.declared.register.Register.{Register}
use Rattle.an_listed.proofs.KeyLemmas.{posted-row}
use Rattle.an_listed.proofs.ReadLemmas.{stands-within, words-in}

-- ---- one row, in the list of its own class

own-posted : (m t : List ℕ) (kind : Kind) (row : Filed)
    → is_posted (slot_of m t row.class) (parts_by kind row)
    ≡ is_in m t (λ c. true) (keys_by kind row)
own-posted m t kind row = by row.note.live refl
  where
    turned : (a r : Bool) → ((true && a) && r) ≡ ((a && true) && r)
    turned true r = refl
    turned false r = refl

    own : (keys : Row) → keys.class ≡ row.class
        → is_posted (slot_of m t row.class) (parts_in (Some keys))
        ≡ is_in m t (λ c. true) (Some keys)
    own keys is =
        let itself : eqb row.class keys.class ≡ true = grind (arith, is) in
        posted-row m t row.class keys.manifest keys.class keys.terms
        ∙ ap (λ b. (b && bytes_eq m keys.manifest)
        && list_any (λ (x : TermTotal). bytes_eq t x.term) keys.terms) itself
        ∙ turned (bytes_eq m keys.manifest)
        (list_any (λ (x : TermTotal). bytes_eq t x.term) keys.terms)

    by : (live : Option LiveNote) → row.note.live ≡ live
        → is_posted (slot_of m t row.class) (parts_by kind row)
        ≡ is_in m t (λ c. true) (keys_by kind row)
    by None is = rw is refl
    by (Some live) is =
        rw is (own (keyed kind (record {
          manifest = live.manifest;
          class = row.class;
          terms = totals_of (note_terms live.tree);
        })) refl)

-- ---- places

module _ (r : Register) (rows : List Filed) (stands : Stands r rows)
    (sought : Option (List ℕ)) (t : List ℕ) (reads : ℕ → Bool) (own : List ClassPostings)
    (is : own ≡ under t (under (text_within sought) (lists_within r sought))) where
  apart : (on read term : Bool) → (((on && true) && term) && read) ≡ ((on && read) && term)
  apart true true true = refl
  apart true true false = refl
  apart true false true = refl
  apart true false false = refl
  apart false read term = refl

  looked : (place : ℕ)
      → passes (λ row. has place (places_at own row.class) && reads row.class)
      (slice_get rows place)
      ≡ has place (places_from
      (λ row. (is_under sought row.note && reads row.class) && has_term t row.note) 0 rows)
  looked place =
      by (slice_get rows place) refl
      ∙ sym (has-places_from {A = Filed}
      (λ row. (is_under sought row.note && reads row.class) && has_term t row.note) place rows)
    where
      by : (found : Option Filed) → slice_get rows place ≡ found
          → passes (λ row. has place (places_at own row.class) && reads row.class)
          (slice_get rows place)
          ≡ passes (λ row. (is_under sought row.note && reads row.class) && has_term t row.note)
          (slice_get rows place)
      by None none = rw none refl
      by (Some row) some =
          let of = stands-within r rows stands sought in
          let slot : Slot = slot_of (text_within sought) t row.class in
          let listed : has place (places_at own row.class)
          ≡ is_posted slot (parts_by (kind_within sought) row) =
          ap (λ (lists : List ClassPostings). has place (places_at lists row.class)) is
          ∙ ap (λ (lists : Slot → List ℕ). has place (lists slot)) of.places
          ∙ has-places_from {A = Filed}
          (λ row. is_posted slot (parts_by (kind_within sought) row)) place rows
          ∙ ap (passes (λ row. is_posted slot (parts_by (kind_within sought) row))) some in
          rw some (ap (λ b. b && reads row.class)
          (listed ∙ own-posted (text_within sought) t (kind_within sought) row
          ∙ words-in sought row (λ c. true) t)
          ∙ apart (is_under sought row.note) (reads row.class) (has_term t row.note))

  -- those of the places that are looked up are those that a list of all has
  pub looked-up : (places : List ℕ)
      → filter (λ place.
      passes (λ row. has place (places_at own row.class) && reads row.class) (slice_get rows place))
      places
      ≡ filter (λ place. has place
      (places_from
      (λ row. (is_under sought row.note && reads row.class) && has_term t row.note) 0 rows)) places
  looked-up places = filter-same _ _ places looked
