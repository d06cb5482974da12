-- For private clauses: what a row is found by in lists of each kind. A tombstone is nowhere.
use Rattle.std.specs.Prelude.{ℕ, List, [], ◌∷◌, drop, get_or, map, Option, option_map}
use Rattle.an_base.specs.Totals.{totals_of}
use Rattle.an_base.specs.declared.span.TermTotal.{TermTotal}
use Rattle.an_model.specs.Bodies.{note_terms}
use Rattle.an_slots.specs.Rows.{Row, parts, parts_in}
use Rattle.an_slots.specs.Slot.{Slot, slot_of}
use Rattle.an_listed.specs.declared.filed.Filed.{Filed}
use Rattle.an_listed.specs.declared.kind.Kind.{Kind}
use Rattle.an_listed.specs.declared.kind.Kind.TheVariants.{Words, Anywhere, Whole}

abbrev pub empty_term : TermTotal
empty_term = record { term = []; total = 0 }

-- its manifest, its class, and each of its terms, which counts as often as it occurs
abbrev pub word_keys : Filed → Option Row
word_keys row = option_map (λ live. record {
  manifest = live.manifest;
  class = row.class;
  terms = totals_of (note_terms live.tree);
}) row.note.live

-- what stands for its manifest: nothing does in lists of rows whatever manifest they are on
abbrev pub text_by : Kind → List ℕ → List ℕ
text_by Words manifest = manifest
text_by Anywhere manifest = []
text_by Whole manifest = manifest

-- what stands for its terms: no term does in lists of rows whatever terms they have
abbrev pub terms_by : Kind → List TermTotal → List TermTotal
terms_by Words terms = terms
terms_by Anywhere terms = terms
terms_by Whole terms = empty_term ∷ []

abbrev pub keyed : Kind → Row → Row
keyed kind row = record {
  manifest = text_by kind row.manifest;
  class = row.class;
  terms = terms_by kind row.terms;
}

abbrev pub keys_by : Kind → Filed → Option Row
keys_by kind row = option_map (keyed kind) (word_keys row)

abbrev pub parts_by : Kind → Filed → List (Slot × ℕ)
parts_by kind row = parts_in (keys_by kind row)

-- ---- the terms one after the other

-- where the term at this place is listed
abbrev pub slot_at : Row → ℕ → Slot
slot_at keys at = slot_of keys.manifest (get_or (map (λ t. t.term) keys.terms) at []) keys.class

-- how often it occurs
abbrev pub total_at : Row → ℕ → ℕ
total_at keys at = get_or (map (λ t. t.total) keys.terms) at 0

-- the parts from this place on
abbrev pub parts_from : Row → ℕ → List (Slot × ℕ)
parts_from keys at = parts keys.manifest keys.class (drop at keys.terms)
