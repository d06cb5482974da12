-- An annotation is an object, and cuts of the same members are the same.
use Rattle.std.proofs.Common.{◌≡◌, ℕ, ◌+◌, List, [], ◌∷◌, ◌++◌, map, ap₂, Bool, true, false, not, Option, None, codes, refl, sym, ap, ◌∙◌}
use Rattle.std.specs.List.{flat_map}
use Rattle.std.proofs.lemmas.List.{map-append}
use Rattle.std.proofs.lemmas.List.Concat.{flat_map-cons}
use Rattle.std.proofs.lemmas.Simd.{map-map}
use Rattle.serde_json.specs.Data.{Data, null, boolean, number, string, array, object, Members}
use Rattle.an_base.specs.Cut.{cut, is_object}
use Rattle.an_base.specs.Member.{has_type}
use Rattle.an_base.specs.Outcome.{when, first_of}
use Rattle.an_terms.specs.Terms.{occurrences_of}
use Rattle.an_model.specs.Bodies.{occurrence_in, occurrences_from, terms_in, texts_of}
use Rattle.an_model.specs.Bodies.{note_occurrences, note_terms}
use Rattle.an_model.specs.Cuts.{HasCuts}
use Rattle.an_model.specs.Note.{note_refusal}
use Rattle.an_model.specs.declared.cuts.NoteCuts.{NoteCuts}
use Rattle.an_model.specs.declared.refusal.NoteError.{NoteError}
use Rattle.an_model.specs.declared.refusal.NoteError.TheVariants.{WrongType}

typed : (b : Bool) (later : List (Option NoteError))
    → first_of (when (not b) WrongType ∷ later) ≡ None → b ≡ true
typed true later h = refl
typed false later h = absurd (cc)

has_its_type : (tree : Data) → note_refusal tree ≡ None → has_type (codes "Annotation") tree ≡ true
unfolding note_refusal
has_its_type tree h = typed (has_type (codes "Annotation") tree) _ h

typed_object : (tree : Data) → has_type (codes "Annotation") tree ≡ true → is_object tree ≡ true
typed_object null h = absurd (cc)
typed_object (boolean b) h = absurd (cc)
typed_object (number n) h = absurd (cc)
typed_object (string text) h = absurd (cc)
typed_object (array items) h = absurd (cc)
typed_object (object all) h = refl

pub note_is_object : (tree : Data) → note_refusal tree ≡ None → is_object tree ≡ true
note_is_object tree h = typed_object tree (has_its_type tree h)

-- ---- cuts

pub same_cuts : (old new : NoteCuts) (ms ns : Members) → new ≡ old → ms ≡ ns → HasCuts old ms
    → HasCuts new ns
same_cuts old new ms ns e f h = record {
  context = ap (λ c. c.context) e ∙ h.context ∙ ap (cut (codes "@context")) f;
  created = ap (λ c. c.created) e ∙ h.created ∙ ap (cut (codes "created")) f;
  creator = ap (λ c. c.creator) e ∙ h.creator ∙ ap (cut (codes "creator")) f;
  id = ap (λ c. c.id) e ∙ h.id ∙ ap (cut (codes "id")) f;
  modified = ap (λ c. c.modified) e ∙ h.modified ∙ ap (cut (codes "modified")) f;
}

-- ---- terms

-- the numbers of the texts don't count
terms_from : (at : ℕ) (texts : List (List ℕ))
    → map (λ o. o.term) (occurrences_from at texts) ≡ flat_map terms_in texts
terms_from at [] = refl
terms_from at (text ∷ texts) =
    map-append (λ o. o.term) (map (occurrence_in at) (occurrences_of text))
    (occurrences_from (at + 1) texts)
    ∙ ap₂ (λ one rest. one ++ rest) (map-map (λ o. o.term) (occurrence_in at) (occurrences_of text))
    (terms_from (at + 1) texts)
    ∙ sym (flat_map-cons terms_in text texts)

pub note_terms-texts : (tree : Data) → flat_map terms_in (texts_of tree) ≡ note_terms tree
unfolding note_terms note_occurrences
note_terms-texts tree = sym (terms_from 0 (texts_of tree))
