-- A manifest that is kept has a label.
use Rattle.std.proofs.Common.{◌≡◌, ℕ, List, [], ◌∷◌, Bool, true, false, not, ◌&&◌, ◌==◌, codes, Option, Some, None, option_map, refl}
use Rattle.std.specs.Prelude.{IsTrue, is_none, unwrap_or}
use Rattle.std.proofs.lemmas.Bool.{and_parts}
use Rattle.serde_json.specs.Data.{Data, null}
use Rattle.serde_json.specs.Events.{items_len}
use Rattle.serde_json.specs.Find.{get}
use Rattle.an_base.specs.Items.{first_bad}
use Rattle.an_base.specs.Member.{has_type}
use Rattle.an_base.specs.Outcome.{when, first_of, passes}
use Rattle.an_manifest.specs.declared.sheet.SheetError.{SheetError}
use Rattle.an_manifest.specs.declared.sheet.SheetError.TheVariants.{WrongType, Label, Items as NoItems, Canvas, Version2}
use Rattle.an_manifest.specs.Manifest.{is_version_2, canvases_in, manifest_refusals, is_manifest, is_kept}
use Rattle.an_manifest.specs.Shape.{is_language_map, is_canvas}

third_holds : (old other bad : Bool) (rest : List (Option SheetError))
    → is_none (first_of (when old Version2 ∷ when other WrongType ∷ when bad Label ∷ rest)) ≡ true
    → bad ≡ false
third_holds true other bad rest h = absurd (cc)
third_holds false true bad rest h = absurd (cc)
third_holds false false true rest h = absurd (cc)
third_holds false false false rest h = refl

some_map : (found : Option Data) → not (passes is_language_map found) ≡ false
    → found ≡ Some (unwrap_or found null)
some_map None h = absurd (cc)
some_map (Some label) h = refl

pub has_label : (tree : Data) → IsTrue (is_kept tree)
    → get (codes "label") tree ≡ Some (unwrap_or (get (codes "label") tree) null)
unfolding is_kept is_manifest manifest_refusals
has_label tree h =
    let kept =
    and_parts (is_manifest tree && is_none (get (codes "@context") tree))
    (is_none (get (codes "id") tree)) h in
    let manifest = and_parts (is_manifest tree) (is_none (get (codes "@context") tree)) kept.0 in
    some_map (get (codes "label") tree)
    (third_holds (is_version_2 tree) (not (has_type (codes "Manifest") tree))
    (not (passes is_language_map (get (codes "label") tree)))
    (when (items_len (canvases_in tree) == 0) NoItems
    ∷ option_map Canvas (first_bad is_canvas (canvases_in tree)) ∷ []) manifest.0)
