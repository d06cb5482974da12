-- A manifest that is kept is an object without floats.
use Rattle.std.proofs.Common.{◌≡◌, true, false, IsTrue, codes, ap}
use Rattle.serde_json.specs.Data.{Data}
use Rattle.serde_json.specs.Find.{get}
use Rattle.serde_json.specs.Written.{has_float, items_have_float}
use Rattle.an_base.specs.Cut.{is_object}
use Rattle.an_base.specs.Tree.{is_tree}
use Rattle.an_manifest.specs.Manifest.{canvases_in, is_kept}
use Rattle.an_manifest.proofs.ReadyLemmas.{is_sheet}
use Rattle.an_manifest.proofs.FloatLemmas.{HasNone-get, has_float-array_in}

pub object_kept : (tree : Data) → IsTrue (is_tree tree) → IsTrue (is_kept tree)
    → is_object tree ≡ true
object_kept tree t kept = ap is_object (is_sheet tree t kept).ready.is

pub whole_canvases : (tree : Data) → has_float tree ≡ false
    → items_have_float (canvases_in tree) ≡ false
whole_canvases tree h =
    has_float-array_in (get (codes "items") tree) (HasNone-get (codes "items") tree h)

pub ruleset keeping_text = (object_kept, whole_canvases)
