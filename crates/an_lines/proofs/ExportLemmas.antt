-- What an export tells.
use Rattle.std.proofs.Common.{◌≡◌, Option, Some, None, option_map, codes, refl}
use Rattle.an_export.specs.Export.{exported}
use Rattle.an_state.specs.View.{View}
use Rattle.an_lines.specs.Export.{export_told}
use Rattle.an_lines.specs.declared.status.Status.TheVariants as status

-- an export by a name that nobody has
pub unnamed : (view : Option View) → None ≡ option_map exported view
    → record { status = status.NoReader; text = codes "no reader\n" } ≡ export_told view
unnamed None is = refl
unnamed (Some view) is = absurd (cc)
