-- A manifest has a label.
use Rattle.std.proofs.Common.{◌≡◌, true, Option, Some, None, refl}
use Rattle.std.specs.Prelude.{is_some, unwrap_or}
use Rattle.serde_json.specs.Data.{Data, null}

-- what is there is something
pub some-found : (found : Option Data) → is_some found ≡ true → found ≡ Some (unwrap_or found null)
some-found None there = absurd (cc)
some-found (Some value) there = refl
