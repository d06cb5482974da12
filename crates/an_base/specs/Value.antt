-- JSON values that may be deeper than a tree, as the text of a row is that has a tree in it.
use Rattle.std.specs.Prelude.{ℕ, List, if◌then◌else◌, Result, Ok, Err}
use Rattle.serde_json.specs.Data.{Data}
use Rattle.an_base.specs.declared.tree.TreeError.{TreeError}
use Rattle.an_base.specs.declared.tree.TreeError.TheVariants.{Json, NotWhole}
use Rattle.an_base.specs.Outcome.{or_refuse}
use Rattle.an_base.specs.Tree.{is_whole, json_of}

abbrev pub if_whole : Data → Result Data TreeError
if_whole value = if is_whole value then Ok value else Err NotWhole

-- the whole JSON value that bytes are, or the first refusal
unfoldable pub value_of : List ℕ → Result Data TreeError
value_of bytes = or_refuse Json (json_of bytes) if_whole
