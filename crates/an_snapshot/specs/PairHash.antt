-- For private clauses: the hash of a pair of classes. Of it only this is used, that equal pairs
-- have one hash.
use Rattle.std.specs.Prelude.{ℕ, ◌+◌, ◌*◌, Option, Some, None}
use Rattle.an_keyed.specs.Hashes.{short_hash}
use Rattle.an_snapshot.specs.declared.change.ClassChange.{ClassChange}

abbrev pub class_code : Option ℕ → ℕ
class_code None = 0
class_code (Some class) = class + 1

-- below 65,598 classes no two pairs have one
unfoldable pub pair_hash : ClassChange → ℕ
pair_hash pair = short_hash (class_code pair.before * 65_599 + class_code pair.after)
