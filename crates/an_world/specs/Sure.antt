-- What a link in memory that never fails does at each call.
use Rattle.std.specs.Prelude.{ℕ, List, [], ◌++◌}
use Rattle.an_world.specs.Link.{Traffic}
use Rattle.an_world.specs.Input.{Pieces, pieces_of, count_for, pieces_behind}

-- the input, and the bytes that were written
pub record Sure : Type 0 where
  pub input : Pieces
  pub written : List ℕ

-- a link before its first call
abbrev pub sure_of : List ℕ → List ℕ → Sure
sure_of input cut = record { input = pieces_of input cut; written = [] }

-- the bytes that went over it, and those left
abbrev pub sure_traffic : Sure → Traffic
sure_traffic link =
    record { read = link.input.read; left = link.input.left; written = link.written }

-- the link behind a read with room for `size` bytes
abbrev pub sure_after_read : ℕ → Sure → Sure
sure_after_read size link =
    record link { input = pieces_behind (count_for size link.input) link.input }

-- the link behind a write of these bytes, all of which it takes
abbrev pub sure_after_write : List ℕ → Sure → Sure
sure_after_write bytes link = record link { written = link.written ++ bytes }
