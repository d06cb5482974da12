-- What a link in memory does at each call.
use Rattle.std.specs.Prelude.{ℕ, ◌-◌, ◌==◌, ◌||◌, min, Bool, if◌then◌else◌, List, [], ◌++◌, length}
use Rattle.std.specs.Prelude.{take}
use Rattle.an_world.specs.Link.{Traffic}
use Rattle.an_world.specs.Input.{Pieces, pieces_of, count_for, pieces_behind}
use Rattle.an_world.specs.Calls.{CallCounts, is_next_failing, called, failed}

-- the input, the bytes that were written, how many bytes more may be written, and the calls that
-- were made
pub record Memory : Type 0 where
  pub input : Pieces
  pub written : List ℕ
  pub room : ℕ
  pub reads : CallCounts
  pub writes : CallCounts

-- a link before its first call
abbrev pub memory_of : List ℕ → List ℕ → List ℕ → List ℕ → ℕ → Memory
memory_of input cut fail_reads fail_writes room = record {
  input = pieces_of input cut;
  written = [];
  room = room;
  reads = record { made = 0; faults = 0; failing = fail_reads };
  writes = record { made = 0; faults = 0; failing = fail_writes };
}

-- the bytes that went over it, and those left
abbrev pub traffic_of : Memory → Traffic
traffic_of link = record { read = link.input.read; left = link.input.left; written = link.written }

-- the link behind a read with room for `size` bytes
abbrev pub after_read : ℕ → Memory → Memory
after_read size link = if is_next_failing link.reads
    then record link { reads = failed link.reads }
    else record link {
      reads = called link.reads;
      input = pieces_behind
          (count_for size link.input) link.input;
    }

-- whether the next write fails: it is listed, or nothing is free
abbrev pub is_write_failing : Memory → Bool
is_write_failing link = is_next_failing link.writes || link.room == 0

-- how many bytes a write of `size` bytes takes
abbrev pub taken : ℕ → Memory → ℕ
taken size link = min size link.room

-- the link behind a write of these bytes
abbrev pub after_write : List ℕ → Memory → Memory
after_write bytes link = if is_write_failing link
    then record link { writes = failed link.writes }
    else record link {
      writes = called link.writes;
      written = link.written ++ take (taken (length bytes) link) bytes;
      room = link.room - taken (length bytes) link;
    }
