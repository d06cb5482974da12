-- What a link tells of its bytes, and how a call may change that and the counts of faults.
use Rattle.std.specs.Prelude.{◌≡◌, ℕ, ◌↔◌, List, [], ◌++◌, length, take, ◌≤◌, Option, Some, None}

-- the bytes that a link has read, those that it has left to read, and those that it has written
pub record Traffic : Type 0 where
  pub read : List ℕ
  pub left : List ℕ
  pub written : List ℕ

-- a link that told its bytes tells them still, and the change from old to new is this one; no other
-- link begins to tell
abbrev pub Tells : (Traffic → Traffic → Type 0) → Option Traffic → Option Traffic → Type 0
Tells Change None None = Unit {0}
Tells Change None (Some new) = ⊥
Tells Change (Some old) None = ⊥
Tells Change (Some old) (Some new) = Change old new

-- these bytes moved from the front of those left to the end of those read
pub record MovesRead (bytes : List ℕ) (old new : Traffic) : Type 0 where
  pub left : old.left ≡ bytes ++ new.left
  pub read : new.read ≡ old.read ++ bytes
  pub written : new.written ≡ old.written

-- these bytes were added to the end of those written
pub record AddsWritten (bytes : List ℕ) (old new : Traffic) : Type 0 where
  pub written : new.written ≡ old.written ++ bytes
  pub read : new.read ≡ old.read
  pub left : new.left ≡ old.left

-- the read of bytes, where a link tells them
abbrev pub Reads : List ℕ → Option Traffic → Option Traffic → Type 0
Reads bytes = Tells (MovesRead bytes)

-- the write of bytes, where a link tells them
abbrev pub Writes : List ℕ → Option Traffic → Option Traffic → Type 0
Writes bytes = Tells (AddsWritten bytes)

-- where a link tells its bytes: so many were given, which is none exactly where none is left
abbrev pub IsZeroAtEnd : ℕ → Option Traffic → Type 0
IsZeroAtEnd count None = Unit {0}
IsZeroAtEnd count (Some traffic) = (count ≡ 0) ↔ (traffic.left ≡ [])

-- where a link tells its bytes: none is left to read
abbrev pub IsAtEnd : Option Traffic → Type 0
IsAtEnd None = Unit {0}
IsAtEnd (Some traffic) = traffic.left ≡ []

-- so many bytes from the front of these were written, and nothing else moved
pub record WritesFront (bytes : List ℕ) (old new : Option Traffic) : Type 0 where
  pub count : ℕ
  pub writes : Writes (take count bytes) old new

-- the bytes that were read came behind those that were held, and nothing else moved
pub record ReadsOn (old new : Option Traffic) (held held' : List ℕ) : Type 0 where
  pub more : List ℕ
  pub reads : Reads more old new
  pub is : held' ≡ held ++ more

-- bytes were read, at most so many, and nothing else moved
abbrev pub ReadsAtMost : ℕ → Option Traffic → Option Traffic → Type 0
ReadsAtMost most old new = (bytes : List ℕ) × Reads bytes old new × (length bytes ≤ most)
