-- How what a link tells changes over several calls: for whoever reads from a link or writes to it
-- in a loop.
use Rattle.std.proofs.Common.{◌≡◌, ℕ, ◌+◌, ◌-◌, ◌≤◌, List, [], ◌++◌, length, take, drop, Option, Some, None, refl, sym, ap, ◌∙◌, append_assoc, append-nil}
use Rattle.std.proofs.lemmas.List.{take_rest}
use Rattle.std.proofs.Math.Seq.{take-add}
use Rattle.an_world.specs.Link.{Traffic, Tells, MovesRead, Reads, ReadsOn, ReadsAtMost, AddsWritten, Writes, WritesFront}

-- two changes, one behind the other
Tells-then : (First Next Both : Traffic → Traffic → Type 0)
    → ((old mid new : Traffic) → First old mid → Next mid new → Both old new)
    → (old mid new : Option Traffic) → Tells First old mid → Tells Next mid new → Tells Both old new
Tells-then First Next Both joins None None None h k = tt
Tells-then First Next Both joins None None (Some new) h k = elim k [ ]
Tells-then First Next Both joins None (Some mid) new h k = elim h [ ]
Tells-then First Next Both joins (Some old) None new h k = elim h [ ]
Tells-then First Next Both joins (Some old) (Some mid) None h k = elim k [ ]
Tells-then First Next Both joins (Some old) (Some mid) (Some new) h k = joins old mid new h k

-- a write, and a write behind it
pub Writes-append : (first next : List ℕ) (old mid new : Option Traffic) → Writes first old mid
    → Writes next mid new → Writes (first ++ next) old new
Writes-append first next =
    Tells-then (AddsWritten first) (AddsWritten next) (AddsWritten (first ++ next))
    (λ old mid new h k. record {
      written =
          k.written ∙ ap (λ bytes. bytes ++ next) h.written ∙ append_assoc old.written first next;
      read = k.read ∙ h.read;
      left = k.left ∙ h.left;
    })

-- a write of what `&bytes[at..]` begins with, behind the write of what stands before it
pub Writes-further : (bytes : List ℕ) (at count : ℕ) (old mid new : Option Traffic)
    → Writes (take at bytes) old mid
    → Writes (take count (take (length bytes - at) (drop at bytes))) mid new
    → Writes (take (at + count) bytes) old new
Writes-further bytes at count old mid new h k =
    rw (take-add at count bytes)
    (Writes-append (take at bytes) (take count (drop at bytes)) old mid new h
    (rw (take_rest bytes at) at k))

-- what was written before a write that failed
pub WritesFront-failed : (at : ℕ) (bytes : List ℕ) (old mid new : Option Traffic)
    → Writes (take at bytes) old mid → new ≡ mid → WritesFront bytes old new
WritesFront-failed at bytes old mid new h still = record { count = at; writes = rw still h }

-- where nothing changed, nothing was read
pub Reads-none : (bytes : List ℕ) (now : Option Traffic) → bytes ≡ [] → Reads bytes now now
Reads-none bytes now none = rw none (still now)
  where
    still : (traffic : Option Traffic) → Reads [] traffic traffic
    still None = tt
    still (Some traffic) =
        record { left = refl; read = sym (append-nil traffic.read); written = refl }

-- a read, and a read behind it
pub Reads-append : (first next : List ℕ) (old mid new : Option Traffic) → Reads first old mid
    → Reads next mid new → Reads (first ++ next) old new
Reads-append first next =
    Tells-then (MovesRead first) (MovesRead next) (MovesRead (first ++ next))
    (λ old mid new h k. record {
      left = h.left ∙ ap (λ bytes. first ++ bytes) k.left ∙ sym (append_assoc first next new.left);
      read = k.read ∙ ap (λ bytes. bytes ++ next) h.read ∙ append_assoc old.read first next;
      written = k.written ∙ h.written;
    })

-- all that is held was read, and a read put more behind it
pub Reads-on : (old mid new : Option Traffic) (held held' : List ℕ) → Reads held old mid
    → ReadsOn mid new held held' → Reads held' old new
Reads-on old mid new held held' h k = rw k.is (Reads-append held k.more old mid new h k.reads)

-- the same where no more than so many bytes are held then
pub ReadsAtMost-on : (most : ℕ) (old mid new : Option Traffic) (held held' : List ℕ)
    → Reads held old mid → ReadsOn mid new held held'
    → length held' ≤ most → ReadsAtMost most old new
ReadsAtMost-on most old mid new held held' h k within =
    (held', Reads-on old mid new held held' h k, within)

-- where nothing was read, all that was held is still held
pub ReadsOn-none : (now : Option Traffic) (held : List ℕ) → ReadsOn now now held held
ReadsOn-none now held =
    record { more = []; reads = Reads-none [] now refl; is = sym (append-nil held) }

-- a read that put more behind what was held, and one behind it
pub ReadsOn-then : (old mid new : Option Traffic) (held held' held'' : List ℕ)
    → ReadsOn old mid held held' → ReadsOn mid new held' held''
    → ReadsOn old new held held''
ReadsOn-then old mid new held held' held'' h k = record {
  more = h.more ++ k.more;
  reads = Reads-append h.more k.more old mid new h.reads k.reads;
  is = k.is ∙ ap (λ bytes. bytes ++ k.more) h.is ∙ append_assoc held h.more k.more;
}
