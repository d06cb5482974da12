-- How what is due of the bytes goes on: when more bytes come, and with more that is due.
use Rattle.std.proofs.Common.{◌≡◌, ℕ, ◌-◌, List, [], ◌∷◌, ◌++◌, length, Bool, true, false, ◌||◌, Option, Some, None, inl, inr, refl, sym, ap, ◌∙◌, append_assoc, append-nil, arith}
use Rattle.an_world.specs.Link.{Traffic, IsAtEnd, Reads, Writes}
use Rattle.an_http.proofs.CutLemmas.{begins_more}
use Rattle.an_session.specs.Due.{Due, Ask, Refuse, is_last, has_last, IsDue, Fronts}
use Rattle.an_session.specs.Session.{Moves}

neither : (one other : Bool) → (one || other) ≡ false → (one ≡ false) × (other ≡ false)
neither true other h = cc
neither false other h = (refl, h)

-- none of these is the last one
pub open_parts : (due : Due) (dues : List Due) → has_last (due ∷ dues) ≡ false
    → (is_last due ≡ false) × (has_last dues ≡ false)
open_parts due dues h = neither (is_last due) (has_last dues) h

-- whether the last one is among them is told by those behind
pub has_last-behind : (dues more : List Due) → has_last dues ≡ false
    → has_last (dues ++ more) ≡ has_last more
has_last-behind [] more h = refl
has_last-behind (due ∷ dues) more h =
    let parts = open_parts due dues h in
    ap (λ first. first || has_last (dues ++ more)) parts.0 ∙ has_last-behind dues more parts.1

-- a request is due whatever a link tells, and however many bytes come behind it
due_more : (old new : Option Traffic) (left : ℕ) (bytes more : List ℕ) (due : Due) (rest : List ℕ)
    → is_last due ≡ false
    → IsDue old left bytes due rest → IsDue new left (bytes ++ more) due (rest ++ more)
due_more old new left bytes more (Ask request last) rest goes_on (begins, is) =
    (begins_more bytes more request rest begins, is)
due_more old new left bytes more (Refuse refusal) rest goes_on due = cc

pub fronts_more : (old new : Option Traffic) (left : ℕ) (bytes more : List ℕ) (dues : List Due)
    (rest : List ℕ) → has_last dues ≡ false
    → Fronts old left bytes dues rest → Fronts new left (bytes ++ more) dues (rest ++ more)
fronts_more old new left bytes more [] rest goes_on is = ap (λ b. b ++ more) is
fronts_more old new left bytes more (due ∷ dues) rest goes_on (mid, here, only, next) =
    let parts = open_parts due dues goes_on in (
      mid ++ more,
      due_more old new left bytes more due mid parts.0 here,
      only,
      fronts_more old new (left - 1) mid more dues rest parts.1 next,
    )

-- a link that tells something else
pub fronts_told : (old new : Option Traffic) (left : ℕ) (bytes : List ℕ) (dues : List Due)
    (rest : List ℕ) → has_last dues ≡ false
    → Fronts old left bytes dues rest → Fronts new left bytes dues rest
fronts_told old new left bytes [] rest goes_on is = is
fronts_told old new left bytes (due ∷ dues) rest goes_on (mid, here, only, next) =
    let parts = open_parts due dues goes_on in
    (mid, by due mid parts.0 here, only, fronts_told old new (left - 1) mid dues rest parts.1 next)
  where
    by : (due : Due) (mid : List ℕ) → is_last due ≡ false → IsDue old left bytes due mid
        → IsDue new left bytes due mid
    by (Ask request last) mid goes_on here = here
    by (Refuse refusal) mid goes_on here = cc

-- the input is at its end still
pub due_told : (old new : Option Traffic) (left : ℕ) (bytes : List ℕ) (due : Due) (rest : List ℕ)
    → (IsAtEnd old → IsAtEnd new)
    → IsDue old left bytes due rest → IsDue new left bytes due rest
due_told old new left bytes (Ask request last) rest keeps due = due
due_told old new left bytes (Refuse refusal) rest keeps (inl wrong, same) = (inl wrong, same)
due_told old new left bytes (Refuse refusal) rest keeps (inr (front, ended), same) =
    (inr (front, keeps ended), same)

-- more is due behind those of which none is the last
pub fronts_append : (told : Option Traffic) (left : ℕ) (bytes : List ℕ) (dues : List Due)
    (held : List ℕ) (more : List Due) (rest : List ℕ) (count : ℕ) → has_last dues ≡ false
    → Fronts told left bytes dues held → count ≡ left - length dues
    → Fronts told count held more rest → Fronts told left bytes (dues ++ more) rest
fronts_append told left bytes [] held more rest count goes_on is so_many here =
    let all : count ≡ left = omega arith in rw (is, ← all) here
fronts_append told left bytes (first ∷ dues) held more rest count goes_on
    (mid, front, only, next) so_many here =
    let parts = open_parts first dues goes_on in (
      mid,
      front,
      (λ last. cc),
      fronts_append told (left - 1) mid dues held more rest count parts.1 next (omega arith) here,
    )

-- nothing moved yet, more was read, and more was written
pub moves_none : (now : Option Traffic) → Moves [] [] now now
moves_none None = tt
moves_none (Some now) =
    record { left = refl; reads = sym (append-nil now.read); writes = sym (append-nil now.written) }

pub moves_read : (read written more : List ℕ) (old mid new : Option Traffic)
    → Moves read written old mid → Reads more mid new → Moves (read ++ more) written old new
moves_read read written more None None None h k = tt
moves_read read written more None None (Some new) h k = elim k [ ]
moves_read read written more None (Some mid) new h k = elim h [ ]
moves_read read written more (Some old) None new h k = elim h [ ]
moves_read read written more (Some old) (Some mid) None h k = elim k [ ]
moves_read read written more (Some old) (Some mid) (Some new) h k = record {
  left = h.left ∙ ap (λ bytes. read ++ bytes) k.left ∙ sym (append_assoc read more new.left);
  reads = k.read ∙ ap (λ bytes. bytes ++ more) h.reads ∙ append_assoc old.read read more;
  writes = k.written ∙ h.writes;
}

pub moves_write : (read written text : List ℕ) (old mid new : Option Traffic)
    → Moves read written old mid → Writes text mid new → Moves read (written ++ text) old new
moves_write read written text None None None h k = tt
moves_write read written text None None (Some new) h k = elim k [ ]
moves_write read written text None (Some mid) new h k = elim h [ ]
moves_write read written text (Some old) None new h k = elim h [ ]
moves_write read written text (Some old) (Some mid) None h k = elim k [ ]
moves_write read written text (Some old) (Some mid) (Some new) h k = record {
  left = h.left ∙ ap (λ bytes. read ++ bytes) (sym k.left);
  reads = k.read ∙ h.reads;
  writes = k.written ∙ ap (λ bytes. bytes ++ text) h.writes ∙ append_assoc old.written written text;
}

-- a write takes nothing from what is left to read
pub at_end-write : (text : List ℕ) (old new : Option Traffic) → Writes text old new → IsAtEnd old
    → IsAtEnd new
at_end-write text None None h ended = tt
at_end-write text None (Some new) h ended = elim h [ ]
at_end-write text (Some old) None h ended = tt
at_end-write text (Some old) (Some new) h ended = h.left ∙ ended
