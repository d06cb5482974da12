-- How turns make a session: for the loop over them.
use Rattle.std.proofs.Common.{◌≡◌, ℕ, suc, ◌+◌, ◌-◌, ◌*◌, ◌≤◌, max, List, [], ◌∷◌, ◌++◌, length, Bool, true, false, ◌||◌, if◌then◌else◌, Option, Some, None, inl, inr, refl, sym, ap, subst, ◌∙◌, append_assoc, append-nil, length-append, arith}
use Rattle.an_world.specs.Link.{Traffic, Reads, Writes}
use Rattle.an_http.specs.Fields.{body_limit}
use Rattle.an_http.specs.Head.{head_limit}
use Rattle.an_http.specs.Replies.{memory_reply}
use Rattle.an_http.proofs.ShortLemmas.{requests_short}
use Rattle.an_session.specs.Due.{Due, Ask, Refuse, reply_limit, is_last, has_last, tries, IsDue, Fronts}
use Rattle.an_session.specs.Trail.{Rules, Known, Item, Ran, Goes, dues, texts, text}
use Rattle.an_session.specs.Session.{line, Moves, Stops, Ends, Session}
use Rattle.an_session.specs.Turn.{most, Turns, Serving}
use Rattle.an_session.specs.declared.ended.Ended.{Ended}
use Rattle.an_session.specs.declared.ended.Ended.TheVariants.{Closed, ReadFault, WriteFault, Memory}
use Rattle.an_session.proofs.DueLemmas.{has_last-behind, fronts_more, fronts_append, moves_none, moves_read, moves_write}
use Rattle.an_session.proofs.TurnLemmas.{rises_on}
use Rattle.an_session.proofs.TrailLemmas.{ran_append, rests_same, texts_append, dues_append}

-- one that isn't the last was a whole request
short_due : (told : Option Traffic) (left : ℕ) (bytes : List ℕ) (due : Due) (rest : List ℕ)
    → IsDue told left bytes due rest → is_last due ≡ false → length bytes ≤ length rest + most
short_due told left bytes (Ask request last) rest (begins, is) goes_on =
    (requests_short bytes request rest begins).0
short_due told left bytes (Refuse refusal) rest due goes_on = cc

module _ {E : Type 0} (rules : Rules E) where
  -- the first turn is still to come
  pub serving_none : (now : Option Traffic) (reads writes : ℕ) (held : List ℕ) (known : Known E)
      → held ≡ [] → Serving rules 0 (line now reads writes) (line now reads writes) held known known
  serving_none now reads writes held known none = record {
    trail = [];
    ran = rests_same rules known;
    read = [];
    due = sym none;
    goes_on = refl;
    moves = moves_none now;
    count = refl;
    short = omega arith;
    small = rw none (omega arith);
  }

  module _ (turns : ℕ) (old mid new : Option Traffic)
      (reads reads' reads'' writes writes' writes'' : ℕ) (held held' : List ℕ)
      (from between to : Known E)
      (h : Serving rules turns (line old reads writes)
      (line mid reads' writes') held from between) where
    -- behind a trail that goes on, and more bytes
    due_all : (after : Option Traffic) (all : List ℕ) (more : List ℕ) (trail : List (Item E))
        (rest : List ℕ) → all ≡ held ++ more
        → Fronts after (reply_limit - turns) all (dues trail) rest
        → Fronts after reply_limit (h.read ++ more) (dues (h.trail ++ trail)) rest
    due_all after all more trail rest is due =
        let counted : length (dues h.trail) ≡ turns = length_dues h.trail ∙ h.count in
        subst (λ list. Fronts after reply_limit (h.read ++ more) list rest)
        (sym (dues_append h.trail trail))
        (fronts_append after reply_limit (h.read ++ more) (dues h.trail) (held ++ more)
        (dues trail) rest (reply_limit - turns) h.goes_on
        (fronts_more mid after reply_limit h.read more (dues h.trail) held h.goes_on h.due)
        (ap (λ n. reply_limit - n) (sym counted))
        (subst (λ bytes. Fronts after (reply_limit - turns) bytes (dues trail) rest) is due))
      where
        length_dues : (trail : List (Item E)) → length (dues trail) ≡ length trail
        length_dues [] = refl
        length_dues (item ∷ trail) = ap suc (length_dues trail)

    moves_all : (more : List ℕ) (trail : List (Item E)) (tail : List ℕ) (at after : Option Traffic)
        → Reads more mid at
        → Writes (texts trail ++ tail) at after
        → Moves (h.read ++ more) (texts (h.trail ++ trail) ++ tail) old after
    moves_all more trail tail at after reads writes =
        subst (λ bytes. Moves (h.read ++ more) bytes old after)
        (sym (append_assoc (texts h.trail) (texts trail) tail)
        ∙ ap (λ bytes. bytes ++ tail) (sym (texts_append h.trail trail)))
        (moves_write (h.read ++ more) (texts h.trail) (texts trail ++ tail) old at after
        (moves_read h.read (texts h.trail) more old mid at h.moves reads) writes)

    -- how many bytes were read
    read_all : (all more : List ℕ) → all ≡ held ++ more → length all ≤ max (length held) most
        → length (h.read ++ more) ≤ turns * most + length all
    read_all all more is few =
        let both : length (h.read ++ more) ≡ length h.read + length more =
        length-append h.read more in
        let lengths : length all ≡ length held + length more =
        ap length is ∙ length-append held more in
        omega (arith, h.short, both, lengths)

    small_all : (all : List ℕ) → length all ≤ max (length held) most → length all ≤ most
    small_all all few = let small = h.small in grind (arith, few, small)

    -- there is a try for this turn
    tries_all : (trail : List (Item E)) → turns + 1 ≤ tries (dues (h.trail ++ trail))
    tries_all trail = by trail (has_last (dues (h.trail ++ trail))) refl
      where
        length_dues : (trail : List (Item E)) → length (dues trail) ≡ length trail
        length_dues [] = refl
        length_dues (item ∷ trail) = ap suc (length_dues trail)

        all_of : (trail : List (Item E)) → length (dues (h.trail ++ trail)) ≡ turns + length trail
        all_of trail =
            length_dues (h.trail ++ trail) ∙ length-append h.trail trail
            ∙ ap (λ n. n + length trail) h.count

        by : (trail : List (Item E)) (last : Bool) → has_last (dues (h.trail ++ trail)) ≡ last
            → turns + 1 ≤ (if last then length (dues (h.trail ++ trail))
            else length (dues (h.trail ++ trail)) + 1)
        by [] true is =
            let none : has_last (dues h.trail) ≡ true =
            ap (λ trail. has_last (dues trail)) (sym (append-nil h.trail)) ∙ is in
            let goes_on = h.goes_on in absurd (cc)
        by (item ∷ trail) true is = omega (arith, all_of (item ∷ trail))
        by trail false is = omega (arith, all_of trail)

    read_most : (all more : List ℕ) (trail : List (Item E)) → all ≡ held ++ more
        → length all ≤ max (length held) most
        → length (h.read ++ more) ≤ tries (dues (h.trail ++ trail)) * (head_limit + body_limit)
    read_most all more trail is few =
        omega (arith, read_all all more is few, small_all all few, tries_all trail)

    -- the end of a turn is that of all
    open_all : (trail : List (Item E)) (last : Bool) → has_last (dues trail) ≡ last
        → has_last (dues (h.trail ++ trail)) ≡ last
    open_all trail last is =
        ap has_last (dues_append h.trail trail)
        ∙ has_last-behind (dues h.trail) (dues trail) h.goes_on ∙ is

    module _ (reads_kept : reads ≤ reads') (reads_more : reads' ≤ reads'')
        (writes_kept : writes ≤ writes') (writes_more : writes' ≤ writes'') where
      stops_all : (bytes tail : List ℕ)
          → Stops bytes tail (line mid reads' writes') (line new reads'' writes'')
          → Stops bytes tail (line old reads writes) (line new reads'' writes'')
      stops_all bytes tail k = record {
        count = k.count;
        is = k.is;
        fault = rises_on writes writes' writes'' writes_kept writes_more k.fault;
      }

      ends_all : (ended : Ended) (trail lost : List (Item E)) (tail rest : List ℕ)
          → Ends ended (line mid reads' writes') (line new reads'' writes'') trail lost tail rest
          → Ends ended (line old reads writes) (line new reads'' writes'')
          (h.trail ++ trail) lost tail rest
      ends_all Closed trail lost tail rest (none, nothing, inl last) =
          (none, nothing, inl (open_all trail true last))
      ends_all Closed trail lost tail rest (none, nothing, inr ended) = (none, nothing, inr ended)
      ends_all ReadFault trail lost tail rest (none, nothing, goes_on, open_, fault) = (
        none,
        nothing,
        open_all trail false goes_on,
        open_,
        rises_on reads reads' reads'' reads_kept reads_more fault,
      )
      ends_all WriteFault trail lost tail rest (last, is, stops) =
          (last, is, stops_all (text last) tail stops)
      ends_all Memory trail lost tail rest (few, goes_on, inl whole) =
          (few, open_all trail false goes_on, inl whole)
      ends_all Memory trail lost tail rest (few, goes_on, inr stops) =
          (few, open_all trail false goes_on, inr (stops_all memory_reply tail stops))

      pub session_ends : (ended : Ended)
          → Turns rules (reply_limit - turns) (Some ended) (line mid reads' writes')
          (line new reads'' writes'') held held' between to
          → Session rules ended (line old reads writes) (line new reads'' writes'') from to
      session_ends ended k = record {
        trail = h.trail ++ k.trail;
        lost = k.lost;
        ran =
            subst (λ trail. Ran rules trail from to) (sym (append_assoc h.trail k.trail k.lost))
            (ran_append rules h.trail (k.trail ++ k.lost) from between to h.ran k.ran);
        read = h.read ++ k.reads.more;
        rest = k.rest;
        due =
            subst (λ trail. Fronts new reply_limit (h.read ++ k.reads.more) (dues trail) k.rest)
            (sym (append_assoc h.trail k.trail k.lost))
            (due_all new k.all k.reads.more (k.trail ++ k.lost) k.rest k.reads.is k.due);
        tail = k.tail;
        moves = moves_all k.reads.more k.trail k.tail k.mid new k.reads.reads k.writes;
        few =
            subst (λ trail.
            length (h.read ++ k.reads.more) ≤ tries (dues trail) * (head_limit + body_limit))
            (sym (append_assoc h.trail k.trail k.lost))
            (read_most k.all k.reads.more (k.trail ++ k.lost) k.reads.is k.few);
        ends = ends_all ended k.trail k.lost k.tail k.rest k.ends;
      }

      -- ---- the loop goes on

      -- one reply, that isn't the last, takes at most the bytes of a largest request
      short_one : (told : Option Traffic) (all : List ℕ) (trail : List (Item E)) (rest : List ℕ)
          → length trail ≡ 1 → has_last (dues trail) ≡ false
          → Fronts told (reply_limit - turns) all (dues trail) rest
          → length all ≤ length rest + most
      short_one told all [] rest one goes_on due = absurd (omega (arith, one))
      short_one told all (item ∷ next ∷ trail) rest one goes_on due = absurd (omega (arith, one))
      short_one told all (item ∷ []) rest one goes_on (behind, is, only, same) =
          let flag : is_last item.due ≡ false = by (is_last item.due) goes_on in
          subst (λ bytes. length all ≤ length bytes + most) same
          (short_due told (reply_limit - turns) all item.due behind is flag)
        where
          by : (last : Bool) → (last || false) ≡ false → last ≡ false
          by true h = cc
          by false h = refl

      pub serving_next : Turns rules (reply_limit - turns) None (line mid reads' writes')
          (line new reads'' writes'') held held' between to
          → length held' ≤ max (length held) most
          → Serving rules (turns + 1) (line old reads writes)
          (line new reads'' writes'') held' from to
      serving_next k kept =
          let (none, nothing, one, goes_on, same) = k.ends in
          let whole : k.trail ++ k.lost ≡ k.trail =
          ap (λ lost. k.trail ++ lost) none ∙ append-nil k.trail in
          let due : Fronts new (reply_limit - turns) k.all (dues k.trail) k.rest =
          subst (λ trail. Fronts new (reply_limit - turns) k.all (dues trail) k.rest) whole k.due in
          let short = short_one new k.all k.trail k.rest one goes_on due in
          let read = read_all k.all k.reads.more k.reads.is k.few in
          record {
            trail = h.trail ++ k.trail;
            ran =
                ran_append rules h.trail k.trail from between to h.ran
                (subst (λ trail. Ran rules trail between to) whole k.ran);
            read = h.read ++ k.reads.more;
            due =
                subst (λ rest.
                Fronts new reply_limit (h.read ++ k.reads.more) (dues (h.trail ++ k.trail)) rest)
                (sym same) (due_all new k.all k.reads.more k.trail k.rest k.reads.is due);
            goes_on = open_all k.trail false goes_on;
            moves =
                subst (λ bytes. Moves (h.read ++ k.reads.more) bytes old new)
                (ap (λ tail. texts (h.trail ++ k.trail) ++ tail) nothing
                ∙ append-nil (texts (h.trail ++ k.trail)))
                (moves_all k.reads.more k.trail k.tail k.mid new k.reads.reads k.writes);
            count = length-append h.trail k.trail ∙ omega (arith, h.count, one);
            short = omega (arith, read, short, ap length same);
            small = let small = h.small in grind (arith, kept, small);
          }

-- ---- whatever the service stands for

pub goes_then : {S E : Type 0} (Stands : S → Known E → Type 0)
    (First Next Both : Known E → Known E → Type 0) (old mid new : S)
    → ((from between to : Known E) → First from between → Next between to → Both from to)
    → Goes Stands First old mid → Goes Stands Next mid new → Goes Stands Both old new
goes_then Stands First Next Both old mid new joins h k = record {
  goes = λ from stands.
      let (between, stands', first) = h.goes from stands in
      let (to, stands'', next) = k.goes between stands' in
      (to, stands'', joins from between to first next);
}
