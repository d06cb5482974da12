-- What follows of each trail, and of each session.
use Rattle.std.proofs.Common.{◌≡◌, ◌+◌, ◌*◌, ◌≤◌, List, [], ◌∷◌, ◌++◌, length, Bool, true, false, refl, sym, subst, ◌∙◌, append_assoc, append-nil, arith}
use mathlib.Core.List.{IsPrefix}
use Rattle.an_http.specs.Fields.{body_limit}
use Rattle.an_http.specs.Head.{head_limit}
use Rattle.an_session.specs.Due.{Due, Ask, Refuse, reply_limit, tries}
use Rattle.an_session.specs.Laws.{all_added, all_faults, IsOneList, shared}
use Rattle.an_session.specs.Session.{Line, ReadsRequests, Session}
use Rattle.an_session.specs.Trail.{Rules, Known, Later, Item, IsAnswered, Ran, behind, dues, texts}
use Rattle.an_session.specs.declared.ended.Ended.{Ended}
use Rattle.an_session.proofs.DueLaws.{fronts_tries}
use Rattle.an_session.proofs.TrailLemmas.{later_then}

module _ {E : Type 0} (rules : Rules E) where
  pub ran_own : (trail : List (Item E)) (from to : Known E) → Ran rules trail from to
      → to.own ≡ from.own ++ all_added trail
  ran_own [] from to (later, own, faults) = own ∙ sym (append-nil from.own)
  ran_own (item ∷ trail) from to (found, answered, ran) =
      ran_own trail (behind from item) to ran ∙ append_assoc from.own item.added (all_added trail)

  pub ran_faults : (trail : List (Item E)) (from to : Known E) → Ran rules trail from to
      → to.faults ≡ from.faults + all_faults trail
  ran_faults [] from to (later, own, faults) = omega (arith, faults)
  ran_faults (item ∷ trail) from to (found, answered, ran) =
      let behind = ran_faults trail (behind from item) to ran in omega (arith, behind)

  -- ---- nobody else writes

  found_same : (one : Bool) (seen found : List E) → one ≡ false → Later one seen found
      → found ≡ seen
  found_same true seen found is later = cc
  found_same false seen found is later = later

  one_from : (trail : List (Item E)) (list list' to : List E) → list' ≡ list
      → IsOneList trail list' to → IsOneList trail list to
  one_from trail list list' to is h = subst (λ list. IsOneList trail list to) is h

  pub ran_one : (trail : List (Item E)) (from to : Known E) → rules.shared ≡ false
      → Ran rules trail from to → IsOneList trail from.list to.list
  ran_one [] from to alone (later, own, faults) =
      found_same rules.shared from.list to.list alone later
  ran_one (item ∷ trail) from to alone (found, answered, ran) =
      let same : item.at ≡ from.list = found_same rules.shared from.list item.at alone found in (
        same,
        subst (λ list. IsOneList trail (list ++ item.added) to.list) same
            (ran_one trail (behind from item) to alone ran),
      )

  -- ---- others may

  later_prefix : (one : Bool) (seen found : List E) → Later one seen found → IsPrefix seen found
  later_prefix true seen found later = later
  later_prefix false seen found same = ([], append-nil seen ∙ sym same)

  prefix_then : (first mid last : List E) → IsPrefix first mid → IsPrefix mid last
      → IsPrefix first last
  prefix_then first mid last p q = later_then true first mid last p q

  pub ran_prefix : (trail : List (Item E)) (from to : Known E) → Ran rules trail from to
      → IsPrefix from.list to.list
  ran_prefix [] from to (later, own, faults) = later_prefix rules.shared from.list to.list later
  ran_prefix (item ∷ trail) from to (found, answered, ran) =
      prefix_then from.list item.at to.list (later_prefix rules.shared from.list item.at found)
      (prefix_then item.at (item.at ++ item.added) to.list (item.added, refl)
      (ran_prefix trail (behind from item) to ran))

  answered_shared : (item : Item E) (due : Due)
      → IsAnswered rules due item.reply item.at item.added item.faults
      → IsAnswered (shared rules) due item.reply item.at item.added item.faults
  answered_shared item (Ask request last) h = h
  answered_shared item (Refuse refusal) h = h

  ran_shared : (trail : List (Item E)) (from to : Known E) → Ran rules trail from to
      → Ran (shared rules) trail from to
  ran_shared [] from to (later, own, faults) =
      (later_prefix rules.shared from.list to.list later, own, faults)
  ran_shared (item ∷ trail) from to (found, answered, ran) = (
    later_prefix rules.shared from.list item.at found,
    answered_shared item item.due answered,
    ran_shared trail (behind from item) to ran,
  )

  pub session_shared : (ended : Ended) (old new : Line) (from to : Known E)
      → Session rules ended old new from to → Session (shared rules) ended old new from to
  session_shared ended old new from to h = record {
    trail = h.trail;
    lost = h.lost;
    ran = ran_shared (h.trail ++ h.lost) from to h.ran;
    read = h.read;
    rest = h.rest;
    due = h.due;
    tail = h.tail;
    moves = h.moves;
    few = h.few;
    ends = h.ends;
  }

  pub session_little : (ended : Ended) (old new : Line) (from to : Known E)
      (h : Session rules ended old new from to)
      → length h.read ≤ reply_limit * (head_limit + body_limit)
  session_little ended old new from to h =
      let few : tries (dues (h.trail ++ h.lost)) ≤ reply_limit =
      fronts_tries new.traffic reply_limit h.read (dues (h.trail ++ h.lost)) h.rest
      (omega arith) h.due in
      omega (arith, few, h.few)

  pub session_reads : (ended : Ended) (old new : Line) (from to : Known E)
      → Session rules ended old new from to → ReadsRequests old.traffic new.traffic
  session_reads ended old new from to h = record {
    read = h.read;
    written = texts h.trail ++ h.tail;
    moves = h.moves;
    most = session_little ended old new from to h;
  }
