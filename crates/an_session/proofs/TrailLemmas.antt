-- How a trail goes on by another.
use Rattle.std.proofs.Common.{◌≡◌, ◌+◌, arith, List, [], ◌∷◌, ◌++◌, Bool, true, false, refl, sym, ap, subst, ◌∙◌, append_assoc, append-nil}
use Rattle.an_code.specs.declared.code.Code.{Code}
use Rattle.an_http.specs.declared.request.Request.{Request}
use Rattle.an_http.specs.declared.reply.Reply.{Reply}
use Rattle.an_session.specs.Due.{Ask, Refuse}
use Rattle.an_session.specs.Trail.{Rules, Known, Later, Item, Answers, Rests, Ran, behind, bad_reply, dues, text, texts}

-- ---- lists behind one another

module _ {E : Type 0} where
  pub later_same : (shared : Bool) (list : List E) → Later shared list list
  later_same true list = ([], append-nil list)
  later_same false list = refl

  pub later_then : (shared : Bool) (first mid last : List E) → Later shared first mid
      → Later shared mid last → Later shared first last
  later_then true first mid last p q =
      (p.0 ++ q.0, sym (append_assoc first p.0 q.0) ∙ ap (λ list. list ++ q.0) p.1 ∙ q.1)
  later_then false first mid last p q = q ∙ p

  -- ---- trails

  pub rests_same : (rules : Rules E) (now : Known E) → Rests rules now now
  rests_same rules now = (later_same rules.shared now.list, refl, refl)

  ran_later : (rules : Rules E) (trail : List (Item E)) (from mid to : Known E)
      → Rests rules from mid → Ran rules trail mid to → Ran rules trail from to
  ran_later rules [] from mid to first last = (
    later_then rules.shared from.list mid.list to.list first.0 last.0,
    last.1 ∙ first.1,
    last.2 ∙ first.2,
  )
  ran_later rules (item ∷ trail) from mid to first (found, answered, ran) = (
    later_then rules.shared from.list mid.list item.at first.0 found,
    answered,
    subst (λ faults. Ran rules trail
        (record {
          list = item.at ++ item.added;
          own = from.own ++ item.added;
          faults = faults + item.faults;
        }) to) first.2
        (subst (λ own. Ran rules trail
        (record {
          list = item.at ++ item.added;
          own = own ++ item.added;
          faults = mid.faults + item.faults;
        }) to) first.1 ran),
  )

  -- one trail, and another behind it
  pub ran_append : (rules : Rules E) (trail more : List (Item E)) (from mid to : Known E)
      → Ran rules trail from mid → Ran rules more mid to → Ran rules (trail ++ more) from to
  ran_append rules [] more from mid to first last = ran_later rules more from mid to first last
  ran_append rules (item ∷ trail) more from mid to (found, answered, ran) last =
      (found, answered, ran_append rules trail more (behind from item) mid to ran last)

  pub texts_append : (trail more : List (Item E))
      → texts (trail ++ more) ≡ texts trail ++ texts more
  texts_append [] more = refl
  texts_append (item ∷ trail) more =
      ap (λ bytes. text item ++ bytes) (texts_append trail more)
      ∙ sym (append_assoc (text item) (texts trail) (texts more))

  pub dues_append : (trail more : List (Item E)) → dues (trail ++ more) ≡ dues trail ++ dues more
  dues_append [] more = refl
  dues_append (item ∷ trail) more = ap (λ rest. item.due ∷ rest) (dues_append trail more)

  -- ---- one item

  abbrev pub asked : {rules : Rules E} {from to : Known E} (request : Request) (last : Bool)
      (reply : Reply) → Answers rules request reply from to → Item E
  asked request last reply h = record {
    due = Ask request last;
    reply = reply;
    at = h.at;
    added = h.added;
    faults = h.faults;
  }

  abbrev pub refused : Code → Known E → Item E
  refused refusal now = record {
    due = Refuse refusal;
    reply = bad_reply refusal;
    at = now.list;
    added = [];
    faults = 0;
  }

  pub ran_answer : (rules : Rules E) (request : Request) (last : Bool) (reply : Reply)
      (from to : Known E) → (h : Answers rules request reply from to)
      → Ran rules (asked request last reply h ∷ []) from to
  ran_answer rules request last reply from to h = (h.found, h.is, (h.seen, h.own, h.counted))

  pub ran_refusal : (rules : Rules E) (refusal : Code) (now : Known E)
      → Ran rules (refused refusal now ∷ []) now now
  ran_refusal rules refusal now = (
    later_same rules.shared now.list,
    (refl, refl, refl),
    (
      subst (λ list. Later rules.shared list now.list) (sym (append-nil now.list))
          (later_same rules.shared now.list),
      sym (append-nil now.own),
      omega arith,
    ),
  )
