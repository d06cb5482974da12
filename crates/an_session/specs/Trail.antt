-- What was answered over a connection, one request behind another, each at a list of entries.
use Rattle.std.specs.Prelude.{◌≡◌, ◌⊎◌, ℕ, ◌+◌, List, [], ◌∷◌, ◌++◌, map, Bool, true, false}
use Rattle.std.specs.Prelude.{Option, Some, Result, Ok, Err}
use mathlib.Core.List.{IsPrefix}
use Rattle.an_code.specs.declared.code.Code.{Code}
use Rattle.an_http.specs.declared.method.Method.{Method}
use Rattle.an_http.specs.declared.method.Method.TheVariants as method
use Rattle.an_http.specs.declared.request.Request.{Request}
use Rattle.an_http.specs.declared.reply.Reply.{Reply}
use Rattle.an_http.specs.declared.reply.Allow.TheVariants as allow
use Rattle.an_http.specs.Errors.{refusal_reply}
use Rattle.an_http.specs.Replies.{reply_bytes}
use Rattle.an_session.specs.Due.{Due, Ask, Refuse, is_last}

-- ---- by what is answered, and what is known

-- By what a service answers: whether others write meanwhile; and at this list of entries the
-- request may be answered by this reply, adds these entries behind the list, and meets so many
-- faults of what keeps them.
pub record Rules (E : Type 0) : Type 1 where
  pub shared : Bool
  pub answers : List E → Request → Reply → List E → ℕ → Type 0

-- what a connection has seen: a list of entries, those of them that are its own, and how many
-- faults its answers met
pub record Known (E : Type 0) : Type 0 where
  pub list : List E
  pub own : List E
  pub faults : ℕ

-- The list that is found behind one that was seen: the same where nobody else writes, and one that
-- goes on from it where others may have written meanwhile.
abbrev pub Later : {E : Type 0} → Bool → List E → List E → Type 0
Later true seen found = IsPrefix seen found
Later false seen found = found ≡ seen

-- ---- the trail

-- what was due, its reply, the list at which it was answered, the entries that it added there, and
-- how many faults that met
pub record Item (E : Type 0) : Type 0 where
  pub due : Due
  pub reply : Reply
  pub at : List E
  pub added : List E
  pub faults : ℕ

-- the reply to what is refused before it is a request
abbrev pub bad_reply : Code → Reply
bad_reply refusal = refusal_reply allow.Absent refusal

-- what is refused meets no service
abbrev pub IsAnswered : {E : Type 0} → Rules E → Due → Reply → List E → List E → ℕ → Type 0
IsAnswered rules (Ask request last) reply at added faults =
    rules.answers at request reply added faults
IsAnswered rules (Refuse refusal) reply at added faults =
    (reply ≡ bad_reply refusal) × (added ≡ []) × (faults ≡ 0)

-- no answer came between: nothing of one's own was added, and no fault was met
abbrev pub Rests : {E : Type 0} → Rules E → Known E → Known E → Type 0
Rests rules from to =
    Later rules.shared from.list to.list × (to.own ≡ from.own) × (to.faults ≡ from.faults)

-- what is known behind an answer
abbrev pub behind : {E : Type 0} → Known E → Item E → Known E
behind from item = record {
  list = item.at ++ item.added;
  own = from.own ++ item.added;
  faults = from.faults + item.faults;
}

-- one behind another, each is answered at a list that is found behind what was known before
abbrev pub Ran : {E : Type 0} → Rules E → List (Item E) → Known E → Known E → Type 0
Ran rules [] from to = Rests rules from to
Ran rules (item ∷ trail) from to =
    Later rules.shared from.list item.at
    × IsAnswered rules item.due item.reply item.at item.added item.faults
    × Ran rules trail (behind from item) to

abbrev pub dues : {E : Type 0} → List (Item E) → List Due
dues trail = map (λ item. item.due) trail

-- a request of which the head of the reply alone is sent (RFC 9110, section 9.3.2)
abbrev pub has_head_alone : Option Method → Bool
has_head_alone (Some method.Head) = true
has_head_alone _ = false

abbrev pub is_head : Request → Bool
is_head request = has_head_alone request.method

abbrev pub head_only : Due → Bool
head_only (Ask request last) = is_head request
head_only (Refuse refusal) = false

-- the bytes of a reply
abbrev pub text : {E : Type 0} → Item E → List ℕ
text item = reply_bytes item.reply (head_only item.due) (is_last item.due)

-- the bytes of the replies, one behind another
abbrev pub texts : {E : Type 0} → List (Item E) → List ℕ
texts [] = []
texts (item ∷ trail) = text item ++ texts trail

-- ---- one answer

-- The request is answered by this reply at a list that is found behind what was known, and what it
-- adds there is seen, and one's own, as are the faults that it meets.
pub record Answers {E : Type 0} (rules : Rules E) (request : Request) (reply : Reply)
    (from to : Known E) : Type 0 where
  pub at : List E
  pub added : List E
  pub faults : ℕ
  pub found : Later rules.shared from.list at
  pub is : rules.answers at request reply added faults
  pub seen : Later rules.shared (at ++ added) to.list
  pub own : to.own ≡ from.own ++ added
  pub counted : to.faults ≡ from.faults + faults

-- An answer may be lost for want of memory alone. Then nothing came of the request, or it was
-- answered all the same.
abbrev pub Comes
    : {E F : Type 0} → Rules E → Request → Result Reply F → Known E → Known E → Type 0
Comes rules request (Ok reply) from to = Answers rules request reply from to
Comes rules request (Err error) from to =
    Rests rules from to ⊎ ((reply : Reply) × Answers rules request reply from to)

-- Whatever a service stands for before, it comes to stand for something by this.
pub record Goes {S E : Type 0} (Stands : S → Known E → Type 0) (By : Known E → Known E → Type 0)
    (old new : S) : Type 0 where
  pub goes : (from : Known E) → Stands old from → (to : Known E) × Stands new to × By from to
