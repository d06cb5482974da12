-- The trial: what searches and completions count in the state that its writes lead to.
use Rattle.std.specs.Prelude.{ℕ, List, [], ◌++◌, length, fold, flat_map, find, bytes_eq}
use Rattle.std.specs.Prelude.{codes, decimal, Result, Ok, Err}
use Rattle.std.specs.Option.{option_map_or}
use Rattle.an_base.specs.declared.span.TermTotal.{TermTotal}
use Rattle.an_complete.specs.Ask.{AskRecord, ask_of}
use Rattle.an_complete.specs.Complete.{asked_terms}
use Rattle.an_complete.specs.declared.ask.AskError.{AskError}
use Rattle.an_state.specs.Entries.{state_after}
use Rattle.an_state.specs.State.{State, empty}
use Rattle.an_machine.specs.Step.{step}
use Rattle.an_base.specs.TextSet.{ascending}
use Rattle.an_state.specs.View.{View, view_by}
use Rattle.an_policy.specs.declared.who.Caller.TheVariants.{Anonymous, Named}
use Rattle.an_query.specs.Query.{QueryRecord, query_of, search_parameters}
use Rattle.an_search.specs.Search.{hits}
use Rattle.an_search.specs.Wanted.{wanted_of}
use Rattle.an_query.specs.declared.query.QueryError.{QueryError}
use Rattle.an_terms.specs.Terms.{term_of}
use Rattle.an_trial.specs.Writes.{words, writes}
use Rattle.an_trial.specs.declared.writes.Write.{Write}

-- ---- the state

-- the small machine decides a write, and one that it refuses changes nothing
abbrev pub state_behind : State → Write → State
state_behind s write = elim (step s write.moment write.caller write.command) [
  | Ok decided ↦ state_after s decided.entry
  | Err refusal ↦ s
]

-- behind all writes
unfoldable pub state_behind_all : State → ℕ → ℕ → State
state_behind_all s count seed = fold state_behind s (writes count seed)

unfoldable pub trial_state : ℕ → ℕ → State
trial_state count seed = state_behind_all empty count seed

-- ---- what is counted in it

-- how many annotations a search finds
abbrev pub found_if : View → Result QueryRecord QueryError → ℕ
found_if view (Ok query) = length (hits view (codes "m1") (wanted_of query))
found_if view (Err refusal) = 0

-- the same with these parameters, none where they are refused
unfoldable pub found_total : View → List ℕ → ℕ
found_total view parameters = found_if view (query_of search_parameters parameters)

-- the total of a term, 0 where it isn't listed
abbrev pub total_in : List ℕ → List TermTotal → ℕ
total_in term terms =
    option_map_or (λ listed. listed.total) (find (λ listed. bytes_eq listed.term term) terms) 0

-- the total of a term in a completion
abbrev pub listed_if : View → List ℕ → Result AskRecord AskError → ℕ
listed_if view term (Ok ask) = total_in term (asked_terms view (codes "m1") ask)
listed_if view term (Err refusal) = 0

-- the same of a word's term with these parameters, 0 where they are refused
unfoldable pub listed_total : View → List ℕ → List ℕ → ℕ
listed_total view parameters word = listed_if view (term_of word) (ask_of parameters)

-- ---- what is printed

abbrev pub word_query : List ℕ → List ℕ
word_query word = codes "q=" ++ word

-- the totals of a word for a caller, each behind a space
abbrev pub totals_text : View → List ℕ → List ℕ
totals_text view word =
    codes " " ++ (decimal (found_total view (word_query word))
    ++ (codes " " ++ decimal (listed_total view (word_query word) word)))

abbrev pub word_line : State → List ℕ → List ℕ
word_line s word =
    word ++ (totals_text (view_by s Anonymous) word
    ++ (totals_text (view_by s (Named (codes "t"))) word ++ codes "\n"))

abbrev pub first_line : State → ℕ → List ℕ
first_line s count =
    codes "notes " ++ (decimal count
    ++ (codes " public " ++ (decimal (found_total (view_by s Anonymous) []) ++ codes "\n")))

unfoldable pub report_of : State → ℕ → List ℕ
report_of s count = first_line s count ++ flat_map (word_line s) (ascending words)

-- what a trial of so many annotations from a seed prints
abbrev pub trial_text : ℕ → ℕ → List ℕ
trial_text count seed = report_of (trial_state count seed) count
