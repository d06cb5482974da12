-- What searches and completions count goes by the annotations of a view alone.
use Rattle.std.proofs.Common.{◌≡◌, ℕ, List, Result, Ok, Err, length, codes, refl, ap}
use Rattle.std.specs.Prelude.{filter}
use Rattle.an_complete.specs.Ask.{AskRecord, ask_of}
use Rattle.an_complete.specs.Complete.{asked_terms, filters_of, first_terms}
use Rattle.an_complete.specs.declared.ask.AskError.{AskError}
use Rattle.an_state.specs.Terms.{totals_in}
use Rattle.an_state.specs.View.{View, is_on}
use Rattle.an_query.specs.Query.{QueryRecord, query_of, search_parameters}
use Rattle.an_search.specs.Search.{hits}
use Rattle.an_search.specs.Wanted.{matches, wanted_of}
use Rattle.an_query.specs.declared.query.QueryError.{QueryError}
use Rattle.an_search.specs.declared.wanted.Wanted.{Wanted}
use Rattle.an_terms.specs.Terms.{term_of}
use Rattle.an_trial.specs.Trial.{found_if, found_total, listed_if, listed_total, total_in}

module _ (v w : View) (same : v.notes ≡ w.notes) where
  hits-same : (manifest : List ℕ) (wanted : Wanted)
      → hits v manifest wanted ≡ hits w manifest wanted
  unfolding hits
  hits-same manifest wanted =
      ap (λ notes. filter (matches wanted) (filter (is_on manifest) notes)) same

  terms-same : (manifest : List ℕ) (ask : AskRecord)
      → asked_terms v manifest ask ≡ asked_terms w manifest ask
  unfolding asked_terms
  terms-same manifest ask =
      ap (λ notes. first_terms ask.min
      (totals_in (term_of ask.q)
      (filter (matches (filters_of ask)) (filter (is_on manifest) notes)))) same

  found_if-same : (query : Result QueryRecord QueryError) → found_if v query ≡ found_if w query
  found_if-same (Ok query) = ap length (hits-same (codes "m1") (wanted_of query))
  found_if-same (Err refusal) = refl

  listed_if-same : (term : List ℕ) (ask : Result AskRecord AskError)
      → listed_if v term ask ≡ listed_if w term ask
  listed_if-same term (Ok ask) = ap (total_in term) (terms-same (codes "m1") ask)
  listed_if-same term (Err refusal) = refl

  pub found_total-same : (parameters : List ℕ) → found_total v parameters ≡ found_total w parameters
  unfolding found_total
  found_total-same parameters = found_if-same (query_of search_parameters parameters)

  pub listed_total-same : (parameters word : List ℕ)
      → listed_total v parameters word ≡ listed_total w parameters word
  unfolding listed_total
  listed_total-same parameters word = listed_if-same (term_of word) (ask_of parameters)
