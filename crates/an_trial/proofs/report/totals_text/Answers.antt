use Rattle.std.proofs.Common.{◌≡◌, ap, ◌∙◌, arith}
use Rattle.std.proofs.lemmas.Grind.{common_steps}
use Rattle.an_policy.specs.Audience.{identity}
use Rattle.an_state.specs.View.{View, view_of, view_by}
use Rattle.an_trial.specs.Trial.{found_total, listed_total, word_query}
use Rattle.an_trial.proofs.TotalLemmas.{found_total-same, listed_total-same}
use Rattle.an_trial.proofs.report.totals_text.Goals as goal

pub returns : goal.returns
returns g c =
    let s = c.args.look.now.state in
    let word = c.args.word.now in
    let read : View = view_of s (identity c.reading-who.result) in
    let view : View = view_by s c.args.caller.now in
    let first : c.as_str.result.now ≡ word_query word =
    c.as_str.ensures.value ∙ c.in_ok-query.ensures in
    let second : c.as_str-2.result.now ≡ word_query word =
    c.as_str-2.ensures.value ∙ c.in_ok-query.ensures in
    let found : c.in_ok-found.found ≡ found_total view (word_query word) =
    c.in_ok-found.ensures.total ∙ ap (found_total read) first
    ∙ found_total-same read view c.reading-who.ensures (word_query word) in
    let listed : c.in_ok-listed.listed ≡ listed_total view (word_query word) word =
    c.in_ok-listed.ensures.total ∙ ap (λ p. listed_total read p word) second
    ∙ listed_total-same read view c.reading-who.ensures (word_query word) word in
    grind (arith, common_steps, found, listed)
