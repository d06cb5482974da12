use Rattle.std.proofs.Common.{◌≡◌, ◌++◌, map, drop}
use Rattle.std.specs.Prelude.{flat_map}
use Rattle.an_trial.specs.Trial.{word_line}
use Rattle.an_trial.proofs.report.push_word_lines.Given as goal

-- what was written, and what the words that are left are to add
abbrev pub invariant-loop-word : goal.invariant-loop-word
invariant-loop-word g l =
    l.text.items
    ++ flat_map (word_line l.look.state) (map (λ word. word.now) (drop l.word-index l.words))
    ≡ l.initial.text.items ++ flat_map (word_line l.look.state) (map (λ word. word.now) l.words)
