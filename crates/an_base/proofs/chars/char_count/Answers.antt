use Rattle.std.proofs.Common.{rules, ◌≡◌, length, arith}
use Rattle.std.proofs.lemmas.Str.{chars_from_encodes}
use Rattle.std.specs.Str.{chars}
use Rattle.an_base.proofs.CharLemmas.{length-chars}
use Rattle.an_base.proofs.chars.char_count.Goals as goal

pub returns-clause-count : goal.returns-clause-count
returns-clause-count c = search (rules, chars_from_encodes)

pub returns-clause-bound : goal.returns-clause-bound
returns-clause-bound c =
    let count : c.count.result ≡ length (chars c.args.text.now) =
    search (rules, chars_from_encodes) in
    let bound = length-chars c.args.text.now c.utf8.text in
    omega arith
