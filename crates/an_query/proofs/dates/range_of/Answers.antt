use Rattle.std.proofs.Common.{lit<, None, sym}
use Rattle.std.proofs.lemmas.Str.Pattern.{split_once_first}
use Rattle.an_query.proofs.DateLemmas.{no_slash}
use Rattle.an_query.proofs.dates.range_of.Goals as goal

pub returns-in-None : goal.returns-in-None
returns-in-None c = record {
  range =
      sym (no_slash c.args.piece.now
      (split_once_first 47 c.args.piece.now None c.in-None.ensures.cases (lit< tt)));
}
