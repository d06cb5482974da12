use Rattle.std.proofs.Common.{rules}
use Rattle.an_served.proofs.PushLemmas.{piece_written, piece-end, piece-past}
use Rattle.an_served.proofs.manifest.push_piece.Goals as goal

pub returns : goal.returns
returns c = search (rules, piece_written, piece-end, piece-past)
