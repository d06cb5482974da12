use Rattle.an_base.proofs.MomentLaws.{moment_written}
use Rattle.an_base.proofs.moment.moment_texts_are_unique.Goals as goal

pub returns : goal.returns
returns c = record {
  moment = λ text m h. (moment_written text m h).0;
  unique = λ text m h. (moment_written text m h).1;
}
