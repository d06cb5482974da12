use Rattle.an_base.proofs.MomentLaws.{moment_text-length, moment_text-ascii}
use Rattle.an_base.proofs.moment.moment_texts_are_ascii.Goals as goal

pub returns : goal.returns
returns c = record { length = moment_text-length; ascii = moment_text-ascii }
