use Rattle.an_base.proofs.MomentLaws.{moment_read}
use Rattle.an_base.proofs.moment.moments_read_back.Goals as goal

pub returns : goal.returns
returns c = moment_read
