use Rattle.std.proofs.Common.{length}
use Rattle.an_search.proofs.gathered.+hits_on.Given as goal

abbrev pub decreases-hits_on : goal.decreases-hits_on
decreases-hits_on g l = length l.manifests.now
