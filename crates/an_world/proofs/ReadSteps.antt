-- What a loop of reads uses of the lemmas on links.
use Rattle.an_world.proofs.LinkLemmas.{Reads-none, Reads-on, ReadsAtMost-on}

pub ruleset read_steps = (Reads-none, Reads-on, ReadsAtMost-on)
