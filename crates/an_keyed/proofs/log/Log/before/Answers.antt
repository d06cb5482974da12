use Rattle.std.proofs.Common.{◌≡◌, take, subst, ap}
use Rattle.std.specs.Option.{option_copied}
use Rattle.an_keyed.specs.Hashes.{IsLast}
use Rattle.an_keyed.specs.Key.{Key}
use Rattle.an_keyed.proofs.LogLemmas.{hash-here}
use Rattle.an_keyed.proofs.log.Log.before.Goals as goal

pub last_in-requires-clause-next : goal.last_in-requires-clause-next
last_in-requires-clause-next g c =
    let wanted : Key = record { owner = option_copied c.args.owner; name = c.args.name.now } in
    let rows : c.self.inside.items.items ≡ c.args.self.now.rows = ap (λ l. l.rows) c.self.view_is in
    let hash =
    hash-here g.R.Keyed.key c.self.inside.items.items c.self.inside.index.hashes wanted c.args.place
    c.self.invariant.hashed (rw rows c.requires.here) in
    subst (λ h. IsLast h (take c.args.place c.self.inside.index.hashes) c.before-next.result) hash
    c.before-next.ensures.last
