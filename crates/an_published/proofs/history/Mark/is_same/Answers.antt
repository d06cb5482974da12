use Rattle.std.proofs.Common.{◌≡◌, ◌+◌, List, length, ap, subst, sym, ◌∙◌}
use Rattle.std.proofs.lemmas.Bool.Decides.{Decides-eqb}
use mathlib.Core.List.{IsPrefix}
use Rattle.an_laws.specs.Events.{Event}
use Rattle.an_published.proofs.Lists.{prefix_alike}
use Rattle.an_published.proofs.history.Mark.is_same.Goals as goal

pub returns : goal.returns
returns c = λ is.
    let one : List Event = c.self.inside.seen.log in
    let other : List Event = c.other.inside.seen.log in
    let both : List Event = c.learn.new.self.log in
    let first : IsPrefix one both =
    subst (λ (l : List Event). IsPrefix l both)
    (ap (λ s. s.log) c.again-both.ensures) c.learn.ensures.2 in
    let counts : c.self.inside.count ≡ c.other.inside.count =
    (Decides-eqb c.self.inside.count c.other.inside.count).0 is in
    let size : length one ≡ length other =
    c.self.invariant ∙ (ap (λ n. n + 1) counts ∙ sym c.other.invariant) in
    sym (ap (λ r. r.list) c.self.view_is)
    ∙ (prefix_alike one other both first c.learn.ensures.3 size ∙ ap (λ r. r.list) c.other.view_is)
