use Rattle.std.proofs.Common.{◌≤◌, List, [], ◌∷◌, length, sym, subst, arith, length-append}
use Rattle.std.proofs.lemmas.List.{length-set}
use Rattle.an_listed.specs.Room.{HasRoom, HasSpace}
use Rattle.an_listed.specs.declared.filed.Filed.{Filed}
use Rattle.an_listed.proofs.SpaceLemmas.{space-none}
use Rattle.an_listed.proofs.listed.Listed.put.Goals as goal

pub returns-then-place-len-clause-rest : goal.returns-then-place-len-clause-rest
returns-then-place-len-clause-rest c = λ coming room.
    let before = subst (HasRoom (c.args.row ∷ coming)) (sym c.self.view_is) room in
    let n = length-set c.self.inside.rows.items c.args.place c.args.row in
    record {
      space = left coming before.behind before.space;
      behind = omega (arith, before.behind);
      few = rw c.put_over.ensures.rows (omega (arith, before.few, n));
    }
  where
    -- rows are to come, or none needs space
    left : (coming : List Filed) → length (c.args.row ∷ coming) ≤ c.self.inside.room
        → HasSpace (c.args.row ∷ coming) c.self.inside.register
        → HasSpace coming c.replace-done.new.self
    left [] few space = space-none c.replace-done.new.self
    left (row ∷ rows) few space =
        c.replace-done.ensures.rest (grind (arith, few)) (row ∷ rows) space

pub returns-else-place-len-clause-rest : goal.returns-else-place-len-clause-rest
returns-else-place-len-clause-rest c = λ coming room.
    let before = subst (HasRoom (c.args.row ∷ coming)) (sym c.self.view_is) room in
    let items = c.push_reserved.ensures.items in
    let n = length-append c.self.inside.rows.items (c.args.row ∷ []) in
    record {
      space = c.push.ensures.rest coming before.space;
      behind = omega (arith, before.behind);
      few = rw items (omega (arith, before.few, n));
    }
