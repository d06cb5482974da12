use Rattle.std.proofs.Common.{IsSome, inl, inr, subst}
use Rattle.an_keep.proofs.ToldLemmas.{stays-tells}
use Rattle.an_shelf.proofs.OpeningLemmas.{opened-on, renews-tells}
use Rattle.an_app.proofs.RunLemmas.{unopened-at}
use Rattle.an_app.proofs.stored.import_at.Goals as goal

pub returns-in-Ok-clause-imports : goal.returns-in-Ok-clause-imports
returns-in-Ok-clause-imports g c =
    let (behind, left, imports) = c.import_into.ensures.imports in
    inl (record {
      before = c.in-Ok.desk.state;
      opens = opened-on _ _ _ _ c.in-Ok.ensures.opened c.import_into.ensures.told;
      behind = behind;
      imports = imports;
      leaves = left;
    })

pub returns-in-Err-clause-imports : goal.returns-in-Err-clause-imports
returns-in-Err-clause-imports g c =
    let its = c.in-Err.ensures in
    inr (unopened-at _ _ _ _ _ _ _ _ _ its.kept its.refused
    (λ is. λ sure. its.sure sure is) c.not_opened.ensures.keeper c.not_opened.ensures.told)

pub returns-in-Ok-clause-never : goal.returns-in-Ok-clause-never
returns-in-Ok-clause-never g c =
    λ kind some. renews-tells _ _ _ (c.in-Ok.ensures.never kind) (c.import_into.ensures.told some)

pub returns-in-Err-clause-never : goal.returns-in-Err-clause-never
returns-in-Err-clause-never g c =
    λ kind some. stays-tells _ _ (c.in-Err.ensures.never_refused kind)
    (subst IsSome c.not_opened.ensures.keeper some)
