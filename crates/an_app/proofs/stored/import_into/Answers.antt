use Rattle.std.proofs.Common.{IsSome, sym, subst, ◌∙◌}
use Rattle.an_lines.proofs.ImportLemmas.{Imports-kept}
use Rattle.an_app.specs.Outside.{WasLeft}
use Rattle.an_app.proofs.RunLemmas.{keeper_never_rises}
use Rattle.an_app.proofs.stored.import_into.Goals as goal

pub returns-clause-imports : goal.returns-clause-imports
returns-clause-imports g c =
    let its = c.into_keeper-keeper in (
      c.import-status.new.desk.state,
      subst (λ told. WasLeft told c.import-status.new.desk.state)
          (sym its.ensures.told) its.ensures.cells,
      Imports-kept _ _ _ _ _ _ _ _
          (λ rises sure. keeper_never_rises _ _
          (sym its.ensures.faults ∙ g.met.K.Keeper.sure_keeps sure its.result)
          c.import-status.ensures.faults_kept rises)
          _ c.import-status.ensures.imports,
    )

pub returns-clause-told : goal.returns-clause-told
returns-clause-told g c =
    λ some. c.import-status.ensures.told (subst IsSome c.into_keeper-keeper.ensures.told some)
