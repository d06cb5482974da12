-- That the keeper over a database may go to another thread, with what it reports of its progress.
use denote.RattleType.{RattleType}
use denote.Param.Send.{IsSend, sendable}
use denote.Param.SendFields.{as_row_send, declared_send}
use Rattle.std.proofs.Crossing as heap
use Rattle.sqlite_trees.specs.declared.store.Store as Store
use Rattle.an_sqlite.proofs.Crossings.{keeper_send}
use Rattle.anno.specs.contracts.progress.ToldKeeper as ToldKeeper

module _ (S : RattleType) (g : Store.Ghosts S.Denot) where
  pub told_send : IsSend S → IsSend (ToldKeeper.the_row S g)
  told_send store =
      let keeper = keeper_send S g store in
      search (declared_send, as_row_send, heap.crosses, sendable) depth 60 fits 40000
