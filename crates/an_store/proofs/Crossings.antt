-- That threads may share a store.
use denote.RattleType.{RattleType}
use denote.Param.Send.{IsSend, IsSync, view_send}
use denote.Param.SendFields.{as_row_send, declared_send, declared_sync}
use Rattle.std.proofs.marker.PhantomData.TheSendSync as phantom
use Rattle.std.proofs.option.Option.TheSendSync as option
use Rattle.std.proofs.sync.Mutex.TheSendSync as mutex
use Rattle.logbook.proofs.word.Word.TheSendSync as word
use Rattle.an_keep.specs.declared.keeper.Keeper as Keeper
use Rattle.an_published.specs.declared.seat_knowledge.Naming as Naming
use Rattle.an_store.specs.contracts.under_lock.UnderLock as UnderLock
use Rattle.an_store.specs.contracts.store.Store as Store
use Rattle.an_published.proofs.Crossings.{addition_send, writer_send}

module _ (K J : RattleType) (k : Keeper.Ghosts K.Denot) (j : Naming.Ghosts J.Denot) where
  side_send : IsSend K → IsSend J → IsSend (UnderLock.the_row K J k j)
  side_send keeper naming =
      search (
        word.the_send,
        writer_send,
        addition_send,
        option.the_send,
        phantom.the_send,
        view_send,
        declared_send,
        as_row_send,
      ) depth 20

  pub store_sync : IsSend K → IsSend J → IsSync (Store.the_row K J k j)
  store_sync keeper naming =
      let side : IsSend (UnderLock.the_row K J k j) = side_send keeper naming in
      search (mutex.the_sync, declared_sync) depth 20
