-- That threads may share what serves a store.
use denote.RattleType.{RattleType}
use denote.Ref.{NamedLft}
use denote.Param.Send.{IsSend, IsSync, shr_sync}
use denote.Param.SendFields.{declared_sync}
use Rattle.std.proofs.marker.PhantomData.TheSendSync as phantom
use Rattle.an_keep.specs.declared.keeper.Keeper as Keeper
use Rattle.an_list.specs.contracts.site.Site as Site
use Rattle.an_list.proofs.site.Site.TheSendSync as settings
use Rattle.an_published.specs.declared.seat_knowledge.Naming as Naming
use Rattle.an_store.specs.contracts.store.Store as Store
use Rattle.an_store.proofs.Crossings.{store_sync}
use Rattle.an_seats.specs.contracts.server.Server as Server

module _ (a : NamedLft) (K J C F : RattleType) (k : Keeper.Ghosts K.Denot)
    (j : Naming.Ghosts J.Denot) where
  pub server_sync : IsSend K → IsSend J → IsSync C → IsSync F
      → IsSync (Server.the_row a K J C F k j)
  server_sync keeper naming clock since = declared_sync (Server.the_type a K J C F k j) (
    shr_sync a.mir a.lft (Store.the_row K J k j) (store_sync K J k j keeper naming),
    (
      shr_sync a.mir a.lft Site.the_row settings.the_sync,
      (shr_sync a.mir a.lft C clock, (search (phantom.the_sync), tt)),
    ),
  )
