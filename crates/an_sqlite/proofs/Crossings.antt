-- That a keeper may go to another thread.
use denote.RattleType.{RattleType}
use denote.Param.Send.{IsSend, view_send, sendable, owning_send}
use denote.Param.SendFields.{as_row_send, declared_send, variants_send}
use Rattle.std.proofs.Crossing as heap
use Rattle.std.specs.contracts.snapshot.Snapshot as Snapshot
use Rattle.sqlite_disk.specs.declared.Disk as Disk
use Rattle.sqlite_wal.specs.contracts.log.Log as Log
use Rattle.sqlite_wal.specs.contracts.index.PageIndex as PageIndex
use Rattle.sqlite_pager.specs.contracts.pager.Pager as Pager
use Rattle.sqlite_pager.specs.contracts.layers.Layer as Layer
use Rattle.sqlite_pool.specs.contracts.backing.Backing as Backing
use Rattle.sqlite_pool.specs.contracts.pool.Pool as Pool
use Rattle.sqlite_store.specs.contracts.store.FileStore as FileStore
use Rattle.sqlite_store.specs.contracts.saved.Saved as Saved
use Rattle.sqlite_store.specs.contracts.cursor.Cursor as Cursor
use Rattle.sqlite_store.specs.contracts.catalog.Wanted as Wanted
use Rattle.sqlite_trees.specs.declared.store.Store as Store
use Rattle.sqlite_items.specs.contracts.items.Items as Items
use Rattle.sqlite_value.specs.contracts.value.Value as Value
use Rattle.sqlite_schema.specs.contracts.code.Op as Op
use Rattle.sqlite_schema.specs.contracts.code.Terms as Terms
use Rattle.sqlite_schema.specs.contracts.plan.Plan as Plan
use Rattle.sqlite_schema.specs.contracts.plan.Stage as Stage
use Rattle.sqlite_schema.specs.contracts.program.Table as Let
use Rattle.sqlite_schema.specs.contracts.schema.Schema as Schema
use Rattle.sqlite_schema.specs.contracts.schema.Table as Table
use Rattle.sqlite_schema.specs.contracts.schema.Column as Column
use Rattle.sqlite_schema.specs.contracts.schema.Index as Index
use Rattle.sqlite_schema.specs.contracts.schema.View as View
use Rattle.sqlite_schema.specs.contracts.command.Source as Source
use Rattle.sqlite_schema.specs.contracts.command.Upsert as Upsert
use Rattle.sqlite_schema.specs.contracts.command.Returning as Returning
use Rattle.sqlite_schema.specs.contracts.program.Program as Program
use Rattle.sqlite_schema.specs.contracts.command.Command as Command
use Rattle.sqlite_resolve.specs.contracts.compiled.Compiled as Compiled
use Rattle.sqlite_exec.specs.contracts.work.Workspace as Workspace
use Rattle.sqlite.specs.contracts.cache.Entry as Entry
use Rattle.sqlite.specs.contracts.history.History as History
use Rattle.sqlite.specs.contracts.run.reading.Reading as Reading
use Rattle.sqlite.specs.contracts.rows.Row as Row
use Rattle.sqlite.specs.contracts.connection.Connection as Connection
use Rattle.sqlite_disk.specs.declared.Calls as Calls
use Rattle.sqlite_disk.specs.declared.start.Start as Start
use Rattle.sqlite_disk.specs.contracts.modelled.Modelled as Modelled
use Rattle.sqlite_std_file.specs.contracts.record.Record as Record
use Rattle.sqlite_std_file.specs.contracts.host.Host as Host
use Rattle.an_sqlite.specs.contracts.ahead.Ahead as Ahead
use Rattle.an_sqlite.specs.contracts.base.Base as Base
use Rattle.an_sqlite.specs.contracts.connecting.Connecting as Connecting
use Rattle.an_sqlite.specs.contracts.teller.Teller as Teller
use Rattle.an_sqlite.specs.contracts.keeper.SqlKeeper as SqlKeeper

row_send : IsSend Row.the_row
row_send = search (heap.crosses, sendable) depth 40 fits 20000

index_send : IsSend PageIndex.the_row
index_send = search (heap.crosses, sendable) depth 40 fits 20000

layer_send : IsSend Layer.the_row
layer_send = search (heap.crosses, sendable) depth 40 fits 20000

saved_send : IsSend Saved.the_row
saved_send = search (heap.crosses, sendable) depth 40 fits 20000

cursor_send : IsSend Cursor.the_row
cursor_send = search (heap.crosses, sendable) depth 40 fits 20000

wanted_send : IsSend Wanted.the_row
wanted_send = search (heap.crosses, sendable) depth 40 fits 20000

module _ (D : RattleType) (g : Disk.Ghosts D.Denot) where
  log_send : IsSend D → IsSend (Log.the_row D g)
  log_send files = search (index_send, heap.crosses, sendable) depth 60 fits 40000

  pager_send : IsSend D → IsSend (Pager.the_row D g)
  pager_send files =
      let log = log_send files in search (layer_send, heap.crosses, sendable) depth 60 fits 40000

  backing_send : IsSend D → IsSend (Backing.the_row D g)
  backing_send files =
      let pager = pager_send files in search (heap.crosses, sendable) depth 60 fits 40000

  pool_send : IsSend D → IsSend (Pool.the_row D g)
  pool_send files =
      let backing = backing_send files in search (heap.crosses, sendable) depth 60 fits 40000

  pub store_send : IsSend D → IsSend (FileStore.the_row D g)
  store_send files =
      let pool = pool_send files in
      search (wanted_send, saved_send, cursor_send, heap.crosses, sendable) depth 60 fits 40000

items_send : (T : RattleType) → IsSend T → IsSend (Items.the_row T)
items_send T each = search (heap.crosses, sendable) depth 40 fits 20000

value_send : IsSend Value.the_row
value_send = search (heap.crosses, sendable) depth 40 fits 20000

op_send : IsSend Op.the_row
op_send =
    search (value_send, variants_send, as_row_send, heap.crosses, sendable) depth 40 fits 20000

stage_send : IsSend Stage.the_row
stage_send = search (items_send, heap.crosses, sendable) depth 40 fits 20000

terms_send : IsSend Terms.the_row
terms_send = search (op_send, items_send, heap.crosses, sendable) depth 40 fits 20000

plan_send : IsSend Plan.the_row
plan_send = search (op_send, stage_send, items_send, heap.crosses, sendable) depth 40 fits 20000

let_send : IsSend Let.the_row
let_send = search (plan_send, items_send, heap.crosses, sendable) depth 40 fits 20000

program_send : IsSend Program.the_row
program_send = search (plan_send, let_send, items_send, heap.crosses, sendable) depth 40 fits 20000

column_send : IsSend Column.the_row
column_send = search (heap.crosses, sendable) depth 40 fits 20000

table_send : IsSend Table.the_row
table_send =
    search (column_send, terms_send, items_send, heap.crosses, sendable) depth 40 fits 20000

index_row_send : IsSend Index.the_row
index_row_send = search (items_send, heap.crosses, sendable) depth 40 fits 20000

view_row_send : IsSend View.the_row
view_row_send = search (heap.crosses, sendable) depth 40 fits 20000

schema_send : IsSend Schema.the_row
schema_send =
    search (table_send, index_row_send, view_row_send, items_send, heap.crosses, sendable) depth
    40 fits 20000

history_send : IsSend History.the_row
history_send = search (schema_send, heap.crosses, sendable) depth 40 fits 20000

source_send : IsSend Source.the_row
source_send =
    search (terms_send, program_send, variants_send, as_row_send, heap.crosses, sendable) depth
    40 fits 20000

upsert_send : IsSend Upsert.the_row
upsert_send = search (program_send, items_send, heap.crosses, sendable) depth 40 fits 20000

returning_send : IsSend Returning.the_row
returning_send =
    search (source_send, items_send, declared_send, as_row_send, heap.crosses, sendable) depth
    40 fits 20000

command_send : IsSend Command.the_row
command_send =
    search (
      source_send,
      upsert_send,
      program_send,
      value_send,
      items_send,
      variants_send,
      as_row_send,
      heap.crosses,
      sendable,
    ) depth 40 fits 20000

compiled_send : IsSend Compiled.the_row
compiled_send =
    search
    (command_send, returning_send, items_send, declared_send, as_row_send, heap.crosses, sendable)
    depth 40 fits 20000

entry_send : IsSend Entry.the_row
entry_send =
    search (compiled_send, declared_send, as_row_send, heap.crosses, sendable) depth 40 fits 20000

workspace_send : IsSend Workspace.the_row
workspace_send = search (heap.crosses, sendable) depth 40 fits 20000

reading_send : IsSend Reading.the_row
reading_send = search (row_send, heap.crosses, sendable) depth 40 fits 20000

module _ (S : RattleType) (g : Store.Ghosts S.Denot) where
  connection_send : IsSend S → IsSend (Connection.the_row S g)
  connection_send store =
      search (
        schema_send,
        history_send,
        entry_send,
        reading_send,
        workspace_send,
        view_send,
        declared_send,
        as_row_send,
        heap.crosses,
        sendable,
      ) depth 60 fits 40000

record_send : IsSend Record.the_row
record_send = owning_send Record.the_type (search sendable, tt) (λ d. tt) (λ k x w. tt)

pub host_send : IsSend Host.the_row
host_send = search (record_send, heap.crosses, sendable) depth 40 fits 20000

module _ (C U : RattleType) (c : Calls.Ghosts C.Denot) (u : Start.Ghosts U.Denot) where
  pub modelled_send : IsSend C → IsSend (Modelled.the_row C U c u)
  modelled_send host = search (heap.crosses, sendable) depth 40 fits 20000

ahead_send : IsSend Ahead.the_row
ahead_send = search (row_send, heap.crosses, sendable) depth 40 fits 20000

module _ (S : RattleType) (g : Store.Ghosts S.Denot) where
  base_send : IsSend S → IsSend (Base.the_row S g)
  base_send store =
      let connection = connection_send S g store in
      search (ahead_send, declared_send, as_row_send, heap.crosses, sendable) depth 60 fits 40000

snapshot_send : (T : RattleType) → IsSend (Snapshot.the_row T)
snapshot_send T = owning_send (Snapshot.the_type T) (search sendable, tt) (λ d. tt) (λ k x w. tt)

module _ (S : RattleType) (g : Store.Ghosts S.Denot) where
  teller_send : IsSend S → IsSend (Teller.the_row S g)
  teller_send store =
      let base = base_send S g store in
      search (snapshot_send, declared_send, heap.crosses, sendable) depth 60 fits 40000

module _ (S : RattleType) (g : Store.Ghosts S.Denot) where
  place_send : IsSend S → IsSend (Connecting.the_row S g)
  place_send store =
      let teller = teller_send S g store in
      search (variants_send, as_row_send, heap.crosses, sendable) depth 60 fits 40000

  pub keeper_send : IsSend S → IsSend (SqlKeeper.the_row S g)
  keeper_send store =
      let place = place_send store in
      search (declared_send, as_row_send, heap.crosses, sendable) depth 60 fits 40000
