-- That what is published may go from thread to thread. What a command holds goes through JSON
-- values, which hold themselves, so no crossing of it is known by itself: here each part is shown
-- once, and then cited.
use denote.Param.Send.{IsSend, IsSync, sendable}
use denote.Param.SendFields.{as_row_send, declared_send, variants_send}
use Rattle.std.proofs.Crossing as heap
use Rattle.std.proofs.MapsCrossing as maps
use Rattle.std.proofs.option.Option.TheSendSync as option
use Rattle.std.specs.contracts.alloc.Global as Global
use Rattle.std.specs.contracts.impls.GlobalAllocator.TheImpl as in_heap
use Rattle.serde_json.proofs.value.Value.TheLaws.TheKnot as value
use Rattle.left_right.specs.contracts.writer.Writer as Writer
use Rattle.left_right.proofs.writer.Writer.TheSendSync as writer
use Rattle.an_base.specs.contracts.tree.Tree as Tree
use Rattle.an_base.proofs.list.List.TheSendSync as list
use Rattle.an_base.proofs.moment.Moment.TheSendSync as moment
use Rattle.an_base.proofs.name.Name.TheSendSync as name
use Rattle.an_base.proofs.shared.Shared.TheSendSync as shared
use Rattle.an_policy.proofs.group.Group.TheSendSync as group
use Rattle.an_policy.proofs.inner.Inner.TheSendSync as inner
use Rattle.an_policy.proofs.names.Names.TheSendSync as names
use Rattle.an_state.specs.contracts.command.Command as Command
use Rattle.an_state.specs.contracts.entry.Entry as Entry
use Rattle.an_state.proofs.activity.Activity.TheSendSync as activity
use Rattle.an_state.proofs.entry.Row.TheSendSync as row
use Rattle.an_published.specs.contracts.published.Addition as Addition
use Rattle.an_published.specs.contracts.published.Published as Published
use Rattle.an_published.specs.contracts.published.PublishedAbsorbAddition.TheImpl as absorb
use Rattle.an_published.specs.contracts.published.LedState as State
use Rattle.an_published.specs.contracts.seat_knowledge.OneList as OneList
use Rattle.an_published.specs.contracts.seat_knowledge.OneListProtocolPublishedSeatKnowledge.TheImpl as rule
use Rattle.an_published.specs.contracts.seat_knowledge.SeatKnowledge as SeatKnowledge
use Rattle.an_published.proofs.history.Mark.TheSendSync as mark
use Rattle.an_published.proofs.published.Published.TheSendSync as published

-- ---- a tree

tree_send : IsSend Tree.the_row
tree_send = search (maps.crosses, heap.crosses, value.crosses, sendable) depth 60 fits 20000

tree_sync : IsSync Tree.the_row
tree_sync = search (maps.crosses, heap.crosses, value.crosses, sendable) depth 60 fits 20000

-- ---- what is added to a history

command_send : IsSend Command.the_row
command_send =
    search (
      tree_send,
      tree_sync,
      shared.the_send,
      name.the_send,
      group.the_send,
      inner.the_send,
      names.the_send,
      list.the_send,
      variants_send,
      as_row_send,
      sendable,
    ) depth 40 fits 20000

entry_send : IsSend Entry.the_row
entry_send =
    search (
      command_send,
      moment.the_send,
      name.the_send,
      option.the_send,
      row.the_send,
      activity.the_send,
      activity.the_sync,
      shared.the_send,
      list.the_send,
      variants_send,
      as_row_send,
      sendable,
    ) depth 40 fits 20000

pub addition_send : IsSend Addition.the_row
addition_send = search (entry_send, mark.the_send, declared_send)

-- ---- who publishes

pub writer_send : IsSend (Writer.the_row Published.the_row Addition.the_row SeatKnowledge.the_row
    OneList.the_row Global.the_row State.the_row absorb.ghosts rule.ghosts in_heap.ghosts)
writer_send =
    writer.the_send Published.the_row Addition.the_row SeatKnowledge.the_row OneList.the_row
    Global.the_row State.the_row absorb.ghosts rule.ghosts in_heap.ghosts published.the_send
    addition_send heap.send published.the_sync heap.sync heap.frees
