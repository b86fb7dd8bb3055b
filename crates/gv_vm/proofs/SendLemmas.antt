-- For callers: an address space may go to another thread, and so may a world. The page table refers to itself, so this is shown by hand.
use denote.Param.Send.{IsSend, sendable, array_send, view_send}
use denote.Param.SendFields.{VariantsHave, variants_send, declared_send, as_row_send}
use denote.Hole.Fix.{holes}
use denote.Hole.FixSend.{fix_send, Sends}
use Rattle.std.proofs.Crossing.{crosses, Box-send, Vec-send}
use mathlib.Core.List.{[], ◌∷◌}
use denote.RattleType.{RattleType}
use denote.Builtin.{Array, u64}
use denote.Struct.Tuple.{Tuple, tuple_type}
use denote.Struct.Field.{row_field, u64-field, usize-field}
use denote.Hole.{as_row}
use denote.Enum.Declared.{Declared}
use denote.Hole.Layer.{enum_layer}
use Rattle.gv_table.specs.contracts.slot.Slot.{the_row as slot, enum as slot_enum, the_layer}
use Rattle.gv_table.specs.contracts.chain.Chain.TheInside.{the_row as chain_inside, the_type as chain_type}
use Rattle.gv_table.specs.contracts.chain.Chain.{the_row as chain}
use Rattle.gv_table.specs.contracts.page_chain.PageChain.TheInside.{the_row as page_chain_inside, the_type as page_chain_type}
use Rattle.gv_table.specs.contracts.page_chain.PageChain.{the_row as page_chain}
use Rattle.gv_table.specs.contracts.spares.Spares.TheInside.{the_row as spares_inside, the_type as spares_type}
use Rattle.gv_table.specs.contracts.spares.Spares.{the_row as spares}
use Rattle.gv_space.specs.contracts.undo.OpUndo.TheInside.{the_row as undo_inside, the_type as undo_type}
use Rattle.gv_space.specs.contracts.undo.OpUndo.{the_row as undo}
use Rattle.gv_journal.specs.contracts.item.Item.{the_row as item, the_type as item_type}
use Rattle.gv_ranges.proofs.range_list.RangeList.TheSendSync.{the_send as range_list_send}
use Rattle.gv_types.proofs.bounds.Bounds.TheSendSync.{the_send as bounds_send}
use Rattle.gv_types.proofs.limits.Limits.TheSendSync.{the_send as limits_send}
use Rattle.gv_types.proofs.page_range.PageRange.TheSendSync.{the_send as range_send}
use Rattle.gv_buffers.proofs.buffers.Buffers.TheSendSync.{the_send as buffers_send}
use Rattle.gv_buffers.proofs.first_page_table.FirstPageTable.TheSendSync.{the_send as places_send}
use Rattle.gv_journal.proofs.item.ItemKind.TheSendSync.{the_send as kind_send}
use Rattle.gv_journal.proofs.columns.Columns.TheSendSync.{the_send as columns_send}
use Rattle.gv_vm.proofs.jobs.Jobs.TheSendSync.{the_send as jobs_send}
use Rattle.gv_vm.proofs.told.QueueOutcomes.TheSendSync.{the_send as told_send}
use Rattle.gv_types.proofs.packed.Packed.TheSendSync.{the_send as packed_send}
use Rattle.smallvec.proofs.small_vec.SmallVec.TheSendSync.{the_send as small_vec_send}
use Rattle.gv_space.specs.contracts.list_with_table.ListWithTable.TheInside.{the_row as list_with_table_inside, the_type as list_with_table_type}
use Rattle.gv_space.specs.contracts.space.Space.TheInside.{the_row as space_inside, the_type as space_type}
use Rattle.gv_journal.specs.contracts.item_store.ItemStore.TheInside.{the_row as item_store_inside, the_type as item_store_type}
use Rattle.gv_journal.specs.contracts.journal.Journal.TheInside.{the_row as journal_inside, the_type as journal_type}
use Rattle.gv_vm.specs.contracts.vm.Vm.TheInside.{the_row as vm_inside, the_type as vm_type}
use Rattle.gv_space.specs.contracts.list_with_table.ListWithTable.{the_row as list_with_table}
use Rattle.gv_space.specs.contracts.space.Space.{the_row as space}
use Rattle.gv_journal.specs.contracts.item_store.ItemStore.{the_row as item_store}
use Rattle.gv_journal.specs.contracts.journal.Journal.{the_row as journal}
use Rattle.gv_vm.specs.contracts.vm.Vm.{the_row as vm}
use Rattle.gv_sync.proofs.clock.Clock.TheSendSync.{the_send as clock_send}
use Rattle.gv_vm.proofs.queue.Queue.TheSendSync.{the_send as queue_send}
use Rattle.gv_vm.specs.contracts.world.World.TheInside.{the_row as world_inside, the_type as world_type}
use Rattle.gv_vm.specs.contracts.world.World.{the_row as world}
use Rattle.gv_table.specs.contracts.slot.Slot.TheKnot.{ring}
use Rattle.gv_table.specs.declared.slot.Slot.TheBlock.{the_members, member-Slot}
use Rattle.gv_table.specs.contracts.page_table.PageTable.TheInside.{the_row as page_table_inside, the_type as page_table_type}
use Rattle.gv_table.specs.contracts.page_table.PageTable.{the_row as page_table}
use Rattle.gv_types.proofs.mapping.BufferId.TheSendSync.{the_send as id_send}

-- a table of single pages, with its link
pages_send : (S : RattleType) → IsSend S → IsSend (Tuple (Array u64 tt 512 ∷ S ∷ []))
pages_send S at = declared_send (tuple_type (Array u64 tt 512 ∷ S ∷ [])) ((search (sendable, crosses) depth 12), (as_row_send (row_field S) at, tt))

slot_steps : (i : the_members) → Sends ring i
slot_steps member-Slot = record {
  send = λ h s.
      let at : IsSend (h member-Slot) = s member-Slot in let L : Declared = the_layer h in
      let parts : VariantsHave IsSend L.parts =
      (tt, ((search (sendable, crosses) depth 12), ((search (sendable, crosses) depth 12), ((as_row_send (row_field _) (Box-send _ (pages_send _ at)), tt), ((as_row_send (row_field _) (Box-send _ (array_send _ _ at)), tt), tt))))) in
      variants_send (enum_layer L.name L.args L.types L.parts) parts;
}

slot_hole_send : (i : the_members) → IsSend (holes ring i)
slot_hole_send i = fix_send ring slot_steps i

slot_send : IsSend slot
slot_send =
    let at : IsSend (holes ring member-Slot) = slot_hole_send member-Slot in
    variants_send slot_enum
    (tt, ((search (sendable, crosses) depth 12), ((search (sendable, crosses) depth 12), ((as_row_send (row_field _) (Box-send _ (pages_send _ at)), tt), ((as_row_send (row_field _) (Box-send _ (array_send _ _ at)), tt), tt)))))

page_table_send : IsSend page_table
page_table_send = view_send page_table_inside _ _ _ _ (declared_send page_table_type (slot_send, ((search (sendable, crosses) depth 12), (Vec-send _ id_send, tt))))

number : IsSend (as_row usize-field)
number = search (sendable, crosses) depth 5

wide : IsSend (as_row u64-field)
wide = search (sendable, crosses) depth 5

chain_send : IsSend chain
chain_send = view_send chain_inside _ _ _ _ (declared_send chain_type (search (sendable, crosses, slot_send) depth 12, tt))

page_chain_send : IsSend page_chain
page_chain_send = view_send page_chain_inside _ _ _ _ (declared_send page_chain_type (search (sendable, crosses, pages_send, slot_send) depth 12, tt))

spares_send : IsSend spares
spares_send = view_send spares_inside _ _ _ _ (declared_send spares_type (as_row_send (row_field _) page_chain_send, (as_row_send (row_field _) chain_send, tt)))

list_with_table_send : IsSend list_with_table
list_with_table_send = view_send list_with_table_inside _ _ _ _ (declared_send list_with_table_type (range_list_send, (page_table_send, tt)))

space_send : IsSend space
space_send = view_send space_inside _ _ _ _ (declared_send space_type (bounds_send, (limits_send, (list_with_table_send, (buffers_send, (places_send, (wide, tt)))))))

undo_send : IsSend undo
undo_send = view_send undo_inside _ _ _ _ (declared_send undo_type (number, (number, (range_send, (search (sendable, crosses, small_vec_send, packed_send) depth 8, (spares_send, tt))))))

item_send : IsSend item
item_send = declared_send item_type (kind_send, (Vec-send _ undo_send, tt))

item_store_send : IsSend item_store
item_store_send = view_send item_store_inside _ _ _ _ (declared_send item_store_type (Vec-send _ item_send, (columns_send, (number, tt))))

journal_send : IsSend journal
journal_send = view_send journal_inside _ _ _ _ (declared_send journal_type (item_store_send, (wide, (wide, tt))))

pub vm_send : IsSend vm
vm_send = view_send vm_inside _ _ _ _ (declared_send vm_type (space_send, (journal_send, (as_row_send (row_field _) jobs_send, (search (sendable, crosses, told_send) depth 8, tt)))))

pub world_send : IsSend world
world_send = view_send world_inside _ _ _ _ (declared_send world_type (vm_send, (as_row_send (row_field _) clock_send, (wide, (search (sendable, crosses, queue_send) depth 8, tt)))))
