use Rattle.std.proofs.Common.{◌≡◌, ◌*◌, ◌<◌, ℕ, false, slice_index_or}
use Rattle.gv_types.specs.Mapping.{HasSmallPages}
use Rattle.gv_table.specs.declared.slot.Slot.TheVariants.{Empty}
use Rattle.gv_table.specs.Levels.{slots_per_table}
use Rattle.gv_types.specs.Mapping.{entry_advanced}
use Rattle.gv_table.specs.BufferNames.{IsEncodable}
use Rattle.gv_table.specs.Tree.{is_table, leaf}
use Rattle.gv_table.proofs.divide.spread.Given as goal

abbrev pub invariant-loop-index : goal.invariant-loop-index
invariant-loop-index l = record {
  leaves : (k : ℕ) → k < l.index → is_table (slice_index_or l.slots k Empty) ≡ false;
  entries : HasSmallPages l.entry.backing (slots_per_table * l.pages) → IsEncodable l.entry.backing (slots_per_table * l.pages) → (k : ℕ) → k < l.index →
      slice_index_or l.slots k Empty ≡ leaf (entry_advanced l.entry (k * l.pages));
}
