use Rattle.std.proofs.Common.{◌+◌, ◌*◌}
use Rattle.gv_table.proofs.fast_path.+fast_path.Given as goal

abbrev pub decreases-try_paint_slot : goal.decreases-try_paint_slot
decreases-try_paint_slot l = 2 * l.slot_at.level

abbrev pub decreases-try_paint_row : goal.decreases-try_paint_row
decreases-try_paint_row l = 2 * l.slot_at.level + 1
