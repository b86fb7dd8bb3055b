use Rattle.std.proofs.Common.{sym}
use Rattle.gv_table.proofs.Slots.{no-table, some-table}
use Rattle.gv_table.proofs.slot.Slot.is_table.Goals as goal

pub returns-in-Pages : goal.returns-in-Pages
returns-in-Pages c = sym (some-table c.args.self.now c.in-Pages.is)

pub returns-in-Pages-2 : goal.returns-in-Pages-2
returns-in-Pages-2 c = sym (some-table c.args.self.now c.in-Pages.is)

pub returns-in-Empty : goal.returns-in-Empty
returns-in-Empty c = sym (no-table c.args.self.now c.in-Empty.is)

pub returns-in-Empty-2 : goal.returns-in-Empty-2
returns-in-Empty-2 c = sym (no-table c.args.self.now c.in-Empty.is)

pub returns-in-Empty-3 : goal.returns-in-Empty-3
returns-in-Empty-3 c = sym (no-table c.args.self.now c.in-Empty.is)
