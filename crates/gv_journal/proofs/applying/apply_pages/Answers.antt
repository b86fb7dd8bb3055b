use Rattle.std.proofs.Common.{reverse}
use Rattle.gv_types.specs.Operation.{range_of}
use Rattle.gv_ranges.specs.Edit.{edited}
use Rattle.gv_space.specs.Refusal.{limit_fault}
use Rattle.gv_journal.proofs.Lists.{last_first}
use Rattle.gv_journal.proofs.Changing.{AreApplied-more, AreApplied-room, state_after}
use Rattle.gv_journal.proofs.FaultsPassedOn.{passed_on}
use Rattle.gv_journal.proofs.applying.apply_pages.Goals as goal

pub returns-in-Ok-clause-continues : goal.returns-in-Ok-clause-continues
returns-in-Ok-clause-continues c = λ origin was.
    let ops_are = last_first c.push_reserved.new.self.items c.args.work.now.ops.items c.args.op.now c.push_reserved.ensures.items in
    let undos_are = last_first c.push_reserved-in-Ok.new.self.items c.args.work.now.undos.items c.in-Ok.undo c.push_reserved-in-Ok.ensures.items in
    rw (ops_are, undos_are)
    (AreApplied-more origin c.args.space.now c.apply_pages.new.self (reverse c.args.work.now.ops.items) (reverse c.args.work.now.undos.items) c.args.op.now c.in-Ok.undo
    was c.in-Ok.ensures.changed c.in-Ok.ensures.range c.in-Ok.ensures.says c.in-Ok.ensures.taken c.in-Ok.ensures.undone)

pub returns-in-Ok-clause-state : goal.returns-in-Ok-clause-state
returns-in-Ok-clause-state c = state_after c.args.space.now c.apply_pages.new.self c.args.op.now c.in-Ok.undo c.in-Ok.ensures.changed c.in-Ok.ensures.range

pub returns-in-Err-clause-fault : goal.returns-in-Err-clause-fault
returns-in-Err-clause-fault c =
    passed_on (Unit {0}) (limit_fault c.args.space.now (range_of c.args.op.now) (edited c.args.space.now.mappings c.args.op.now)) c.apply_pages.result c.in-Err.fault c.in-Err.is c.apply_pages.ensures.fault

pub returns-in-Err-clause-continues : goal.returns-in-Err-clause-continues
returns-in-Err-clause-continues c = λ origin was.
    AreApplied-room origin c.args.space.now c.apply_pages.new.self (reverse c.args.work.now.ops.items) (reverse c.args.work.now.undos.items) was c.in-Err.ensures.unchanged
