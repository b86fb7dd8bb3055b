use Rattle.std.proofs.Common.{◌≡◌, None, Some, sym, ap, refl}
use Rattle.std.proofs.lemmas.Result.{err_from_is_err_and}
use Rattle.gv_buffers.specs.Slots.{live_at}
use Rattle.gv_buffers.specs.Buffers.{destroy_fault_of}
use Rattle.gv_buffers.proofs.TablesAndSlots.{found_buffer, missed_buffer}
use Rattle.gv_buffers.proofs.MakeAndDestroy.{destroyed}
use Rattle.gv_buffers.proofs.buffers.Buffers.destroy.Goals as goal

pub returns-in_default-clause-fault : goal.returns-in_default-clause-fault
returns-in_default-clause-fault c =
    let missed : live_at c.self.inside.slots.entries c.args.id ≡ None = rw c.in_default.is at (sym c.get.ensures) in
    rw (ap destroy_fault_of (missed_buffer c.self.inside c.args.self.now c.args.id c.self.view_is missed)) refl

pub returns-in_err-check_unused-clause-fault : goal.returns-in_err-check_unused-clause-fault
returns-in_err-check_unused-clause-fault c =
    let found : live_at c.self.inside.slots.entries c.args.id ≡ Some c.in-Some.slot.now = rw c.in-Some.is at (sym c.get.ensures) in
    let p = err_from_is_err_and c.from_residual.result c.from_residual.ensures.1 in
    rw (p.1, p.2) (rw (ap destroy_fault_of (found_buffer c.self.inside c.args.self.now c.args.id c.in-Some.slot.now c.self.view_is found)) c.in_err-check_unused.ensures)

pub invariant_of-self : goal.invariant_of-self
invariant_of-self c =
    let found : live_at c.self.inside.slots.entries c.args.id ≡ Some c.in-Some.slot.now = rw c.in-Some.is at (sym c.get.ensures) in
    (destroyed c.self.inside c.args.self.now c.take_out.new.self c.args.id c.in-Some.slot.now c.self.invariant c.self.view_is found c.take_out.ensures.updates c.take_out.ensures.count
    c.take_out.ensures.vacant c.take_out.ensures.noted).sound

pub returns-clause-fault : goal.returns-clause-fault
returns-clause-fault c =
    let found : live_at c.self.inside.slots.entries c.args.id ≡ Some c.in-Some.slot.now = rw c.in-Some.is at (sym c.get.ensures) in
    rw (ap destroy_fault_of (found_buffer c.self.inside c.args.self.now c.args.id c.in-Some.slot.now c.self.view_is found)) c.in_ok-check_unused.ensures

pub returns-clause-ok : goal.returns-clause-ok
returns-clause-ok c =
    let found : live_at c.self.inside.slots.entries c.args.id ≡ Some c.in-Some.slot.now = rw c.in-Some.is at (sym c.get.ensures) in
    (destroyed c.self.inside c.args.self.now c.take_out.new.self c.args.id c.in-Some.slot.now c.self.invariant c.self.view_is found c.take_out.ensures.updates c.take_out.ensures.count
    c.take_out.ensures.vacant c.take_out.ensures.noted).table
