use Rattle.std.proofs.Common.{ℕ, List, length, map, sym, subst}
use Rattle.gv_split.specs.declared.step.Step.{Step}
use Rattle.gv_space.specs.Refusal.{operation_fault}
use Rattle.gv_c.specs.Lists.{IsWritten, ArePlanned}
use Rattle.gv_c.specs.Values.{c_step}
use Rattle.gv_c.proofs.Planning.{planned_ok, planned_err}
use Rattle.gv_c.proofs.lists.write_plan.Goals as goal

pub returns-in-Ok : goal.returns-in-Ok
returns-in-Ok c =
    let s = c.args.vm.now.space in
    let op = c.args.op.now in
    let old = c.args.list.now in
    let new = c.write_steps.new.list in
    let count = c.write_steps.result in
    let items = c.in-Ok.steps.items in
    let wrote : IsWritten (map c_step items) 0 old new count (length c.as_slice-all.result.now) =
    subst (λ (xs : List Step). IsWritten (map c_step xs) 0 old new count (length c.as_slice-all.result.now)) c.as_slice-all.ensures.value c.write_steps.ensures in
    planned_ok s op (operation_fault s op) c.in-Ok.steps old new count _ c.in-Ok.ensures.fault c.in-Ok.ensures.steps wrote

pub returns-in-Err : goal.returns-in-Err
returns-in-Err c =
    let s = c.args.vm.now.space in
    let op = c.args.op.now in
    let old = c.args.list.now in
    subst (λ (n : ℕ). ArePlanned s op (operation_fault s op) old n old 0 0) (sym c.of.ensures)
    (planned_err s op (operation_fault s op) c.in-Err.fault old c.in-Err.ensures.fault c.in-Err.ensures.some)
