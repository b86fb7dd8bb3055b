use Rattle.std.proofs.Common.{◌≡◌, ◌∙◌, ◌++◌, Option, Some, None, string_bytes, sym, ap, subst, rules}
use Rattle.gv_types.specs.Operation.{in_pages}
use Rattle.gv_types.specs.declared.fault.Fault.{Fault}
use Rattle.gv_split.specs.Steps.{steps}
use Rattle.gv_space.specs.State.{SpaceState, IsSpace}
use Rattle.gv_space.specs.Refusal.{operation_fault}
use Rattle.gv_vm.proofs.SpaceLemmas.{with_its_room}
use Rattle.gv_session.specs.State.{names_alone}
use Rattle.gv_session.specs.ReplyTexts.{plan_reply}
use Rattle.gv_session.proofs.AnswerLemmas.{none_from_ok, fault_but_memory}
use Rattle.gv_session.proofs.InsideBuffer.{held_plan}
use Rattle.gv_session.proofs.question.write_plan.Goals as goal

pub write_steps-requires : goal.write_steps-requires
write_steps-requires c =
    held_plan c.space.result.now (in_pages c.args.op.now) c.deref.result.now (with_its_room c.space.result.now (subst IsSpace c.space.ensures.value c.space.ensures.holds.buffers_counted.used))
    c.in-Ok.ensures.valid (c.deref.ensures.value ∙ c.in-Ok.ensures.steps)

pub returns-in_ok-write_steps-in-Ok : goal.returns-in_ok-write_steps-in-Ok
returns-in_ok-write_steps-in-Ok c =
    let shown : c.deref.result.now ≡ steps c.args.vm.now.space.mappings (in_pages c.args.op.now) =
    c.deref.ensures.value ∙ c.in-Ok.ensures.steps ∙ ap (λ (x : SpaceState). steps x.mappings (in_pages c.args.op.now)) (sym c.space.ensures.value) in
    let none : operation_fault c.args.vm.now.space c.args.op.now ≡ None =
    ap (λ (x : SpaceState). operation_fault x c.args.op.now) c.space.ensures.value ∙ none_from_ok (operation_fault c.space.result.now c.args.op.now) c.in-Ok.steps c.in-Ok.ensures.fault in
    (rw shown at c.in_ok-write_steps-in-Ok.ensures)
    ∙ ap (λ (o : Option Fault). string_bytes c.args.out.now ++ plan_reply (names_alone c.args.names.now.entries) c.args.vm.now.space c.args.op.now o) (sym none)

pub returns-in_ok-write_refused-in-Err : goal.returns-in_ok-write_refused-in-Err
returns-in_ok-write_refused-in-Err c =
    let refused : operation_fault c.args.vm.now.space c.args.op.now ≡ Some c.in-Err.fault =
    ap (λ (x : SpaceState). operation_fault x c.args.op.now) c.space.ensures.value
    ∙ fault_but_memory _ (operation_fault c.space.result.now c.args.op.now) c.in-Err.fault c.in-Err.ensures.fault (search rules) in
    c.in_ok-write_refused-in-Err.ensures
    ∙ ap (λ (o : Option Fault). string_bytes c.args.out.now ++ plan_reply (names_alone c.args.names.now.entries) c.args.vm.now.space c.args.op.now o) (sym refused)
