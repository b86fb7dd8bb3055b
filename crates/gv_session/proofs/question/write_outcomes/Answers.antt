use Rattle.std.proofs.Common.{◌≡◌, ◌-◌, ◌∙◌, ap, List, length, arith}
use Rattle.std.proofs.lemmas.List.{length-drop}
use Rattle.gv_vm.specs.Outcomes.{told_to}
use Rattle.gv_vm.specs.State.{forgotten_of}
use Rattle.gv_vm.specs.declared.outcome.Outcome.{Outcome}
use Rattle.gv_session.proofs.question.write_outcomes.Goals as goal

pub write_told-requires : goal.write_told-requires
write_told-requires c =
    let told = told_to c.args.vm.now.told c.args.queue in
    let first = forgotten_of c.args.vm.now c.args.queue in
    let long : length c.told.result.now ≡ length told - first = ap (λ (xs : List Outcome). length xs) c.told.ensures ∙ length-drop first told in
    omega (arith, long, c.told_from.ensures.number, c.told_from.ensures.few, c.told_next-next.ensures.number, c.told_next-next.ensures.few)
