use Rattle.std.proofs.Common.{◌≡◌, ◌+◌, ◌-◌, ◌≤◌, ◌∙◌, ap, subst, List, ℕ, drop, length, arith}
use Rattle.std.proofs.lemmas.List.{length-drop}
use Rattle.gv_vm.specs.Outcomes.{told_to}
use Rattle.gv_vm.specs.State.{forgotten_of}
use Rattle.gv_vm.specs.declared.outcome.Outcome.{Outcome}
use Rattle.gv_c.specs.Lists.{IsWritten, numbered}
use Rattle.gv_c.proofs.Written.{told_written}
use Rattle.gv_c.proofs.lists.write_told.Goals as goal

pub write_outcomes-requires : goal.write_outcomes-requires
write_outcomes-requires c =
    let told = told_to c.args.vm.now.told c.args.queue in
    let first = forgotten_of c.args.vm.now c.args.queue in
    let long : length c.told.result.now ≡ length told - first = ap (λ (xs : List Outcome). length xs) c.told.ensures ∙ length-drop first told in
    omega (arith, long, c.told_from-first.ensures.number, c.told_from-first.ensures.few, c.told_next-next.ensures.number, c.told_next-next.ensures.few)

pub returns : goal.returns
returns c =
    let told = told_to c.args.vm.now.told c.args.queue in
    let first : ℕ = forgotten_of c.args.vm.now c.args.queue in
    let from : ℕ = c.args.from in
    let old = c.args.list.now in
    let new = c.write_outcomes.new.list in
    let count : ℕ = c.write_outcomes.result in
    let here = subst (λ (n : ℕ). IsWritten (numbered n c.told.result.now) c.saturating_sub.result old new count (length c.told.result.now)) c.told_from-first.ensures.number c.write_outcomes.ensures in
    let place : c.saturating_sub.result ≡ from - first = c.saturating_sub.ensures ∙ ap (λ (n : ℕ). from - n) c.told_from-first.ensures.number in
    let there = subst (λ (n : ℕ). IsWritten (numbered first c.told.result.now) n old new count (length c.told.result.now)) place here in
    told_written told first from old new count (length (drop first told))
    (subst (λ (xs : List Outcome). IsWritten (numbered first xs) (from - first) old new count (length xs)) c.told.ensures there)
