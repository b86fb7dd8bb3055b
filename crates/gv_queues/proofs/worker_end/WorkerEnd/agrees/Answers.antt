use Rattle.std.proofs.Common.{rules, ◌≡◌, ◌-◌, ◌≤◌, ◌∙◌, ℕ, List, length, take, drop, sym, ap, arith}
use Rattle.std.proofs.lemmas.List.{length-drop, take_all}
use Rattle.std.proofs.lemmas.Slice.Eq.{slice_eq-Decides}
use Rattle.gv_vm.specs.Outcomes.{told_to}
use Rattle.gv_vm.specs.State.{forgotten_of}
use Rattle.gv_vm.specs.declared.outcome.Outcome.{Outcome}
use Rattle.gv_queues.specs.Working.{WorkerEndState}
use Rattle.gv_queues.proofs.OutcomeEquality.{outcome_decides}
use Rattle.gv_queues.proofs.worker_end.WorkerEnd.agrees.Goals as goal

pub returns : goal.returns
returns c =
    let vm = c.args.vm.now in
    let all : List Outcome = c.deref.result.now in
    let first : ℕ = c.told_from-first.result in
    let rest : List Outcome = take (length all - first) (drop first all) in
    let test = slice_eq-Decides outcome_decides rest c.told.result.now c.eq.result c.eq.ensures in
    let gave : all ≡ c.args.self.now.gave = c.deref.ensures.value ∙ ap (λ (w : WorkerEndState). w.gave) c.self.view_is in
    let queue : c.queue-queue.result ≡ c.args.self.now.queue = c.queue-queue.ensures.value ∙ ap (λ (w : WorkerEndState). w.queue) c.self.view_is in
    let whole : rest ≡ drop first all = take_all _ (drop first all) (omega (arith, length-drop first all)) in
    let mine : rest ≡ drop (forgotten_of vm c.args.self.now.queue) c.args.self.now.gave =
    whole ∙ ap (λ (n : ℕ). drop n all) (c.told_from-first.ensures.number ∙ ap (λ (q : ℕ). forgotten_of vm q) queue)
    ∙ ap (drop (forgotten_of vm c.args.self.now.queue)) gave in
    let its : c.told.result.now ≡ drop (forgotten_of vm c.args.self.now.queue) (told_to vm.told c.args.self.now.queue) =
    c.told.ensures ∙ ap (λ (q : ℕ). drop (forgotten_of vm q) (told_to vm.told q)) queue in
    let count : length c.args.self.now.gave ≡ length (told_to vm.told c.args.self.now.queue) =
    ap (λ (xs : List Outcome). length xs) (sym gave) ∙ c.deref.ensures.len ∙ sym c.len.ensures ∙ c.if-len-told_next.false ∙ c.told_next.ensures.number
    ∙ ap (λ (q : ℕ). length (told_to vm.told q)) queue in (
      (λ is. record { took_all = search rules; count = count; told = sym mine ∙ (test.0 is ∙ its) }),
      (λ a. test.1 (mine ∙ (a.told ∙ sym its))),
    )
