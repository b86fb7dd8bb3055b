use Rattle.std.proofs.Common.{◌≡◌, ◌++◌, ◌∷◌, [], sym, refl, rules, true, false, ◌∙◌, length, ap}
use Rattle.gv_vm.specs.Plans.{serving, nothing}
use Rattle.gv_session.proofs.AnswerLemmas.{then_ok}
use Rattle.gv_vm.proofs.PlanLemmas.{goes_trans, carried_out, looked_goes, put_goes_on, put_stops, taken_stops, gives_up}
use Rattle.gv_session.proofs.RepliesWritten.{tells_trans}
use Rattle.gv_vm.specs.declared.event.Event.TheVariants.{Put, Take, GiveUp}
use Rattle.gv_vm.specs.Plans.{taking, looks, carrying_out, once}
use Rattle.gv_vm.proofs.PlanLemmas.{taken_goes_on}
use Rattle.gv_session.proofs.StoppedLemmas.{on_err, then_on_err, amid_at, amid_behind}
use Rattle.gv_session.proofs.run_request.run_request.Goals as goal

pub returns-then-not-is_put-clause-goes : goal.returns-then-not-is_put-clause-goes
returns-then-not-is_put-clause-goes c =
    let put = c.in_ok-put.ensures in
    let e : c.is_put.result ≡ false = search rules in (
      c.in_ok-put.put ∷ [],
      put.tells,
      put_stops c.args.queue c.args.request c.in_ok-put.put _ _ put.step (sym c.is_put.ensures ∙ e),
    )

pub returns-then-not-is_taken-clause-goes : goal.returns-then-not-is_taken-clause-goes
returns-then-not-is_taken-clause-goes c =
    let put = c.in_ok-put.ensures in
    let taken = c.in_ok-taken.ensures in
    let e : c.is_put.result ≡ true = search rules in
    let f : c.is_taken.result ≡ false = search rules in (
      c.in_ok-put.put ∷ (c.in_ok-taken.taken ∷ []),
      tells_trans _ _ _ (c.in_ok-put.put ∷ []) (c.in_ok-taken.taken ∷ []) _ _ _ put.tells taken.tells,
      carried_out (serving c.args.queue c.args.request) nothing _ _ _ refl
          (goes_trans _ _ _ _ _ _ (c.in_ok-put.put ∷ []) (c.in_ok-taken.taken ∷ [])
          (put_goes_on c.args.queue c.args.request c.in_ok-put.put _ _ put.step (sym c.is_put.ensures ∙ e))
          (taken_stops true c.args.queue c.args.request c.in_ok-taken.taken _ _ taken.step (sym c.is_taken.ensures ∙ f))),
    )

pub returns-in-NoneLacked-clause-goes : goal.returns-in-NoneLacked-clause-goes
returns-in-NoneLacked-clause-goes c =
    let put = c.in_ok-put.ensures in
    let taken = c.in_ok-taken.ensures in
    let e : c.is_put.result ≡ true = search rules in
    let f : c.is_taken.result ≡ true = search rules in
    let seen = c.in_ok-look_at_all.ensures.goes in
    let looked =
    looked_goes c.args.queue c.args.request c.in_ok-put.put c.in_ok-taken.taken seen.0 c.in_ok-look_at_all.field-0 _ _ _ _ put.step (sym c.is_put.ensures ∙ e)
    taken.step (sym c.is_taken.ensures ∙ f) (seen.2 c.args.request.waits.items c.args.request.signals.items (let e : length c.args.request.waits.items ≡ length c.as_slice-waits.result.now = ap length (sym c.as_slice-waits.ensures.value) in e)) in
    let told = tells_trans _ _ _ (c.in_ok-put.put ∷ []) (c.in_ok-taken.taken ∷ seen.0) _ _ _ put.tells
    (tells_trans _ _ _ (c.in_ok-taken.taken ∷ []) seen.0 _ _ _ taken.tells seen.1) in
    then_ok c.carry_out.result _ _ (λ done. (
      (c.in_ok-put.put ∷ (c.in_ok-taken.taken ∷ seen.0)) ++ done.0,
      tells_trans _ _ _ _ done.0 _ _ _ told done.1,
      carried_out (serving c.args.queue c.args.request) nothing _ _ _ refl
          (goes_trans _ _ _ _ _ _ _ done.0 (rw c.in-NoneLacked.is at looked) (done.2 c.args.request.signals.items (let e : length c.args.request.signals.items ≡ length c.as_slice-signals.result.now = ap length (sym c.as_slice-signals.ensures.value) in e))),
    )) c.carry_out.ensures.goes

pub returns-in-Lacked-clause-goes : goal.returns-in-Lacked-clause-goes
returns-in-Lacked-clause-goes c =
    let put = c.in_ok-put.ensures in
    let taken = c.in_ok-taken.ensures in
    let e : c.is_put.result ≡ true = search rules in
    let f : c.is_taken.result ≡ true = search rules in
    let seen = c.in_ok-look_at_all.ensures.goes in
    let looked =
    looked_goes c.args.queue c.args.request c.in_ok-put.put c.in_ok-taken.taken seen.0 c.in_ok-look_at_all.field-0 _ _ _ _ put.step (sym c.is_put.ensures ∙ e)
    taken.step (sym c.is_taken.ensures ∙ f) (seen.2 c.args.request.waits.items c.args.request.signals.items (let e : length c.args.request.waits.items ≡ length c.as_slice-waits.result.now = ap length (sym c.as_slice-waits.ensures.value) in e)) in
    let told = tells_trans _ _ _ (c.in_ok-put.put ∷ []) (c.in_ok-taken.taken ∷ seen.0) _ _ _ put.tells
    (tells_trans _ _ _ (c.in_ok-taken.taken ∷ []) seen.0 _ _ _ taken.tells seen.1) in
    let given = c.in_ok-ask-in-Lacked.ensures in (
      (c.in_ok-put.put ∷ (c.in_ok-taken.taken ∷ seen.0)) ++ c.in_ok-ask-in-Lacked.field-0 ∷ [],
      tells_trans _ _ _ _ (c.in_ok-ask-in-Lacked.field-0 ∷ []) _ _ _ told given.tells,
      carried_out (serving c.args.queue c.args.request) nothing _ _ _ refl
          (goes_trans _ _ _ _ _ _ _ (c.in_ok-ask-in-Lacked.field-0 ∷ []) (rw c.in-Lacked.is at looked) (gives_up c.args.queue c.in_ok-ask-in-Lacked.field-0 _ _ given.step)),
    )

pub returns-clause-goes : goal.returns-clause-goes
returns-clause-goes c =
    let put = c.in_ok-put.ensures in
    let taken = c.in_ok-taken.ensures in
    let e : c.is_put.result ≡ true = search rules in
    let f : c.is_taken.result ≡ true = search rules in
    let seen = c.in_ok-look_at_all.ensures.goes in
    let looked =
    looked_goes c.args.queue c.args.request c.in_ok-put.put c.in_ok-taken.taken seen.0 c.in_ok-look_at_all.field-0 _ _ _ _ put.step (sym c.is_put.ensures ∙ e)
    taken.step (sym c.is_taken.ensures ∙ f) (seen.2 c.args.request.waits.items c.args.request.signals.items (let e : length c.args.request.waits.items ≡ length c.as_slice-waits.result.now = ap length (sym c.as_slice-waits.ensures.value) in e)) in
    let told = tells_trans _ _ _ (c.in_ok-put.put ∷ []) (c.in_ok-taken.taken ∷ seen.0) _ _ _ put.tells
    (tells_trans _ _ _ (c.in_ok-taken.taken ∷ []) seen.0 _ _ _ taken.tells seen.1) in
    (c.in_ok-put.put ∷ (c.in_ok-taken.taken ∷ seen.0), told, carried_out (serving c.args.queue c.args.request) nothing _ _ _ refl (rw c.in-Other.is at looked))

pub returns-in_err-put-clause-stopped : goal.returns-in_err-put-clause-stopped
returns-in_err-put-clause-stopped c =
    on_err c.from_residual.result _ (amid_at (serving c.args.queue c.args.request) (Put c.args.queue c.args.request) _ _ refl c.in_err-put.ensures.stopped)

pub returns-in_err-taken-clause-stopped : goal.returns-in_err-taken-clause-stopped
returns-in_err-taken-clause-stopped c =
    let put = c.in_ok-put.ensures in
    let e : c.is_put.result ≡ true = search rules in
    on_err c.from_residual-in_err-taken.result _ (
    amid_behind (serving c.args.queue c.args.request) (taking true c.args.queue c.args.request) _ _ _ (c.in_ok-put.put ∷ [])
    (put_goes_on c.args.queue c.args.request c.in_ok-put.put _ _ put.step (sym c.is_put.ensures ∙ e)) put.tells.state
    (amid_at (taking true c.args.queue c.args.request) (Take c.args.queue) _ _ refl c.in_err-taken.ensures.stopped))

pub returns-in_err-look_at_all-clause-stopped : goal.returns-in_err-look_at_all-clause-stopped
returns-in_err-look_at_all-clause-stopped c =
    let put = c.in_ok-put.ensures in
    let taken = c.in_ok-taken.ensures in
    let e : c.is_put.result ≡ true = search rules in
    let f : c.is_taken.result ≡ true = search rules in
    let waits : length c.args.request.waits.items ≡ length c.as_slice-waits.result.now = ap length (sym c.as_slice-waits.ensures.value) in
    let signals : length c.args.request.signals.items ≡ length c.as_slice-signals.result.now = ap length (sym c.as_slice-signals.ensures.value) in
    let told = tells_trans _ _ _ (c.in_ok-put.put ∷ []) (c.in_ok-taken.taken ∷ []) _ _ _ put.tells taken.tells in
    on_err c.from_residual-in_err-look_at_all.result _ (
    amid_behind (serving c.args.queue c.args.request) (looks true c.args.queue c.args.request.waits.items c.args.request.signals.items) _ _ _ (c.in_ok-put.put ∷ (c.in_ok-taken.taken ∷ []))
    (goes_trans _ _ _ _ _ _ (c.in_ok-put.put ∷ []) (c.in_ok-taken.taken ∷ [])
    (put_goes_on c.args.queue c.args.request c.in_ok-put.put _ _ put.step (sym c.is_put.ensures ∙ e))
    (taken_goes_on true c.args.queue c.args.request c.in_ok-taken.taken _ _ taken.step (sym c.is_taken.ensures ∙ f)))
    told.state (c.in_err-look_at_all.ensures.stopped c.args.request.waits.items c.args.request.signals.items waits))

pub returns-in-NoneLacked-clause-stopped : goal.returns-in-NoneLacked-clause-stopped
returns-in-NoneLacked-clause-stopped c =
    let put = c.in_ok-put.ensures in
    let taken = c.in_ok-taken.ensures in
    let e : c.is_put.result ≡ true = search rules in
    let f : c.is_taken.result ≡ true = search rules in
    let waits : length c.args.request.waits.items ≡ length c.as_slice-waits.result.now = ap length (sym c.as_slice-waits.ensures.value) in
    let signals : length c.args.request.signals.items ≡ length c.as_slice-signals.result.now = ap length (sym c.as_slice-signals.ensures.value) in
    let seen = c.in_ok-look_at_all.ensures.goes in
    let looked =
    looked_goes c.args.queue c.args.request c.in_ok-put.put c.in_ok-taken.taken seen.0 c.in_ok-look_at_all.field-0 _ _ _ _ put.step (sym c.is_put.ensures ∙ e)
    taken.step (sym c.is_taken.ensures ∙ f) (seen.2 c.args.request.waits.items c.args.request.signals.items waits) in
    let told = tells_trans _ _ _ (c.in_ok-put.put ∷ []) (c.in_ok-taken.taken ∷ seen.0) _ _ _ put.tells
    (tells_trans _ _ _ (c.in_ok-taken.taken ∷ []) seen.0 _ _ _ taken.tells seen.1) in
    then_on_err c.carry_out.result _ _ (λ amid.
    amid_behind (serving c.args.queue c.args.request) (carrying_out c.args.queue c.args.request.signals.items) _ _ _ _
    (rw c.in-NoneLacked.is at looked) told.state (amid c.args.request.signals.items signals)) c.carry_out.ensures.stopped

pub returns-in_err-ask-in-Lacked-clause-stopped : goal.returns-in_err-ask-in-Lacked-clause-stopped
returns-in_err-ask-in-Lacked-clause-stopped c =
    let put = c.in_ok-put.ensures in
    let taken = c.in_ok-taken.ensures in
    let e : c.is_put.result ≡ true = search rules in
    let f : c.is_taken.result ≡ true = search rules in
    let waits : length c.args.request.waits.items ≡ length c.as_slice-waits.result.now = ap length (sym c.as_slice-waits.ensures.value) in
    let signals : length c.args.request.signals.items ≡ length c.as_slice-signals.result.now = ap length (sym c.as_slice-signals.ensures.value) in
    let seen = c.in_ok-look_at_all.ensures.goes in
    let looked =
    looked_goes c.args.queue c.args.request c.in_ok-put.put c.in_ok-taken.taken seen.0 c.in_ok-look_at_all.field-0 _ _ _ _ put.step (sym c.is_put.ensures ∙ e)
    taken.step (sym c.is_taken.ensures ∙ f) (seen.2 c.args.request.waits.items c.args.request.signals.items waits) in
    let told = tells_trans _ _ _ (c.in_ok-put.put ∷ []) (c.in_ok-taken.taken ∷ seen.0) _ _ _ put.tells
    (tells_trans _ _ _ (c.in_ok-taken.taken ∷ []) seen.0 _ _ _ taken.tells seen.1) in
    on_err c.from_residual-in_err-ask-in-Lacked.result _ (
    amid_behind (serving c.args.queue c.args.request) (once (GiveUp c.args.queue)) _ _ _ _
    (rw c.in-Lacked.is at looked) told.state (amid_at (once (GiveUp c.args.queue)) (GiveUp c.args.queue) _ _ refl c.in_err-ask-in-Lacked.ensures.stopped))
