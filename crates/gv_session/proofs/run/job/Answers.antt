use Rattle.std.proofs.Common.{◌≡◌, ◌<◌, ℕ, map, length, inl, inr, refl, sym, subst, rules}
use Rattle.std.proofs.lemmas.List.{length-map}
use Rattle.gv_types.specs.declared.fault.Fault.TheVariants.{TooManyAccesses}
use Rattle.gv_vm.specs.Jobs.{most_accesses}
use Rattle.gv_vm.specs.declared.event.Event.TheVariants.{JobBegin}
use Rattle.gv_lines.specs.declared.line.Line.TheVariants as line
use Rattle.gv_session.specs.Requests.{access_named}
use Rattle.gv_session.specs.Texts.{refused_reply}
use Rattle.gv_session.specs.Line.{Runs, DoesOnce}
use Rattle.gv_session.proofs.AnswerLemmas.{then_ok}
use Rattle.gv_session.proofs.LinesLemmas.{wrote_plain, wrote_as, too_many}
use Rattle.gv_session.proofs.StoppedLemmas.{on_err, then_on_err, loses_as}
use Rattle.gv_session.proofs.run.job.Goals as goal

pub returns-then-are_too_many-clause-done : goal.returns-then-are_too_many-clause-done
returns-then-are_too_many-clause-done c =
    let s = c.args.session.now in
    let many : most_accesses < length c.args.accesses = search rules in
    let same : length (map access_named c.args.accesses) ≡ length c.args.accesses = length-map c.args.accesses access_named in
    wrote_plain (Runs (line.Job c.args.accesses)) s c.begin.new.self (refused_reply TooManyAccesses) c.args.out.now c.write_refused.new.out c.in_ok-write_refused.ensures
    (inr (too_many s.world.vm.jobs (length (map access_named c.args.accesses)) (subst (λ (n : ℕ). most_accesses < n) (sym same) many), (refl, c.begin.ensures)))

pub returns-clause-done : goal.returns-clause-done
returns-clause-done c =
    then_ok c.run_event.result _ _ (λ wrote.
    wrote_as (DoesOnce (JobBegin c.in_ok-accesses.accesses)) (Runs (line.Job c.args.accesses)) c.args.session.now c.run_event.new.session c.args.out.now c.run_event.new.out
    (λ w runs. inl (record { list = c.in_ok-accesses.accesses; list_is = c.in_ok-accesses.ensures; does = runs })) wrote) c.run_event.ensures.done

pub returns-in_err-write_refused-clause-stopped : goal.returns-in_err-write_refused-clause-stopped
returns-in_err-write_refused-clause-stopped c = on_err c.from_residual.result _ (inr (inl c.begin.ensures))

pub returns-in_err-accesses-clause-stopped : goal.returns-in_err-accesses-clause-stopped
returns-in_err-accesses-clause-stopped c = on_err c.from_residual-in_err-accesses.result _ (inl refl)

pub returns-clause-stopped : goal.returns-clause-stopped
returns-clause-stopped c =
    then_on_err c.run_event.result _ _ (loses_as (DoesOnce (JobBegin c.in_ok-accesses.accesses)) (Runs (line.Job c.args.accesses)) c.args.session.now c.run_event.new.session
    (λ w runs. inl (record { list = c.in_ok-accesses.accesses; list_is = c.in_ok-accesses.ensures; does = runs }))) c.run_event.ensures.stopped
