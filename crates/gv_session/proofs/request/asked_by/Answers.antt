use Rattle.std.proofs.Common.{◌≡◌, true, rules}
use Rattle.gv_lines.specs.Clause.{waits_of, signals_of}
use Rattle.gv_session.proofs.ClauseRequests.{declared_first, declared_both, asked_all}
use Rattle.gv_session.proofs.DeclaredPoints.{read_below}
use Rattle.gv_session.proofs.request.asked_by.Goals as goal

pub loop-clause-preserved-in-Ok : goal.loop-clause-preserved-in-Ok
loop-clause-preserved-in-Ok c = record {
  asked = λ memory. c.in-Ok.ensures.done c.args.clauses.now c.take.new.self (rw c.in-Some.ensures at (c.loop-clause.invariant.asked memory));
  so_far = λ more. c.loop-clause.invariant.so_far (rw c.in-Some.ensures (declared_first _ _ c.in-Some.clause c.take.new.self (c.in-Ok.ensures.memory (search rules)) more));
  whole = λ all. (declared_both _ _ c.in-Some.clause c.take.new.self (rw c.in-Some.ensures at (c.loop-clause.invariant.whole all))).1;
}

pub returns-clause-ops : goal.returns-clause-ops
returns-clause-ops c = let memory : c.loop-clause.has_memory ≡ true = search rules in (asked_all _ _ _ _ c.loop-clause.asked (c.loop-clause.invariant.asked memory) (search rules)).0

pub returns-clause-waits : goal.returns-clause-waits
returns-clause-waits c = let memory : c.loop-clause.has_memory ≡ true = search rules in (asked_all _ _ _ _ c.loop-clause.asked (c.loop-clause.invariant.asked memory) (search rules)).1

pub returns-clause-signals : goal.returns-clause-signals
returns-clause-signals c = let memory : c.loop-clause.has_memory ≡ true = search rules in (asked_all _ _ _ _ c.loop-clause.asked (c.loop-clause.invariant.asked memory) (search rules)).2

pub returns-clause-fits : goal.returns-clause-fits
returns-clause-fits c =
    let memory : c.loop-clause.has_memory ≡ true = search rules in
    let all = asked_all c.args.names.now.entries c.args.timelines.now.names c.args.clauses.now c.loop-clause.remaining c.loop-clause.asked (c.loop-clause.invariant.asked memory) (search rules) in
    (read_below c.args.timelines.now.names (waits_of c.args.clauses.now) _ all.1, read_below c.args.timelines.now.names (signals_of c.args.clauses.now) _ all.2)
