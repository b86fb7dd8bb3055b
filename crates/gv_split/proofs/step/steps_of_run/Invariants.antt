use Rattle.std.proofs.Common.{◌≡◌, ◌+◌, ◌++◌, map, length, vec_len, vec_capacity}
use Rattle.gv_types.specs.Operation.{own_mapping}
use Rattle.gv_split.specs.Steps.{step_in}
use Rattle.gv_split.proofs.step.steps_of_run.Given as goal

abbrev pub invariant-loop-mapping : goal.invariant-loop-mapping
invariant-loop-mapping l = record {
  items : l.answer.items ++ map (step_in l.op) l.mapping-iterator ≡ map (step_in l.op) l.fn.run;
  len : vec_len l.answer + length l.mapping-iterator ≡ length l.fn.run;
  room : vec_capacity l.answer ≡ length l.fn.run + length (own_mapping l.op);
  can : (goal.iterator-loop-mapping).can_next l.mapping-iterator;
  finite : (goal.iterator-loop-mapping).is_finite l.mapping-iterator;
}
