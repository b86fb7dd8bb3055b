use Rattle.std.proofs.Common.{◌≡◌, ◌≤◌, length, take, vec_len, vec_capacity}
use Rattle.std.specs.List.{All}
use Rattle.gv_vm.specs.BindOutcome.{seen_by}
use Rattle.gv_vm.proofs.dispatch.seen_of.Given as goal

abbrev pub invariant-loop-point : goal.invariant-loop-point
invariant-loop-point l = record {
  seen : l.seen.items ≡ seen_by (take l.point-index l.reached);
  reached : All (λ r. r.point.value ≤ r.number) (take l.point-index l.reached);
  len : vec_len l.seen ≡ l.point-index;
  room : vec_capacity l.seen ≡ length l.reached;
}
