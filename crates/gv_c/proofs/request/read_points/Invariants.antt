use Rattle.std.proofs.Common.{◌≡◌, map, take, length, vec_len, vec_capacity}
use Rattle.gv_c.specs.Values.{point_of}
use Rattle.gv_c.proofs.request.read_points.Given as goal

abbrev pub invariant-loop-point : goal.invariant-loop-point
invariant-loop-point l = record {
  points : l.list.items ≡ map point_of (take l.point-index l.points);
  len : vec_len l.list ≡ l.point-index;
  room : vec_capacity l.list ≡ length l.points;
}
