use Rattle.std.proofs.Common.{◌≡◌, ◌≤◌, ◌+◌, ◌++◌, map, vec_len, vec_capacity}
use Rattle.std.specs.Vec.Iter.{into_iter_items, into_iter_len}
use Rattle.gv_queues.specs.Submitting.{put_end_of}
use Rattle.gv_queues.proofs.running.close_all.Given as goal

abbrev pub invariant-loop-submitter : goal.invariant-loop-submitter
invariant-loop-submitter l =
    let rest = l.submitter-iterator in
    (vec_len l.puts + into_iter_len rest ≡ vec_len l.fn.submitters)
    × (l.puts.items ++ map put_end_of (into_iter_items rest) ≡ map put_end_of l.fn.submitters.items)
    × (vec_len l.fn.submitters ≤ vec_capacity l.puts)
