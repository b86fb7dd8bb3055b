-- What a queue keeps of its parts. No public clause cites this module.
use Rattle.std.specs.Prelude.{◌*◌, ◌≤◌}
use Rattle.std.specs.VecDeque.{deque_len, deque_capacity}
use Rattle.gv_vm.specs.declared.queue.Queue.TheInside.{Inside}

-- The requests that wait were put, and there are at most four places for each that was put: a queue on which nothing was put
-- has none.
pub record IsSoundQueue (q : Inside) : Type 0 where
  pub waiting : deque_len q.waiting ≤ q.put
  pub places : deque_capacity q.waiting ≤ 4 * q.put
