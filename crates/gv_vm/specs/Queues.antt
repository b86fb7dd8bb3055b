-- What always holds of the queues of a world.
use Rattle.std.specs.Prelude.{◌≡◌, ℕ, ◌+◌, ◌<◌, ◌≤◌, length, map, take, MatchOption, Contains, Option, Some, None}
use Rattle.std.specs.List.{All}
use Rattle.gv_types.specs.Request.{Fits}
use Rattle.gv_vm.specs.Outcomes.{queues}
use Rattle.gv_vm.specs.State.{told_limit}
use Rattle.gv_vm.specs.World.{WorldState, HandState, QueueState, queue_at, next_number}

-- Those waits of a request in hand that were reached are its first ones, in order, and what lacked last is one of its waits.
pub record IsInOrder (h : HandState) : Type 0 where
  pub first : map (λ s. s.point) h.reached ≡ take (length h.reached) h.request.waits.items
  pub lacked : MatchOption h.lacked (Unit {0}) (λ s. Contains h.request.waits.items s.point)

-- how many requests are in hand
abbrev pub in_hand : Option HandState → ℕ
in_hand None = 0
in_hand (Some h) = 1

-- a request in hand speaks of timelines that there are
abbrev pub HandFits : ℕ → Option HandState → Type 0
HandFits timelines None = Unit {0}
HandFits timelines (Some h) = Fits timelines h.request

-- Each request that was put is told, in hand, or waits, and no more were put than the limit. All speak of timelines that
-- there are.
pub record IsQueueOf (limit timelines told : ℕ) (q : QueueState) : Type 0 where
  pub put : told + in_hand q.hand + length q.waiting ≡ q.put
  pub few : q.put ≤ limit
  pub waiting : All (Fits timelines) q.waiting
  pub hand : HandFits timelines q.hand
  pub owed : All (λ p. p.timeline < timelines) q.owed

pub record AreQueues (w : WorldState) : Type 0 where
  pub few : length w.queues ≤ queues
  pub told : length w.vm.told ≡ queues
  pub each : (n : ℕ) → n < length w.queues →
      IsQueueOf (told_limit w.vm n) (length w.numbers) (next_number w n) (queue_at w n)
