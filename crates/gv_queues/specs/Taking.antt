-- The end of a queue at which requests are taken, and a request that was taken.
use Rattle.std.specs.Prelude.{◌≡◌, ℕ, List, [], ◌∷◌, ◌++◌, length}
use Rattle.gv_types.specs.declared.request.Request.{Request}
use Rattle.gv_types.specs.Request.{Fits}
use Rattle.gv_queues.specs.Submitting.{ChannelId}

-- a queue, its channel, the count of its timelines, and what was taken from it
pub record TakerState : Type 0 where
  pub queue : ℕ
  pub channel : ChannelId
  pub timelines : ℕ
  pub taken : List Request

-- a request in hand, with the number that it has in its queue
pub record TakenState : Type 0 where
  pub queue : ℕ
  pub number : ℕ
  pub request : Request

-- the request at the front was taken: its number is how many were taken before, and it fits the timelines
pub record IsTakenFrom (old new : TakerState) (t : TakenState) : Type 0 where
  pub queue : t.queue ≡ old.queue
  pub number : t.number ≡ length old.taken
  pub fits : Fits old.timelines t.request
  pub taken : new ≡ record old { taken = old.taken ++ t.request ∷ [] }
