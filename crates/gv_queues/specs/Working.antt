-- A worker and its end.
use Rattle.std.specs.Prelude.{◌≡◌, ℕ, ◌<◌, ◌≤◌, List, [], length, drop, slice_index_or, Result, Ok, Err}
use Rattle.atomic_table.specs.Seated.{TableId}
use Rattle.gv_types.specs.declared.request.Point.{Point}
use Rattle.gv_types.specs.declared.request.Request.{Request}
use Rattle.gv_sync.specs.declared.marks.Mark.{Mark}
use Rattle.gv_sync.specs.Raises.{raised, values_on}
use Rattle.gv_sync.specs.Seats.{SeatState, mark_of}
use Rattle.gv_vm.specs.declared.outcome.Outcome.{Outcome}
use Rattle.gv_vm.specs.declared.outcome.NotTold.{NotTold}
use Rattle.gv_queues.specs.Paying.{all_owed, owed}
use Rattle.gv_queues.specs.Submitting.{ChannelId, no_channel}

-- a worker that took nothing yet: its queue, its channel, and of its seat the timelines, what it knows of them, and its share.
-- It raised nothing
pub record WorkerState : Type 0 where
  pub queue : ℕ
  pub channel : ChannelId
  pub of : TableId
  pub marks : List Mark
  pub halvings : ℕ

-- what a worker that ended leaves: the requests that it took, the outcomes that it gave the first of them, and the others; and
-- of its seat the raises, in order, and the share
pub record WorkerEndState : Type 0 where
  pub queue : ℕ
  pub channel : ChannelId
  pub taken : List Request
  pub gave : List Outcome
  pub left : List Request
  pub raises : List Point
  pub halvings : ℕ

-- those of the requests taken that got no outcome are left
pub record AreLeft (taken : List Request) (gave : List Outcome) (left : List Request) : Type 0 where
  pub few : length gave ≤ length taken
  pub left_is : drop (length gave) taken ≡ left

-- the seat raised just the signals of those requests that were accepted, in order, each by one step
pub record RaisedJustOwed (gave : List Outcome) (taken : List Request) (seat : SeatState) : Type 0 where
  pub raises : seat.raises ≡ all_owed gave taken
  pub raised : (timeline : ℕ) → (mark_of seat timeline).raised ≡ raised (values_on timeline (all_owed gave taken))

-- what a request is owed where it was seen to: nothing, unless it was accepted
abbrev pub owed_by : Result Outcome NotTold → List Point → List Point
owed_by (Ok outcome) signals = owed outcome signals
owed_by (Err not_told) signals = []

-- where there is no worker
abbrev pub no_worker : WorkerState
no_worker = record {
  queue = 0;
  channel = no_channel;
  of = no_channel.table;
  marks = [];
  halvings = 0;
}

abbrev pub worker_at : List WorkerState → ℕ → WorkerState
worker_at workers queue = slice_index_or workers queue no_worker

abbrev pub no_end : WorkerEndState
no_end = record { queue = 0; channel = no_channel; taken = []; gave = []; left = []; raises = []; halvings = 0 }

abbrev pub end_at : List WorkerEndState → ℕ → WorkerEndState
end_at ends queue = slice_index_or ends queue no_end

-- the end is that of this worker: it has its queue, its channel and its seat's share. With that seat just the signals of the
-- requests that were accepted were raised, in order
pub record IsEndOfWorker (worker : WorkerState) (end : WorkerEndState) : Type 0 where
  pub queue : end.queue ≡ worker.queue
  pub channel : end.channel ≡ worker.channel
  pub halvings : end.halvings ≡ worker.halvings
  pub raises : end.raises ≡ all_owed end.gave end.taken

-- at each place is the end of the worker that stood there
abbrev pub AreEndsOfWorkers : List WorkerState → List WorkerEndState → Type 0
AreEndsOfWorkers workers ends =
    (queue : ℕ) (d : WorkerEndState) → queue < length ends → IsEndOfWorker (worker_at workers queue) (slice_index_or ends queue d)
