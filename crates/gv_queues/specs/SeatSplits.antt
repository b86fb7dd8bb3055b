-- The seats that queues split off the seat that they are lent: one for each worker, in order. The driver is lent what remains.
use Rattle.std.specs.Prelude.{◌≡◌, ℕ, ◌+◌, ◌<◌, List, [], length, Result, Ok, Err}
use Rattle.gv_sync.specs.Seats.{SeatState, split_from}
use Rattle.gv_queues.specs.Working.{WorkerState, worker_at}
use Rattle.gv_queues.specs.declared.finishing.QueuesFault.{QueuesFault}
use Rattle.gv_queues.specs.declared.finishing.QueuesFault.TheVariants.{NotMade, NotStarted, Disagree}

-- the seat after so many splits: it knows the same, and has less of a share
abbrev pub after_splits : SeatState → ℕ → SeatState
after_splits seat count =
    record { of = seat.of; marks = seat.marks; raises = seat.raises; halvings = seat.halvings + count }

-- the seat that is split off when so many were split off before
abbrev pub split_behind : SeatState → ℕ → SeatState
split_behind seat count = split_from (after_splits seat count)

-- a worker's seat, which raised nothing
abbrev pub seat_of : WorkerState → SeatState
seat_of worker = record { of = worker.of; marks = worker.marks; raises = []; halvings = worker.halvings }

-- each worker has just the seat that was split off for it: it took no step yet, and no other seat was split off it
abbrev pub HaveSplits : SeatState → List WorkerState → Type 0
HaveSplits seat workers = (queue : ℕ) → queue < length workers → seat_of (worker_at workers queue) ≡ split_behind seat queue

-- it took no step, though seats may have been split off it
abbrev pub TookNoStep : SeatState → SeatState → Type 0
TookNoStep old new = (new.marks ≡ old.marks) × (new.raises ≡ old.raises)

-- The seat that queues were lent, when they give it back. Where the driver ran, a seat was split off for each worker, and then
-- the driver did with it what it says. Where it did not run, no step was taken; a seat was split off for each worker, unless
-- memory was refused first.
abbrev pub ComesBack : {T : Type 0} → ℕ → (SeatState → SeatState → Type 0) → SeatState → SeatState → Result T QueuesFault → Type 0
ComesBack count steps old new (Ok ends) = steps (after_splits old count) new
ComesBack count steps old new (Err (Disagree queue)) = steps (after_splits old count) new
ComesBack count steps old new (Err (NotStarted queue)) = new ≡ after_splits old count
ComesBack count steps old new (Err NotMade) = TookNoStep old new
