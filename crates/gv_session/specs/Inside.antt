-- How a `Session` is seen as a `SessionState`, and what it keeps of its parts. Of this module public clauses cite `HasTimelines` alone.
use Rattle.std.specs.Prelude.{◌≡◌, ◌≤◌, length}
use Rattle.gv_sync.specs.Seats.{most_timelines}
use Rattle.gv_session.specs.State.{SessionState}
use Rattle.gv_session.specs.declared.session.Session.TheInside.{Inside}

abbrev pub state_of : Inside → SessionState
state_of d = record { stage = d.stage; world = d.world; buffers = d.buffers.entries; timelines = d.timelines.names }

-- the world has all timelines, so each declared one is there
pub record HasTimelines (s : SessionState) : Type 0 where
  pub all : length s.world.numbers ≡ most_timelines
  pub declared : length s.timelines ≤ most_timelines

abbrev pub IsSoundSession : Inside → Type 0
IsSoundSession d = HasTimelines (state_of d)
