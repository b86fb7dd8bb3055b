-- How much of a line was done when it stopped with a fault.
use Rattle.std.specs.Prelude.{◌≡◌, List, ◌⊎◌}
use Rattle.gv_types.specs.declared.request.Request.{Request}
use Rattle.gv_vm.specs.Plans.{Plan, serving, IsUnderWay}
use Rattle.gv_vm.specs.declared.event.Reply.{Reply}
use Rattle.gv_lines.specs.Clause.{queue_asked}
use Rattle.gv_lines.specs.declared.clause.Clause.{Clause}
use Rattle.gv_lines.specs.declared.line.Line.{Line}
use Rattle.gv_lines.specs.declared.line.Line.TheVariants as line
use Rattle.gv_session.specs.declared.fault.LineFault.{LineFault}
use Rattle.gv_session.specs.declared.fault.LineFault.TheVariants.{Bad, OutOfMemory}
use Rattle.gv_session.specs.Requests.{IsRequest}
use Rattle.gv_session.specs.Line.{Written, Runs}
use Rattle.gv_session.specs.State.{SessionState, begun}

-- A plan was stopped on its way. The names are as they were.
pub record IsAmid (plan : Plan) (s t : SessionState) : Type 0 where
  pub replies : List Reply
  pub under_way : IsUnderWay plan s.world replies t.world
  pub state : t ≡ record (begun s) { world = t.world }

-- a request of these clauses was stopped on its way
abbrev pub ServesPart : List Clause → SessionState → SessionState → Type 0
ServesPart clauses s t = (request : Request) × IsRequest s clauses request × IsAmid (serving (queue_asked clauses) request) s t

-- the request of a line, if it has one, was stopped on its way
abbrev pub StopsAmid : Line → SessionState → SessionState → Type 0
StopsAmid (line.Bind clauses) s t = ServesPart clauses s t
StopsAmid other s t = ⊥

-- nothing changed, or only that settings are over; or all was done, and the reply alone is lost
abbrev pub Loses : (SessionState → Written → SessionState → Type 0) → SessionState → SessionState → Type 0
Loses Run s t = (t ≡ s) ⊎ (t ≡ begun s) ⊎ ((lost : Written) × Run s lost t)

-- After a bad line all is as it was. After want of memory its request may be stopped on its way.
abbrev pub Leaves : Line → SessionState → SessionState → LineFault → Type 0
Leaves line s t Bad = t ≡ s
Leaves line s t OutOfMemory = Loses (Runs line) s t ⊎ StopsAmid line s t
