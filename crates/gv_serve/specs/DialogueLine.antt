-- The lines that a dialogue has beside those of a script, and what they write.
use Rattle.std.specs.Prelude.{◌≡◌, ℕ, List, [], ◌∷◌, false, codes, decimal, IsSomeAnd, ◌⊎◌}
use Rattle.std.specs.List.{flat_map}
use Rattle.gv_types.specs.declared.request.Request.{Request}
use Rattle.gv_vm.specs.Plans.{once}
use Rattle.gv_vm.specs.QueueTurns.{TookTurn, StoppedInTurn, IsQuiet}
use Rattle.gv_vm.specs.declared.event.Event.TheVariants.{Put as PutEvent, GiveUp as GiveUpEvent, Forget as ForgetEvent, Trim as TrimEvent}
use Rattle.gv_vm.specs.declared.event.Reply.{Reply}
use Rattle.gv_vm.specs.declared.event.Reply.TheVariants.{Put as IsPut, NotPut, Told as IsTold, Idle as IsIdle}
use Rattle.gv_vm.specs.declared.world.turn.TurnResult.{TurnResult as TurnOf}
use Rattle.gv_vm.specs.declared.world.turn.TurnResult.TheVariants.{Told, Waits, Idle}
use Rattle.gv_lines.specs.Clause.{queue_asked}
use Rattle.gv_lines.specs.ServeLine.{serve_parsed}
use Rattle.gv_lines.specs.declared.clause.Clause.{Clause}
use Rattle.gv_lines.specs.declared.line.Line.{Line}
use Rattle.gv_lines.specs.declared.line.Line.TheVariants as line
use Rattle.gv_lines.specs.declared.serve_line.ServeLine.{ServeLine}
use Rattle.gv_lines.specs.declared.serve_line.ServeLine.TheVariants.{Run, Put, Turn, GiveUp, Forget, Trim, Show, Past}
use Rattle.gv_session.specs.Requests.{IsRequest}
use Rattle.gv_session.specs.Line.{Written, plain, Answers, Does, DoesOnce, Runs, IsGood, AreDeclared}
use Rattle.gv_session.specs.Texts.{reply, refused_reply, counted_reply, outcome_text, timeline_text}
use Rattle.gv_session.specs.State.{SessionState, begun}
use Rattle.gv_session.specs.Stopping.{Loses, StopsAmid}

abbrev pub idle_reply : List ℕ
idle_reply = reply (codes "idle" ∷ [])

-- what is written of a request that was to be put
abbrev pub put_said : Reply → List ℕ
put_said (IsPut number) = counted_reply (codes "put ") number
put_said (NotPut fault back) = refused_reply fault
put_said other = []

-- what is written of a request that was to be given up
abbrev pub give_up_said : List (List ℕ) → Reply → List ℕ
give_up_said timelines (IsTold number outcome) = reply (outcome_text timelines outcome ∷ [])
give_up_said timelines IsIdle = idle_reply
give_up_said timelines other = []

-- what is written of a turn
abbrev pub turn_said : List (List ℕ) → TurnOf → List ℕ
turn_said timelines (Told number outcome) = reply (outcome_text timelines outcome ∷ [])
turn_said timelines (Waits point have) = reply (
    codes "waits " ∷ timeline_text timelines point.timeline ∷ codes " " ∷ decimal point.value
    ∷ codes " have " ∷ decimal have ∷ [])
turn_said timelines Idle = idle_reply

-- A request of the line's clauses is put on its queue, and not carried out.
pub record Puts (clauses : List Clause) (s : SessionState) (w : Written) (t : SessionState) : Type 0 where
  pub request : Request
  pub asked : IsRequest s clauses request
  pub does : Does (once (PutEvent (queue_asked clauses) request)) (flat_map put_said) s w t

-- A queue takes a turn, in which its request stays in hand where a wait lacks.
pub record Turns (queue : ℕ) (s : SessionState) (w : Written) (t : SessionState) : Type 0 where
  pub turn : TurnOf
  pub took : TookTurn false queue s.world turn t.world
  pub written : w ≡ plain (turn_said s.timelines turn)
  pub state : t ≡ record (begun s) { world = t.world }

-- The request in hand is given up, if its last look lacked.
abbrev pub GivesUp : ℕ → SessionState → Written → SessionState → Type 0
GivesUp queue s = Does (once (GiveUpEvent queue)) (flat_map (give_up_said s.timelines)) s

-- A question is answered, and nothing changes. What it writes is not said here.
abbrev pub Asks : SessionState → Written → SessionState → Type 0
Asks s w t = (text : List ℕ) × Answers text s w t

-- a line of a dialogue may be carried out so
abbrev pub Serves : ServeLine → SessionState → Written → SessionState → Type 0
Serves (Run line) s w t = Runs line s w t
Serves (Put clauses) s w t = Puts clauses s w t
Serves (Turn queue) s w t = Turns queue s w t
Serves (GiveUp queue) s w t = GivesUp queue s w t
Serves (Forget queue to) s w t = DoesOnce (ForgetEvent queue to) s w t
Serves Trim s w t = DoesOnce TrimEvent s w t
Serves (Show entry) s w t = Asks s w t
Serves (Past addr) s w t = Asks s w t

-- a line as it stands in a dialogue may be carried out so
abbrev pub ServesText : List ℕ → SessionState → Written → SessionState → Type 0
ServesText text s w t = IsSomeAnd (serve_parsed text) (λ said. Serves said s w t)

-- no other request stands on the queue of a request that is carried out at once
abbrev pub IsAlone : Line → SessionState → Type 0
IsAlone (line.Bind clauses) s = IsQuiet s.world (queue_asked clauses)
IsAlone other s = Unit {0}

-- a line of a dialogue is not bad
abbrev pub IsGoodServe : ServeLine → SessionState → Type 0
IsGoodServe (Run line) s = IsAlone line s × IsGood line s
IsGoodServe (Put clauses) s = AreDeclared s.buffers s.timelines clauses
IsGoodServe (Turn queue) s = Unit {0}
IsGoodServe (GiveUp queue) s = Unit {0}
IsGoodServe (Forget queue to) s = Unit {0}
IsGoodServe Trim s = Unit {0}
IsGoodServe (Show entry) s = Unit {0}
IsGoodServe (Past addr) s = Unit {0}

-- it is of a dialogue, and not bad
abbrev pub IsGoodText : List ℕ → SessionState → Type 0
IsGoodText text s = IsSomeAnd (serve_parsed text) (λ said. IsGoodServe said s)

-- a turn was stopped on its way
abbrev pub StopsTurn : ℕ → SessionState → SessionState → Type 0
StopsTurn queue s t = StoppedInTurn false queue s.world t.world × (t ≡ record (begun s) { world = t.world })

-- a line that is served in several events was stopped on its way
abbrev pub StopsServing : ServeLine → SessionState → SessionState → Type 0
StopsServing (Run line) s t = StopsAmid line s t
StopsServing (Turn queue) s t = StopsTurn queue s t
StopsServing other s t = ⊥

-- what want of memory leaves of a line
abbrev pub LeavesServe : ServeLine → SessionState → SessionState → Type 0
LeavesServe line s t = Loses (Serves line) s t ⊎ StopsServing line s t

abbrev pub LeavesText : List ℕ → SessionState → SessionState → Type 0
LeavesText text s t = IsSomeAnd (serve_parsed text) (λ said. LeavesServe said s t)
