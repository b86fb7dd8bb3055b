-- What a threads script does: its first part on a new address space, the requests that it puts, and its answers on the address
-- space that comes back.
use Rattle.std.specs.Prelude.{◌≡◌, ℕ, ◌+◌, ◌<◌, ◌≤◌, List, [], ◌∷◌, ◌++◌, length, slice_index_or, None}
use Rattle.gv_types.specs.declared.request.Point.{Point}
use Rattle.gv_types.specs.declared.request.Request.{Request}
use Rattle.gv_sync.specs.Raises.{raised, values_on}
use Rattle.gv_sync.specs.Marks.{IsNoLess}
use Rattle.gv_sync.specs.Seats.{SeatState, after_load, first_seat, mark_of}
use Rattle.gv_sync.specs.SeatSteps.{HasRaised}
use Rattle.gv_vm.specs.Outcomes.{told_to}
use Rattle.gv_vm.specs.State.{VmState, IsVm, new_vm}
use Rattle.gv_vm.specs.Step.{step}
use Rattle.gv_vm.specs.World.{WorldState}
use Rattle.gv_vm.specs.declared.event.Event.TheVariants.{Create}
use Rattle.gv_vm.specs.declared.event.Reply.{Reply}
use Rattle.gv_lines.specs.Clause.{queue_asked}
use Rattle.gv_lines.specs.declared.clause.Clause.{Clause}
use Rattle.gv_lines.specs.declared.line.Line.{Line}
use Rattle.gv_lines.specs.declared.line.Line.TheVariants as line
use Rattle.gv_session.specs.Requests.{point_named, IsRequest}
use Rattle.gv_session.specs.Line.{Of, declared}
use Rattle.gv_session.specs.Question.{IsAnswer}
use Rattle.gv_text.specs.Reading.{script_limit}
use Rattle.gv_session.specs.Texts.{ok_reply, number_reply}
use Rattle.gv_session.specs.ReplyTexts.{said}
use Rattle.gv_session.specs.State.{Buffers, buffer_named, start, names_alone, timeline_named}
use Rattle.gv_queues.specs.Driving.{AreSomeOf, requests_on}
use Rattle.gv_queues.specs.SeatSplits.{after_splits}
use Rattle.gv_queues.specs.declared.finishing.QueueEnd.{QueueEnd}
use Rattle.gv_threads.specs.Ending.{end_lines}
use Rattle.gv_threads.specs.Parts.{AreLinesOf, area_of, limits_of, questions_of, requests_of, settings_of, timelines_of}
use Rattle.gv_threads.specs.ReadSoFar.{MayStandAll}
use Rattle.gv_threads.specs.declared.harness.Harness.{Harness}
use Rattle.gv_threads.specs.declared.setting.SetupLine.{SetupLine}
use Rattle.gv_threads.specs.declared.setting.SetupLine.TheVariants.{AlreadySet, Buffer, Raise}

-- what lines act on before the workers: the address space, the declared buffers, and the points raised to so far, in order
pub record Ready : Type 0 where
  pub vm : VmState
  pub buffers : Buffers
  pub raises : List Point

abbrev pub ready_of : Harness → Ready
ready_of g = record { vm = g.vm; buffers = g.buffers.entries; raises = g.seat.raises }

-- The seat is the first of its timelines: none was split off it, and each timeline is what it was raised to.
abbrev pub IsFirst : SeatState → Type 0
IsFirst seat = HasRaised seat.raises (first_seat seat.of) seat

-- on every world with the one address space a buffer is made with this reply, which leaves the other
abbrev pub Creates : VmState → ℕ → Reply → VmState → Type 0
Creates old pages reply new = (w : WorldState) → step (record w { vm = old }) (Create pages) reply (record w { vm = new })

-- A buffer is made, or is refused and its name stays undeclared.
pub record MakesBuffer (timelines : List (List ℕ)) (name : List ℕ) (pages : ℕ) (old : Ready) (text : List ℕ) (new : Ready) : Type 0 where
  pub undeclared : buffer_named old.buffers name ≡ None
  pub reply : Reply
  pub creates : Creates old.vm pages reply new.vm
  pub state : new ≡ record old { vm = new.vm; buffers = declared name reply old.buffers }
  pub text_is : text ≡ said (names_alone new.buffers) timelines reply

-- A timeline is raised to a point, and its number is written: the greatest to which it was raised so far.
pub record Raises (timelines : List (List ℕ)) (p : Point) (old : Ready) (text : List ℕ) (new : Ready) : Type 0 where
  pub state : new ≡ record old { raises = old.raises ++ p ∷ [] }
  pub text_is : text ≡ number_reply timelines p.timeline (raised (values_on p.timeline new.raises))

-- a line of the first part is carried out so, and writes this text
abbrev pub SetsUp : List (List ℕ) → SetupLine → Ready → List ℕ → Ready → Type 0
SetsUp timelines AlreadySet old text new = (text ≡ ok_reply) × (new ≡ old)
SetsUp timelines (Buffer name pages) old text new = MakesBuffer timelines name pages old text new
SetsUp timelines (Raise point) old text new = Of (point_named timelines point) (λ p. Raises timelines p old text new)

-- these lines, one after another
abbrev pub SetUpAll : List (List ℕ) → List SetupLine → Ready → List ℕ → Ready → Type 0
SetUpAll timelines [] old text new = (text ≡ []) × (new ≡ old)
SetUpAll timelines (setting ∷ settings) old text new =
    (here after : List ℕ) × (mid : Ready)
    × SetsUp timelines setting old here mid × SetUpAll timelines settings mid after new × (text ≡ here ++ after)

-- A request of these clauses, behind the queue that they ask for.
pub record IsNamed (buffers : Buffers) (timelines : List (List ℕ)) (clauses : List Clause) (entry : ℕ × Request) : Type 0 where
  pub queue : entry.0 ≡ queue_asked clauses
  pub request : IsRequest (record start { buffers = buffers; timelines = timelines }) clauses entry.1

-- one for each line, in order
abbrev pub AreNamed : Buffers → List (List ℕ) → List (List Clause) → List (ℕ × Request) → Type 0
AreNamed buffers timelines [] [] = Unit {0}
AreNamed buffers timelines (clauses ∷ more) (entry ∷ entries) = IsNamed buffers timelines clauses entry × AreNamed buffers timelines more entries
AreNamed buffers timelines [] (entry ∷ entries) = ⊥
AreNamed buffers timelines (clauses ∷ more) [] = ⊥

-- What a line of the last part is answered: the number that one look at a timeline found, no less than what the seat saw and raised
-- before; or what the address space holds. A seat is given before the line and behind it.
abbrev pub IsAnswered : Buffers → List (List ℕ) → VmState → SeatState → Line → List ℕ → SeatState → Type 0
IsAnswered buffers timelines m old (line.Value name) text new =
    Of (timeline_named timelines name) (λ t. (number : ℕ)
    × IsNoLess (mark_of old t) number × (new ≡ after_load old t number) × (text ≡ number_reply timelines t number))
IsAnswered buffers timelines m old question text new = IsAnswer question buffers timelines m text × (new ≡ old)

-- these lines, one after another
abbrev pub AreAnswered : Buffers → List (List ℕ) → VmState → SeatState → List Line → List ℕ → SeatState → Type 0
AreAnswered buffers timelines m old [] text new = (text ≡ []) × (new ≡ old)
AreAnswered buffers timelines m old (question ∷ questions) text new =
    (here after : List ℕ) × (mid : SeatState)
    × IsAnswered buffers timelines m old question here mid × AreAnswered buffers timelines m mid questions after new × (text ≡ here ++ after)

-- Of each queue, as many requests were put as are told and left, and so many outcomes does the address space tell. What was put are
-- some of the requests for this queue, in order: where they are as many, all.
pub record IsEndOn (m : VmState) (requests : List (ℕ × Request)) (queue : ℕ) (end : QueueEnd) : Type 0 where
  pub each : end.put ≡ end.told + length end.left.items
  pub told : end.told ≡ length (told_to m.told queue)
  pub put : List Request
  pub some : AreSomeOf (requests_on queue requests) put
  pub many : end.put ≡ length put

abbrev pub AreEndsOn : VmState → List (ℕ × Request) → List QueueEnd → Type 0
AreEndsOn m requests ends = (queue : ℕ) (d : QueueEnd) → queue < length ends → IsEndOn m requests queue (slice_index_or ends queue d)

-- the address space and the names before the first line
abbrev pub begun_by : List Line → Ready
begun_by lines = record { vm = new_vm (area_of lines) (limits_of lines); buffers = []; raises = [] }

-- What is written behind the first part, where these requests were to be put: a line for each of so many queues, and the answers of
-- the last part on the address space that comes back. The seat that looks is the one that raised in the first part, from which one
-- was split off for each queue: it took no other step.
pub record IsRestOfRun (ready : Ready) (timelines : List (List ℕ)) (requests : List (ℕ × Request)) (questions : List Line) (count : ℕ) (text : List ℕ) : Type 0 where
  pub back : VmState
  pub sound : IsVm back
  pub ends : List QueueEnd
  pub each : length ends ≡ count
  pub counted : AreEndsOn back requests ends
  pub seat : SeatState
  pub first_part : IsFirst seat
  pub raised_in_it : seat.raises ≡ ready.raises
  pub last : List ℕ
  pub after : SeatState
  pub answered : AreAnswered ready.buffers timelines back (after_splits seat count) questions last after
  pub text_is : text ≡ end_lines ends ++ last

-- The text of a script of these lines, run on so many queues: the replies of its first part, from which come the address space, the
-- buffers and the raises, and what is written behind them. The requests of its second part are named by these buffers.
pub record IsTextOf (lines : List Line) (begins : Ready) (count : ℕ) (text : List ℕ) : Type 0 where
  pub first : List ℕ
  pub ready : Ready
  pub sets_up : SetUpAll (timelines_of lines) (settings_of lines) begins first ready
  pub requests : List (ℕ × Request)
  pub named : AreNamed ready.buffers (timelines_of lines) (requests_of lines) requests
  pub rest : List ℕ
  pub served : IsRestOfRun ready (timelines_of lines) requests (questions_of lines) count rest
  pub text_is : text ≡ first ++ rest

-- The text is that of a run of the script on so many queues.
pub record IsThreadsRun (script : List ℕ) (count : ℕ) (text : List ℕ) : Type 0 where
  pub short : length script ≤ script_limit
  pub lines : List Line
  pub read : AreLinesOf script lines
  pub stand : MayStandAll count lines
  pub text_is : IsTextOf lines (begun_by lines) count text
