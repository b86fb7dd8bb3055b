-- What a line of a script does: what it asks of the world, what is written, and the state after it.
use Rattle.std.specs.Prelude.{◌≡◌, ℕ, ◌<◌, Bool, false, List, [], ◌∷◌, ◌++◌, length, map, Option, Some, None, IsSome, IsSomeAnd, Vec, slice_index, ◌⊎◌}
use Rattle.std.specs.List.{list_any, flat_map}
use Rattle.std.specs.declared.alloc.Global.{Global}
use Rattle.gv_types.specs.Bounds.{BoundsState, byte_area}
use Rattle.gv_types.specs.Limits.{LimitsState, caps, greatest, IsWithin}
use Rattle.gv_types.specs.declared.request.Request.{Request}
use Rattle.gv_sync.specs.Seats.{most_timelines}
use Rattle.gv_table.specs.Table.{tables_of}
use Rattle.gv_vm.specs.Outcomes.{queues}
use Rattle.gv_vm.specs.Places.{place_at}
use Rattle.gv_vm.specs.declared.event.Event.{Event}
use Rattle.gv_vm.specs.declared.event.Event.TheVariants.{Raise, Create, Destroy, Rewind, Withdraw, Settle, JobBegin, JobEnd}
use Rattle.gv_vm.specs.declared.event.Reply.{Reply}
use Rattle.gv_vm.specs.declared.event.Reply.TheVariants.{Created}
use Rattle.gv_vm.specs.Jobs.{many_fault}
use Rattle.gv_vm.specs.declared.jobs.Access.{Access}
use Rattle.gv_types.specs.declared.fault.Fault.TheVariants.{TooManyAccesses}
use Rattle.gv_lines.specs.OptionSteps.{all_read}
use Rattle.gv_lines.specs.Clause.{queue_asked, operations_of, waits_of, signals_of}
use Rattle.gv_lines.specs.Grammar.{parsed}
use Rattle.gv_lines.specs.declared.clause.Clause.{Clause}
use Rattle.gv_lines.specs.declared.line.Line.{Line}
use Rattle.gv_lines.specs.declared.line.Line.TheVariants as line
use Rattle.gv_session.specs.declared.stage.Stage.{Stage}
use Rattle.gv_session.specs.declared.stage.Stage.TheVariants.{Fresh, Bounded, Begun}
use Rattle.gv_session.specs.State.{SessionState, Buffers, names_alone, buffer_named, timeline_named, empty_world, begun}
use Rattle.gv_session.specs.Requests.{op_named, point_named, access_named, IsRequest}
use Rattle.gv_vm.specs.Plans.{Plan, once, serving, IsCarriedOut}
use Rattle.gv_session.specs.Texts.{ok_reply, refused_reply, lines_reply, mapping_text, place_reply, tables_reply, number_reply, journal_reply}
use Rattle.gv_session.specs.ReplyTexts.{said, said_of_withdrawal, told, reply_out_of_memory, told_said, uses_said, plan_said}

-- What a line wrote, and whether memory was refused to its request.
pub record Written : Type 0 where
  pub text : List ℕ
  pub out_of_memory : Bool

abbrev pub plain : List ℕ → Written
plain text = record { text = text; out_of_memory = false }

-- A line carries out a plan: it writes what the replies say, and the world is as the plan leaves it. No name changes.
pub record Does (plan : Plan) (say : List Reply → List ℕ) (s : SessionState) (w : Written) (t : SessionState) : Type 0 where
  pub replies : List Reply
  pub carried_out : IsCarriedOut plan s.world replies t.world
  pub written : w ≡ record { text = say replies; out_of_memory = list_any reply_out_of_memory replies }
  pub state : t ≡ record (begun s) { world = t.world }

-- a line asks for one event, and writes what is said
abbrev pub DoesOnce : Event → SessionState → Written → SessionState → Type 0
DoesOnce event s = Does (once event) (flat_map (said (names_alone s.buffers) s.timelines)) s

-- an entry is withdrawn, or that is refused
abbrev pub Withdraws : ℕ → SessionState → Written → SessionState → Type 0
Withdraws entry = Does (once (Withdraw entry)) (flat_map (said_of_withdrawal entry))

-- a question is answered, and nothing changes
abbrev pub Answers : List ℕ → SessionState → Written → SessionState → Type 0
Answers text s w t = (w ≡ plain text) × (t ≡ begun s)

-- what follows holds of something, and it is there
abbrev pub Of : {X : Type 0} → Option X → (X → Type 0) → Type 0
Of None P = ⊥
Of (Some x) P = P x

-- limits are set before any line but the one that sets bounds
abbrev pub MaySetLimits : Stage → Type 0
MaySetLimits Fresh = Unit {0}
MaySetLimits Bounded = Unit {0}
MaySetLimits Begun = ⊥

-- bounds are valid, and are set before any other line
abbrev pub SetsBounds : Option BoundsState → SessionState → Written → SessionState → Type 0
SetsBounds asked s w t =
    (s.stage ≡ Fresh) × Of asked
    (λ area. (w ≡ plain ok_reply) × (t ≡ record s { stage = Bounded; world = empty_world area s.world.vm.space.limits }))

abbrev pub MaySetBounds : Option BoundsState → SessionState → Type 0
MaySetBounds asked s = (s.stage ≡ Fresh) × IsSome asked

-- a buffer that was made is declared
abbrev pub declared : List ℕ → Reply → Buffers → Buffers
declared name (Created id) buffers = buffers ++ (name, id) ∷ []
declared name reply buffers = buffers

-- A buffer is made, or is refused and its name stays undeclared.
pub record Makes (name : List ℕ) (pages : ℕ) (s : SessionState) (w : Written) (t : SessionState) : Type 0 where
  pub undeclared : buffer_named s.buffers name ≡ None
  pub reply : Reply
  pub carried_out : IsCarriedOut (once (Create pages)) s.world (reply ∷ []) t.world
  pub written : w ≡ plain (said (names_alone t.buffers) t.timelines reply)
  pub state : t ≡ record (begun s) { world = t.world; buffers = declared name reply s.buffers }

-- A job begins with the accesses of its line, or is refused.
pub record BeginsJob (accesses : List Access) (s : SessionState) (w : Written) (t : SessionState) : Type 0 where
  pub list : Vec Access Global
  pub list_is : list.items ≡ accesses
  pub does : DoesOnce (JobBegin list) s w t

-- it is refused for the number of its accesses alone, whatever memory there is for them
abbrev pub HasTooMany : List Access → SessionState → Written → SessionState → Type 0
HasTooMany accesses s w t =
    (many_fault s.world.vm.jobs (length accesses) ≡ Some TooManyAccesses) × Answers (refused_reply TooManyAccesses) s w t

-- A request of the line's clauses is put on its queue and served.
pub record BindsRequest (clauses : List Clause) (s : SessionState) (w : Written) (t : SessionState) : Type 0 where
  pub request : Request
  pub asked : IsRequest s clauses request
  pub does : Does (serving (queue_asked clauses) request) (flat_map (told s.timelines)) s w t

-- the limits that a `limits` line sets; a queue's outcomes keep their greatest limit
abbrev pub line_limits : ℕ → ℕ → ℕ → LimitsState
line_limits buffers mappings items = caps buffers mappings items greatest.told

-- the name is no timeline's, and there may be one more timeline
abbrev pub MayDeclare : List (List ℕ) → List ℕ → Type 0
MayDeclare names name = (timeline_named names name ≡ None) × (length names < most_timelines)

-- a line may be carried out so
abbrev pub Runs : Line → SessionState → Written → SessionState → Type 0
Runs line.Silent s w t = (w ≡ plain []) × (t ≡ s)
Runs (line.Space start len reserved_start reserved_len) s w t = SetsBounds (byte_area start len reserved_start reserved_len) s w t
Runs (line.Limits buffers mappings items) s w t =
    MaySetLimits s.stage × IsWithin (line_limits buffers mappings items) × (w ≡ plain ok_reply)
    × (t ≡ record (begun s) { world = empty_world s.world.vm.space.area (line_limits buffers mappings items) })
Runs (line.Buffer name pages) s w t = Makes name pages s w t
Runs (line.Destroy name) s w t = Of (buffer_named s.buffers name) (λ id. DoesOnce (Destroy id) s w t)
Runs (line.Uses name) s w t = Of (buffer_named s.buffers name) (λ id. Answers (uses_said s.world.vm.space.buffers id) s w t)
Runs (line.Timeline name) s w t =
    (timeline_named s.timelines name ≡ None) × (length s.timelines < most_timelines) × (w ≡ plain ok_reply)
    × (t ≡ record (begun s) { timelines = s.timelines ++ name ∷ [] })
Runs (line.Raise point) s w t = Of (point_named s.timelines point) (λ p. DoesOnce (Raise p) s w t)
Runs (line.Value name) s w t =
    Of (timeline_named s.timelines name) (λ index. Answers (number_reply s.timelines index (slice_index s.world.numbers index)) s w t)
Runs (line.Bind clauses) s w t = BindsRequest clauses s w t
Runs (line.Plan operation) s w t =
    Of (op_named s.buffers operation) (λ op. Answers (plan_said (names_alone s.buffers) s.world.vm.space op) s w t)
Runs line.Map s w t = Answers (lines_reply (mapping_text (names_alone s.buffers)) s.world.vm.space.mappings) s w t
Runs (line.At addr) s w t = Answers (place_reply (names_alone s.buffers) (place_at s.world.vm.space.mappings addr)) s w t
Runs line.Tables s w t = Answers (tables_reply (tables_of s.world.vm.space.mappings)) s w t
Runs line.Rewind s w t = DoesOnce Rewind s w t
Runs line.Journal s w t = Answers (journal_reply s.world.vm.journal) s w t
Runs (line.Withdraw entry) s w t = Withdraws entry s w t
Runs (line.Settle to) s w t = DoesOnce (Settle to) s w t
Runs (line.Told queue) s w t = (queue < queues) × Answers (told_said s.timelines s.world.vm queue) s w t
Runs (line.Job accesses) s w t = BeginsJob (map access_named accesses) s w t ⊎ HasTooMany (map access_named accesses) s w t
Runs (line.End job) s w t = DoesOnce (JobEnd job) s w t

-- every name in the clauses of a request is declared
pub record AreDeclared (buffers : Buffers) (timelines : List (List ℕ)) (clauses : List Clause) : Type 0 where
  pub ops : IsSome (all_read (op_named buffers) (operations_of clauses))
  pub waits : IsSome (all_read (point_named timelines) (waits_of clauses))
  pub signals : IsSome (all_read (point_named timelines) (signals_of clauses))

-- A line is not bad: it may come at this point, the names that it uses are declared, and the one that it declares is new. It
-- does not depend on memory.
abbrev pub IsGood : Line → SessionState → Type 0
IsGood line.Silent s = Unit {0}
IsGood (line.Space start len reserved_start reserved_len) s = MaySetBounds (byte_area start len reserved_start reserved_len) s
IsGood (line.Limits buffers mappings items) s = MaySetLimits s.stage × IsWithin (line_limits buffers mappings items)
IsGood (line.Buffer name pages) s = buffer_named s.buffers name ≡ None
IsGood (line.Destroy name) s = IsSome (buffer_named s.buffers name)
IsGood (line.Uses name) s = IsSome (buffer_named s.buffers name)
IsGood (line.Timeline name) s = MayDeclare s.timelines name
IsGood (line.Raise point) s = IsSome (point_named s.timelines point)
IsGood (line.Value name) s = IsSome (timeline_named s.timelines name)
IsGood (line.Bind clauses) s = AreDeclared s.buffers s.timelines clauses
IsGood (line.Plan operation) s = IsSome (op_named s.buffers operation)
IsGood line.Map s = Unit {0}
IsGood (line.At addr) s = Unit {0}
IsGood line.Tables s = Unit {0}
IsGood line.Rewind s = Unit {0}
IsGood line.Journal s = Unit {0}
IsGood (line.Withdraw entry) s = Unit {0}
IsGood (line.Settle to) s = Unit {0}
IsGood (line.Told queue) s = queue < queues
IsGood (line.Job accesses) s = Unit {0}
IsGood (line.End job) s = Unit {0}

-- the text of a line parses, and the line may be carried out so
abbrev pub RunsText : List ℕ → SessionState → Written → SessionState → Type 0
RunsText text s w t = IsSomeAnd (parsed text) (λ line. Runs line s w t)

-- the text of a line parses, and the line is not bad
abbrev pub IsGoodText : List ℕ → SessionState → Type 0
IsGoodText text s = IsSomeAnd (parsed text) (λ line. IsGood line s)
