-- Where the lines of a threads script may stand, and which is the first that may not. Buffers' names are looked at later.
use Rattle.std.specs.Prelude.{◌≡◌, ◌≢◌, ◌⊎◌, ℕ, ◌+◌, ◌<◌, List, [], ◌∷◌, ◌++◌, length, map, IsSome, IsSomeAnd, Some}
use Rattle.std.specs.List.{flat_map}
use Rattle.gv_types.specs.Bounds.{byte_area}
use Rattle.gv_types.specs.Limits.{IsWithin}
use Rattle.gv_lines.specs.Clause.{queue_asked}
use Rattle.gv_lines.specs.Grammar.{parsed}
use Rattle.gv_lines.specs.Words.{parts}
use Rattle.gv_lines.specs.declared.clause.Clause.{Clause}
use Rattle.gv_lines.specs.declared.clause.Clause.TheVariants.{Change, Wait, Signal, Queue}
use Rattle.gv_lines.specs.declared.line.Line.{Line}
use Rattle.gv_lines.specs.declared.line.Line.TheVariants as line
use Rattle.gv_session.specs.Requests.{point_named}
use Rattle.gv_session.specs.Line.{MayDeclare, MaySetLimits, line_limits}
use Rattle.gv_session.specs.State.{timeline_named}
use Rattle.gv_session.specs.declared.stage.Stage.{Stage}
use Rattle.gv_session.specs.declared.stage.Stage.TheVariants.{Fresh, Bounded, Begun}
use Rattle.gv_threads.specs.Parts.{AreLinesOf, last_of, timelines_of}
use Rattle.gv_threads.specs.Script.{ThreadsScriptState}
use Rattle.gv_threads.specs.declared.script.Part.{Part}
use Rattle.gv_threads.specs.declared.script.Part.TheVariants.{Settings, Requests, Questions}

-- the part that a line is of
abbrev pub parts_in : Line → List Part
parts_in (line.Space start len reserved_start reserved_len) = Settings ∷ []
parts_in (line.Limits buffers mappings items) = Settings ∷ []
parts_in (line.Timeline name) = Settings ∷ []
parts_in (line.Buffer name pages) = Settings ∷ []
parts_in (line.Raise point) = Settings ∷ []
parts_in (line.Bind clauses) = Requests ∷ []
parts_in (line.Uses name) = Questions ∷ []
parts_in line.Map = Questions ∷ []
parts_in (line.At addr) = Questions ∷ []
parts_in line.Tables = Questions ∷ []
parts_in line.Journal = Questions ∷ []
parts_in (line.Value name) = Questions ∷ []
parts_in (line.Told queue) = Questions ∷ []
parts_in other = []

-- how far a line brings the settings
abbrev pub stages_in : Line → List Stage
stages_in (line.Space start len reserved_start reserved_len) = Bounded ∷ []
stages_in (line.Limits buffers mappings items) = Begun ∷ []
stages_in (line.Timeline name) = Begun ∷ []
stages_in (line.Buffer name pages) = Begun ∷ []
stages_in (line.Raise point) = Begun ∷ []
stages_in other = []

-- what the lines before come to: their last part, which settings may still come, and the declared timelines
pub record ReadSoFar : Type 0 where
  pub part : Part
  pub stage : Stage
  pub timelines : List (List ℕ)

abbrev pub read_after : List Line → ReadSoFar
read_after lines = record {
  part = last_of Settings (flat_map parts_in lines);
  stage = last_of Fresh (flat_map stages_in lines);
  timelines = timelines_of lines;
}

abbrev pub read_so_far : ThreadsScriptState → ReadSoFar
read_so_far s = record { part = s.part; stage = s.stage; timelines = s.timelines }

-- the parts come in their order
abbrev pub MayFollow : Part → Part → Type 0
MayFollow Settings part = Unit {0}
MayFollow Requests Settings = ⊥
MayFollow Requests part = Unit {0}
MayFollow Questions Questions = Unit {0}
MayFollow Questions part = ⊥

-- each timeline in some clauses is declared
abbrev pub AreTimed : List (List ℕ) → List Clause → Type 0
AreTimed timelines [] = Unit {0}
AreTimed timelines (Wait point ∷ more) = IsSome (point_named timelines point) × AreTimed timelines more
AreTimed timelines (Signal point ∷ more) = IsSome (point_named timelines point) × AreTimed timelines more
AreTimed timelines (Change operation ∷ more) = AreTimed timelines more
AreTimed timelines (Queue queue ∷ more) = AreTimed timelines more

-- a line is of the first part, and what it sets, declares or raises may be
abbrev pub MaySet : ReadSoFar → Line → Type 0
MaySet p (line.Space start len reserved_start reserved_len) = (p.stage ≡ Fresh) × IsSome (byte_area start len reserved_start reserved_len)
MaySet p (line.Limits buffers mappings items) = MaySetLimits p.stage × IsWithin (line_limits buffers mappings items)
MaySet p (line.Timeline name) = MayDeclare p.timelines name
MaySet p (line.Buffer name pages) = Unit {0}
MaySet p (line.Raise point) = IsSome (point_named p.timelines point)
MaySet p other = ⊥

-- a request is for one of so many queues, and its timelines are declared
abbrev pub MayAsk : ℕ → ReadSoFar → List Clause → Type 0
MayAsk queues p clauses = (queue_asked clauses < queues) × AreTimed p.timelines clauses

-- A line may stand here, in a script for so many queues: it is of a part that may follow, of one of these queues, and its timelines
-- are declared.
abbrev pub MayStand : ℕ → ReadSoFar → Line → Type 0
MayStand queues p line.Silent = Unit {0}
MayStand queues p (line.Bind clauses) = MayFollow p.part Requests × MayAsk queues p clauses
MayStand queues p (line.Uses name) = MayFollow p.part Questions
MayStand queues p line.Map = MayFollow p.part Questions
MayStand queues p (line.At addr) = MayFollow p.part Questions
MayStand queues p line.Tables = MayFollow p.part Questions
MayStand queues p line.Journal = MayFollow p.part Questions
MayStand queues p (line.Value name) = MayFollow p.part Questions × IsSome (timeline_named p.timelines name)
MayStand queues p (line.Told queue) = MayFollow p.part Questions × (queue < queues)
MayStand queues p setting = MayFollow p.part Settings × MaySet p setting

-- a text is of the language, and may stand here
abbrev pub MayStandText : ℕ → ReadSoFar → List ℕ → Type 0
MayStandText queues p text = IsSomeAnd (parsed text) (λ line. MayStand queues p line)

-- each of these lines may stand behind those before it
abbrev pub MayStandBehind : ℕ → List Line → List Line → Type 0
MayStandBehind queues before [] = Unit {0}
MayStandBehind queues before (line ∷ lines) = MayStand queues (read_after before) line × MayStandBehind queues (before ++ line ∷ []) lines

abbrev pub MayStandAll : ℕ → List Line → Type 0
MayStandAll queues lines = MayStandBehind queues [] lines

-- The line of this number, counted from 1, is the first bad one: those before it have their line ends, are of the language, and may
-- stand where they do. It is not, or may not; or it is something behind the last line end.
pub record StopsReading (script : List ℕ) (queues number : ℕ) : Type 0 where
  pub lines : List Line
  pub texts : List (List ℕ)
  pub text : List ℕ
  pub more : List (List ℕ)
  pub cut : parts 10 script ≡ texts ++ text ∷ more
  pub read : map parsed texts ≡ map Some lines
  pub stand : MayStandAll queues lines
  pub bad : (¬ MayStandText queues (read_after lines) text) ⊎ ((more ≡ []) × (text ≢ []))
  pub counted : number ≡ length texts + 1

-- each line of a script may stand where it does
pub record MayStandWhole (script : List ℕ) (queues : ℕ) : Type 0 where
  pub lines : List Line
  pub read : AreLinesOf script lines
  pub stand : MayStandAll queues lines

-- the line of this number is the first that may not stand where it does, unless each may
abbrev pub IsBadLine : List ℕ → ℕ → ℕ → Type 0
IsBadLine script queues number = StopsReading script queues number ⊎ MayStandWhole script queues
