-- What the lines of a threads script are to its parts, and what reading them keeps.
use Rattle.std.specs.Prelude.{◌≡◌, ℕ, List, [], ◌∷◌, ◌++◌, map, Option, Some, None}
use Rattle.std.specs.List.{flat_map}
use Rattle.gv_types.specs.Bounds.{BoundsState, byte_area, whole_area}
use Rattle.gv_types.specs.Limits.{LimitsState, greatest}
use Rattle.gv_lines.specs.Grammar.{parsed}
use Rattle.gv_lines.specs.Words.{parts}
use Rattle.gv_lines.specs.declared.clause.Clause.{Clause}
use Rattle.gv_lines.specs.declared.line.Line.{Line}
use Rattle.gv_lines.specs.declared.line.Line.TheVariants as line
use Rattle.gv_session.specs.Line.{line_limits}
use Rattle.gv_session.specs.Question.{IsQuestion}
use Rattle.gv_threads.specs.Script.{ThreadsScriptState}
use Rattle.gv_threads.specs.declared.setting.SetupLine.{SetupLine}
use Rattle.gv_threads.specs.declared.setting.SetupLine.TheVariants.{AlreadySet, Buffer, Raise}

-- what a line of the first part does; nothing for any other line
abbrev pub settings_in : Line → List SetupLine
settings_in (line.Space start len reserved_start reserved_len) = AlreadySet ∷ []
settings_in (line.Limits buffers mappings items) = AlreadySet ∷ []
settings_in (line.Timeline name) = AlreadySet ∷ []
settings_in (line.Buffer name pages) = Buffer name pages ∷ []
settings_in (line.Raise point) = Raise point ∷ []
settings_in other = []

-- the timeline that a line declares
abbrev pub timelines_in : Line → List (List ℕ)
timelines_in (line.Timeline name) = name ∷ []
timelines_in other = []

-- the area that a line sets
abbrev pub areas_of : Option BoundsState → List BoundsState
areas_of None = []
areas_of (Some area) = area ∷ []

abbrev pub areas_in : Line → List BoundsState
areas_in (line.Space start len reserved_start reserved_len) = areas_of (byte_area start len reserved_start reserved_len)
areas_in other = []

-- the limits that a line sets
abbrev pub limits_in : Line → List LimitsState
limits_in (line.Limits buffers mappings items) = line_limits buffers mappings items ∷ []
limits_in other = []

-- the clauses of a line of the second part
abbrev pub requests_in : Line → List (List Clause)
requests_in (line.Bind clauses) = clauses ∷ []
requests_in other = []

-- a line of the third part
abbrev pub questions_in : Line → List Line
questions_in (line.Uses name) = line.Uses name ∷ []
questions_in line.Map = line.Map ∷ []
questions_in (line.At addr) = line.At addr ∷ []
questions_in line.Tables = line.Tables ∷ []
questions_in line.Journal = line.Journal ∷ []
questions_in (line.Value name) = line.Value name ∷ []
questions_in (line.Told queue) = line.Told queue ∷ []
questions_in other = []

-- a line of the third part asks for the number of a timeline, or of the address space
abbrev pub IsAsked : Line → Type 0
IsAsked (line.Value name) = Unit {0}
IsAsked question = IsQuestion question

-- what stands last, or else what stood before
abbrev pub last_of : {X : Type 0} → X → List X → X
last_of before [] = before
last_of before (x ∷ xs) = last_of x xs

-- what the lines of a script set, declare, do and ask for
abbrev pub area_of : List Line → BoundsState
area_of lines = last_of whole_area (flat_map areas_in lines)

abbrev pub limits_of : List Line → LimitsState
limits_of lines = last_of greatest (flat_map limits_in lines)

abbrev pub timelines_of : List Line → List (List ℕ)
timelines_of lines = flat_map timelines_in lines

abbrev pub settings_of : List Line → List SetupLine
settings_of lines = flat_map settings_in lines

abbrev pub requests_of : List Line → List (List Clause)
requests_of lines = flat_map requests_in lines

abbrev pub questions_of : List Line → List Line
questions_of lines = flat_map questions_in lines

-- these, without their numbers
abbrev pub unnumbered : {X : Type 0} → List (ℕ × X) → List X
unnumbered entries = map (λ entry. entry.1) entries

-- A script keeps what these lines are to its parts.
pub record Keeps (lines : List Line) (s : ThreadsScriptState) : Type 0 where
  pub bounds : s.bounds ≡ area_of lines
  pub limits : s.limits ≡ limits_of lines
  pub timelines : s.timelines ≡ timelines_of lines
  pub settings : unnumbered s.settings ≡ settings_of lines
  pub requests : unnumbered s.requests ≡ requests_of lines
  pub questions : unnumbered s.questions ≡ questions_of lines

-- The script is these lines, each with its line end and each of the language.
pub record AreLinesOf (script : List ℕ) (lines : List Line) : Type 0 where
  pub texts : List (List ℕ)
  pub cut : parts 10 script ≡ texts ++ [] ∷ []
  pub read : map parsed texts ≡ map Some lines
