-- Names that the requests and the last part of a threads script want, and the first line that wants one which isn't declared.
use Rattle.std.specs.Prelude.{◌≡◌, ◌⊎◌, ℕ, ◌<◌, List, ◌∷◌, ◌++◌, IsSome}
use Rattle.std.specs.List.{All}
use Rattle.gv_lines.specs.Clause.{queue_asked}
use Rattle.gv_lines.specs.declared.clause.Clause.{Clause}
use Rattle.gv_lines.specs.declared.line.Line.{Line}
use Rattle.gv_lines.specs.declared.line.Line.TheVariants as line
use Rattle.gv_vm.specs.Outcomes.{queues}
use Rattle.gv_session.specs.Requests.{op_named}
use Rattle.gv_session.specs.Line.{AreDeclared}
use Rattle.gv_session.specs.State.{Buffers, buffer_named, timeline_named}
use Rattle.gv_threads.specs.Parts.{unnumbered}
use Rattle.gv_threads.specs.Script.{ThreadsScriptState}

-- the queue of some clauses is one of so many, and their names are declared
abbrev pub MayBePut : ℕ → Buffers → List (List ℕ) → List Clause → Type 0
MayBePut queues buffers timelines clauses = (queue_asked clauses < queues) × AreDeclared buffers timelines clauses

-- the buffer that a question names is declared
abbrev pub HasBuffer : Buffers → Line → Type 0
HasBuffer buffers (line.Uses name) = IsSome (buffer_named buffers name)
HasBuffer buffers other = Unit {0}

-- what a question names is there
abbrev pub HasNames : Buffers → List (List ℕ) → Line → Type 0
HasNames buffers timelines (line.Value name) = IsSome (timeline_named timelines name)
HasNames buffers timelines (line.Plan operation) = IsSome (op_named buffers operation)
HasNames buffers timelines (line.Told queue) = queue < queues
HasNames buffers timelines question = HasBuffer buffers question

-- this holds of each entry before that of this number, and not of that one
pub record IsFirstBad {X : Type 0} (holds : X → Type 0) (entries : List (ℕ × X)) (number : ℕ) : Type 0 where
  pub before : List (ℕ × X)
  pub entry : X
  pub after : List (ℕ × X)
  pub split : entries ≡ before ++ (number, entry) ∷ after
  pub good : All holds (unnumbered before)
  pub bad : ¬ holds entry

-- the line of this number is the first of the requests, and then of the last part, that names a buffer which isn't declared
abbrev pub NamesUndeclared : Buffers → ThreadsScriptState → ℕ → Type 0
NamesUndeclared buffers s number =
    IsFirstBad (MayBePut s.queues buffers s.timelines) s.requests number
    ⊎ (All (MayBePut s.queues buffers s.timelines) (unnumbered s.requests) × IsFirstBad (HasBuffer buffers) s.questions number)
