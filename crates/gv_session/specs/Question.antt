-- The answer to a question depends on the names and the address space alone.
use Rattle.std.specs.Prelude.{ℕ, List}
use Rattle.gv_vm.specs.State.{VmState}
use Rattle.gv_lines.specs.declared.line.Line.{Line}
use Rattle.gv_lines.specs.declared.line.Line.TheVariants as line
use Rattle.gv_session.specs.State.{SessionState, Buffers, begun}
use Rattle.gv_session.specs.Line.{plain, Runs}

-- a line asks of the address space, and changes nothing
abbrev pub IsQuestion : Line → Type 0
IsQuestion (line.Uses name) = Unit {0}
IsQuestion (line.Plan operation) = Unit {0}
IsQuestion line.Map = Unit {0}
IsQuestion (line.At addr) = Unit {0}
IsQuestion line.Tables = Unit {0}
IsQuestion line.Journal = Unit {0}
IsQuestion (line.Told queue) = Unit {0}
IsQuestion other = ⊥

-- a state, but for its names and its address space
abbrev pub with_vm : Buffers → List (List ℕ) → VmState → SessionState → SessionState
with_vm buffers timelines m s = record s { world = record s.world { vm = m }; buffers = buffers; timelines = timelines }

-- on every state with these names and this address space the line writes this text
abbrev pub IsAnswer : Line → Buffers → List (List ℕ) → VmState → List ℕ → Type 0
IsAnswer question buffers timelines m text =
    (s : SessionState) → Runs question (with_vm buffers timelines m s) (plain text) (begun (with_vm buffers timelines m s))
