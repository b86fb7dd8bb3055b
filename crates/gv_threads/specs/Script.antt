-- What contracts see of a `ThreadsScript` (`ThreadsScriptState`), and what its lines give to the queues.
use Rattle.std.specs.Prelude.{ℕ, ◌<◌, Bool, List, Result, Ok, Err}
use Rattle.gv_types.specs.Bounds.{BoundsState}
use Rattle.gv_types.specs.Limits.{LimitsState}
use Rattle.gv_types.specs.Request.{Fits}
use Rattle.gv_types.specs.declared.request.Request.{Request}
use Rattle.gv_lines.specs.declared.clause.Clause.{Clause}
use Rattle.gv_lines.specs.declared.line.Line.{Line}
use Rattle.gv_session.specs.declared.fault.ScriptFault.{ScriptFault}
use Rattle.gv_session.specs.declared.fault.ScriptFault.TheVariants.{BadLine, ScriptTooLong, ReadFault, WriteFault, OutOfMemory}
use Rattle.gv_session.specs.declared.stage.Stage.{Stage}
use Rattle.gv_threads.specs.declared.script.Part.{Part}
use Rattle.gv_threads.specs.declared.setting.SetupLine.{SetupLine}

-- the part of its last line, which settings may still come, the bounds and the limits that it sets, for how many queues it was read, and how many requests wait on one at most; the timelines
-- that it declares, the lines of its parts, each with its number, and whether there was memory for each of these
pub record ThreadsScriptState : Type 0 where
  pub part : Part
  pub stage : Stage
  pub bounds : BoundsState
  pub limits : LimitsState
  pub queues : ℕ
  pub depth : ℕ
  pub timelines : List (List ℕ)
  pub settings : List (ℕ × SetupLine)
  pub requests : List (ℕ × List Clause)
  pub questions : List (ℕ × Line)
  pub has_memory : Bool

-- how many requests may wait on a queue of threads
abbrev pub most_waiting : ℕ
most_waiting = 65536

-- a request for one of so many queues: each timeline that it names is below this count
pub record IsFor (queues timelines : ℕ) (entry : ℕ × Request) : Type 0 where
  pub queue : entry.0 < queues
  pub fits : Fits timelines entry.1

-- a script that was read ends by a bad line, a failed write or want of memory alone
abbrev pub EndsByLine : {T : Type 0} → Result T ScriptFault → Type 0
EndsByLine (Ok done) = Unit {0}
EndsByLine (Err (BadLine line)) = Unit {0}
EndsByLine (Err WriteFault) = Unit {0}
EndsByLine (Err OutOfMemory) = Unit {0}
EndsByLine (Err ReadFault) = ⊥
EndsByLine (Err ScriptTooLong) = ⊥

-- a line is bad, or wants memory, and no device has failed
abbrev pub IsOfLine : {T : Type 0} → Result T ScriptFault → Type 0
IsOfLine (Ok done) = Unit {0}
IsOfLine (Err (BadLine line)) = Unit {0}
IsOfLine (Err OutOfMemory) = Unit {0}
IsOfLine (Err fault) = ⊥
