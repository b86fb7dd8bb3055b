-- Which device failed in a run whose script was read: the flags of reader and writer.
use Rattle.std.proofs.Common.{◌≡◌, ℕ, Bool, Result, Err}
use Rattle.gv_session.specs.declared.fault.ScriptFault.{ScriptFault}
use Rattle.gv_session.specs.declared.fault.ScriptFault.TheVariants.{BadLine, ScriptTooLong, ReadFault, WriteFault, OutOfMemory}
use Rattle.gv_threads.specs.Script.{EndsByLine}
use Rattle.gv_threads.specs.Ending.{HasNotBegun, EndsAs}
use Rattle.gv_threads.specs.declared.fault.ThreadsFault.{ThreadsFault}
use Rattle.gv_threads.specs.declared.fault.ThreadsFault.TheVariants.{Script}

-- what is said of any reader that was left alone is said of this one, and the writer's flag was as at first
pub from_first : (read new_read old here new : Bool) (queues : ℕ) (r : Result (Unit {0}) ThreadsFault) → new_read ≡ read → here ≡ old →
    ((any : Bool) → EndsAs any any here new queues r) → EndsAs read new_read old new queues r
from_first read new_read old here new queues r same first runs = rw (same, ← first) (runs read)

-- what ended at a line had begun
pub begun_by_line : (T : Type 0) (fault : ScriptFault) → EndsByLine {T = T} (Err fault) → HasNotBegun (Script fault) → ⊥
begun_by_line T (BadLine line) ends none = none
begun_by_line T ReadFault ends none = ends
begun_by_line T ScriptTooLong ends none = ends
begun_by_line T WriteFault ends none = none
begun_by_line T OutOfMemory ends none = none
