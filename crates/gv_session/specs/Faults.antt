-- Why a script ends early.
use Rattle.std.specs.Prelude.{ℕ, Option, Some, None}
use Rattle.gv_types.specs.Fault.{number_of}
use Rattle.gv_types.specs.declared.fault.Fault.TheVariants as fault
use Rattle.gv_session.specs.declared.fault.LineFault.{LineFault}
use Rattle.gv_session.specs.declared.fault.LineFault.TheVariants.{Bad, OutOfMemory as NoMemory}
use Rattle.gv_session.specs.declared.fault.ScriptFault.{ScriptFault}
use Rattle.gv_session.specs.declared.fault.ScriptFault.TheVariants.{BadLine, ScriptTooLong, ReadFault, WriteFault, OutOfMemory}

-- why a script ends at the line of this number
abbrev pub fault_at : ℕ → LineFault → ScriptFault
fault_at number Bad = BadLine number
fault_at number NoMemory = OutOfMemory

-- its number, which is no other fault's; what a device's fault has is none
abbrev pub script_fault_number : ScriptFault → Option ℕ
script_fault_number (BadLine number) = Some 27
script_fault_number ScriptTooLong = Some 28
script_fault_number ReadFault = None
script_fault_number WriteFault = None
script_fault_number OutOfMemory = Some (number_of fault.OutOfMemory)
