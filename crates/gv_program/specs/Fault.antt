-- What the program says of a fault.
use Rattle.std.specs.Prelude.{ℕ, List, ◌++◌, codes, decimal}
use Rattle.gv_session.specs.declared.fault.ScriptFault.{ScriptFault}
use Rattle.gv_session.specs.declared.fault.ScriptFault.TheVariants.{BadLine, ScriptTooLong, ReadFault, WriteFault, OutOfMemory}
use Rattle.gv_queues.specs.declared.finishing.QueuesFault.{QueuesFault}
use Rattle.gv_queues.specs.declared.finishing.QueuesFault.TheVariants.{NotMade, NotStarted, Disagree}
use Rattle.gv_serve.specs.declared.fault.ServeFault.{ServeFault}
use Rattle.gv_serve.specs.declared.fault.ServeFault.TheVariants as serve
use Rattle.gv_threads.specs.declared.fault.ThreadsFault.{ThreadsFault}
use Rattle.gv_threads.specs.declared.fault.ThreadsFault.TheVariants as threads
use Rattle.gv_program.specs.Status.{bad_queues, bad_script, bad_words, broken_stream, no_memory}
use Rattle.gv_program.specs.declared.fault.ProgramFault.{ProgramFault}
use Rattle.gv_program.specs.declared.fault.ProgramFault.TheVariants.{Script, Queues, ArgumentNotText, NotOpened, NoFormat, NoFlags, TwoForms, NoAddress, NoLine, NoSpace, ManySpaces}

-- the exit status of a script that ended early
abbrev pub script_status : ScriptFault → ℕ
script_status (BadLine line) = bad_script
script_status ScriptTooLong = bad_script
script_status ReadFault = broken_stream
script_status WriteFault = broken_stream
script_status OutOfMemory = no_memory

-- the exit status of queues that did not run to their end
abbrev pub queues_status : QueuesFault → ℕ
queues_status NotMade = no_memory
queues_status (NotStarted queue) = bad_queues
queues_status (Disagree queue) = bad_queues

-- the exit status
abbrev pub status_of : ProgramFault → ℕ
status_of (Script fault) = script_status fault
status_of (Queues fault) = queues_status fault
status_of ArgumentNotText = bad_words
status_of NotOpened = broken_stream
status_of NoFormat = bad_words
status_of NoFlags = bad_words
status_of TwoForms = bad_words
status_of NoAddress = bad_words
status_of NoLine = bad_script
status_of NoSpace = bad_script
status_of ManySpaces = bad_words

-- the line on standard error, but for its line end
abbrev pub line_of_fault : ProgramFault → List ℕ
line_of_fault (Script (BadLine line)) = codes "vmbind: bad line " ++ decimal line
line_of_fault (Script ScriptTooLong) = codes "vmbind: script too long"
line_of_fault (Script ReadFault) = codes "vmbind: read fault"
line_of_fault (Script WriteFault) = codes "vmbind: write fault"
line_of_fault (Script OutOfMemory) = codes "vmbind: out of memory"
line_of_fault (Queues NotMade) = codes "vmbind: out of memory"
line_of_fault (Queues (NotStarted queue)) = codes "vmbind: worker not started " ++ decimal queue
line_of_fault (Queues (Disagree queue)) = codes "vmbind: queues disagree " ++ decimal queue
line_of_fault ArgumentNotText = codes "vmbind: argument is not text"
line_of_fault NotOpened = codes "vmbind: file not opened"
line_of_fault NoFormat = codes "vmbind: no such format"
line_of_fault NoFlags = codes "vmbind: no such flags"
line_of_fault TwoForms = codes "vmbind: more than one form"
line_of_fault NoAddress = codes "vmbind: not an address"
line_of_fault NoLine = codes "vmbind: no line of this format"
line_of_fault NoSpace = codes "vmbind: no such address space"
line_of_fault ManySpaces = codes "vmbind: more than one address space"

-- a threads script's fault as the program's
abbrev pub of_threads : ThreadsFault → ProgramFault
of_threads (threads.Script fault) = Script fault
of_threads (threads.Queues fault) = Queues fault

-- a dialogue's fault as the program's
abbrev pub of_serve : ServeFault → ProgramFault
of_serve serve.ReadFault = Script ReadFault
of_serve serve.WriteFault = Script WriteFault
of_serve serve.OutOfMemory = Script OutOfMemory
