-- What a fault is called, and the number that it carries.
use Rattle.std.specs.Prelude.{ℕ, List, ◌++◌, Option, Some, None, codes, decimal}
use Rattle.gv_types.specs.declared.fault.Fault.{Fault}
use Rattle.gv_types.specs.declared.fault.Fault.TheVariants.{Unaligned, Empty, OutOfSpace, Reserved, NoBuffer, OutOfBuffer, BadSize, TooManyBuffers, Mapped, Kept, InUse, Conflict, TooManyMappings, TooManyOps, JournalFull, NoEntry, NotABind, Withdrawn, Touched, Crossed, OutOfTurn, QueueSpent, Unmapped, WriteToReadOnly, QueueFull, TooManyJobs, TooManyAccesses, NoJob, QueueGone, NoOutcome, Held, OutOfMemory}

-- its printed name
abbrev pub name_of : Fault → List ℕ
name_of Unaligned = codes "Unaligned"
name_of Empty = codes "Empty"
name_of OutOfSpace = codes "OutOfSpace"
name_of Reserved = codes "Reserved"
name_of NoBuffer = codes "NoBuffer"
name_of OutOfBuffer = codes "OutOfBuffer"
name_of BadSize = codes "BadSize"
name_of TooManyBuffers = codes "TooManyBuffers"
name_of (Mapped count) = codes "Mapped"
name_of (Kept count) = codes "Kept"
name_of (InUse jobs) = codes "InUse"
name_of (Conflict job) = codes "Conflict"
name_of TooManyMappings = codes "TooManyMappings"
name_of TooManyOps = codes "TooManyOps"
name_of JournalFull = codes "JournalFull"
name_of NoEntry = codes "NoEntry"
name_of NotABind = codes "NotABind"
name_of Withdrawn = codes "Withdrawn"
name_of (Touched by) = codes "Touched"
name_of (Crossed by) = codes "Crossed"
name_of (OutOfTurn next) = codes "OutOfTurn"
name_of QueueSpent = codes "QueueSpent"
name_of (Unmapped access) = codes "Unmapped"
name_of (WriteToReadOnly access) = codes "WriteToReadOnly"
name_of QueueFull = codes "QueueFull"
name_of TooManyJobs = codes "TooManyJobs"
name_of TooManyAccesses = codes "TooManyAccesses"
name_of NoJob = codes "NoJob"
name_of QueueGone = codes "QueueGone"
name_of NoOutcome = codes "NoOutcome"
name_of (Held by) = codes "Held"
name_of OutOfMemory = codes "OutOfMemory"

-- its number, which is never used for another fault
abbrev pub number_of : Fault → ℕ
number_of Unaligned = 1
number_of Empty = 2
number_of OutOfSpace = 3
number_of Reserved = 4
number_of NoBuffer = 6
number_of OutOfBuffer = 7
number_of BadSize = 8
number_of TooManyBuffers = 9
number_of (Mapped count) = 10
number_of (Kept count) = 11
number_of (InUse jobs) = 12
number_of (Conflict job) = 13
number_of TooManyMappings = 14
number_of TooManyOps = 15
number_of JournalFull = 16
number_of NoEntry = 17
number_of NotABind = 18
number_of Withdrawn = 19
number_of (Touched by) = 20
number_of (Crossed by) = 21
number_of (OutOfTurn next) = 22
number_of QueueSpent = 23
number_of (Unmapped access) = 24
number_of (WriteToReadOnly access) = 25
number_of QueueFull = 26
number_of TooManyJobs = 29
number_of TooManyAccesses = 30
number_of NoJob = 31
number_of QueueGone = 32
number_of OutOfMemory = 33
number_of NoOutcome = 34
number_of (Held by) = 35

-- the number that it carries, if any
abbrev pub carried_by : Fault → Option ℕ
carried_by Unaligned = None
carried_by Empty = None
carried_by OutOfSpace = None
carried_by Reserved = None
carried_by NoBuffer = None
carried_by OutOfBuffer = None
carried_by BadSize = None
carried_by TooManyBuffers = None
carried_by (Mapped count) = Some count
carried_by (Kept count) = Some count
carried_by (InUse jobs) = Some jobs
carried_by (Conflict job) = Some job
carried_by TooManyMappings = None
carried_by TooManyOps = None
carried_by JournalFull = None
carried_by NoEntry = None
carried_by NotABind = None
carried_by Withdrawn = None
carried_by (Touched by) = Some by
carried_by (Crossed by) = Some by
carried_by (OutOfTurn next) = Some next
carried_by QueueSpent = None
carried_by (Unmapped access) = Some access
carried_by (WriteToReadOnly access) = Some access
carried_by QueueFull = None
carried_by TooManyJobs = None
carried_by TooManyAccesses = None
carried_by NoJob = None
carried_by QueueGone = None
carried_by NoOutcome = None
carried_by (Held by) = Some by
carried_by OutOfMemory = None

-- a name, and a number behind a space if there is one
abbrev pub with_number : List ℕ → Option ℕ → List ℕ
with_number name None = name
with_number name (Some number) = name ++ codes " " ++ decimal number

-- how a fault is printed
abbrev pub fault_text : Fault → List ℕ
fault_text fault = with_number (name_of fault) (carried_by fault)
