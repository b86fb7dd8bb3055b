-- How a threads script ends, and what it says of its queues.
use Rattle.std.specs.Prelude.{◌≡◌, ℕ, ◌<◌, ◌++◌, Bool, true, List, length, Result, Ok, Err, codes, decimal}
use Rattle.gv_queues.specs.declared.finishing.QueueEnd.{QueueEnd}
use Rattle.gv_queues.specs.declared.finishing.QueuesFault.TheVariants.{NotMade, NotStarted, Disagree}
use Rattle.gv_session.specs.declared.fault.ScriptFault.TheVariants.{BadLine, ScriptTooLong, ReadFault, WriteFault, OutOfMemory}
use Rattle.gv_threads.specs.declared.fault.ThreadsFault.{ThreadsFault}
use Rattle.gv_threads.specs.declared.fault.ThreadsFault.TheVariants.{Script, Queues}
use Rattle.gv_session.specs.Texts.{numbered_lines}

-- the line of what a queue came to: how many requests were put, how many outcomes were told, how many requests are left
abbrev pub line_of_end : ℕ → QueueEnd → List ℕ
line_of_end queue end =
    codes "queue " ++ (decimal queue ++ (codes " put " ++ (decimal end.put ++ (codes " told " ++ (decimal end.told
    ++ (codes " left " ++ (decimal (length end.left.items) ++ codes "\n")))))))

-- a line for each queue, in order
abbrev pub end_lines : List QueueEnd → List ℕ
end_lines = numbered_lines line_of_end 0

-- A script of so many queues ends so: a device's fault is the answer exactly where the device's flag goes up, of which the reader's
-- and the writer's are given before and after, and a queue that is named is one of them.
abbrev pub EndsAs : Bool → Bool → Bool → Bool → ℕ → Result (Unit {0}) ThreadsFault → Type 0
EndsAs read new_read old new queues (Err (Script ReadFault)) = (new_read ≡ true) × (new ≡ old)
EndsAs read new_read old new queues (Err (Script ScriptTooLong)) = (new_read ≡ read) × (new ≡ old)
EndsAs read new_read old new queues (Err (Script WriteFault)) = (new_read ≡ read) × (new ≡ true)
EndsAs read new_read old new queues (Err (Script (BadLine line))) = (new_read ≡ read) × (new ≡ old)
EndsAs read new_read old new queues (Err (Script OutOfMemory)) = (new_read ≡ read) × (new ≡ old)
EndsAs read new_read old new queues (Ok done) = (new_read ≡ read) × (new ≡ old)
EndsAs read new_read old new queues (Err (Queues NotMade)) = (new_read ≡ read) × (new ≡ old)
EndsAs read new_read old new queues (Err (Queues (NotStarted queue))) = (queue < queues) × (new_read ≡ read) × (new ≡ old)
EndsAs read new_read old new queues (Err (Queues (Disagree queue))) = (queue < queues) × (new_read ≡ read) × (new ≡ old)

-- the script was not read, so nothing ran
abbrev pub HasNotBegun : ThreadsFault → Type 0
HasNotBegun (Script ReadFault) = Unit {0}
HasNotBegun (Script ScriptTooLong) = Unit {0}
HasNotBegun fault = ⊥
