-- What reading a whole script may answer.
use Rattle.std.specs.Prelude.{◌≡◌, ℕ, ◌+◌, ◌≤◌, ◌<◌, Bool, true, List, length, Option, Result, Ok, Err, IfSome, Vec}
use Rattle.std.specs.Io.KnownBytes.{Consumes}
use Rattle.std.specs.declared.alloc.Global.{Global}
use Rattle.gv_session.specs.declared.fault.ScriptFault.{ScriptFault}
use Rattle.gv_session.specs.declared.fault.ScriptFault.TheVariants.{BadLine, ScriptTooLong, ReadFault, WriteFault, OutOfMemory}

-- how many bytes a script may have
abbrev pub script_limit : ℕ
script_limit = 1048576

-- how many bytes are read at most, and how many reads are asked for
abbrev pub most_read : ℕ
most_read = script_limit + 1

-- No more bytes were taken from a reader, of which what was left is given before and after.
pub record TakesFew (old new : Option (List ℕ)) : Type 0 where
  pub taken : List ℕ
  pub few : length taken ≤ most_read
  pub consumed : Consumes old new taken

-- these bytes, where they are known, are no more than a script may have
abbrev pub AreShort : Option (List ℕ) → Type 0
AreShort known = IfSome known (λ bytes. length bytes ≤ script_limit)

-- these bytes, where they are known, are more than a script may have
abbrev pub AreLong : Option (List ℕ) → Type 0
AreLong known = IfSome known (λ bytes. script_limit < length bytes)

-- A script of these bytes is too long exactly where the answer is that, unless a read fails.
abbrev pub TellsLength : {T : Type 0} → Option (List ℕ) → Result T ScriptFault → Type 0
TellsLength known (Err ScriptTooLong) = AreLong known
TellsLength known (Err ReadFault) = Unit {0}
TellsLength known (Err WriteFault) = AreShort known
TellsLength known (Err OutOfMemory) = AreShort known
TellsLength known (Err (BadLine line)) = AreShort known
TellsLength known (Ok done) = AreShort known

-- A failed read is the answer exactly where the reader's flag goes up. The flag is given before and after.
abbrev pub TellsReads : {T : Type 0} → Bool → Bool → Result T ScriptFault → Type 0
TellsReads old new (Err ReadFault) = new ≡ true
TellsReads old new (Err ScriptTooLong) = new ≡ old
TellsReads old new (Err WriteFault) = new ≡ old
TellsReads old new (Err OutOfMemory) = new ≡ old
TellsReads old new (Err (BadLine line)) = new ≡ old
TellsReads old new (Ok done) = new ≡ old

-- A failed write is the answer exactly where the writer's flag goes up. The flag is given before and after.
abbrev pub TellsWrites : {T : Type 0} → Bool → Bool → Result T ScriptFault → Type 0
TellsWrites old new (Err WriteFault) = new ≡ true
TellsWrites old new (Err ReadFault) = new ≡ old
TellsWrites old new (Err ScriptTooLong) = new ≡ old
TellsWrites old new (Err OutOfMemory) = new ≡ old
TellsWrites old new (Err (BadLine line)) = new ≡ old
TellsWrites old new (Ok done) = new ≡ old

-- The answer for the bytes that were left, where they are known.
abbrev pub ReadsWhole : Option (List ℕ) → Result (Vec ℕ Global) ScriptFault → Type 0
ReadsWhole known (Ok script) = (length script.items ≤ script_limit) × IfSome known (λ bytes. script.items ≡ bytes)
ReadsWhole known (Err ScriptTooLong) = Unit {0}
ReadsWhole known (Err ReadFault) = Unit {0}
ReadsWhole known (Err OutOfMemory) = Unit {0}
ReadsWhole known (Err (BadLine line)) = ⊥
ReadsWhole known (Err WriteFault) = ⊥
