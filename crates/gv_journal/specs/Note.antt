-- What contracts see of a `Note`: the number of the withdrawal that names an item, if one does. No public clause cites this module.
use Rattle.std.specs.Prelude.{ℕ, nat_le, if◌then◌else◌, Option, Some, None}
use Rattle.gv_journal.specs.declared.note.Note.TheInside.{Inside}

-- a number, where it isn't the one that stands for none
abbrev pub number_noted : ℕ → Option ℕ
number_noted n = if nat_le 0xffff_ffff_ffff_ffff n then None else Some n

abbrev pub noted : Inside → Option ℕ
noted n = number_noted n.withdrawal
