use Rattle.std.proofs.Common.{◌≡◌, ◌++◌, take, string_bytes}
use Rattle.std.specs.List.{list_any}
use Rattle.gv_journal.specs.Items.{names}
use Rattle.gv_session.proofs.JournalLines.{item_lines}
use Rattle.gv_session.proofs.journal.write_journal.Given as goal

abbrev pub invariant-loop-position : goal.invariant-loop-position
invariant-loop-position l =
    string_bytes l.out ≡ string_bytes l.initial.out ++ item_lines (λ n. list_any (λ i. names i.kind n) l.items) l.first (take l.position l.items)
