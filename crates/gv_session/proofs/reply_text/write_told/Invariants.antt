use Rattle.std.proofs.Common.{◌≡◌, ◌++◌, take, string_bytes}
use Rattle.gv_session.specs.Texts.{numbered_lines, outcome_line}
use Rattle.gv_session.proofs.reply_text.write_told.Given as goal

abbrev pub invariant-loop-index : goal.invariant-loop-index
invariant-loop-index l =
    string_bytes l.out ≡ string_bytes l.initial.out ++ numbered_lines (outcome_line l.timelines.names) l.first (take l.index l.outcomes)
