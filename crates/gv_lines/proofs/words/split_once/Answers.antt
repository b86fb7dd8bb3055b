use Rattle.std.proofs.Common.{◌+◌, ◌-◌, length, drop, arith, sym}
use Rattle.std.proofs.lemmas.List.{take_all, length-drop}
use Rattle.gv_lines.proofs.PartsLemmas.{cut_none, cut_some}
use Rattle.gv_lines.proofs.words.split_once.Goals as goal

pub returns-in_err-at-clause-parts : goal.returns-in_err-at-clause-parts
returns-in_err-at-clause-parts c = rw c.from_residual.ensures (cut_none _ _ (sym c.in_err-at.ensures))

pub returns-clause-parts : goal.returns-clause-parts
returns-clause-parts c =
    let text = c.args.text.now in let at = c.in_ok-at.at in
    let cut = cut_some c.args.byte text at (sym c.in_ok-at.ensures) in
    let whole = take_all (length text - (at + 1)) (drop (at + 1) text) (omega (arith, length-drop (at + 1) text)) in
    rw whole cut.1
