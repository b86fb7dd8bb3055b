use Rattle.std.proofs.Common.{◌≡◌, ◌-◌, ◌≤◌, ◌∙◌, length, take, drop, arith}
use Rattle.std.proofs.lemmas.List.{length-drop, take_all}
use Rattle.gv_chunks.proofs.ShiftLemmas.{written_from, lowered_then_cut}
use Rattle.gv_chunks.proofs.replace.take_out.Goals as goal

pub returns-clause-items : goal.returns-clause-items
returns-clause-items c =
    let xs = c.args.items.now.items in
    let ys = c.lower_by.new.items in
    let i = c.args.index in
    let now = c.deref_mut.ensures.value in
    let within : i ≤ length xs = omega (arith, c.requires, c.args.items.now.ok) in
    let part : take (length xs - i) (drop i xs) ≡ drop i xs = take_all (length xs - i) (drop i xs) (omega (arith, length-drop i xs)) in
    let size : length ys ≡ length xs - i = omega (arith, rw (now, part) at c.lower_by.ensures.len, length-drop i xs) in
    let moved : take (length xs - i - c.args.count) ys ≡ drop c.args.count (drop i xs) = rw (now, part, length-drop i xs) at c.lower_by.ensures.before in
    let len : c.args.items.now.len ≡ length xs = omega (arith, c.args.items.now.ok) in
    let cut = rw (now, written_from xs ys i c.args.items.now.len len within size) at c.truncate.ensures.items in
    cut ∙ lowered_then_cut xs ys i c.args.count (c.len.result - c.args.count) (omega (arith, c.requires, c.args.items.now.ok)) (omega (arith, c.len.ensures, c.args.items.now.ok)) moved
