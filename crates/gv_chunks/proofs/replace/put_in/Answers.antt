use Rattle.std.proofs.Common.{◌≡◌, ◌-◌, ◌≤◌, ◌++◌, ◌∙◌, length, take, drop, arith}
use Rattle.std.proofs.lemmas.List.{length-append, length-drop, take_all}
use Rattle.gv_chunks.proofs.ShiftLemmas.{written_from, raised_then_filled}
use Rattle.gv_chunks.proofs.replace.put_in.Goals as goal

pub returns-clause-items : goal.returns-clause-items
returns-clause-items c =
    let xs = c.args.items.now.items in
    let pieces = c.args.pieces.now in
    let ys = c.raise_by.new.items in
    let i = c.args.index in
    let now = c.deref_mut.ensures.value ∙ c.append.ensures.items in
    let within : i ≤ length (xs ++ pieces) = omega (arith, length-append xs pieces, c.requires.within, c.args.items.now.ok) in
    let part : take (length (xs ++ pieces) - i) (drop i (xs ++ pieces)) ≡ drop i (xs ++ pieces) = take_all (length (xs ++ pieces) - i) (drop i (xs ++ pieces)) (omega (arith, length-drop i (xs ++ pieces))) in
    let size : length ys ≡ length (xs ++ pieces) - i = omega (arith, rw (now, part) at c.raise_by.ensures.len, length-drop i (xs ++ pieces)) in
    let moved : drop (length pieces) ys ≡ take (length (xs ++ pieces) - i - length pieces) (drop i (xs ++ pieces)) = rw (now, part, length-drop i (xs ++ pieces)) at c.raise_by.ensures.behind in
    let len : c.append.new.items.len ≡ length (xs ++ pieces) = omega (arith, length-append xs pieces, c.append.ensures.len, c.args.items.now.ok) in
    let written = rw (now, c.append.ensures.items, written_from (xs ++ pieces) ys i c.append.new.items.len len within size) at c.overwrite.ensures.items in
    written ∙ raised_then_filled xs pieces ys i (omega arith) moved
