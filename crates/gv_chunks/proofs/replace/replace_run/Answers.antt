use Rattle.std.proofs.Common.{arith, length, ◌≡◌, ◌-◌, ◌+◌, ◌≤◌, take, drop}
use Rattle.std.proofs.lemmas.List.{take_all, length-take-le, take_rest}
use Rattle.std.specs.List.{splice}
use Rattle.gv_chunks.proofs.SpliceLemmas.{overwritten_then_cut, overwritten_then_filled}
use Rattle.gv_chunks.proofs.replace.replace_run.Goals as goal

pub returns-then-common-count-clause-items : goal.returns-then-common-count-clause-items
returns-then-common-count-clause-items c =
    let within : c.args.index + c.args.count ≤ length c.args.items.now.items = omega (arith, c.args.items.now.ok.0, c.requires.within) in
    let all : c.min-common.result ≡ length c.args.pieces.now = omega arith in
    let pieces : take c.min-common.result c.args.pieces.now ≡ c.args.pieces.now = take_all _ _ (omega arith) in
    let written : c.overwrite.new.items.items ≡ splice c.args.items.now.items c.args.index (c.args.index + length c.args.pieces.now) c.args.pieces.now = rw pieces at c.overwrite.ensures.items in
    rw (c.take_out.ensures.items, all) (overwritten_then_cut _ _ _ _ _ within (omega arith) written)

pub returns-then-common-pieces-clause-items : goal.returns-then-common-pieces-clause-items
returns-then-common-pieces-clause-items c =
    let within : c.args.index + c.args.count ≤ length c.args.items.now.items = omega (arith, c.args.items.now.ok.0, c.requires.within) in
    let all : c.min-common.result ≡ c.args.count = omega arith in
    let size : length (take c.args.count c.args.pieces.now) ≡ c.args.count = length-take-le _ _ (omega arith) in
    let rest : take (length c.args.pieces.now - c.args.count) (drop c.args.count c.args.pieces.now) ≡ drop c.args.count c.args.pieces.now = take_rest c.args.pieces.now c.args.count in
    let written : c.overwrite.new.items.items ≡ splice c.args.items.now.items c.args.index (c.args.index + c.args.count) (take c.args.count c.args.pieces.now) = rw (all, size) at c.overwrite.ensures.items in
    rw (c.put_in.ensures.items, all, rest) (overwritten_then_filled _ _ _ _ _ within (omega arith) written)

pub returns-else-common-pieces-clause-items : goal.returns-else-common-pieces-clause-items
returns-else-common-pieces-clause-items c =
    let all : c.min-common.result ≡ c.args.count = omega arith in
    let size : length c.args.pieces.now ≡ c.args.count = omega arith in
    let pieces : take c.args.count c.args.pieces.now ≡ c.args.pieces.now = take_all _ _ (omega arith) in
    rw (all, pieces, size) at c.overwrite.ensures.items
