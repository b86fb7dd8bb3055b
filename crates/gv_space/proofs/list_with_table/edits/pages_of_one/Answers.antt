use Rattle.std.proofs.Common.{◌≡◌, ◌+◌, ◌<◌, ℕ, length, get_or, arith, sym, subst}
use Rattle.std.proofs.lemmas.Bool.Decides.{nat_tests}
use Rattle.std.specs.List.{splice}
use Rattle.gv_types.specs.declared.mapping.Mapping.{Mapping}
use Rattle.gv_table.specs.Patch.{HasMappingAt}
use Rattle.gv_space.proofs.MappingAt.{held_piece, held_before, held_behind}
use Rattle.gv_space.proofs.list_with_table.edits.pages_of_one.Goals as goal

pub returns-then-not-is_empty : goal.returns-then-not-is_empty
returns-then-not-is_empty c =
    let some : 0 < length c.args.pieces.now = grind (arith, nat_tests, c.if-not-is_empty.ensures) in
    rw (c.range.ensures, c.index-pieces-0.is) (held_piece c.args.list.now.mappings c.args.pieces.now c.args.spot.index c.args.out_count c.requires c.index-pieces-0.result some)

pub returns-then-index-gt0 : goal.returns-then-index-gt0
returns-then-index-gt0 c =
    let d : Mapping = c.get_at.result.now in
    let now = splice c.args.list.now.mappings c.args.spot.index (c.args.spot.index + c.args.out_count) c.args.pieces.now in
    rw c.range-then-index-gt0.ensures (subst (λ (m : Mapping). HasMappingAt now m.range) (sym (rw c.at.ensures at (c.get_at.ensures d)))
    (held_before c.args.list.now.mappings c.args.pieces.now c.args.spot.index c.args.out_count c.requires d (omega arith)))

pub returns-then-out_count-len : goal.returns-then-out_count-len
returns-then-out_count-len c =
    let ms = c.args.list.now.mappings in
    let d : Mapping = c.get_at-then-out_count-len.result.now in
    let zero : 0 ≡ c.args.spot.index = omega arith in
    let none : length c.args.pieces.now ≡ 0 = grind (arith, nat_tests, c.if-not-is_empty.ensures) in
    let less : c.args.out_count < length ms = omega arith in
    rw c.range-then-out_count-len.ensures (subst (λ (m : Mapping). HasMappingAt (splice ms c.args.spot.index (c.args.spot.index + c.args.out_count) c.args.pieces.now) m.range) (sym (rw c.at-then-out_count-len.ensures at (c.get_at-then-out_count-len.ensures d)))
    (subst (λ (i : ℕ). HasMappingAt (splice ms i (i + c.args.out_count) c.args.pieces.now) (get_or ms c.args.out_count d).range) zero
    (held_behind ms c.args.pieces.now c.args.out_count d none less)))
