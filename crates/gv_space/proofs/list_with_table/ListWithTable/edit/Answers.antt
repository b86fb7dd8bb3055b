use Rattle.std.proofs.Common.{◌+◌, get_or, sym, ◌∙◌, subst}
use Rattle.gv_types.specs.PageRange.{end_of}
use Rattle.std.specs.List.{splice}
use Rattle.gv_ranges.specs.Edit.{LieIn}
use Rattle.gv_ranges.proofs.OrderLemmas.{lie_in-clipped}
use Rattle.gv_ranges.proofs.ReplacedLemmas.{all_mappings, clipped_whole, lies_in_bounds}
use Rattle.gv_space.proofs.list_with_table.ListWithTable.edit.Goals as goal

pub edit_ahead-requires-clause-inside : goal.edit_ahead-requires-clause-inside
edit_ahead-requires-clause-inside c =
    let range = c.args.range in
    let inside = c.args.inside.now in
    let now = splice c.args.self.now.mappings c.args.spot.index (c.args.spot.index + c.args.out_count) c.args.pieces.now in
    let lie : LieIn range inside = subst (LieIn range) c.requires.inside (lie_in-clipped range now) in
    c.requires.inside ∙
    sym (clipped_whole range.first (end_of range) inside
    (λ k d below. let bounds = lies_in_bounds (get_or inside k d).range range (lie k d below) in (all_mappings inside 0 c.requires.sorted k d below, bounds.0, bounds.1)))
