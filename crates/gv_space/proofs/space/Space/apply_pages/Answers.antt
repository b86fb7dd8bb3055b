use Rattle.std.proofs.Common.{◌≡◌, ◌∙◌}
use Rattle.gv_types.specs.Operation.{own_mapping}
use Rattle.gv_ranges.specs.Edit.{restored}
use Rattle.gv_space.specs.Change.{IsChanged}
use Rattle.gv_space.specs.Undo.{undo_with}
use Rattle.gv_space.proofs.PageAfterOperation.{says_after, holds_what_was}
use Rattle.gv_space.proofs.space.Space.apply_pages.Goals as goal

pub returns-clause-says : goal.returns-clause-says
returns-clause-says c =
    let saved = c.as_pieces.result.now in
    let is : c.as_pieces.result.now ≡ own_mapping c.args.op.now = c.as_pieces.ensures ∙ c.own-own.ensures in
    let undo = undo_with c.in_ok-index.field-0.index c.in_ok-index.field-0.put_in c.change.new.taken.items c.range-range.result c.in_ok-index.field-0.tables in
    says_after c.args.self.now c.change.new.self c.args.op.now c.range-range.result saved undo c.requires.pages c.range-range.ensures is c.in_ok-index.ensures.changed

pub returns-clause-taken : goal.returns-clause-taken
returns-clause-taken c =
    let undo = undo_with c.in_ok-index.field-0.index c.in_ok-index.field-0.put_in c.change.new.taken.items c.range-range.result c.in_ok-index.field-0.tables in
    let changed : IsChanged c.args.self.now c.change.new.self (restored c.args.self.now.mappings c.range-range.result c.as_pieces.result.now) undo = c.in_ok-index.ensures.changed in
    holds_what_was c.args.self.now.mappings c.change.new.self.mappings undo changed.undo
