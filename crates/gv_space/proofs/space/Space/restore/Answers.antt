use Rattle.std.proofs.Common.{◌≡◌, List, ap, ◌∙◌}
use Rattle.gv_types.specs.declared.mapping.Mapping.{Mapping}
use Rattle.gv_ranges.specs.Edit.{restored}
use Rattle.gv_ranges.proofs.ChangeLemmas.{at-restored}
use Rattle.gv_space.specs.State.{SpaceState}
use Rattle.gv_space.specs.Undo.{OpUndoState, undo_with}
use Rattle.gv_space.proofs.PageAfterOperation.{holds_what_was}
use Rattle.gv_space.specs.Change.{IsChanged}
use Rattle.gv_space.proofs.space.Space.restore.Goals as goal

pub returns-clause-says : goal.returns-clause-says
returns-clause-says c = λ page in_space.
    let old = c.args.self.now in
    let new = c.change.new.self in
    let saved : List Mapping = c.args.saved.now.change.taken in
    let saved_is : c.as_slice.result.now ≡ saved = c.as_slice.ensures ∙ ap (λ (u : OpUndoState). u.change.taken) c.saved.view_is in
    let undo = undo_with c.in_ok-index.field-0.index c.in_ok-index.field-0.put_in c.change.new.taken.items c.args.range c.in_ok-index.field-0.tables in
    let changed : IsChanged old new (restored old.mappings c.args.range c.as_slice.result.now) undo = c.in_ok-index.ensures.changed in
    let now : new.mappings ≡ restored old.mappings c.args.range saved =
    ap (λ (t : SpaceState). t.mappings) changed.state ∙ ap (λ (ms : List Mapping). restored old.mappings c.args.range ms) saved_is in
    rw now (at-restored old.mappings saved c.args.range page in_space)

pub returns-clause-taken : goal.returns-clause-taken
returns-clause-taken c =
    let old = c.args.self.now in
    let undo = undo_with c.in_ok-index.field-0.index c.in_ok-index.field-0.put_in c.change.new.taken.items c.args.range c.in_ok-index.field-0.tables in
    let changed : IsChanged old c.change.new.self (restored old.mappings c.args.range c.as_slice.result.now) undo = c.in_ok-index.ensures.changed in
    holds_what_was old.mappings c.change.new.self.mappings undo changed.undo
