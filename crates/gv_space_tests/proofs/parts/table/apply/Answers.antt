use Rattle.std.proofs.Common.{◌≡◌, ◌≤◌, sym, subst, List}
use Rattle.gv_types.specs.PageRange.{PageRangeState}
use Rattle.gv_types.specs.Operation.{range_of}
use Rattle.gv_types.specs.declared.mapping.BufferId.{BufferId}
use Rattle.gv_types.specs.declared.mapping.Mapping.{Mapping}
use Rattle.gv_ranges.specs.List.{IsLaidOut}
use Rattle.gv_ranges.specs.Edit.{edited}
use Rattle.gv_ranges.proofs.ChangeLemmas.{laid_out-edited}
use Rattle.gv_table.specs.Reads.{AreAlikeOutside}
use Rattle.gv_table.specs.BufferNames.{AreNamed}
use Rattle.gv_table.specs.Kinds.{AreEnough}
use Rattle.gv_table.specs.Table.{FitsOutside, gained_by}
use Rattle.gv_table.proofs.EditLemmas.{edited-alike, edited-own}
use Rattle.gv_space_tests.proofs.NamedLists.{edited_named}
use Rattle.gv_space_tests.proofs.parts.table.apply.Goals as goal

pub sway-seen-requires-clause-new : goal.sway-seen-requires-clause-new
sway-seen-requires-clause-new c =
    let op = c.args.op.now in
    let after : c.edit.new.list.mappings ≡ edited c.args.list.now.mappings op = c.in_ok-edit.ensures.ok in
    subst IsLaidOut (sym after) (laid_out-edited c.args.list.now.mappings op c.edit.ensures.laid_out c.requires.operation)

pub sway-seen-requires-clause-alike : goal.sway-seen-requires-clause-alike
sway-seen-requires-clause-alike c =
    let before = c.args.list.now.mappings in
    let op = c.args.op.now in
    let after : c.edit.new.list.mappings ≡ edited before op = c.in_ok-edit.ensures.ok in
    let alike = edited-alike before op c.edit.ensures.laid_out in
    subst (λ (ms : List Mapping). AreAlikeOutside c.range.result ms c.edit.new.list.mappings) (sym c.requires.twins)
    (subst (λ (s : PageRangeState). AreAlikeOutside s before c.edit.new.list.mappings) (sym c.range.ensures)
    (subst (λ (ms : List Mapping). AreAlikeOutside (range_of op) before ms) (sym after) alike))

pub sway-seen-requires-clause-enough : goal.sway-seen-requires-clause-enough
sway-seen-requires-clause-enough c =
    let before = c.args.list.now.mappings in
    let op = c.args.op.now in
    let laid = c.edit.ensures.laid_out in
    let after : c.edit.new.list.mappings ≡ edited before op = c.in_ok-edit.ensures.ok in
    let fits : FitsOutside (edited before op) (range_of op) c.args.table.now =
    record { earlier = before; laid_out = laid; alike = edited-alike before op laid; tree = c.requires.tree } in
    subst (λ (ms : List Mapping). AreEnough c.in_ok-spares.spares (gained_by ms c.args.table.now)) (sym after)
    (c.in_ok-spares.ensures (edited before op) (laid_out-edited before op laid c.requires.operation) fits (edited-own before op laid c.requires.operation))

pub sway-seen-requires-clause-new_named : goal.sway-seen-requires-clause-new_named
sway-seen-requires-clause-new_named c =
    let before = c.args.list.now.mappings in
    let op = c.args.op.now in
    let after : c.edit.new.list.mappings ≡ edited before op = c.in_ok-edit.ensures.ok in
    subst (AreNamed c.args.table.now.names) (sym after) (edited_named c.args.table.now.names before op c.edit.ensures.laid_out c.requires.named c.requires.own)

pub returns-clause-named : goal.returns-clause-named
returns-clause-named c =
    let before = c.args.list.now.mappings in
    let op = c.args.op.now in
    let after : c.edit.new.list.mappings ≡ edited before op = c.in_ok-edit.ensures.ok in
    let edits = edited_named c.args.table.now.names before op c.edit.ensures.laid_out c.requires.named c.requires.own in
    subst (λ (names : List BufferId). AreNamed names c.edit.new.list.mappings) (sym c.sway-seen.ensures.names) (subst (AreNamed c.args.table.now.names) (sym after) edits)
