use Rattle.std.proofs.Common.{◌∙◌, ◌<◌, ap, arith, sym, Some}
use Rattle.std.proofs.lemmas.Bool.{and_from, le-leb, lt-ltb}
use Rattle.gv_types.specs.PageRange.{end_of}
use Rattle.gv_ranges.proofs.EndingAfterLemmas.{found_behind, at-none_behind, at-before_behind, at-of_behind}
use Rattle.gv_vm.proofs.StretchEnds.{to_the_end, to_the_next, to_its_end}
use Rattle.gv_vm.proofs.places.held_until.Goals as goal

pub returns-in_default-clause-entry : goal.returns-in_default-clause-entry
returns-in_default-clause-entry c = sym (at-none_behind c.args.list.now.mappings c.args.page c.in_default.ensures)

pub returns-in_default-clause-end : goal.returns-in_default-clause-end
returns-in_default-clause-end c = sym (to_the_end c.args.list.now.mappings c.args.page c.in_default.ensures)

pub returns-then-page-first-clause-entry : goal.returns-then-page-first-clause-entry
returns-then-page-first-clause-entry c =
    sym (at-before_behind c.args.list.now.mappings c.args.page c.in-Some.m.now c.requires.laid_out c.in-Some.ensures (omega arith))

pub returns-then-page-first-clause-end : goal.returns-then-page-first-clause-end
returns-then-page-first-clause-end c =
    c.first-then-page-first.ensures.value ∙ sym (to_the_next c.args.list.now.mappings c.args.page c.in-Some.m.now c.in-Some.ensures (omega arith))

pub part-requires : goal.part-requires
part-requires c =
    let found = found_behind c.args.list.now.mappings c.args.page c.in-Some.m.now c.in-Some.ensures in
    record { covered = and_from _ _ (le-leb _ _ (omega arith)) (lt-ltb _ _ found.reaches) }

pub returns-clause-entry : goal.returns-clause-entry
returns-clause-entry c =
    ap Some c.part.ensures ∙ sym (at-of_behind c.args.list.now.mappings c.args.page c.in-Some.m.now c.in-Some.ensures (omega arith))

pub returns-clause-end : goal.returns-clause-end
returns-clause-end c =
    c.end.ensures.value ∙ sym (to_its_end c.args.list.now.mappings c.args.page c.in-Some.m.now c.in-Some.ensures (omega arith))

pub returns-clause-behind : goal.returns-clause-behind
returns-clause-behind c =
    let found = found_behind c.args.list.now.mappings c.args.page c.in-Some.m.now c.in-Some.ensures in
    let reaches : c.args.page < end_of c.in-Some.m.now.range = found.reaches in
    omega (arith, reaches, c.end.ensures.value)
