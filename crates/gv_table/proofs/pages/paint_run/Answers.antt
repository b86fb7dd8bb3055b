use Rattle.std.proofs.Common.{arith, ◌≡◌, ◌+◌, ◌-◌, ◌<◌, ◌≤◌, ◌∙◌, ap, length, ℕ, None, Some}
use Rattle.gv_types.specs.PageRange.{end_of}
use Rattle.gv_types.specs.Mapping.{part, entry_advanced, IsMapping}
use Rattle.gv_types.specs.declared.mapping.Entry.{Entry}
use Rattle.gv_types.specs.declared.mapping.Mapping.{Mapping}
use Rattle.gv_ranges.proofs.LookupLemmas.{is_mapping}
use Rattle.gv_ranges.proofs.TakeDropLemmas.{All-drop_at}
use Rattle.gv_table.specs.BufferNames.{IsEncodable}
use Rattle.gv_table.specs.Tree.{leaf, slot_of}
use Rattle.std.proofs.lemmas.List.Elements.{All-get_or}
use Rattle.gv_table.proofs.RunOfPages.{run-past, run-gap, run-mapping, part-further, part-small, part-encoded}
use Rattle.gv_table.proofs.Slots.{slot_of-none}
use Rattle.gv_table.proofs.RangesMeet.{covers-from}
use Rattle.gv_table.proofs.Trees.{IsTreeOf-page}
use Rattle.gv_table.proofs.pages.paint_run.Goals as goal

pub returns-then-position-len-clause-painted : goal.returns-then-position-len-clause-painted
returns-then-position-len-clause-painted c = λ k up less.
    IsTreeOf-page c.args.mappings.now (c.args.first + k) None _
    (run-past c.args.mappings.now (c.args.first + c.args.run.start) (c.args.first + k) c.args.position c.requires.position (omega arith) (omega arith))
    (ap slot_of (c.empty.ensures.emptied k up less) ∙ slot_of-none)

pub returns-then-page-first-clause-painted : goal.returns-then-page-first-clause-painted
returns-then-page-first-clause-painted c = λ k up less.
    let ms = c.args.mappings.now in
    let m = c.get-m.result in
    let inside : c.args.position < length ms = (let within = c.requires.position.within in omega (arith, within)) in
    let before : c.args.first + k < m.range.first = omega arith in
    IsTreeOf-page ms (c.args.first + k) None _
    (run-gap ms (c.args.first + c.args.run.start) (c.args.first + k) c.args.position c.requires.position (omega arith) m c.requires.laid_out inside
    (rw (← c.get-m.ensures m) before))
    (ap slot_of (c.empty-then-page-first.ensures.emptied k up less) ∙ slot_of-none)

pub overflow_sub-end : goal.overflow_sub-end
overflow_sub-end c =
    let ms = c.args.mappings.now in
    let m = c.get-m.result in
    let inside : c.args.position < length ms = (let within = c.requires.position.within in omega (arith, within)) in
    let past = All-drop_at (λ (n : Mapping). c.args.first + c.args.run.start < end_of n.range) ms c.args.position m inside c.requires.position.not_ended in
    let past' : c.args.first + c.args.run.start < end_of m.range = rw (← c.get-m.ensures m) at past in
    omega (arith, past')

pub part-requires-clause-mapping : goal.part-requires-clause-mapping
part-requires-clause-mapping c =
    let ms = c.args.mappings.now in
    let m = c.get-m.result in
    let inside : c.args.position < length ms = (let within = c.requires.position.within in omega (arith, within)) in
    rw (c.get-m.ensures m) (is_mapping ms 0 c.args.position m c.requires.laid_out inside)

pub part-requires-clause-covered : goal.part-requires-clause-covered
part-requires-clause-covered c =
    let ms = c.args.mappings.now in
    let m = c.get-m.result in
    let inside : c.args.position < length ms = (let within = c.requires.position.within in omega (arith, within)) in
    let past = All-drop_at (λ (n : Mapping). c.args.first + c.args.run.start < end_of n.range) ms c.args.position m inside c.requires.position.not_ended in
    covers-from m.range (c.args.first + c.args.run.start) (omega arith) (rw (← c.get-m.ensures m) at past)

pub fill-requires-clause-ordered : goal.fill-requires-clause-ordered
fill-requires-clause-ordered c =
    let ms = c.args.mappings.now in
    let m = c.get-m.result in
    let inside : c.args.position < length ms = (let within = c.requires.position.within in omega (arith, within)) in
    let past = All-drop_at (λ (n : Mapping). c.args.first + c.args.run.start < end_of n.range) ms c.args.position m inside c.requires.position.not_ended in
    let past' : c.args.first + c.args.run.start < end_of m.range = rw (← c.get-m.ensures m) at past in
    omega (arith, past')

pub returns-clause-further : goal.returns-clause-further
returns-clause-further c =
    let ms = c.args.mappings.now in
    let m = c.get-m.result in
    let inside : c.args.position < length ms = (let within = c.requires.position.within in omega (arith, within)) in
    let past = All-drop_at (λ (n : Mapping). c.args.first + c.args.run.start < end_of n.range) ms c.args.position m inside c.requires.position.not_ended in
    let past' : c.args.first + c.args.run.start < end_of m.range = rw (← c.get-m.ensures m) at past in
    omega (arith, past')

pub returns-clause-painted : goal.returns-clause-painted
returns-clause-painted c = λ k up less.
    let ms = c.args.mappings.now in
    let m = c.get-m.result in
    let page : ℕ = c.args.first + c.args.run.start in
    let later : ℕ = c.args.first + k in
    let inside : c.args.position < length ms = (let within = c.requires.position.within in omega (arith, within)) in
    let begun : m.range.first ≤ page = omega arith in
    let begun' : m.range.first ≤ later = omega arith in
    let before : later < end_of m.range = omega arith in
    let found = run-mapping ms page later c.args.position c.requires.position (omega arith) m inside (rw (← c.get-m.ensures m) begun') (rw (← c.get-m.ensures m) before) in
    let more : page + (k - c.args.run.start) ≡ later = omega arith in
    let entry : entry_advanced c.part.result (k - c.args.run.start) ≡ part m later =
    ap (λ (e : Entry). entry_advanced e (k - c.args.run.start)) c.part.ensures ∙ part-further m page (k - c.args.run.start) begun ∙ ap (λ (n : ℕ). part m n) more in
    let is : IsMapping m = rw (c.get-m.ensures m) (is_mapping ms 0 c.args.position m c.requires.laid_out inside) in
    let past = All-drop_at (λ (n : Mapping). page < end_of n.range) ms c.args.position m inside c.requires.position.not_ended in
    let past' : c.args.first + c.args.run.start < end_of m.range = rw (← c.get-m.ensures m) at past in
    let n : ℕ = c.min-end-2.result - c.args.run.start in
    let within : c.args.first + c.args.run.start + n ≤ end_of m.range = omega (arith, past') in
    let small = part-small m page n is begun within in
    let one : IsEncodable m.backing m.range.count = rw (c.get-m.ensures m) (All-get_or (λ (x : Mapping). IsEncodable x.backing x.range.count) ms c.args.position m inside c.requires.encoded) in
    let said = part-encoded m page n one begun within in
    IsTreeOf-page ms later (Some (part m later)) _ (rw (← c.get-m.ensures m) at found) (c.fill.ensures.filled (rw c.part.ensures small) (rw c.part.ensures said) k up less ∙ ap leaf entry)
