use Rattle.std.proofs.Common.{arith, ◌≡◌, ◌≤◌, ◌<◌, get_or, length, sym}
use Rattle.gv_types.specs.PageRange.{end_of}
use Rattle.gv_table.specs.Levels.{slot_pages}
use Rattle.gv_table.proofs.PagesOf.{pages_of-some}
use Rattle.gv_table.proofs.ListPositions.{none-met, neighbour-read, next-read}
use Rattle.gv_table.proofs.deciding_mapping.met_by.Goals as goal

pub returns-in-Some : goal.returns-in-Some
returns-in-Some c =
    neighbour-read c.args.excerpt.now.mappings.now c.args.excerpt.now.range (slot_pages c.args.slot_at.level c.args.slot_at.first) c.args.excerpt.now.position c.requires.laid_out c.requires.position
    c.in-Some.m (pages_of-some c.args.slot_at.level) c.requires.met c.in-Some.ensures

pub returns-then-excerpt-len : goal.returns-then-excerpt-len
returns-then-excerpt-len c =
    none-met c.args.excerpt.now.mappings.now c.args.excerpt.now.range (slot_pages c.args.slot_at.level c.args.slot_at.first) c.args.excerpt.now.position c.requires.laid_out c.requires.position
    c.in_default.ensures (λ inside d. absurd (omega arith))

pub returns-then-slot_at-pages_of : goal.returns-then-slot_at-pages_of
returns-then-slot_at-pages_of c =
    let ms = c.args.excerpt.now.mappings.now in
    let m = c.get-m.result in
    let later : end_of (slot_pages c.args.slot_at.level c.args.slot_at.first) ≤ m.range.first = omega arith in
    none-met ms c.args.excerpt.now.range (slot_pages c.args.slot_at.level c.args.slot_at.first) c.args.excerpt.now.position c.requires.laid_out c.requires.position
    c.in_default.ensures
    (λ inside d.
    let same : get_or ms c.args.excerpt.now.position d ≡ m = sym (c.get-m.ensures d) in
    rw same later)

pub returns : goal.returns
returns c =
    let ms = c.args.excerpt.now.mappings.now in
    let m = c.get-m.result in
    let inside : c.args.excerpt.now.position < length ms = (let within = c.requires.position.within in omega (arith, within)) in
    let begun : m.range.first < end_of (slot_pages c.args.slot_at.level c.args.slot_at.first) = omega arith in
    next-read ms c.args.excerpt.now.range (slot_pages c.args.slot_at.level c.args.slot_at.first) c.args.excerpt.now.position c.requires.laid_out c.requires.position
    m (pages_of-some c.args.slot_at.level) inside (c.get-m.ensures m) begun
