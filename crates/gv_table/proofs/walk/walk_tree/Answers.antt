use Rattle.std.proofs.Common.{rules, arith, ◌≡◌, ◌+◌, ◌-◌, ◌*◌, ◌/◌, ◌<◌, ℕ, false, List, length, slice_index_or, sym, ap, ◌∙◌, subst}
use Rattle.std.proofs.lemmas.List.{get_or_default}
use Rattle.gv_table.specs.BufferNames.{PageSlot}
use Rattle.gv_table.specs.declared.slot.Slot.{Slot}
use Rattle.gv_table.specs.declared.slot.Slot.TheVariants.{Empty}
use Rattle.gv_table.specs.Levels.{pages_of}
use Rattle.gv_table.specs.Named.{named}
use Rattle.gv_table.proofs.Named.{is_table-named, child-named}
use Rattle.gv_table.specs.Tree.{IsTreeOf, is_table, child, slot_of, no_page}
use Rattle.gv_table.proofs.PagesOf.{pages_of-top, pages_of-below, pages_of-some, index-below, index-within}
use Rattle.gv_table.proofs.Slots.{is_table-Table, is_table-Pages, child-Table, child-Pages, no-table}
use Rattle.gv_table.proofs.Trees.{read-parts, page-no-table-slot}
use Rattle.gv_table.proofs.walk.walk_tree.Goals as goal
use Rattle.gv_table.proofs.walk.walk_tree.Goals.{else-loop-level-test, then-loop-level-test+in-Empty, then-loop-level-test+in-Empty-2, then-loop-level-test+in-Empty-3}

pub loop-level-init : goal.loop-level-init
loop-level-init c =
    let all = pages_of-top in
    let none : c.args.page - c.args.page ≡ 0 = omega arith in
    record {
      known = omega arith;
      not_past = omega arith;
      within = omega (arith, all, c.requires);
      tree = λ ms laid tree. rw none tree;
    }

pub bounds-deref-index : goal.bounds-deref-index
bounds-deref-index c =
    let below-of = pages_of-below c.loop-level.level c.loop-level-test.true in
    let some = pages_of-some (c.loop-level.level - 1) in
    let i = index-below c.loop-level.distance (pages_of (c.loop-level.level - 1)) some (omega (arith, below-of, c.loop-level.invariant.within)) in
    omega (arith, i, c.slots_in-index.ensures)

pub listed : goal.listed
listed c =
    let long : length c.deref.result.now ≡ 512 = search rules in
    let below-of = pages_of-below c.loop-level.level c.loop-level-test.true in
    let some = pages_of-some (c.loop-level.level - 1) in
    let i = index-below c.loop-level.distance (pages_of (c.loop-level.level - 1)) some (omega (arith, below-of, c.loop-level.invariant.within)) in
    omega (arith, i, long, c.slots_in-index.ensures)

pub loop-level-preserved : goal.loop-level-preserved
loop-level-preserved c =
    let inv = c.loop-level.invariant in
    let low : ℕ = c.loop-level.level - 1 in
    let pages = c.pages_of.ensures.pages in
    let below-of = pages_of-below c.loop-level.level c.loop-level-test.true in
    let some = pages_of-some (c.loop-level.level - 1) in
    let k : ℕ = c.slots_in-index.result in
    let is : c.slots_in-index.result ≡ c.loop-level.distance / pages_of (c.loop-level.level - 1) = c.slots_in-index.ensures in
    let below = index-below c.loop-level.distance (pages_of (c.loop-level.level - 1)) some (omega (arith, below-of, inv.within)) in
    let below' : c.slots_in-index.result < 512 = omega (arith, is, below) in
    let i = index-within c.loop-level.distance (pages_of (c.loop-level.level - 1)) some in
    let taken : c.slots_in-index.result * c.pages_of.result ≡ c.loop-level.distance / pages_of (c.loop-level.level - 1) * pages_of (c.loop-level.level - 1) =
    ap (λ (n : ℕ). n * c.pages_of.result) is ∙ ap (λ (n : ℕ). c.loop-level.distance / pages_of (c.loop-level.level - 1) * n) pages in
    let start : c.args.page - (c.loop-level.distance - c.slots_in-index.result * c.pages_of.result) ≡
    c.args.page - c.loop-level.distance + c.slots_in-index.result * pages_of (c.loop-level.level - 1) =
    (let same = ap (λ (n : ℕ). c.slots_in-index.result * n) pages in omega (arith, taken, same, i, inv.not_past)) in
    let long : length c.deref.result.now ≡ 512 = search rules in
    let read : child c.loop-level.slot.now k ≡ slice_index_or c.deref.result.now k c.index-deref-index.result =
    ap (λ (s : Slot). child s k) c.in-Table.is ∙ child-Table c.in-Table.slots k ∙
    ap (λ (l : List Slot). slice_index_or l k Empty) (sym c.deref.ensures) ∙
    get_or_default c.deref.result.now k Empty c.index-deref-index.result (omega (arith, below', long)) in
    record {
      known = omega (arith, inv.known);
      not_past = omega (arith, inv.not_past);
      within = omega (arith, taken, i);
      tree = λ ms laid tree.
          subst (λ (n : ℕ). IsTreeOf ms (c.loop-level.level - 1) n (named c.args.names.now (slice_index_or c.deref.result.now k c.index-deref-index.result))) (sym start)
          (subst (λ (s : Slot). IsTreeOf ms (c.loop-level.level - 1) (c.args.page - c.loop-level.distance + k * pages_of (c.loop-level.level - 1)) s)
          (child-named c.args.names.now c.loop-level.slot.now k ∙ ap (named c.args.names.now) read)
          (read-parts ms c.loop-level.level (c.args.page - c.loop-level.distance) (named c.args.names.now c.loop-level.slot.now) c.loop-level-test.true (inv.tree ms laid tree)
          (is_table-named c.args.names.now c.loop-level.slot.now ∙ ap is_table c.in-Table.is ∙ is_table-Table c.in-Table.slots) k below'));
    }

pub held_at-requires : goal.held_at-requires
held_at-requires c =
    let below-of = pages_of-below c.loop-level.level c.loop-level-test.true in
    let some = pages_of-some (c.loop-level.level - 1) in
    let i = index-below c.loop-level.distance (pages_of (c.loop-level.level - 1)) some (omega (arith, below-of, c.loop-level.invariant.within)) in
    omega (arith, i, c.slots_in-index-in-Pages.ensures)

-- the slots of a table of pages are the last
pub returns-in-Pages : goal.returns-in-Pages
returns-in-Pages c = λ ms laid tree.
    let inv = c.loop-level.invariant in
    let pages = c.pages_of-in-Pages.ensures.pages in
    let below-of = pages_of-below c.loop-level.level c.loop-level-test.true in
    let some = pages_of-some (c.loop-level.level - 1) in
    let k : ℕ = c.slots_in-index-in-Pages.result in
    let is : c.slots_in-index-in-Pages.result ≡ c.loop-level.distance / pages_of (c.loop-level.level - 1) = c.slots_in-index-in-Pages.ensures in
    let below = index-below c.loop-level.distance (pages_of (c.loop-level.level - 1)) some (omega (arith, below-of, inv.within)) in
    let below' : c.slots_in-index-in-Pages.result < 512 = omega (arith, is, below) in
    let i = index-within c.loop-level.distance (pages_of (c.loop-level.level - 1)) some in
    let taken : c.slots_in-index-in-Pages.result * c.pages_of-in-Pages.result ≡ c.loop-level.distance / pages_of (c.loop-level.level - 1) * pages_of (c.loop-level.level - 1) =
    ap (λ (n : ℕ). n * c.pages_of-in-Pages.result) is ∙ ap (λ (n : ℕ). c.loop-level.distance / pages_of (c.loop-level.level - 1) * n) pages in
    let same = ap (λ (n : ℕ). c.slots_in-index-in-Pages.result * n) pages in
    let read : child c.loop-level.slot.now k ≡ slot_of (slice_index_or c.deref-in-Pages.result.now.0 k no_page) =
    ap (λ (s : Slot). child s k) c.in-Pages.is ∙ child-Pages c.in-Pages.table k ∙
    ap (λ (v : List PageSlot × Slot). slot_of (slice_index_or v.0 k no_page)) (sym c.deref-in-Pages.ensures) in
    let part = read-parts ms c.loop-level.level (c.args.page - c.loop-level.distance) (named c.args.names.now c.loop-level.slot.now) c.loop-level-test.true (inv.tree ms laid tree)
    (is_table-named c.args.names.now c.loop-level.slot.now ∙ ap is_table c.in-Pages.is ∙ is_table-Pages c.in-Pages.table) k below' in
    let found = c.held_at.ensures ms (c.loop-level.level - 1) (c.args.page - c.loop-level.distance + k * pages_of (c.loop-level.level - 1)) laid
    (subst (λ (s : Slot). IsTreeOf ms (c.loop-level.level - 1) (c.args.page - c.loop-level.distance + k * pages_of (c.loop-level.level - 1)) s)
    (child-named c.args.names.now c.loop-level.slot.now k ∙ ap (named c.args.names.now) read) part) (omega (arith, taken, i)) in
    let back : c.args.page - c.loop-level.distance + c.slots_in-index-in-Pages.result * pages_of (c.loop-level.level - 1) +
    (c.loop-level.distance - c.slots_in-index-in-Pages.result * c.pages_of-in-Pages.result) ≡ c.args.page = omega (arith, taken, same, i, inv.not_past) in
    rw back at found

pub returns : goal.returns
returns c = λ ms laid tree.
    let here = c.loop-level.invariant.tree ms laid tree in
    let other : is_table c.loop-level.slot.now ≡ false = elim c.loop-level-test.branch [
      | else-loop-level-test w ↦ (
          let zero : c.loop-level.level ≡ 0 = omega (arith, w.loop-level-test.false) in
          sym (is_table-named c.args.names.now c.loop-level.slot.now) ∙ page-no-table-slot ms (c.args.page - c.loop-level.distance) (named c.args.names.now c.loop-level.slot.now)
          (subst (λ (n : ℕ). IsTreeOf ms n (c.args.page - c.loop-level.distance) (named c.args.names.now c.loop-level.slot.now)) zero here))
      | then-loop-level-test+in-Empty w ↦ no-table c.loop-level.slot.now w.in-Empty.is
      | then-loop-level-test+in-Empty-2 w ↦ no-table c.loop-level.slot.now w.in-Empty.is
      | then-loop-level-test+in-Empty-3 w ↦ no-table c.loop-level.slot.now w.in-Empty.is
    ] in
    let found = c.held_by.ensures ms c.loop-level.level (c.args.page - c.loop-level.distance) laid here other c.loop-level.invariant.within in
    let back : c.args.page - c.loop-level.distance + c.loop-level.distance ≡ c.args.page = omega (arith, c.loop-level.invariant.not_past) in
    rw back at found
