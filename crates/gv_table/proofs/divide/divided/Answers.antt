use Rattle.std.proofs.Common.{◌≡◌, ◌-◌, ◌*◌, ◌<◌, ◌≤◌, ℕ, IfSome, Option, Some, None, arith, ap, sym, ◌∙◌, subst}
use Rattle.gv_types.specs.declared.mapping.Entry.{Entry}
use Rattle.gv_types.specs.Mapping.{entry_advanced, HasSmallPages}
use Rattle.gv_table.specs.BufferNames.{IsEncodable}
use Rattle.gv_table.specs.declared.slot.Slot.{Slot}
use Rattle.gv_table.specs.Kinds.{of}
use Rattle.gv_table.specs.Levels.{pages_of}
use Rattle.gv_table.specs.Tree.{is_table, child, leaf, slot_of}
use Rattle.gv_table.proofs.PagesOf.{pages_of-zero, pages_of-below, pages_of-bound, pages_of-some}
use Rattle.gv_table.proofs.Slots.{is_table-Pages, is_table-Table, child-Pages, child-Table, page-other, slot_of-none}
use Rattle.gv_table.proofs.Shapes.{shaped-Pages, shaped-Table, shaped-other}
use Rattle.gv_table.proofs.KindLemmas.{one_of-low}
use Rattle.gv_table.proofs.divide.divided.Goals as goal

-- parts that are encoded of each slot are encoded of each child
parts-are : (entry : Option Entry) (table : Slot) (p q : ℕ) (part : ℕ → Slot) → p ≡ q → ((k : ℕ) → child table k ≡ part k) →
    IfSome entry (λ e. HasSmallPages e.backing (512 * p) → IsEncodable e.backing (512 * p) → (k : ℕ) → k < 512 → part k ≡ leaf (entry_advanced e (k * p))) →
    IfSome entry (λ e. HasSmallPages e.backing (512 * q) → IsEncodable e.backing (512 * q) → (k : ℕ) → k < 512 → child table k ≡ leaf (entry_advanced e (k * q)))
parts-are None table p q part same is parts = tt
parts-are (Some entry) table p q part same is parts = rw (← same) (λ small encoded k below. is k ∙ parts small encoded k below)

pages-are : (entry : Option Entry) (part : ℕ → Slot) →
    IfSome entry (λ e. HasSmallPages e.backing 512 → IsEncodable e.backing 512 → (k : ℕ) → k < 512 → part k ≡ leaf (entry_advanced e k)) →
    IfSome entry (λ e. HasSmallPages e.backing (512 * 1) → IsEncodable e.backing (512 * 1) → (k : ℕ) → k < 512 → part k ≡ leaf (entry_advanced e (k * 1)))
pages-are None part parts = tt
pages-are (Some entry) part parts = λ small encoded k below.
    let one : k * 1 ≡ k = omega arith in
    parts small encoded k below ∙ ap (λ (n : ℕ). leaf (entry_advanced entry n)) (sym one)

pub take_pages-requires : goal.take_pages-requires
take_pages-requires c = λ kind.
    let low : c.args.level - 1 ≡ 0 = omega (arith, c.if-level-eq1.true) in
    subst (λ (n : ℕ). n ≤ of kind c.args.spares.now) (one_of-low kind (c.args.level - 1) low) (c.requires.enough kind)

pub filled-requires-clause-bound : goal.filled-requires-clause-bound
filled-requires-clause-bound c =
    let below-of = pages_of-below c.args.level c.requires.some in
    let all = pages_of-bound c.args.level c.requires.known in
    omega (arith, below-of, all, c.pages_of.ensures.pages)

pub filled-requires-clause-some : goal.filled-requires-clause-some
filled-requires-clause-some c = let some = pages_of-some (c.args.level - 1) in omega (arith, some, c.pages_of.ensures.pages)

pub returns-then-level-eq1-clause-table : goal.returns-then-level-eq1-clause-table
returns-then-level-eq1-clause-table c = is_table-Pages c.filled_pages.result

pub returns-then-level-eq1-clause-shaped : goal.returns-then-level-eq1-clause-shaped
returns-then-level-eq1-clause-shaped c = shaped-Pages c.args.level c.filled_pages.result c.if-level-eq1.true

pub returns-then-level-eq1-clause-leaves : goal.returns-then-level-eq1-clause-leaves
returns-then-level-eq1-clause-leaves c = λ k below. ap is_table (child-Pages c.filled_pages.result k) ∙ page-other _

pub returns-then-level-eq1-clause-empty : goal.returns-then-level-eq1-clause-empty
returns-then-level-eq1-clause-empty c = λ none k below. child-Pages c.filled_pages.result k ∙ ap slot_of (c.filled_pages.ensures.empty none k below) ∙ slot_of-none

pub returns-then-level-eq1-clause-entries : goal.returns-then-level-eq1-clause-entries
returns-then-level-eq1-clause-entries c =
    let low : c.args.level - 1 ≡ 0 = omega (arith, c.if-level-eq1.true) in
    let one : 1 ≡ pages_of (c.args.level - 1) = sym (ap pages_of low ∙ pages_of-zero) in
    parts-are c.args.entry _ 1 (pages_of (c.args.level - 1)) _ one (λ k. child-Pages c.filled_pages.result k) (pages-are c.args.entry _ c.filled_pages.ensures.entries)

pub returns-else-level-eq1-clause-table : goal.returns-else-level-eq1-clause-table
returns-else-level-eq1-clause-table c = is_table-Table c.filled.result

pub returns-else-level-eq1-clause-shaped : goal.returns-else-level-eq1-clause-shaped
returns-else-level-eq1-clause-shaped c =
    shaped-Table c.args.level c.filled.result (omega (arith, c.requires.some)) (λ k below. shaped-other (c.args.level - 1) _ (c.filled.ensures.leaves k below))

pub returns-else-level-eq1-clause-leaves : goal.returns-else-level-eq1-clause-leaves
returns-else-level-eq1-clause-leaves c = λ k below. ap is_table (child-Table c.filled.result k) ∙ c.filled.ensures.leaves k below

pub returns-else-level-eq1-clause-empty : goal.returns-else-level-eq1-clause-empty
returns-else-level-eq1-clause-empty c = λ none k below. child-Table c.filled.result k ∙ c.filled.ensures.empty none k below

pub returns-else-level-eq1-clause-entries : goal.returns-else-level-eq1-clause-entries
returns-else-level-eq1-clause-entries c =
    parts-are c.args.entry _ c.pages_of.result (pages_of (c.args.level - 1)) _ c.pages_of.ensures.pages (λ k. child-Table c.filled.result k) c.filled.ensures.entries
