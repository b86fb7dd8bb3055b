-- A slot has fewer tables than pages.
use Rattle.std.proofs.Common.{◌≡◌, ℕ, zero, suc, ◌+◌, ◌*◌, ◌≤◌, Bool, true, false, nat_eq, arith, if◌then◌else◌}
use Rattle.gv_table.specs.declared.slot.Slot.{Slot}
use Rattle.gv_table.specs.Levels.{pages_of}
use Rattle.gv_table.specs.Sums.{sum_below}
use Rattle.gv_table.specs.Tree.{is_table, child}
use Rattle.gv_table.specs.Counts.{tables_at, one_if}
use Rattle.gv_table.proofs.Sums.{sum_below-few}
use Rattle.gv_table.proofs.TablesInSlots.{one_if-small}
use Rattle.gv_table.proofs.PagesOf.{pages_of-more, pages_of-some}

few-by : (b : Bool) (one s p n : ℕ) → one ≤ 1 → s + 512 ≤ 512 * p → n ≡ 512 * p → (if b then one + s else 0) + 1 ≤ n
few-by true one s p n small bound e = omega (arith, e, small, bound)
few-by false one s p n small bound e = omega (arith, e, bound)

pub tables_at-few : (target level : ℕ) (slot : Slot) → tables_at target level slot + 1 ≤ pages_of level
unfolding tables_at
tables_at-few target zero slot = pages_of-some 0
tables_at-few target (suc level) slot =
    few-by (is_table slot) (one_if (nat_eq target level)) (sum_below 512 (λ k. tables_at target level (child slot k))) (pages_of level) (pages_of (suc level))
    (one_if-small (nat_eq target level))
    (sum_below-few 512 (λ k. tables_at target level (child slot k)) (pages_of level) (λ k below. tables_at-few target level (child slot k)))
    (pages_of-more level)
