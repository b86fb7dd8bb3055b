use Rattle.std.proofs.Common.{arith, ◌≡◌, ℕ, true, sym, subst}
use Rattle.gv_types.specs.PageRange.{span, meets}
use Rattle.gv_table.proofs.OneSlotPainted.{row-pages}
use Rattle.gv_table.proofs.fast_row.table_around.Goals as goal

pub part_around-requires-clause-in_space : goal.part_around-requires-clause-in_space
part_around-requires-clause-in_space c = let pages = row-pages c.args.slot_at.level in omega (arith, pages, c.requires.in_space)

pub part_around-requires-clause-met : goal.part_around-requires-clause-met
part_around-requires-clause-met c =
    subst (λ (n : ℕ). meets (span c.args.slot_at.first n) c.args.range ≡ true) (sym (row-pages c.args.slot_at.level)) c.requires.met
