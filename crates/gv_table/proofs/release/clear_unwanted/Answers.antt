use Rattle.std.proofs.Common.{arith, ◌≡◌, ◌*◌, ℕ, IsTrue, subst, ap, ◌∙◌}
use Rattle.gv_types.specs.PageRange.{span, meets}
use Rattle.gv_table.specs.Levels.{pages_of}
use Rattle.gv_table.proofs.PagesOf.{pages_of-more}
use Rattle.gv_table.proofs.release.clear_unwanted.Goals as goal

pub slots_met-low-requires-clause-in_space : goal.slots_met-low-requires-clause-in_space
slots_met-low-requires-clause-in_space c =
    let whole : pages_of c.args.slot_at.level ≡ 512 * pages_of 0 = ap pages_of c.if-slot_at-eq1.true ∙ pages_of-more 0 in
    omega (arith, whole, c.requires.in_space)

pub slots_met-low-requires-clause-met : goal.slots_met-low-requires-clause-met
slots_met-low-requires-clause-met c =
    let whole : pages_of c.args.slot_at.level ≡ 512 * pages_of 0 = ap pages_of c.if-slot_at-eq1.true ∙ pages_of-more 0 in
    subst (λ (n : ℕ). IsTrue (meets (span c.args.slot_at.first n) c.args.range)) whole c.requires.met
