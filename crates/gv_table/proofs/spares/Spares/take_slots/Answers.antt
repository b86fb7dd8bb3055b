use Rattle.std.proofs.Common.{◌<◌, arith, sym, subst}
use Rattle.gv_table.specs.declared.kind_counts.KindCounts.{KindCounts}
use Rattle.gv_table.specs.Kinds.{slots}
use Rattle.gv_table.proofs.spares.Spares.take_slots.Goals as goal

pub take-requires : goal.take-requires
take-requires c =
    let some : 0 < c.args.self.now.slots = omega (arith, c.requires slots) in
    subst (λ (t : KindCounts). 0 < t.slots) (sym c.self.view_is) some
