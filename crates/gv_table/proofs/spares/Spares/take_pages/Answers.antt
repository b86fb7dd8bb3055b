use Rattle.std.proofs.Common.{◌<◌, arith, sym, subst}
use Rattle.gv_table.specs.declared.kind_counts.KindCounts.{KindCounts}
use Rattle.gv_table.specs.Kinds.{pages}
use Rattle.gv_table.proofs.spares.Spares.take_pages.Goals as goal

pub take-requires : goal.take-requires
take-requires c =
    let some : 0 < c.args.self.now.pages = omega (arith, c.requires pages) in
    subst (λ (t : KindCounts). 0 < t.pages) (sym c.self.view_is) some
