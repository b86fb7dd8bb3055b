use Rattle.std.proofs.Common.{arith}
use Rattle.gv_table.specs.Kinds.{pages, slots}
use Rattle.gv_table.proofs.kind_counts.KindCounts.with.Goals as goal

pub overflow_add-result : goal.overflow_add-result
overflow_add-result c = omega (arith, c.requires pages)

pub overflow_add-result-2 : goal.overflow_add-result-2
overflow_add-result-2 c = omega (arith, c.requires slots)
