use Rattle.std.proofs.Common.{arith}
use Rattle.gv_table.specs.Levels.{slot_pages}
use Rattle.gv_table.proofs.RangesMeet.{lt-true, meets-from, lies-not-low, lies-not-high}
use Rattle.gv_table.proofs.fast_path.divides.Goals as goal

pub returns-then-first-clause-met : goal.returns-then-first-clause-met
returns-then-first-clause-met c = λ done. meets-from c.args.some (slot_pages c.args.level c.args.first) (omega arith) (omega arith)

pub returns-then-first-clause-not_whole : goal.returns-then-first-clause-not_whole
returns-then-first-clause-not_whole c = λ done. lies-not-low (slot_pages c.args.level c.args.first) c.args.some (omega arith)

pub returns-clause-met : goal.returns-clause-met
returns-clause-met c = λ done. meets-from c.args.some (slot_pages c.args.level c.args.first) (omega arith) (omega arith)

pub returns-clause-not_whole : goal.returns-clause-not_whole
returns-clause-not_whole c = λ done.
    let less = lt-true _ _ done in
    lies-not-high (slot_pages c.args.level c.args.first) c.args.some (omega (arith, less))
