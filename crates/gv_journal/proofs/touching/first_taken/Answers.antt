use Rattle.std.proofs.Common.{◌≡◌, ℕ, ◌+◌, suc, drop, sym, ap, ◌∙◌, arith}
use Rattle.gv_journal.specs.Covering.{first_taken}
use Rattle.gv_journal.proofs.Covering.{taken_next}
use Rattle.gv_journal.proofs.touching.first_taken.Goals as goal

pub loop-index-preserved : goal.loop-index-preserved
loop-index-preserved c =
    let next : suc c.loop-index.index ≡ c.loop-index.index + 1 = omega arith in
    c.loop-index.invariant
    ∙ taken_next c.args.done.now c.args.undos.now c.loop-index.index c.args.page c.index-done-index.result (omega arith) c.index-done-index.is (sym c.covers.ensures.value ∙ c.if-covers.false)
    ∙ ap (λ (k : ℕ). first_taken (drop k c.args.done.now) (drop k c.args.undos.now) c.args.page) next
