use Rattle.std.proofs.Common.{◌≡◌, drop}
use Rattle.gv_journal.specs.Covering.{first_taken}
use Rattle.gv_journal.proofs.touching.first_taken.Given as goal

abbrev pub invariant-loop-index : goal.invariant-loop-index
invariant-loop-index l = first_taken l.done l.undos l.page ≡ first_taken (drop l.index l.done) (drop l.index l.undos) l.page
