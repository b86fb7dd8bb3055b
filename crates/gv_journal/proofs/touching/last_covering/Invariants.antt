use Rattle.std.proofs.Common.{◌≡◌, take, reverse}
use Rattle.std.specs.List.{find}
use Rattle.gv_journal.proofs.Covering.{covering}
use Rattle.gv_journal.proofs.touching.last_covering.Given as goal

abbrev pub invariant-loop-index : goal.invariant-loop-index
invariant-loop-index l =
    find (covering l.page) (reverse l.done) ≡ find (covering l.page) (reverse (take l.index l.done))
