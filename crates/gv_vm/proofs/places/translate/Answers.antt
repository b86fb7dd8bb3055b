use Rattle.std.proofs.Common.{sym}
use Rattle.gv_vm.proofs.BytesFit.{BytesFit-held}
use Rattle.gv_vm.proofs.places.translate.Goals as goal

pub of-requires-clause-backing : goal.of-requires-clause-backing
of-requires-clause-backing c = BytesFit-held c.args.space.now _ c.in_ok-entry.entry c.list-list.ensures.space (sym c.in_ok-entry.ensures.value)
