use Rattle.std.proofs.Common.{sym}
use Rattle.gv_vm.specs.VmInside.{parts_of}
use Rattle.gv_vm.proofs.AddressPasts.{base_bytes}
use Rattle.gv_vm.proofs.VmInvariant.{fits_space}
use Rattle.gv_vm.proofs.vm.Vm.base_at.Goals as goal

pub base_at-requires : goal.base_at-requires
base_at-requires c = fits_space (parts_of c.self.inside) c.self.invariant

pub of-requires-clause-backing : goal.of-requires-clause-backing
of-requires-clause-backing c = base_bytes (parts_of c.self.inside) _ c.in_ok-entry.entry c.self.invariant (sym c.in_ok-entry.ensures)
