use Rattle.std.proofs.Common.{◌≡◌, ◌≤◌, ◌-◌, take}
use Rattle.std.specs.List.{filter_map}
use Rattle.gv_journal.specs.Items.{entries, next}
use Rattle.gv_vm.proofs.AddressPasts.{saying}
use Rattle.gv_vm.proofs.vm.Vm.past.Given as goal

abbrev pub invariant-loop-number : goal.invariant-loop-number
invariant-loop-number l = record {
  held : l.self.journal.first ≤ l.number;
  within : l.number ≤ next l.self.journal;
  items : l.list.items ≡ filter_map (saying l.self.journal l.addr) (take (next l.self.journal - l.number) (entries l.self.journal));
}
