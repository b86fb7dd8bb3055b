use Rattle.std.proofs.Common.{subst}
use Rattle.std.specs.Prelude.{OnOk}
use Rattle.gv_journal.specs.Binding.{IsRewound}
use Rattle.gv_vm.specs.State.{VmState, roomless}
use Rattle.gv_vm.specs.VmInside.{parts_of}
use Rattle.gv_vm.proofs.VmInvariant.{IsVm-rewind}
use Rattle.gv_vm.proofs.Roomless.{rewound_if}
use Rattle.gv_vm.proofs.vm.Vm.rewind.Goals as goal

pub invariant_of-self : goal.invariant_of-self
invariant_of-self c =
    IsVm-rewind (parts_of c.self.inside) c.rewind-rewound.new.space c.rewind-rewound.new.self c.rewind-rewound.result c.self.invariant c.rewind-rewound.ensures.item
    c.rewind-rewound.ensures.space_unchanged c.rewind-rewound.ensures.unchanged c.rewind-rewound.ensures.fits c.list-list.ensures.space

pub returns-clause-item : goal.returns-clause-item
returns-clause-item c =
    subst (λ (v : VmState). OnOk c.rewind-rewound.result (IsRewound v.space (roomless c.rewind-rewound.new.space) v.journal c.rewind-rewound.new.self)) c.self.view_is
    (rewound_if c.self.inside.space c.rewind-rewound.new.space c.self.inside.journal c.rewind-rewound.new.self c.rewind-rewound.result c.rewind-rewound.ensures.item)
