use Rattle.std.proofs.Common.{◌∙◌, ap}
use Rattle.gv_vm.proofs.OutcomeLists.{same_lists, same_forgotten, list_of, gone_of}
use Rattle.gv_vm.proofs.told.prepare.Goals as goal

pub returns-in_err-reserve-clause-same : goal.returns-in_err-reserve-clause-same
returns-in_err-reserve-clause-same c =
    same_lists c.args.told.now.items c.args.queue c.reserve.new.self c.index_mut.result.now (c.in_err-reserve.ensures.list ∙ ap list_of c.index_mut.ensures.value)

pub returns-in_err-reserve-clause-forgotten : goal.returns-in_err-reserve-clause-forgotten
returns-in_err-reserve-clause-forgotten c =
    same_forgotten c.args.told.now.items c.args.queue c.reserve.new.self c.index_mut.result.now (c.in_err-reserve.ensures.forgotten ∙ ap gone_of c.index_mut.ensures.value)

pub returns-clause-same : goal.returns-clause-same
returns-clause-same c =
    same_lists c.args.told.now.items c.args.queue c.reserve.new.self c.index_mut.result.now (c.in_ok-reserve.ensures.list ∙ ap list_of c.index_mut.ensures.value)

pub returns-clause-forgotten : goal.returns-clause-forgotten
returns-clause-forgotten c =
    same_forgotten c.args.told.now.items c.args.queue c.reserve.new.self c.index_mut.result.now (c.in_ok-reserve.ensures.forgotten ∙ ap gone_of c.index_mut.ensures.value)
