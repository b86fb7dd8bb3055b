use Rattle.std.proofs.Common.{◌∙◌, ◌++◌, ◌∷◌, [], ap}
use Rattle.gv_vm.specs.QueueOutcomes.{QueueOutcomesState}
use Rattle.gv_vm.proofs.OutcomeLists.{outcome_there, same_forgotten, gone_of}
use Rattle.gv_vm.proofs.told.tell.Goals as goal

pub returns-clause-list : goal.returns-clause-list
returns-clause-list c =
    outcome_there c.args.told.now.items c.args.queue c.push.new.self c.index_mut.result.now c.args.outcome c.requires.queue
    (c.push.ensures.list ∙ ap (λ (t : QueueOutcomesState). t.list ++ c.args.outcome ∷ []) c.index_mut.ensures.value)

pub returns-clause-forgotten : goal.returns-clause-forgotten
returns-clause-forgotten c =
    same_forgotten c.args.told.now.items c.args.queue c.push.new.self c.index_mut.result.now (c.push.ensures.forgotten ∙ ap gone_of c.index_mut.ensures.value)
