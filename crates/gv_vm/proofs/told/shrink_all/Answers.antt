use Rattle.std.proofs.Common.{◌∙◌, ap}
use Rattle.gv_vm.proofs.OutcomeLists.{same_lists, same_forgotten, list_of, gone_of}
use Rattle.gv_vm.proofs.told.shrink_all.Goals as goal

pub loop-queue-preserved : goal.loop-queue-preserved
loop-queue-preserved c =
    let l = c.loop-queue in
    record {
      list =
          same_lists l.told.items l.queue c.shrink.new.self c.index_mut.result.now (c.shrink.ensures.list ∙ ap list_of c.index_mut.ensures.value)
          ∙ l.invariant.list;
      forgotten =
          same_forgotten l.told.items l.queue c.shrink.new.self c.index_mut.result.now (c.shrink.ensures.forgotten ∙ ap gone_of c.index_mut.ensures.value)
          ∙ l.invariant.forgotten;
    }
