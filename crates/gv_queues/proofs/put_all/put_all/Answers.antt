use Rattle.std.proofs.Common.{◌∙◌, ◌++◌, ◌∷◌, [], ℕ, List, ap, sym, append_assoc, rules}
use Rattle.std.specs.Vec.Iter.{into_iter_items}
use Rattle.gv_types.specs.declared.request.Request.{Request}
use Rattle.gv_queues.proofs.Putting.{put_more}
use Rattle.gv_queues.proofs.put_all.put_all.Goals as goal

pub loop-queue-preserved : goal.loop-queue-preserved
loop-queue-preserved g c =
    let inv = c.loop-queue.invariant in
    let step = c.in-Some.ensures.steps in
    let entry : ℕ × Request = (c.in-Some.queue, c.in-Some.request) in
    record {
      same = search rules;
      counted = c.put.ensures.counts;
      even = search rules;
      done = inv.done ++ entry ∷ [];
      split = append_assoc inv.done (entry ∷ []) (into_iter_items c.next.new.self)
          ∙ ap (λ (l : List (ℕ × Request)). inv.done ++ l) (sym step.0) ∙ inv.split;
      put = put_more inv.done c.in-Some.queue c.in-Some.request c.loop-queue.submitters c.put.new.submitters c.put.ensures.len inv.put c.put.ensures.put;
    }
