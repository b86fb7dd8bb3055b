use Rattle.std.proofs.Common.{rules, ◌≡◌, ◌∙◌, ℕ, ◌+◌, ◌-◌, ◌≤◌, List, [], ◌∷◌, ◌++◌, length, vec_len, sym, ap, subst, arith}
use Rattle.std.proofs.lemmas.List.{length-append}
use Rattle.gv_types.specs.declared.request.Request.{Request}
use Rattle.gv_queues.specs.Taking.{TakerState}
use Rattle.gv_queues.specs.Working.{AreLeft, RaisedJustOwed}
use Rattle.gv_queues.proofs.Owed.{left_more, owed_same}
use Rattle.gv_queues.proofs.worker_end.WorkerEnd.drained.Goals as goal

pub loop-index-preserved : goal.loop-index-preserved
loop-index-preserved g c =
    let was = c.loop-index.invariant in
    let took = c.in-Some.ensures.taken in
    let request : Request = c.in-Some.request.request in
    let taken : List Request = c.loop-index.taker.taken in let gave = c.self.inside.gave.items in
    let longer : c.take.new.self.taken ≡ taken ++ request ∷ [] = ap (λ (t : TakerState). t.taken) took.taken in
    let grown : c.push_reserved.new.self.items ≡ c.loop-index.left.items ++ request ∷ [] =
    c.push_reserved.ensures.items ∙ ap (λ (r : Request). c.loop-index.left.items ++ r ∷ []) c.into_request.ensures in
    let taken_len : length c.take.new.self.taken ≡ length taken + 1 = ap (λ (l : List Request). length l) longer ∙ length-append taken (request ∷ []) in
    let count = was.5 in let room = was.4 in let len = c.push_reserved.ensures.len in let capacity = c.push_reserved.ensures.capacity in
    let below = c.loop-index-test.true in (
      search rules,
      search rules,
      subst (λ (l : List Request). AreLeft l gave c.push_reserved.new.self.items) (sym longer)
          (subst (λ (l : List Request). AreLeft (taken ++ request ∷ []) gave l) (sym grown) (left_more taken gave c.loop-index.left.items request was.2)),
      subst (λ (l : List Request). RaisedJustOwed gave l c.self.inside.seat) (sym longer) (owed_same gave taken request c.self.inside.seat was.2.few was.3),
      subst (λ (n : ℕ). vec_len c.push_reserved.new.self + (c.capacity.result - c.len-3.result - (c.loop-index.index + 1)) ≤ n) (sym capacity) (omega (arith, len, room, below)),
      omega (arith, taken_len, count),
    )
