use Rattle.std.proofs.Common.{◌≡◌, ◌∙◌, List, ℕ, ◌++◌, ◌+◌, ap, sym, append_assoc, string_bytes, take, get_or}
use Rattle.gv_queues.specs.declared.finishing.QueueEnd.{QueueEnd}
use Rattle.gv_session.proofs.NumberedLemmas.{numbered_lines-more}
use Rattle.gv_threads.specs.Ending.{line_of_end, end_lines}
use Rattle.gv_threads.proofs.ends.push_ends.Goals as goal

pub loop-queue-preserved : goal.loop-queue-preserved
loop-queue-preserved c =
    let n : ℕ = c.loop-queue.queue in
    let before : List ℕ = string_bytes c.args.text.now in
    let lines : List ℕ = end_lines (take n c.args.ends.now) in
    let here : List ℕ = line_of_end n c.index-ends-queue.result in
    let same : line_of_end n (get_or c.args.ends.now n c.index-ends-queue.result) ≡ here = ap (λ (e : QueueEnd). line_of_end n e) (sym c.index-ends-queue.is) in
    let more : end_lines (take (n + 1) c.args.ends.now) ≡ lines ++ here =
    numbered_lines-more line_of_end n c.args.ends.now c.index-ends-queue.result c.loop-queue-test.true ∙ ap (λ (bytes : List ℕ). lines ++ bytes) same in
    c.in_ok-push_end.ensures ∙ ap (λ (bytes : List ℕ). bytes ++ here) c.loop-queue.invariant ∙ append_assoc before lines here
    ∙ ap (λ (bytes : List ℕ). before ++ bytes) (sym more)
