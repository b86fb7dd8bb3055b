use Rattle.std.proofs.Common.{◌∙◌, Some, sym, ap}
use Rattle.gv_lines.proofs.AtMostOneQueue.{read_to_other, read_to_queue, read_to_second}
use Rattle.gv_lines.proofs.clauses.ClauseList.from_parts.Goals as goal

pub returns-then-has_queue : goal.returns-then-has_queue
returns-then-has_queue c =
    let is = sym c.from_words.ensures ∙ c.in_ok-from_words.was ∙ ap Some c.in-Queue.is in
    sym (read_to_second c.args.parts c.loop-words.left c.take_clause.new.self c.in-Some.words c.in-Queue.queue c.loop-words.has_queue c.loop-words.invariant c.in-Some.ensures is c.if-has_queue.true)

pub loop-words-preserved-in-Queue : goal.loop-words-preserved-in-Queue
loop-words-preserved-in-Queue c =
    let is = sym c.from_words.ensures ∙ c.in_ok-from_words.was ∙ ap Some c.in-Queue.is in
    read_to_queue c.args.parts c.loop-words.left c.take_clause.new.self c.in-Some.words c.in-Queue.queue c.loop-words.has_queue c.loop-words.invariant c.in-Some.ensures is c.if-has_queue.false

pub loop-words-preserved : goal.loop-words-preserved
loop-words-preserved c =
    let is = sym c.from_words.ensures ∙ c.in_ok-from_words.was in
    read_to_other c.args.parts c.loop-words.left c.take_clause.new.self c.in-Some.words c.in_ok-from_words.field-0 c.loop-words.has_queue c.loop-words.invariant c.in-Some.ensures is c.in_default-2.not-Queue
