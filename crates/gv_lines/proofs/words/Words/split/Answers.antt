use Rattle.std.proofs.Common.{◌≡◌, ◌∙◌, true, false, arith, rules, length, ap, sym}
use Rattle.std.proofs.lemmas.List.{length-take, length-append}
use Rattle.gv_lines.specs.Words.{words, is_separator, clauses}
use Rattle.gv_lines.proofs.FirstSeparator.{cut_more, cut_found, cut_end}
use Rattle.gv_lines.proofs.words.Words.split.Goals as goal

pub returns-then-eq : goal.returns-then-eq
returns-then-eq c =
    let found : is_separator c.in-Some.word.now ≡ true = search rules in
    rw c.self.view_is at (cut_found c.self.inside.limit c.loop-word.before (words c.self.inside.rest.now) c.loop-word.left c.take_word.new.self c.in-Some.word.now c.loop-word.invariant c.in-Some.ensures found)

pub overflow_add-before : goal.overflow_add-before
overflow_add-before c =
    let counted = c.loop-word.invariant.counted in
    let all = ap length c.loop-word.invariant.whole_is in
    let split = length-append c.loop-word.invariant.front c.loop-word.left in
    let some = ap length c.in-Some.ensures in
    let most = length-take c.self.inside.limit (words c.self.inside.rest.now) in
    omega (arith, counted, all, split, some, most, c.self.invariant)

pub loop-word-preserved : goal.loop-word-preserved
loop-word-preserved c =
    let other : is_separator c.in-Some.word.now ≡ false = search rules in
    cut_more _ c.loop-word.left c.take_word.new.self c.loop-word.before c.in-Some.word.now c.loop-word.invariant c.in-Some.ensures other

pub returns : goal.returns
returns c = ap clauses (sym c.self.view_is) ∙ cut_end _ c.loop-word.left c.loop-word.before c.loop-word.invariant c.in_default.ensures.0
