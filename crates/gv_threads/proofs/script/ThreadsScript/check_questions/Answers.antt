use Rattle.std.proofs.Common.{◌≡◌, ◌<◌, List, ℕ, true, false, is_some, length, get_or, subst, rules}
use Rattle.gv_lines.specs.declared.line.Line.{Line}
use Rattle.gv_threads.specs.Naming.{HasBuffer, IsFirstBad}
use Rattle.gv_threads.proofs.UndeclaredNames.{first_bad, good_next, has_buffer, has_other, lacks_buffer}
use Rattle.gv_threads.proofs.script.ThreadsScript.check_questions.Goals as goal
use Rattle.gv_threads.proofs.script.ThreadsScript.check_questions.Goals.{in-Uses+else-is_none, in_default}

pub returns-then-is_none-clause-bad_line : goal.returns-then-is_none-clause-bad_line
returns-then-is_none-clause-bad_line c = λ line same.
    let k : ℕ = c.loop-number.number-index in
    let questions : List (ℕ × Line) = c.args.self.now.questions in
    let item : ℕ × Line = c.loop-number-item.result in
    let below : k < length questions = search rules in
    let is : item ≡ get_or questions k item = search rules in
    let absent : is_some c.id_of.result ≡ false = search rules in
    let here : item.0 ≡ line = cc in
    subst (λ (n : ℕ). IsFirstBad (HasBuffer c.args.buffers.now.entries) questions n) here
    (first_bad (HasBuffer c.args.buffers.now.entries) questions k item below is c.loop-number.invariant
    (lacks_buffer item.1 c.in-Uses.name c.args.buffers.now.entries c.id_of.result c.in-Uses.is c.id_of.ensures.id absent))

pub loop-number-preserved : goal.loop-number-preserved
loop-number-preserved c =
    let k : ℕ = c.loop-number.number-index in
    let questions : List (ℕ × Line) = c.args.self.now.questions in
    let item : ℕ × Line = c.loop-number-item.result in
    let below : k < length questions = search rules in
    let is : item ≡ get_or questions k item = search rules in
    good_next (HasBuffer c.args.buffers.now.entries) questions k item below is c.loop-number.invariant
    (elim c.match-question.branch [
      | in-Uses+else-is_none w ↦ (
          let there : is_some w.id_of.result ≡ true = search rules in
          has_buffer item.1 w.in-Uses.name c.args.buffers.now.entries w.id_of.result w.in-Uses.is w.id_of.ensures.id there)
      | in_default w ↦ has_other item.1 c.args.buffers.now.entries w.in_default.not-Uses
    ])
