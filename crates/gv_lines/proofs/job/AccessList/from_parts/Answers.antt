use Rattle.std.proofs.Common.{◌≡◌, ◌∙◌, ◌∷◌, ◌++◌, [], ap, sym, Some}
use Rattle.gv_lines.specs.Job.{access_of}
use Rattle.gv_lines.proofs.ListParsing.{read_behind, read_more}
use Rattle.gv_lines.proofs.job.AccessList.from_parts.Goals as goal

pub loop-words-preserved : goal.loop-words-preserved
loop-words-preserved c =
    let front = c.loop-words.invariant.0 in
    let access = c.in_ok-from_words.field-0 in
    let is : access_of c.in-Some.words ≡ Some access = sym c.from_words.ensures ∙ c.in_ok-from_words.was in (
      front ++ access ∷ [],
      c.loop-words.invariant.1 ∙ ap (read_behind access_of front) c.in-Some.ensures ∙ read_more access_of front c.in-Some.words c.take_clause.new.self access is,
    )
