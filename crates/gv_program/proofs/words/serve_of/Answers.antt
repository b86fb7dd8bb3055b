use Rattle.std.proofs.Common.{codes, ◌∙◌}
use Rattle.clap.specs.Words.{found_of}
use Rattle.clap.proofs.WalkLemmas.{first_value-rows, one_text-rows}
use Rattle.gv_program.proofs.words.serve_of.Goals as goal

pub returns : goal.returns
returns c = (
  c.get_str.ensures ∙ first_value-rows (found_of c.args.given.now) (codes "file"),
  λ is. c.get_flag.ensures.other (one_text-rows (found_of c.args.given.now) (codes "json") ∙ is),
)
