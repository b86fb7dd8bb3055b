use Rattle.std.proofs.Common.{◌∙◌, ◌++◌, [], refl}
use Rattle.std.proofs.KnownBytes.{Appends-nil, Appends-trans}
use Rattle.gv_serve.proofs.AnsweredLines.{heard_more, heard_line, heard_rest, heard_as}
use Rattle.gv_serve.proofs.dialogue.Dialogue.answer_lines.Goals as goal

pub loop-front-init : goal.loop-front-init
loop-front-init g c = record {
  text = [];
  heard = λ input before heard. heard_as _ _ _ _ _ _ (heard_more input before c.args.bytes.now _ _ _ heard);
  wrote = Appends-nil _;
  flag = refl;
}

pub loop-front-preserved : goal.loop-front-preserved
loop-front-preserved g c =
    let inv = c.loop-front.invariant in
    let ran = c.in_ok-end_line.ensures in
    let answered = ran.answered in
    record {
      text = inv.text ++ answered.0;
      heard = λ input before heard. heard_line (input ++ c.args.bytes.now) before inv.text answered.0 _ _ _ _ _ _ _ _ _ _ (inv.heard input before heard) c.in-Some.ensures.parts answered.2 ran.number ran.partial;
      wrote = Appends-trans _ _ _ _ _ inv.wrote answered.3;
      flag = ran.unset ∙ inv.flag;
    }

pub returns-clause-heard : goal.returns-clause-heard
returns-clause-heard g c =
    let inv = c.loop-front.invariant in (
      inv.text,
      λ input before heard. heard_rest _ _ _ _ _ _ _ (inv.heard input before heard) c.in_default.ensures.parts c.keep.ensures,
      inv.wrote,
    )
