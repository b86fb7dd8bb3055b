use Rattle.std.proofs.Common.{◌≡◌, ◌∙◌, ◌++◌, ◌+◌, [], Err, arith, refl, sym, subst}
use Rattle.std.proofs.KnownBytes.{Appends-trans}
use Rattle.gv_lines.proofs.PartsLemmas.{parts_some}
use Rattle.std.proofs.lemmas.Result.{err_from_is_err_and}
use Rattle.gv_lines.specs.Words.{parts}
use Rattle.gv_session.specs.State.{SessionState}
use Rattle.gv_text.specs.Script.{IsFront, RunsWhole, refusals_of}
use Rattle.gv_text.proofs.LinesRun.{front_more, front_start, keeps_pending}
use Rattle.gv_text.proofs.Alike.{only_whole}
use Rattle.gv_text.proofs.Ends.{line_ends, tells_from, stops_at, empty_from}
use Rattle.gv_text.proofs.script.ScriptRun.run_each.Goals as goal

pub loop-line-init : goal.loop-line-init
loop-line-init g c = record {
  text = [];
  refusals = 0;
  front = subst (λ (s : SessionState). IsFront c.args.script.now [] (parts 10 c.args.script.now) 0 0 s) (sym c.requires.start) (front_start c.args.script.now);
  wrote = keeps_pending (g.W.Sink.written c.args.writer.now) c.args.output.now c.requires.fresh;
  flag = refl;
  remaining = omega arith;
}

pub returns-in_err-run_line-clause-ends : goal.returns-in_err-run_line-clause-ends
returns-in_err-run_line-clause-ends g c =
    let p = err_from_is_err_and c.from_residual.result c.from_residual.ensures.1 in
    let front = rw c.in-Some.ensures.parts at c.loop-line.invariant.front in
    rw (p.1, p.2)
    (line_ends (Unit {0}) (Unit {0}) _ _ _ _ _ _ _ c.run_line.new.self.session _ _ _ _ c.requires.short front (parts_some 10 c.in-Some.after.now) c.loop-line.invariant.wrote c.in_err-run_line.ensures.ends)

pub returns-in_err-run_line-clause-fault : goal.returns-in_err-run_line-clause-fault
returns-in_err-run_line-clause-fault g c =
    let p = err_from_is_err_and c.from_residual.result c.from_residual.ensures.1 in
    rw p.1
    (tells_from {T = Unit {0}} _ _ (g.W.Sink.failed c.run_line.new.writer) (Err p.0) c.loop-line.invariant.flag (rw (← p.2) at c.in_err-run_line.ensures.fault))

pub loop-line-preserved : goal.loop-line-preserved
loop-line-preserved g c =
    let front = rw c.in-Some.ensures.parts at c.loop-line.invariant.front in
    let ran = c.in_ok-run_line.ensures.ends in
    record {
      text = c.loop-line.invariant.text ++ ran.0.text;
      refusals = c.loop-line.invariant.refusals + refusals_of ran.0.out_of_memory;
      front = front_more _ _ _ _ _ _ _ _ _ front ran.1;
      wrote = Appends-trans _ _ _ _ _ c.loop-line.invariant.wrote ran.2;
      flag = c.in_ok-run_line.ensures.fault ∙ c.loop-line.invariant.flag;
      remaining = omega (arith, c.in-Some.ensures.shorter);
    }

pub returns-then-is_empty-clause-ends : goal.returns-then-is_empty-clause-ends
returns-then-is_empty-clause-ends g c =
    let none : c.loop-line.rest.now ≡ [] = empty_from c.loop-line.rest.now c.if-is_empty.ensures in
    let front = rw (c.in_default.ensures.parts, none) at c.loop-line.invariant.front in
    let whole : RunsWhole c.args.script.now c.loop-line.invariant.text c.loop-line.invariant.refusals =
    record { count = c.loop-line.done; now = c.loop-line.self.session; front = front } in (
      c.loop-line.invariant.text,
      record {
        short = c.requires.short;
        refusals = c.loop-line.invariant.refusals;
        whole = whole;
        ample = only_whole _ _ _ whole;
      },
      c.loop-line.invariant.wrote,
    )

pub returns-else-is_empty-clause-ends : goal.returns-else-is_empty-clause-ends
returns-else-is_empty-clause-ends g c =
    let front = rw c.in_default.ensures.parts at c.loop-line.invariant.front in
    let some : c.loop-line.rest.now ≡ [] → ⊥ = λ none. let is = rw none at c.if-is_empty.ensures in cc in
    (c.loop-line.invariant.text, stops_at _ _ c.loop-line.rest.now [] _ _ _ _ c.requires.short front some refl, c.loop-line.invariant.wrote)
