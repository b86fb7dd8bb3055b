use Rattle.std.proofs.Common.{◌≡◌, ◌∙◌, ◌++◌, ◌∷◌, [], List, ℕ, ap, sym, subst, append_assoc}
use Rattle.std.specs.Io.KnownBytes.{Appends, append_known}
use Rattle.std.specs.Vec.Iter.{into_iter_items}
use Rattle.std.proofs.KnownBytes.{Appends-trans}
use Rattle.gv_threads.specs.Parts.{unnumbered}
use Rattle.gv_threads.specs.Running.{ready_of}
use Rattle.gv_threads.specs.declared.setting.SetupLine.{SetupLine}
use Rattle.gv_threads.proofs.OneLineMore.{set_up_more}
use Rattle.gv_threads.proofs.script.ThreadsScript.set_up_all.Goals as goal

pub loop-number-preserved : goal.loop-number-preserved
loop-number-preserved g c =
    let inv = c.loop-number.invariant in
    let setting : SetupLine = c.in-Some.setting in
    let found = c.in_default.ensures.done in
    let step = c.in-Some.ensures.steps in
    let bytes : c.as_bytes.result.now ≡ found.0 = c.as_bytes.ensures.value ∙ found.2 ∙ ap (λ (front : List ℕ). front ++ found.0) c.clear.ensures.bytes in
    let pushed : Appends (append_known (g.W.Sink.written c.loop-number.writer) c.loop-number.output) (append_known (g.W.Sink.written c.push.new.sink) c.push.new.self) found.0 =
    subst (λ (t : List ℕ). Appends (append_known (g.W.Sink.written c.loop-number.writer) c.loop-number.output) (append_known (g.W.Sink.written c.push.new.sink) c.push.new.self) t) bytes c.in_ok-push.ensures.ok in
    record {
      own = c.set_up-done.ensures.own;
      timelines = c.set_up-done.ensures.timelines ∙ inv.timelines;
      told = c.set_up-done.ensures.told ∙ inv.told;
      first = c.set_up-done.ensures.first;
      done = inv.done ++ setting ∷ [];
      text = inv.text ++ found.0;
      split = append_assoc inv.done (setting ∷ []) (unnumbered (into_iter_items c.next.new.self))
          ∙ ap (λ (l : List (ℕ × SetupLine)). inv.done ++ unnumbered l) (sym step.0) ∙ inv.split;
      ran = set_up_more c.self.inside.timelines.names inv.done setting (ready_of c.args.harness.now) (ready_of c.loop-number.harness) (ready_of c.set_up-done.new.harness) inv.text found.0 inv.ran found.1;
      wrote = Appends-trans _ _ _ _ _ inv.wrote pushed;
      flag = c.in_ok-push.ensures.unset ∙ inv.flag;
    }
