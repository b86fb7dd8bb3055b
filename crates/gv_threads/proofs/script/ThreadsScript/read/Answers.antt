use Rattle.std.proofs.Common.{◌∙◌, ◌++◌, ◌∷◌, [], List, ℕ, ap, sym, refl, append_assoc, arith, rules}
use Rattle.std.proofs.lemmas.List.{length-append}
use Rattle.gv_lines.specs.Words.{parts}
use Rattle.gv_threads.proofs.LinesRead.{keeps_more, standing_more, read_more, stand_all_more}
use Rattle.gv_threads.proofs.script.ThreadsScript.read.Goals as goal

pub loop-line-init : goal.loop-line-init
loop-line-init c = record {
  queues = search rules;
  remaining = search rules;
  lines = [];
  texts = [];
  cut = refl;
  read = refl;
  kept = λ has_memory. c.new-script.ensures.none;
  so_far = c.new-script.ensures.so_far;
  stand = tt;
  counted = refl;
}

pub loop-line-preserved : goal.loop-line-preserved
loop-line-preserved c =
    let inv = c.loop-line.invariant in
    let line : List ℕ = c.in-Some.line.now in
    let adds = c.in_default-read_line.ensures.adds in
    record {
      queues = search rules;
      remaining = omega (arith, c.in-Some.ensures.shorter);
      lines = inv.lines ++ adds.line ∷ [];
      texts = inv.texts ++ line ∷ [];
      cut = inv.cut ∙ ap (λ (ps : List (List ℕ)). inv.texts ++ ps) c.in-Some.ensures.parts ∙ sym (append_assoc inv.texts (line ∷ []) (parts 10 c.in-Some.after.now));
      read = read_more inv.texts inv.lines line adds.line inv.read adds.read;
      kept = keeps_more line inv.lines c.loop-line.script c.read_line.new.self adds inv.kept;
      so_far = standing_more line inv.lines c.loop-line.script c.read_line.new.self adds inv.so_far;
      stand = stand_all_more c.args.count inv.lines c.loop-line.script adds.line inv.so_far inv.queues inv.stand adds.may;
      counted = let long = length-append inv.texts (line ∷ []) in omega (arith, inv.counted, long);
    }
