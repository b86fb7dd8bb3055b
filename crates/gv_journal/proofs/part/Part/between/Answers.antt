use Rattle.std.proofs.Common.{◌≤◌, ◌-◌, drop, sym, ◌∙◌, arith}
use Rattle.std.proofs.lemmas.List.{length-drop, length-take-le}
use Rattle.std.proofs.lemmas.List.Elements.{All-take, All-drop}
use Rattle.gv_types.specs.Page.{PAGES}
use Rattle.gv_journal.proofs.ColumnsMatchItems.{reaches_between}
use Rattle.gv_journal.proofs.part.Part.between.Goals as goal

pub invariant_of-result : goal.invariant_of-result
invariant_of-result c =
    let part = c.args.self.now in
    let start = c.args.start in
    let many = c.args.end - start in
    record {
      beside = length-take-le many (drop start part.notes.now) (omega (arith, length-drop start part.notes.now, part.beside, c.requires.within, c.requires.ordered))
          ∙ sym (length-take-le many (drop start part.items.now) (omega (arith, length-drop start part.items.now, c.requires.within, c.requires.ordered)));
      reaches = reaches_between many start part.firsts.now part.pasts.now part.regions.now part.items.now part.reaches;
      in_space = All-take (λ past. past ≤ PAGES) many (drop start part.pasts.now) (All-drop (λ past. past ≤ PAGES) start part.pasts.now part.in_space);
    }
