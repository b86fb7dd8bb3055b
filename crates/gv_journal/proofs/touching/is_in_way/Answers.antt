use Rattle.std.proofs.Common.{◌≡◌, Bool, false, ◌&&◌, not, is_some, ap, sym, rules}
use Rattle.gv_journal.specs.Items.{done_by}
use Rattle.gv_journal.specs.Reach.{reaches}
use Rattle.gv_journal.proofs.Reaches.{not_reached}
use Rattle.gv_journal.proofs.touching.is_in_way.Goals as goal

pub returns-then-not-reaches : goal.returns-then-not-reaches
returns-then-not-reaches c =
    let none : reaches c.args.own.now c.args.reach.now ≡ false = search rules in
    sym (ap (λ (b : Bool). b && not (is_some c.args.note.now)) (not_reached c.args.own.now c.args.reach.now c.args.ops.now (done_by c.args.item.now.kind) c.requires.own c.requires.reach none))
