use Rattle.gv_journal.proofs.Lists.{last_first}
use Rattle.gv_journal.proofs.Undoings.{first_fits, others_revertible, others_kept, reverted_in_turn}
use Rattle.gv_journal.proofs.undoing.revert_all.Goals as goal

pub revert-requires : goal.revert-requires
revert-requires c =
    let is = last_first c.loop-undo.undos.items c.pop.new.self.items c.in-Some.undo c.in-Some.ensures.items in
    first_fits c.loop-undo.space _ c.in-Some.undo _ is c.loop-undo.invariant.revertible
    (record { others = c.requires.kept.others; are_kept = c.loop-undo.invariant.kept c.requires.kept.others c.requires.kept.are_kept })

pub loop-undo-preserved : goal.loop-undo-preserved
loop-undo-preserved c =
    let is = last_first c.loop-undo.undos.items c.pop.new.self.items c.in-Some.undo c.in-Some.ensures.items in
    record {
      revertible = others_revertible c.loop-undo.space _ _ c.in-Some.undo _ is c.revert.ensures.state c.loop-undo.invariant.revertible;
      kept = λ others saved. others_kept c.loop-undo.space _ _ c.in-Some.undo _ others is c.revert.ensures.kept (c.loop-undo.invariant.kept others saved);
      rest = cc (reverted_in_turn c.loop-undo.space _ _ c.in-Some.undo _ is c.revert.ensures.state);
    }
