use Rattle.std.proofs.Common.{◌≡◌, List, [], reverse, sym, ◌∙◌, ap, rules}
use Rattle.gv_space.specs.Undo.{OpUndoState, released}
use Rattle.gv_journal.specs.Undoing.{taken_by}
use Rattle.gv_journal.proofs.Lists.{last_first}
use Rattle.gv_space.proofs.ReleasedLemmas.{released-none}
use Rattle.gv_journal.proofs.Undoings.{first_of_all_held, others_kept, released_in_turn}
use Rattle.gv_journal.proofs.undoing.release_all.Goals as goal

pub release-requires : goal.release-requires
release-requires c =
    let is = last_first c.loop-undo.undos.items c.pop.new.self.items c.in-Some.undo c.in-Some.ensures.items in
    first_of_all_held c.loop-undo.space _ c.in-Some.undo _ is
    (record { others = c.requires.others; are_kept = c.loop-undo.invariant.kept c.requires.others c.requires.are_kept })

pub loop-undo-preserved : goal.loop-undo-preserved
loop-undo-preserved c =
    let is = last_first c.loop-undo.undos.items c.pop.new.self.items c.in-Some.undo c.in-Some.ensures.items in
    record {
      kept = λ others saved. others_kept c.loop-undo.space _ _ c.in-Some.undo _ others is c.release.ensures.kept (c.loop-undo.invariant.kept others saved);
      rest = cc (released_in_turn c.loop-undo.space _ _ c.in-Some.undo _ is c.release.ensures.state);
    }

pub returns-clause-state : goal.returns-clause-state
returns-clause-state c =
    let empty : c.loop-undo.undos.items ≡ [] = search rules in
    sym (released-none c.loop-undo.space)
    ∙ ap (λ (us : List OpUndoState). released c.loop-undo.space (taken_by (reverse us))) (sym empty)
    ∙ c.loop-undo.invariant.rest
