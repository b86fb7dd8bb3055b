use Rattle.std.proofs.Common.{◌<◌, drop, reverse, arith}
use Rattle.gv_journal.proofs.Lists.{last_first}
use Rattle.gv_journal.proofs.Changing.{AreChanges-room, unchanged_back}
use Rattle.gv_journal.proofs.Puts.{ArePutBack-more, put_last, put_more, put_refused, still_kept, state_put}
use Rattle.gv_journal.proofs.PutUndos.{AreUndosOfPuts-more}
use Rattle.gv_journal.proofs.PutGrowing.{grows_put, grows_put_back}
use Rattle.gv_journal.proofs.restoring.restore_all.Goals as goal

pub restore-requires : goal.restore-requires
restore-requires c =
    let some : 0 < c.loop-remaining.remaining = omega arith in
    still_kept c.args.saved.now c.loop-remaining.remaining c.index-saved-remaining.result some c.loop-remaining.invariant.within c.index-saved-remaining.is
    c.args.space.now c.loop-remaining.space (reverse c.loop-remaining.fresh.items) c.loop-remaining.invariant.restored.changes c.requires

pub loop-remaining-preserved : goal.loop-remaining-preserved
loop-remaining-preserved c =
    let some : 0 < c.loop-remaining.remaining = omega arith in
    let saved = c.args.saved.now in
    let remaining = c.loop-remaining.remaining in
    let u = c.index-saved-remaining.result in
    let within = c.loop-remaining.invariant.within in
    let changed = rw c.range.ensures at c.in-Ok-restore.ensures.changed in
    let range_is = rw c.range.ensures at c.in-Ok-restore.ensures.range in
    let says = rw c.range.ensures at c.in-Ok-restore.ensures.says in
    let fault = rw c.range.ensures at c.restore.ensures.fault in
    let grown = last_first c.push_reserved.new.self.items c.loop-remaining.fresh.items c.in-Ok-restore.undo c.push_reserved.ensures.items in
    record {
      within = omega arith;
      restored = rw (put_last saved remaining u some within c.index-saved-remaining.is, grown)
          (ArePutBack-more c.args.space.now c.loop-remaining.space c.restore.new.self (reverse (drop remaining saved)) (reverse c.loop-remaining.fresh.items) u c.in-Ok-restore.undo
          c.loop-remaining.invariant.restored changed range_is says c.in-Ok-restore.ensures.undone);
      undos = rw (put_last saved remaining u some within c.index-saved-remaining.is, c.push_reserved.ensures.items)
          (AreUndosOfPuts-more c.args.space.now c.loop-remaining.space c.restore.new.self (reverse (drop remaining saved)) (reverse c.loop-remaining.fresh.items) c.loop-remaining.fresh.items u c.in-Ok-restore.undo
          c.loop-remaining.invariant.restored c.loop-remaining.invariant.undos changed range_is);
      grown = grows_put saved remaining u some within c.index-saved-remaining.is c.args.space.now c.loop-remaining.space c.restore.new.self (reverse c.loop-remaining.fresh.items) c.loop-remaining.invariant.restored c.loop-remaining.invariant.grown
          (rw c.range.ensures at c.restore.ensures.room);
      limits = put_more saved remaining u some within c.index-saved-remaining.is c.args.space.now c.loop-remaining.space c.restore.new.self c.restore.result c.in-Ok-restore.undo c.in-Ok-restore.is fault
          (state_put c.loop-remaining.space c.restore.new.self u c.in-Ok-restore.undo changed range_is) c.loop-remaining.invariant.limits;
      room = omega arith;
    }

pub revert_all-requires-clause-revertible : goal.revert_all-requires-clause-revertible
revert_all-requires-clause-revertible c =
    (AreChanges-room c.args.space.now c.loop-remaining.space c.restore.new.self (reverse c.loop-remaining.fresh.items) c.loop-remaining.invariant.restored.changes c.in-Err-restore.ensures.unchanged).revertible

pub returns-in-Err-restore-clause-unchanged : goal.returns-in-Err-restore-clause-unchanged
returns-in-Err-restore-clause-unchanged c =
    unchanged_back c.args.space.now c.restore.new.self c.revert_all.new.space (reverse c.loop-remaining.fresh.items)
    (AreChanges-room c.args.space.now c.loop-remaining.space c.restore.new.self (reverse c.loop-remaining.fresh.items) c.loop-remaining.invariant.restored.changes c.in-Err-restore.ensures.unchanged)
    c.revert_all.ensures.state

pub returns-in-Err-restore-clause-refused : goal.returns-in-Err-restore-clause-refused
returns-in-Err-restore-clause-refused c =
    let some : 0 < c.loop-remaining.remaining = omega arith in
    put_refused c.args.saved.now c.loop-remaining.remaining c.index-saved-remaining.result some c.loop-remaining.invariant.within c.index-saved-remaining.is
    c.args.space.now c.loop-remaining.space c.restore.result c.in-Err-restore.fault c.in-Err-restore.is (rw c.range.ensures at c.restore.ensures.fault) c.loop-remaining.invariant.limits

pub returns-in-Err-restore-clause-grown : goal.returns-in-Err-restore-clause-grown
returns-in-Err-restore-clause-grown c =
    let some : 0 < c.loop-remaining.remaining = omega arith in
    let fresh = reverse c.loop-remaining.fresh.items in
    grows_put_back (reverse c.args.saved.now) c.args.space.now c.restore.new.self c.revert_all.new.space fresh
    (grows_put c.args.saved.now c.loop-remaining.remaining c.index-saved-remaining.result some c.loop-remaining.invariant.within c.index-saved-remaining.is c.args.space.now c.loop-remaining.space c.restore.new.self fresh
    c.loop-remaining.invariant.restored c.loop-remaining.invariant.grown (rw c.range.ensures at c.restore.ensures.room))
    c.revert_all.ensures.state
