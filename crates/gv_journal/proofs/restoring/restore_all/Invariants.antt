use Rattle.std.proofs.Common.{◌≡◌, ◌+◌, ◌≤◌, length, take, drop, reverse, vec_len, vec_capacity}
use Rattle.gv_journal.specs.Restoring.{put_limits, AreUndosOfPuts, ArePutBack, GrowsForPuts}
use Rattle.gv_journal.proofs.restoring.restore_all.Given as goal

abbrev pub invariant-loop-remaining : goal.invariant-loop-remaining
invariant-loop-remaining l = record {
  within : l.remaining ≤ length l.saved;
  restored : ArePutBack l.fn.space l.space (reverse (drop l.remaining l.saved)) (reverse l.fresh.items);
  undos : AreUndosOfPuts l.fn.space.mappings (reverse (drop l.remaining l.saved)) l.fresh.items;
  grown : GrowsForPuts (reverse l.saved) l.fn.space l.space;
  limits : put_limits (reverse l.saved) l.fn.space ≡ put_limits (reverse (take l.remaining l.saved)) l.space;
  room : vec_len l.fresh + l.remaining ≤ vec_capacity l.fresh;
}

abbrev pub decreases-loop-remaining : goal.decreases-loop-remaining
decreases-loop-remaining l = l.remaining
