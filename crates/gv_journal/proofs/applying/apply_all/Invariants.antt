use Rattle.std.proofs.Common.{◌≡◌, ◌-◌, ◌++◌, drop, reverse, length}
use Rattle.gv_journal.specs.Applying.{after_all, all_do, AreApplied, GrowsFor}
use Rattle.gv_journal.specs.Verdict.{verdict_from}
use Rattle.gv_journal.specs.Work.{HasRoom}
use Rattle.gv_journal.proofs.applying.apply_all.Given as goal

abbrev pub invariant-loop-index : goal.invariant-loop-index
invariant-loop-index l = record {
  applied : AreApplied l.fn.space l.space (reverse l.work.ops.items) (reverse l.work.undos.items);
  verdict : verdict_from 0 l.fn.space l.ops ≡ verdict_from l.index (after_all (reverse l.work.ops.items) l.fn.space) (drop l.index l.ops);
  ops : all_do l.fn.space.mappings l.ops ≡ l.work.ops.items ++ all_do l.space.mappings (drop l.index l.ops);
  grown : GrowsFor (all_do l.fn.space.mappings l.ops) l.fn.space l.space;
  room : HasRoom (length l.ops - l.index) l.work;
}
