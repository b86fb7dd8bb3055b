use Rattle.std.proofs.Common.{◌≡◌, ◌+◌, ◌-◌, ◌++◌, map, take, drop, reverse, length}
use Rattle.gv_types.specs.declared.operation.PageOp.TheVariants.{Unmap}
use Rattle.gv_journal.specs.Applying.{after_all, GrowsFor}
use Rattle.gv_journal.specs.Verdict.{limits_fault}
use Rattle.gv_journal.specs.Work.{HasRoom, Continues}
use Rattle.gv_journal.proofs.applying.unmap_all.Given as goal

abbrev pub invariant-loop-range : goal.invariant-loop-range
invariant-loop-range l = record {
  continues : Continues l.fn.space l.space l.fn.work l.work;
  ops : l.work.ops.items ≡ l.fn.work.ops.items ++ map Unmap (take l.range-index l.range-items);
  state : l.space ≡ record (after_all (reverse (map Unmap (take l.range-index l.range-items))) l.fn.space) { room = l.space.room };
  grown : GrowsFor (map Unmap l.range-items) l.fn.space l.space;
  limits : limits_fault l.fn.space (map Unmap l.range-items) ≡ limits_fault l.space (map Unmap (drop l.range-index l.range-items));
  room : HasRoom (length l.range-items - l.range-index + l.remaining) l.work;
}
