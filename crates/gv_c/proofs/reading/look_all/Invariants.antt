use Rattle.std.proofs.Common.{◌≡◌, map, take, length}
use Rattle.gv_c.specs.Lists.{written_over}
use Rattle.gv_c.specs.Reading.{look_in}
use Rattle.gv_c.proofs.reading.look_all.Given as goal

abbrev pub invariant-loop-k : goal.invariant-loop-k
invariant-loop-k l = record {
  long : length l.translations ≡ length l.fn.translations;
  is : l.translations ≡ written_over l.fn.translations (take l.k (map (look_in l.walks l.vm.space.mappings) l.addresses));
}
