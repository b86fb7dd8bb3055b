use Rattle.std.proofs.Common.{◌≡◌}
use Rattle.gv_table.proofs.spares.Spares.make.Given as goal

abbrev pub invariant-loop : goal.invariant-loop
invariant-loop l = record {
  made : l.spares-inside.slots ≡ l.counter;
  none : l.spares-inside.pages ≡ 0;
}

abbrev pub invariant-loop-2 : goal.invariant-loop-2
invariant-loop-2 l = record {
  made : l.spares-inside.pages ≡ l.counter;
  stay : l.spares-inside.slots ≡ l.fn.need.slots;
}
