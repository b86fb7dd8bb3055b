use Rattle.std.proofs.Common.{◌≡◌, ◌+◌, ◌≤◌, ℕ, List, length, OnOk}
use Rattle.std.specs.Io.KnownBytes.{Consumes}
use Rattle.gv_text.specs.Reading.{script_limit}
use Rattle.gv_text.proofs.reading.read_script.Given as goal

abbrev pub invariant-loop-reads : goal.invariant-loop-reads
invariant-loop-reads g l = record {
  read : List ℕ;
  counted : length read ≡ l.len;
  each_gave : l._reads ≤ l.len;
  short : l.len ≤ script_limit;
  held : OnOk l.kept (l.script.items ≡ read);
  so_far : Consumes (g.S.Source.remaining l.initial.source) (g.S.Source.remaining l.source) read;
  counted_reads : g.S.Source.reads l.source ≤ g.S.Source.reads l.initial.source + l._reads;
  flag : g.S.Source.failed l.source ≡ g.S.Source.failed l.initial.source;
}
