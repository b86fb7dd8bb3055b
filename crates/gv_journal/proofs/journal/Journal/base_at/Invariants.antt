use Rattle.std.proofs.Common.{◌-◌, ◌≤◌, drop}
use Rattle.gv_journal.specs.Items.{entries, next, is_withdrawn}
use Rattle.gv_journal.proofs.BaseOfPage.{IsQuiet}
use Rattle.gv_journal.proofs.journal.Journal.base_at.Given as goal

abbrev pub invariant-loop-number : goal.invariant-loop-number
invariant-loop-number l = record {
  held : l.self.first ≤ l.number;
  within : l.number ≤ next l.self;
  quiet : IsQuiet (is_withdrawn (entries l.self)) l.page (drop (next l.self - l.number) (entries l.self));
}
