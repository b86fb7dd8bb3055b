use Rattle.gv_table.proofs.release.+free_tables.Given as goal

abbrev pub decreases-free_tables : goal.decreases-free_tables
decreases-free_tables l = l.level

abbrev pub invariant-loop-index : goal.invariant-loop-index
invariant-loop-index l = record {}
