use Rattle.gv_table.proofs.EditLemmas.{replaced-alike, alike-mutual, replaced-pieces}
use Rattle.gv_table.proofs.laws.replaces.Goals as goal

pub returns : goal.returns
returns c = record { alike = replaced-alike; both_ways = alike-mutual; pieces = replaced-pieces }
