use Rattle.std.proofs.Common.{ap, ◌∙◌}
use Rattle.gv_table.specs.Table.{PageTable}
use Rattle.gv_table.proofs.SameTreeLemmas.{tables-wanted}
use Rattle.gv_table.proofs.NamedTrees.{counted-named}
use Rattle.gv_table.proofs.page_table.PageTable.tables.Goals as goal

pub returns-clause-present : goal.returns-clause-present
returns-clause-present c =
    let counted = counted-named c.self.inside.root c.args.self.now.root c.self.inside.counts c.self.inside.names.items c.self.invariant (ap (λ (t : PageTable). t.root) c.self.view_is) in
    let four = counted 4 in
    let three = counted 3 in
    let two = counted 2 in
    let one = counted 1 in
    let zero = counted 0 in
    cc (c.descending.ensures)

pub returns-clause-wanted : goal.returns-clause-wanted
returns-clause-wanted c = λ ms tree.
    let counted = counted-named c.self.inside.root c.args.self.now.root c.self.inside.counts c.self.inside.names.items c.self.invariant (ap (λ (t : PageTable). t.root) c.self.view_is) in
    let four = counted 4 ∙ tables-wanted ms 4 5 0 c.args.self.now.root tree in
    let three = counted 3 ∙ tables-wanted ms 3 5 0 c.args.self.now.root tree in
    let two = counted 2 ∙ tables-wanted ms 2 5 0 c.args.self.now.root tree in
    let one = counted 1 ∙ tables-wanted ms 1 5 0 c.args.self.now.root tree in
    let zero = counted 0 ∙ tables-wanted ms 0 5 0 c.args.self.now.root tree in
    cc (c.descending.ensures)
