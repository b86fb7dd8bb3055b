use Rattle.std.proofs.Common.{ap, ◌∙◌}
use Rattle.gv_table.specs.PageChain.{is_pages}
use Rattle.gv_table.proofs.Slots.{no-table}
use Rattle.gv_table.proofs.PageChains.{is_pages-Table, no-pages, no-link}
use Rattle.gv_table.proofs.page_chain.linked_pages.Goals as goal

pub returns-in-Table : goal.returns-in-Table
returns-in-Table c = λ count chain. no-link count c.args.slot chain (ap is_pages c.in-Table.is ∙ is_pages-Table c.in-Table.field-0)

pub returns : goal.returns
returns c = λ count chain. no-link count c.args.slot chain (no-pages _ (no-table _ c.in-Empty.is))
