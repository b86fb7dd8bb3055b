use Rattle.std.proofs.Common.{ap, List, set, drop, ◌∙◌, Option, ℕ}
use Rattle.std.proofs.lemmas.List.{drop-set-add}
use Rattle.gv_journal.specs.ItemStore.{ItemStoreState}
use Rattle.gv_journal.proofs.item_store.ItemStore.mark.Goals as goal

pub returns-clause-notes : goal.returns-clause-notes
returns-clause-notes c =
    ap (λ (xs : List (Option ℕ)). drop c.self.inside.spent xs) c.mark.ensures.notes
    ∙ drop-set-add c.self.inside.spent c.self.inside.columns.notes c.args.index c.args.withdrawal
    ∙ ap (λ (s : ItemStoreState). set s.notes c.args.index c.args.withdrawal) c.self.view_is
