use Rattle.std.proofs.Common.{arith, subst}
use Rattle.gv_journal.specs.Notes.{NamesWithin}
use Rattle.gv_journal.specs.declared.item.ItemKind.{ItemKind}
use Rattle.gv_journal.specs.declared.item.ItemKind.TheVariants.{Withdrawal}
use Rattle.gv_journal.proofs.item_store.ItemStore.take.Goals as goal
use Rattle.std.proofs.Common.{length}

pub mark-requires-clause-index : goal.mark-requires-clause-index
mark-requires-clause-index c =
    let named : NamesWithin (Withdrawal c.in-Withdrawal.of) c.args.first (length c.pop.new.self.items) =
    subst (λ (k : ItemKind). NamesWithin k c.args.first (length c.pop.new.self.items)) c.in-Withdrawal.is (c.requires c.pop.new.self.items c.in-Some.item c.in-Some.ensures.items) in
    omega (arith, named.0, named.1, c.pop.ensures.beside)
