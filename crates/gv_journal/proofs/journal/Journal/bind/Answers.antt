use Rattle.std.proofs.Common.{◌≡◌, ℕ, Option, List, [], ◌∷◌, ◌++◌, None, length, reverse, arith, rules, sym, ◌∙◌, ap, subst, refl}
use Rattle.gv_types.specs.declared.operation.Op.{Op}
use Rattle.gv_types.specs.declared.operation.PageOp.{PageOp}
use Rattle.gv_journal.specs.Items.{JournalState}
use Rattle.gv_journal.specs.Fits.{FitsSpace}
use Rattle.gv_journal.specs.Applying.{after_all, all_do}
use Rattle.gv_journal.specs.Inside.{NameOlder, NameOnce}
use Rattle.gv_journal.specs.Notes.{notes_of}
use Rattle.gv_journal.specs.Verdict.{full_fault}
use Rattle.gv_journal.proofs.Lists.{last_first}
use Rattle.gv_journal.proofs.NotesUpdated.{notes_bound}
use Rattle.gv_journal.specs.Items.{numbered, entries}
use Rattle.gv_journal.specs.declared.item.Item.{Item}
use Rattle.gv_journal.proofs.Changing.{list_applied}
use Rattle.gv_journal.proofs.Bindings.{bound, fits_bound}
use Rattle.gv_journal.proofs.HeldItems.{journaled, one_more, back_one_more, fits_room, number_left}
use Rattle.gv_journal.proofs.journal.Journal.bind.Goals as goal

abbrev item_of : goal.After-push → Item
item_of c = bound c.args.ready.queue c.args.ready.number c.args.ready.request c.args.ready.seen c.in-Ok.work.ops c.in-Ok.work.undos

journal_is : (c : goal.After-push) →
    journaled c.self.inside.limit c.self.inside.first (reverse c.push.new.self.items) ≡ record c.args.self.now { items = item_of c ∷ c.args.self.now.items }
journal_is c =
    one_more c.self.inside.limit c.self.inside.first c.self.inside.item_store.items c.make_room.new.self.items c.push.new.self.items c.args.self.now (item_of c)
    c.self.view_is c.make_room.ensures.items c.push.ensures.items

did : (c : goal.After-push) → c.in-Ok.work.ops.items ≡ all_do c.args.space.now.mappings c.args.ready.request.ops.items
did c = c.in-Ok.ensures.ops ∙ ap (λ (ops : List Op). all_do c.args.space.now.mappings ops) c.deref.ensures.value

pub returns-clause-item : goal.returns-clause-item
returns-clause-item c = record { item = item_of c; items = journal_is c; done = c.in-Ok.work.ops; kind = refl; did = did c; undos = c.in-Ok.ensures.applied.undos }

pub returns-clause-space : goal.returns-clause-space
returns-clause-space c =
    let old = c.args.space.now in
    let new = c.apply_all.new.space in
    let state : new ≡ record (after_all (reverse (all_do old.mappings c.args.ready.request.ops.items)) old) { room = new.room } =
    c.in-Ok.ensures.applied.state ∙ ap (λ (ops : List PageOp). record (after_all (reverse ops) old) { room = new.room }) (did c) in
    record { list = list_applied old new (reverse (all_do old.mappings c.args.ready.request.ops.items)) state; state = state }

pub returns-clause-back : goal.returns-clause-back
returns-clause-back c = λ n.
    back_one_more c.apply_all.new.space.mappings (reverse c.push.new.self.items) c.args.self.now.items (item_of c) c.args.space.now.mappings n
    (ap (λ (j : JournalState). j.items) (journal_is c)) c.in-Ok.ensures.applied.changes.list

pub returns-clause-fits : goal.returns-clause-fits
returns-clause-fits c =
    subst (λ (j : JournalState). FitsSpace c.apply_all.new.space j) (sym (journal_is c))
    (fits_bound c.args.space.now c.apply_all.new.space c.args.self.now c.args.ready.queue c.args.ready.number c.args.ready.request c.args.ready.seen c.in-Ok.work.ops c.in-Ok.work.undos
    c.in-Ok.ensures.applied (subst (λ (j : JournalState). NameOlder (entries j)) c.self.view_is c.self.invariant.name_older) c.requires)

pub returns-in-Err-clause-fits : goal.returns-in-Err-clause-fits
returns-in-Err-clause-fits c =
    let same : journaled c.self.inside.limit c.self.inside.first (reverse c.make_room.new.self.items) ≡ c.args.self.now =
    ap (λ (xs : List Item). journaled c.self.inside.limit c.self.inside.first (reverse xs)) c.make_room.ensures.items ∙ c.self.view_is in
    subst (λ (j : JournalState). FitsSpace c.apply_all.new.space j) (sym same)
    (fits_room c.args.space.now c.apply_all.new.space c.args.self.now c.in-Err.ensures.unchanged c.requires)

pub invariant_of-self-3 : goal.invariant_of-self-3
invariant_of-self-3 c =
    let all = c.self.inside.item_store.items in
    let first = c.self.inside.first in
    let grown : c.push.new.self.items ≡ all ++ item_of c ∷ [] = c.push.ensures.items ∙ ap (λ (xs : List Item). xs ++ item_of c ∷ []) c.make_room.ensures.items in
    let turned : reverse c.push.new.self.items ≡ item_of c ∷ reverse all = last_first c.push.new.self.items all (item_of c) grown in
    let first_is : first ≡ c.args.self.now.first = ap (λ (j : JournalState). j.first) c.self.view_is in
    let size : length (reverse all) ≡ length c.args.self.now.items = ap (λ (j : JournalState). length j.items) c.self.view_is in
    let room : full_fault c.args.self.now ≡ None = search rules in
    record {
      numbered_below = omega (arith, number_left c.args.self.now room, ap (λ (xs : List Item). length xs) turned, size, first_is);
      name_older = subst (λ (xs : List Item). NameOlder (numbered first xs)) (sym turned) (tt, c.self.invariant.name_older);
      name_once = subst (λ (xs : List Item). NameOnce first (numbered first xs)) (sym turned) (tt, c.self.invariant.name_once);
      notes = c.push.ensures.notes ∙ ap (λ (ms : List (Option ℕ)). ms ++ None ∷ []) (c.make_room.ensures.notes ∙ c.self.invariant.notes)
          ∙ sym (notes_bound first (reverse all) c.args.ready.queue c.args.ready.number c.args.ready.request c.args.ready.seen c.in-Ok.work.ops c.in-Ok.work.undos c.self.invariant.name_older)
          ∙ ap (λ (xs : List Item). notes_of (numbered first xs)) (sym turned);
    }
