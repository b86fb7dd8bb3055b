use Rattle.std.proofs.Common.{ℕ, ◌+◌, Option, List, drop, length, reverse, sym, ◌∙◌, ap, subst, arith}
use Rattle.gv_space.specs.State.{AreKept}
use Rattle.std.proofs.lemmas.List.{length-reverse, length-drop}
use Rattle.gv_journal.specs.Items.{JournalState, numbered}
use Rattle.gv_journal.specs.Inside.{NameOlder, NameOnce}
use Rattle.gv_journal.specs.Notes.{notes_of}
use Rattle.gv_journal.specs.declared.item.Item.{Item}
use Rattle.gv_journal.proofs.NotesSettled.{once_settled, notes_settled, early_older}
use Rattle.gv_journal.specs.History.{kept_by}
use Rattle.gv_journal.specs.Fits.{FitsSpace}
use Rattle.gv_journal.specs.Settling.{IsSettled}
use Rattle.gv_journal.proofs.SettledViews.{NoneCross}
use Rattle.gv_journal.proofs.Settlings.{count_is, names_later, earlier_kept, old_journal, new_journal, is_settled, fits_settled, left_is, none_left}
use Rattle.gv_journal.proofs.journal.Journal.settle.Goals as goal

pub settle-requires-clause-kept : goal.settle-requires-clause-kept
settle-requires-clause-kept c =
    let held = c.self.inside.item_store.items in
    let facts = count_is c.self.inside.limit c.self.inside.first held c.args.self.now c.args.to c.in-Ok.count c.self.view_is c.in-Ok.ensures.number c.in-Ok.ensures.within in
    let kept : AreKept c.args.space.now (kept_by (reverse held)) = subst (λ (j : JournalState). AreKept c.args.space.now (kept_by j.items)) (sym c.self.view_is) c.requires.kept in
    earlier_kept c.args.space.now c.args.space.now c.self.inside.limit c.self.inside.first held c.in-Ok.count facts.1 kept

pub invariant_of-self : goal.invariant_of-self
invariant_of-self c =
    let held = c.self.inside.item_store.items in
    let count = c.in-Ok.count in
    let first = c.self.inside.first in
    let facts = count_is c.self.inside.limit first held c.args.self.now c.args.to count c.self.view_is c.in-Ok.ensures.number c.in-Ok.ensures.within in
    let none : NoneCross (first + count) (reverse (drop count held)) = none_left c.self.inside.limit first c.args.to count held c.args.self.now c.self.view_is facts.0 facts.1 c.in-Ok.ensures.none in
    let left : List Item → Type 0 = λ xs. NameOlder (numbered c.args.to (reverse xs)) in
    record {
      numbered_below = omega (arith, c.self.invariant.numbered_below, facts.0, facts.1, length-reverse held, length-drop count held, ap (λ (xs : List Item). length (reverse xs)) c.settle.ensures.items, length-reverse (drop count held));
      name_older = subst left (sym c.settle.ensures.items) (subst (λ (n : ℕ). NameOlder (numbered n (reverse (drop count held)))) facts.0
          (names_later c.args.space.now c.args.space.now c.self.inside.limit first held count facts.1 c.self.invariant.name_older));
      name_once = subst (λ (xs : List Item). NameOnce c.args.to (numbered c.args.to (reverse xs))) (sym c.settle.ensures.items)
          (subst (λ (n : ℕ). NameOnce n (numbered n (reverse (drop count held)))) facts.0 (once_settled first held count facts.1 none c.self.invariant.name_once));
      notes = c.settle.ensures.notes ∙ ap (λ (ms : List (Option ℕ)). drop count ms) c.self.invariant.notes
          ∙ notes_settled first held count facts.1 (early_older first held count facts.1 c.self.invariant.name_older)
          ∙ ap (λ (n : ℕ). notes_of (numbered n (reverse (drop count held)))) facts.0
          ∙ ap (λ (xs : List Item). notes_of (numbered c.args.to (reverse xs))) (sym c.settle.ensures.items);
    }

pub returns-clause-settled : goal.returns-clause-settled
returns-clause-settled c =
    let held = c.self.inside.item_store.items in
    let count = c.in-Ok.count in
    let limit = c.self.inside.limit in
    let first = c.self.inside.first in
    let facts = count_is limit first held c.args.self.now c.args.to count c.self.view_is c.in-Ok.ensures.number c.in-Ok.ensures.within in
    let fits : FitsSpace c.args.space.now (old_journal c.args.space.now c.args.space.now limit first held count facts.1) = subst (λ (j : JournalState). FitsSpace c.args.space.now j) (sym c.self.view_is) c.requires in
    let none : NoneCross (first + count) (reverse (drop count held)) = none_left limit first c.args.to count held c.args.self.now c.self.view_is facts.0 facts.1 c.in-Ok.ensures.none in
    let settled : IsSettled c.args.space.now c.settle.new.space (old_journal c.args.space.now c.args.space.now limit first held count facts.1) (new_journal c.args.space.now c.args.space.now limit first held count facts.1) (first + count) =
    is_settled c.args.space.now c.settle.new.space limit first held count facts.1 fits c.self.invariant.name_older none c.settle.ensures.state c.settle.ensures.kept in
    subst (λ (j : JournalState). IsSettled c.args.space.now c.settle.new.space c.args.self.now j c.args.to) (sym (left_is limit first c.args.to count c.settle.new.self.items held facts.0 c.settle.ensures.items))
    (subst (λ (n : ℕ). IsSettled c.args.space.now c.settle.new.space c.args.self.now (new_journal c.args.space.now c.args.space.now limit first held count facts.1) n) facts.0
    (subst (λ (j : JournalState). IsSettled c.args.space.now c.settle.new.space j (new_journal c.args.space.now c.args.space.now limit first held count facts.1) (first + count)) c.self.view_is settled))

pub returns-clause-fits : goal.returns-clause-fits
returns-clause-fits c =
    let held = c.self.inside.item_store.items in
    let count = c.in-Ok.count in
    let limit = c.self.inside.limit in
    let first = c.self.inside.first in
    let facts = count_is limit first held c.args.self.now c.args.to count c.self.view_is c.in-Ok.ensures.number c.in-Ok.ensures.within in
    let fits : FitsSpace c.args.space.now (old_journal c.args.space.now c.args.space.now limit first held count facts.1) = subst (λ (j : JournalState). FitsSpace c.args.space.now j) (sym c.self.view_is) c.requires in
    let none : NoneCross (first + count) (reverse (drop count held)) = none_left limit first c.args.to count held c.args.self.now c.self.view_is facts.0 facts.1 c.in-Ok.ensures.none in
    subst (λ (j : JournalState). FitsSpace c.settle.new.space j) (sym (left_is limit first c.args.to count c.settle.new.self.items held facts.0 c.settle.ensures.items))
    (fits_settled c.args.space.now c.settle.new.space limit first held count facts.1 fits c.self.invariant.name_older none c.settle.ensures.state c.settle.ensures.kept)
