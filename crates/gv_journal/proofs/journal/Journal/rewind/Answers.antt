use Rattle.std.proofs.Common.{◌≡◌, ℕ, Option, ◌+◌, ◌≤◌, take, arith, List, ◌∷◌, length, reverse, sym, ◌∙◌, ap, subst}
use Rattle.gv_space.specs.State.{SpaceState}
use Rattle.gv_journal.specs.Items.{JournalState, numbered}
use Rattle.gv_journal.specs.History.{undos_of}
use Rattle.gv_journal.specs.Inside.{NameOlder, NameOnce}
use Rattle.gv_journal.specs.declared.item.Item.{Item}
use Rattle.gv_journal.specs.ItemStore.{ItemStoreState}
use Rattle.gv_journal.specs.Notes.{notes_of, cleared}
use Rattle.gv_journal.specs.Verdict.{numbers}
use Rattle.std.proofs.lemmas.List.{length-reverse}
use Rattle.gv_journal.proofs.Lists.{last_first}
use Rattle.gv_journal.proofs.HeldItems.{journaled, one_less, back_one_more}
use Rattle.gv_journal.proofs.KeptMappings.{fits_rewound, kept_without}
use Rattle.gv_journal.proofs.Undoings.{reverted_by-mappings}
use Rattle.gv_journal.proofs.NotesUpdated.{names_within, notes_rewound}
use Rattle.gv_journal.proofs.journal.Journal.rewind.Goals as goal

pub take-requires : goal.take-requires
take-requires c = λ rest item is.
    names_within c.self.inside.first rest item
    (subst (λ (xs : List Item). NameOlder (numbered c.self.inside.first (reverse xs))) is c.self.invariant.name_older)
    (subst (λ (xs : List Item). NameOnce c.self.inside.first (numbered c.self.inside.first (reverse xs))) is c.self.invariant.name_once)

pub invariant_of-self : goal.invariant_of-self
invariant_of-self c =
    let same : c.take.new.self ≡ c.self.inside.item_store = c.in-None.ensures.notes.1 in
    let first = c.self.inside.first in
    record {
      numbered_below = subst (λ (s : ItemStoreState). first + length (reverse s.items) ≤ numbers) (sym same) c.self.invariant.numbered_below;
      name_older = subst (λ (s : ItemStoreState). NameOlder (numbered first (reverse s.items))) (sym same) c.self.invariant.name_older;
      name_once = subst (λ (s : ItemStoreState). NameOnce first (numbered first (reverse s.items))) (sym same) c.self.invariant.name_once;
      notes = subst (λ (s : ItemStoreState). s.notes ≡ notes_of (numbered first (reverse s.items))) (sym same) c.self.invariant.notes;
    }

pub invariant_of-self-in-Some : goal.invariant_of-self-in-Some
invariant_of-self-in-Some c =
    let rest = c.take.new.self.items in
    let item = c.in-Some.field-0 in
    let first = c.self.inside.first in
    let turned : reverse c.self.inside.item_store.items ≡ item ∷ reverse rest = last_first c.self.inside.item_store.items rest item c.in-Some.ensures.items in
    let older : NameOlder (numbered first (item ∷ reverse rest)) = subst (λ (xs : List Item). NameOlder (numbered first xs)) turned c.self.invariant.name_older in
    let once : NameOnce first (numbered first (item ∷ reverse rest)) = subst (λ (xs : List Item). NameOnce first (numbered first xs)) turned c.self.invariant.name_once in
    let size : length rest ≡ length (reverse rest) = sym (length-reverse rest) in
    record {
      numbered_below = omega (arith, c.self.invariant.numbered_below, ap (λ (xs : List Item). length xs) turned);
      name_older = older.1;
      name_once = once.1;
      notes = c.in-Some.ensures.notes
          ∙ ap (λ (ms : List (Option ℕ)). cleared item.kind first (take (length rest) ms)) (c.self.invariant.notes ∙ ap (λ (xs : List Item). notes_of (numbered first xs)) turned)
          ∙ ap (λ (n : ℕ). cleared item.kind first (take n (notes_of (numbered first (item ∷ reverse rest))))) size
          ∙ notes_rewound first item.kind item.undos (reverse rest) older once;
    }

pub returns-in-Some-clause-item : goal.returns-in-Some-clause-item
returns-in-Some-clause-item c =
    let rest = reverse c.take.new.self.items in
    let was = one_less c.self.inside.limit c.self.inside.first c.self.inside.item_store.items c.take.new.self.items c.args.self.now c.in-Some.field-0 c.self.view_is c.in-Some.ensures.items in
    record { item = c.in-Some.field-0; items = was; space = c.revert_all.ensures.state }

pub returns-in-Some-clause-back : goal.returns-in-Some-clause-back
returns-in-Some-clause-back c = λ n.
    let rest = reverse c.take.new.self.items in
    let was = one_less c.self.inside.limit c.self.inside.first c.self.inside.item_store.items c.take.new.self.items c.args.self.now c.in-Some.field-0 c.self.view_is c.in-Some.ensures.items in
    sym (back_one_more c.args.space.now.mappings c.args.self.now.items rest c.in-Some.field-0 c.revert_all.new.space.mappings n
    (ap (λ (j : JournalState). j.items) was)
    (sym (ap (λ (s : SpaceState). s.mappings) c.revert_all.ensures.state ∙ reverted_by-mappings c.args.space.now (undos_of c.in-Some.field-0))))

pub returns-in-Some-clause-fits : goal.returns-in-Some-clause-fits
returns-in-Some-clause-fits c =
    let rest = reverse c.take.new.self.items in
    let was = one_less c.self.inside.limit c.self.inside.first c.self.inside.item_store.items c.take.new.self.items c.args.self.now c.in-Some.field-0 c.self.view_is c.in-Some.ensures.items in
    fits_rewound c.args.space.now c.revert_all.new.space c.args.self.now (journaled c.self.inside.limit c.self.inside.first rest) c.in-Some.field-0 was c.requires c.revert_all.ensures.state
    (kept_without c.args.space.now c.revert_all.new.space c.args.self.now.items c.in-Some.field-0 rest (ap (λ (j : JournalState). j.items) was) c.revert_all.ensures.kept c.requires.kept)
