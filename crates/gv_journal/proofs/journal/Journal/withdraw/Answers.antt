use Rattle.std.proofs.Common.{ℕ, Option, ◌≤◌, set, Some, false, ◌≡◌, ◌+◌, ◌<◌, List, [], ◌∷◌, ◌++◌, length, reverse, None, sym, ◌∙◌, ap, subst, arith, rules}
use Rattle.gv_journal.specs.Items.{JournalState, numbered}
use Rattle.gv_journal.specs.Fits.{FitsSpace}
use Rattle.gv_journal.specs.Verdict.{full_fault}
use Rattle.gv_journal.specs.Inside.{NameOlder, NameOnce}
use Rattle.gv_journal.specs.declared.item.Item.{Item}
use Rattle.gv_journal.specs.Items.{is_withdrawn, entries}
use Rattle.gv_journal.specs.Withdrawing.{item_at}
use Rattle.gv_journal.proofs.NotesByIndex.{length-notes}
use Rattle.gv_journal.proofs.WithdrawableItem.{found_live}
use Rattle.gv_journal.specs.Notes.{notes_of}
use Rattle.gv_journal.proofs.Lists.{last_first}
use Rattle.gv_journal.proofs.NotesUpdated.{notes_withdrawn}
use Rattle.gv_journal.proofs.HeldItems.{journaled, one_more, back_one_more, found_at, fits_room, number_left}
use Rattle.gv_journal.proofs.Withdrawals.{withdrawal}
use Rattle.gv_journal.proofs.Withdrawn.{kept_here, fits_withdrawn, is_withdrawn_there, grown_there, passes, refused_there}
use Rattle.gv_journal.proofs.journal.Journal.withdraw.Goals as goal

pub restore_all-requires : goal.restore_all-requires
restore_all-requires c =
    let at = found_at c.self.inside.limit c.self.inside.first c.in-Ok.index c.self.inside.item_store.items c.items.result.now c.args.self.now c.index-items-index.result c.self.view_is (c.items.ensures ∙ c.make_room.ensures.items) c.index-items-index.is in
    rw (c.deref.ensures.value, sym c.index-items-index.is)
    (kept_here c.args.space.now c.args.self.now c.args.entry c.in-Ok.index c.index-items-index.result c.requires c.in-Ok.ensures.index.0 c.in-Ok.ensures.index.1 at c.in-Ok.ensures.accepted)

pub returns-in-Err-restore_all-clause-refused : goal.returns-in-Err-restore_all-clause-refused
returns-in-Err-restore_all-clause-refused c =
    let at = found_at c.self.inside.limit c.self.inside.first c.in-Ok.index c.self.inside.item_store.items c.items.result.now c.args.self.now c.index-items-index.result c.self.view_is (c.items.ensures ∙ c.make_room.ensures.items) c.index-items-index.is in
    let room : full_fault c.args.self.now ≡ None = search rules in
    refused_there c.args.space.now c.args.self.now c.args.entry c.in-Ok.index c.index-items-index.result c.requires c.in-Ok.ensures.index.0 c.in-Ok.ensures.index.1 at c.in-Ok.ensures.accepted room
    c.in-Err-restore_all.fault (rw (c.deref.ensures.value, sym c.index-items-index.is) at c.in-Err-restore_all.ensures.refused)

pub returns-in-Err-restore_all-clause-fits : goal.returns-in-Err-restore_all-clause-fits
returns-in-Err-restore_all-clause-fits c =
    let same : journaled c.self.inside.limit c.self.inside.first (reverse c.make_room.new.self.items) ≡ c.args.self.now =
    ap (λ (xs : List Item). journaled c.self.inside.limit c.self.inside.first (reverse xs)) c.make_room.ensures.items ∙ c.self.view_is in
    subst (λ (j : JournalState). FitsSpace c.restore_all.new.space j) (sym same)
    (fits_room c.args.space.now c.restore_all.new.space c.args.self.now c.in-Err-restore_all.ensures.unchanged c.requires)

pub returns-clause-accepted : goal.returns-clause-accepted
returns-clause-accepted c =
    let at = found_at c.self.inside.limit c.self.inside.first c.in-Ok.index c.self.inside.item_store.items c.items.result.now c.args.self.now c.index-items-index.result c.self.view_is (c.items.ensures ∙ c.make_room.ensures.items) c.index-items-index.is in
    let room : full_fault c.args.self.now ≡ None = search rules in
    passes c.args.space.now c.args.self.now c.args.entry c.in-Ok.index c.index-items-index.result c.requires c.in-Ok.ensures.index.0 c.in-Ok.ensures.index.1 at c.in-Ok.ensures.accepted room
    (rw (c.deref.ensures.value, sym c.index-items-index.is) at c.in-Ok-restore_all.ensures.accepted)

pub returns-clause-withdrawn : goal.returns-clause-withdrawn
returns-clause-withdrawn c =
    let at = found_at c.self.inside.limit c.self.inside.first c.in-Ok.index c.self.inside.item_store.items c.items.result.now c.args.self.now c.index-items-index.result c.self.view_is (c.items.ensures ∙ c.make_room.ensures.items) c.index-items-index.is in
    let added = one_more c.self.inside.limit c.self.inside.first c.self.inside.item_store.items c.mark.new.self.items c.push.new.self.items c.args.self.now
    (withdrawal c.args.entry c.in-Ok-restore_all.undos) c.self.view_is (c.mark.ensures.items ∙ c.make_room.ensures.items) c.push.ensures.items in
    is_withdrawn_there c.args.space.now c.args.self.now c.args.entry c.in-Ok.index c.index-items-index.result c.requires c.in-Ok.ensures.index.0 c.in-Ok.ensures.index.1 at c.in-Ok.ensures.accepted
    c.restore_all.new.space c.in-Ok-restore_all.undos (rw (c.deref.ensures.value, sym c.index-items-index.is) at c.in-Ok-restore_all.ensures.restored)
    (rw (c.deref.ensures.value, sym c.index-items-index.is) at c.in-Ok-restore_all.ensures.undos) _ added

pub returns-in-Err-restore_all-clause-grown : goal.returns-in-Err-restore_all-clause-grown
returns-in-Err-restore_all-clause-grown c =
    let at = found_at c.self.inside.limit c.self.inside.first c.in-Ok.index c.self.inside.item_store.items c.items.result.now c.args.self.now c.index-items-index.result c.self.view_is (c.items.ensures ∙ c.make_room.ensures.items) c.index-items-index.is in
    grown_there c.args.space.now c.args.self.now c.args.entry c.in-Ok.index c.index-items-index.result c.requires c.in-Ok.ensures.index.0 c.in-Ok.ensures.index.1 at c.in-Ok.ensures.accepted
    c.restore_all.new.space (rw (c.deref.ensures.value, sym c.index-items-index.is) at c.restore_all.ensures.grown)

pub returns-clause-grown : goal.returns-clause-grown
returns-clause-grown c =
    let at = found_at c.self.inside.limit c.self.inside.first c.in-Ok.index c.self.inside.item_store.items c.items.result.now c.args.self.now c.index-items-index.result c.self.view_is (c.items.ensures ∙ c.make_room.ensures.items) c.index-items-index.is in
    grown_there c.args.space.now c.args.self.now c.args.entry c.in-Ok.index c.index-items-index.result c.requires c.in-Ok.ensures.index.0 c.in-Ok.ensures.index.1 at c.in-Ok.ensures.accepted
    c.restore_all.new.space (rw (c.deref.ensures.value, sym c.index-items-index.is) at c.restore_all.ensures.grown)

pub returns-clause-back : goal.returns-clause-back
returns-clause-back c = λ n.
    let added = one_more c.self.inside.limit c.self.inside.first c.self.inside.item_store.items c.mark.new.self.items c.push.new.self.items c.args.self.now
    (withdrawal c.args.entry c.in-Ok-restore_all.undos) c.self.view_is (c.mark.ensures.items ∙ c.make_room.ensures.items) c.push.ensures.items in
    back_one_more c.restore_all.new.space.mappings (reverse c.push.new.self.items) c.args.self.now.items (withdrawal c.args.entry c.in-Ok-restore_all.undos) c.args.space.now.mappings n
    (ap (λ (j : JournalState). j.items) added) c.in-Ok-restore_all.ensures.restored.changes.list

pub returns-clause-fits : goal.returns-clause-fits
returns-clause-fits c =
    let at = found_at c.self.inside.limit c.self.inside.first c.in-Ok.index c.self.inside.item_store.items c.items.result.now c.args.self.now c.index-items-index.result c.self.view_is (c.items.ensures ∙ c.make_room.ensures.items) c.index-items-index.is in
    let added = one_more c.self.inside.limit c.self.inside.first c.self.inside.item_store.items c.mark.new.self.items c.push.new.self.items c.args.self.now
    (withdrawal c.args.entry c.in-Ok-restore_all.undos) c.self.view_is (c.mark.ensures.items ∙ c.make_room.ensures.items) c.push.ensures.items in
    subst (λ (j : JournalState). FitsSpace c.restore_all.new.space j) (sym added)
    (fits_withdrawn c.args.space.now c.args.self.now c.args.entry c.in-Ok.index c.index-items-index.result c.requires c.in-Ok.ensures.index.0 c.in-Ok.ensures.index.1 at c.in-Ok.ensures.accepted
    c.restore_all.new.space c.in-Ok-restore_all.undos (rw (c.deref.ensures.value, sym c.index-items-index.is) at c.in-Ok-restore_all.ensures.restored))

pub mark-requires-clause-number : goal.mark-requires-clause-number
mark-requires-clause-number c =
    let room : full_fault c.args.self.now ≡ None = search rules in
    let first_is : c.self.inside.first ≡ c.args.self.now.first = ap (λ (j : JournalState). j.first) c.self.view_is in
    let size : length (reverse c.self.inside.item_store.items) ≡ length c.args.self.now.items = ap (λ (j : JournalState). length j.items) c.self.view_is in
    let by : c.next-number.result ≡ c.self.inside.first + length (reverse c.self.inside.item_store.items) =
    c.next-number.ensures ∙ ap (λ (xs : List Item). c.self.inside.first + length (reverse xs)) c.make_room.ensures.items in
    omega (arith, number_left c.args.self.now room, first_is, size, by)

pub mark-requires-clause-index : goal.mark-requires-clause-index
mark-requires-clause-index c =
    let all = c.self.inside.item_store.items in
    let first = c.self.inside.first in
    let size : length (reverse all) ≡ length c.args.self.now.items = ap (λ (j : JournalState). length j.items) c.self.view_is in
    let notes : length c.make_room.new.self.notes ≡ length (reverse all) =
    ap (λ (ms : List (Option ℕ)). length ms) (c.make_room.ensures.notes ∙ c.self.invariant.notes) ∙ length-notes (numbered first (reverse all)) first (reverse all) in
    omega (arith, c.in-Ok.ensures.index.1, size, notes)

pub invariant_of-self-3 : goal.invariant_of-self-3
invariant_of-self-3 c =
    let all = c.self.inside.item_store.items in
    let first = c.self.inside.first in
    let index = c.in-Ok.index in
    let item = withdrawal c.args.entry c.in-Ok-restore_all.undos in
    let grown : c.push.new.self.items ≡ all ++ item ∷ [] =
    c.push.ensures.items ∙ ap (λ (xs : List Item). xs ++ item ∷ []) (c.mark.ensures.items ∙ c.make_room.ensures.items) in
    let turned : reverse c.push.new.self.items ≡ item ∷ reverse all = last_first c.push.new.self.items all item grown in
    let first_is : first ≡ c.args.self.now.first = ap (λ (j : JournalState). j.first) c.self.view_is in
    let size : length (reverse all) ≡ length c.args.self.now.items = ap (λ (j : JournalState). length j.items) c.self.view_is in
    let room : full_fault c.args.self.now ≡ None = search rules in
    let number : first + index ≡ c.args.entry = omega (arith, c.in-Ok.ensures.index.0, first_is) in
    let below : index < length (reverse all) = omega (arith, c.in-Ok.ensures.index.1, size) in
    let live : is_withdrawn (numbered first (reverse all)) c.args.entry ≡ false =
    ap (λ (j : JournalState). is_withdrawn (entries j) c.args.entry) c.self.view_is ∙ found_live c.args.self.now c.args.entry (item_at c.args.self.now c.args.entry) c.in-Ok.ensures.accepted in
    let by : c.next-number.result ≡ first + length (reverse all) = c.next-number.ensures ∙ ap (λ (xs : List Item). first + length (reverse xs)) c.make_room.ensures.items in
    let within : c.args.entry < first + length (reverse all) = omega (arith, number, below) in
    let low : first ≤ c.args.entry = omega (arith, number) in
    record {
      numbered_below = omega (arith, number_left c.args.self.now room, ap (λ (xs : List Item). length xs) turned, size, first_is);
      name_older = subst (λ (xs : List Item). NameOlder (numbered first xs)) (sym turned) (within, c.self.invariant.name_older);
      name_once = subst (λ (xs : List Item). NameOnce first (numbered first xs)) (sym turned) ((low, live), c.self.invariant.name_once);
      notes = c.push.ensures.notes
          ∙ ap (λ (ms : List (Option ℕ)). ms ++ None ∷ []) (c.mark.ensures.notes
          ∙ ap (λ (ms : List (Option ℕ)). set ms index (Some c.next-number.result)) (c.make_room.ensures.notes ∙ c.self.invariant.notes)
          ∙ ap (λ (n : ℕ). set (notes_of (numbered first (reverse all))) index (Some n)) by)
          ∙ sym (notes_withdrawn first index (reverse all) c.in-Ok-restore_all.undos below c.self.invariant.name_older)
          ∙ ap (λ (n : ℕ). notes_of (numbered first (withdrawal n c.in-Ok-restore_all.undos ∷ reverse all))) number
          ∙ ap (λ (xs : List Item). notes_of (numbered first xs)) (sym turned);
    }
