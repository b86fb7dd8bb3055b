-- An item found by its number.
use Rattle.std.proofs.Common.{◌≡◌, ℕ, ◌+◌, ◌-◌, ◌<◌, ◌≤◌, Bool, true, false, cond, List, length, take, drop, reverse, get_or, Option, Some, None, ap, sym, ◌∙◌, arith}
use Rattle.std.specs.Prelude.{slice_get, nat_lt, is_some, Vec}
use Rattle.std.specs.Global.{Global}
use Rattle.std.proofs.lemmas.Bool.Decides.{nat_tests}
use Rattle.std.proofs.lemmas.List.{length-reverse, length-drop, take_all, get_or-drop}
use Rattle.std.proofs.lemmas.Option.{slice_get-get_or}
use Rattle.gv_types.specs.declared.fault.Fault.TheVariants.{Withdrawn}
use Rattle.gv_types.specs.declared.operation.PageOp.{PageOp}
use Rattle.gv_types.specs.declared.request.Request.{Request}
use Rattle.gv_journal.specs.Items.{JournalState, entries, next, is_withdrawn}
use Rattle.gv_journal.specs.Notes.{named_by, notes_of, TellGone}
use Rattle.gv_journal.specs.Withdrawing.{item_at, touched_from, touched_by, touched_fault, kind_fault, found_fault}
use Rattle.gv_journal.specs.declared.item.Item.{Item}
use Rattle.gv_journal.specs.declared.item.ItemKind.{ItemKind}
use Rattle.gv_journal.specs.declared.item.ItemKind.TheVariants.{Bind}
use Rattle.gv_journal.proofs.NotesByIndex.{named_is, note_at, length-notes}

not_less : (n low : ℕ) → low ≤ n → nat_lt n low ≡ false
not_less n low le = grind (arith, nat_tests)

-- the item that is found
pub item_found : (j : JournalState) (n start : ℕ) (items : List Item) (item : Item) → start ≡ j.first → start ≤ n → n < next j → items ≡ reverse j.items → item ≡ get_or items (n - start) item →
    item_at j n ≡ Some item
item_found j n start items item is low high all at =
    let below : n - start < length items = omega (arith, ap (λ (xs : List Item). length xs) all, length-reverse j.items) in
    let got : slice_get items (n - start) ≡ Some item = slice_get-get_or items (n - start) item below ∙ ap (λ (x : Item). Some x) (sym at) in
    ap (λ (b : Bool). cond b None (slice_get (reverse j.items) (n - j.first))) (not_less n j.first (omega arith))
    ∙ ap (λ (k : ℕ). slice_get (reverse j.items) (n - k)) (sym is) ∙ ap (λ (xs : List Item). slice_get xs (n - start)) (sym all) ∙ got

module _ (j : JournalState) (n start : ℕ) (items : List Item) (item : Item) (queue number : ℕ) (request : Request) (seen : Vec ℕ Global) (done : Vec PageOp Global)
    (is : start ≡ j.first) (low : start ≤ n) (high : n < next j) (all : items ≡ reverse j.items) (at : item ≡ get_or items (n - start) item) (kind : item.kind ≡ Bind queue number request seen done) where
  pub bind_fault : found_fault j n (item_at j n) ≡ kind_fault j n (Bind queue number request seen done)
  bind_fault = ap (λ (o : Option Item). found_fault j n o) (item_found j n start items item is low high all at) ∙ ap (λ (k : ItemKind). kind_fault j n k) kind

  pub found_withdrawn : is_withdrawn (entries j) n ≡ true → found_fault j n (item_at j n) ≡ Some Withdrawn
  found_withdrawn gone =
      bind_fault ∙ ap (λ (b : Bool). cond b (Some Withdrawn) (touched_fault (touched_by j n done.items))) gone

  pub found_touched : is_withdrawn (entries j) n ≡ false → (o : Option ℕ) →
      o ≡ touched_from (is_withdrawn (entries j)) done.items (n + 1) (take (length items - (n - start + 1)) (drop (n - start + 1) items)) →
      found_fault j n (item_at j n) ≡ touched_fault o
  found_touched live o found =
      let index : n + 1 - j.first ≡ n - start + 1 = omega arith in
      let whole : take (length items - (n - start + 1)) (drop (n - start + 1) items) ≡ drop (n + 1 - j.first) (reverse j.items) =
      take_all (length items - (n - start + 1)) (drop (n - start + 1) items) (omega (arith, length-drop (n - start + 1) items))
      ∙ ap (λ (k : ℕ). drop k items) (sym index) ∙ ap (λ (xs : List Item). drop (n + 1 - j.first) xs) all in
      let same : touched_by j n done.items ≡ o =
      ap (λ (xs : List Item). touched_from (is_withdrawn (entries j)) done.items (n + 1) xs) (sym whole) ∙ sym found in
      bind_fault ∙ ap (λ (b : Bool). cond b (Some Withdrawn) (touched_fault (touched_by j n done.items))) live
      ∙ ap (λ (x : Option ℕ). touched_fault x) same

-- the notes beside the items
module _ (j : JournalState) (n start : ℕ) (items : List Item) (notes : List (Option ℕ)) (is : start ≡ j.first) (low : start ≤ n) (high : n < next j) (all : items ≡ reverse j.items)
    (noted : notes ≡ notes_of (entries j)) where
  beside : length notes ≡ length items
  beside = ap (λ (ms : List (Option ℕ)). length ms) noted ∙ length-notes (entries j) j.first j.items ∙ sym (ap (λ (xs : List Item). length xs) all ∙ length-reverse j.items)

  each_note : (i : ℕ) (note : Option ℕ) (item : Item) → i < length items → get_or notes i note ≡ named_by (entries j) (j.first + i)
  each_note i note item below =
      ap (λ (ms : List (Option ℕ)). get_or ms i note) noted
      ∙ note_at (entries j) j.first j.items i note item (omega (arith, ap (λ (xs : List Item). length xs) all, length-reverse j.items))

  -- that of the item itself
  pub own_note : (own : Option ℕ) → Item → own ≡ get_or notes (n - start) own → is_some own ≡ is_withdrawn (entries j) n
  own_note own item at =
      let below : n - start < length items = omega (arith, ap (λ (xs : List Item). length xs) all, length-reverse j.items) in
      let number : j.first + (n - start) ≡ n = omega arith in
      ap is_some (at ∙ each_note (n - start) own item below) ∙ ap (λ (k : ℕ). is_some (named_by (entries j) k)) number ∙ named_is (entries j) n

  abbrev from : ℕ
  from = n - start + 1

  later_notes : take (length items - from) (drop from notes) ≡ drop from notes
  later_notes = take_all (length items - from) (drop from notes) (omega (arith, length-drop from notes, beside))

  -- those of the later items
  pub later_gone : Item → TellGone (is_withdrawn (entries j)) (n + 1) (take (length items - from) (drop from notes))
  later_gone item i note below =
      let within : from + i < length items = omega (arith, below, beside, ap (λ (ms : List (Option ℕ)). length ms) later_notes, length-drop from notes) in
      let number : j.first + (from + i) ≡ n + 1 + i = omega arith in
      sym (named_is (entries j) (n + 1 + i))
      ∙ ap (λ (k : ℕ). is_some (named_by (entries j) k)) (sym number)
      ∙ ap is_some (sym (get_or-drop from notes i note ∙ each_note (from + i) note item within))
      ∙ ap (λ (ms : List (Option ℕ)). is_some (get_or ms i note)) (sym later_notes)
