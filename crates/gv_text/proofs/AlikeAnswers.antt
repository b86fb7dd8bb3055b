-- Worlds that are the same, bare of memory, answer the same texts.
use Rattle.std.proofs.Common.{◌≡◌, ℕ, ◌+◌, Bool, List, [], ◌∷◌, length, map, reverse, codes, decimal, Option, Some, None, refl, sym, ap, ◌∙◌}
use Rattle.std.proofs.lemmas.List.{length-map}
use Rattle.gv_journal.specs.Items.{JournalState, NumberedItem, numbered, entries, is_withdrawn}
use Rattle.gv_journal.specs.Bare.{BareBind, BareItem, bare_item, bare_journal, bind_of, withdrawn_by}
use Rattle.gv_journal.specs.declared.item.Item.{Item}
use Rattle.gv_journal.specs.declared.item.ItemKind.{ItemKind}
use Rattle.gv_journal.specs.declared.item.ItemKind.TheVariants.{Bind, Withdrawal}
use Rattle.gv_journal.proofs.BareItemLemmas.{first_alike, items_alike, is_withdrawn_alike}
use Rattle.gv_journal.proofs.MapLemmas.{reverse-map}
use Rattle.gv_session.specs.Texts.{texts_joined, journal_reply, item_text, kind_text, liveness_text}
use Rattle.gv_text.proofs.AlikeTexts.{lines_same}

-- An item of a journal is written by its queue and number, or by what it withdraws.

abbrev withdrawal_text : ℕ → Option ℕ → List ℕ
withdrawal_text entry None = []
withdrawal_text entry (Some of) = texts_joined (decimal entry ∷ codes " withdrawal of " ∷ decimal of ∷ [])

abbrev bare_text : ℕ → Option BareBind → Option ℕ → Bool → List ℕ
bare_text entry (Some bind) withdraws gone =
    texts_joined (decimal entry ∷ codes " bind " ∷ decimal bind.queue ∷ codes " " ∷ decimal bind.number ∷ codes " " ∷ liveness_text gone ∷ [])
bare_text entry None withdraws gone = withdrawal_text entry withdraws

kind_is : (entry : ℕ) (kind : ItemKind) (gone : Bool) → kind_text entry kind gone ≡ bare_text entry (bind_of kind) (withdrawn_by kind) gone
kind_is entry (Bind queue number request seen done) gone = refl
kind_is entry (Withdrawal of) gone = refl

record BareEntry : Type 0 where
  number : ℕ
  item : BareItem

abbrev bare_entry : NumberedItem → BareEntry
bare_entry x = record { number = x.number; item = bare_item x.item }

abbrev bare_numbered : ℕ → List BareItem → List BareEntry
bare_numbered first [] = []
bare_numbered first (item ∷ older) = record { number = first + length older; item = item } ∷ bare_numbered first older

entries_bare : (first : ℕ) (items : List Item) → map bare_entry (numbered first items) ≡ bare_numbered first (map bare_item items)
entries_bare first [] = refl
entries_bare first (item ∷ older) =
    ap (λ (xs : List BareEntry). let x : BareEntry = record { number = first + length older; item = bare_item item } in x ∷ xs) (entries_bare first older)
    ∙ ap (λ (n : ℕ). let x : BareEntry = record { number = first + n; item = bare_item item } in x ∷ bare_numbered first (map bare_item older)) (sym (length-map older bare_item))

abbrev entry_text : (ℕ → Bool) → BareEntry → List ℕ
entry_text gone x = bare_text x.number x.item.bind x.item.withdraws (gone x.number)

-- `journal`
pub journal_alike : (j j' : JournalState) → bare_journal j ≡ bare_journal j' → journal_reply j ≡ journal_reply j'
journal_alike j j' same =
    let all : map bare_entry (entries j) ≡ map bare_entry (entries j') =
    entries_bare j.first j.items ∙ ap (λ (first : ℕ). bare_numbered first (map bare_item j.items)) (first_alike j j' same)
    ∙ ap (bare_numbered j'.first) (items_alike j j' same) ∙ sym (entries_bare j'.first j'.items) in
    lines_same (item_text (is_withdrawn (entries j))) (item_text (is_withdrawn (entries j'))) bare_entry (entry_text (is_withdrawn (entries j')))
    (λ x. ap (kind_text x.number x.item.kind) (is_withdrawn_alike j j' same x.number) ∙ kind_is x.number x.item.kind (is_withdrawn (entries j') x.number))
    (λ x. kind_is x.number x.item.kind (is_withdrawn (entries j') x.number))
    (reverse (entries j)) (reverse (entries j'))
    (sym (reverse-map bare_entry (entries j)) ∙ ap (λ (xs : List BareEntry). reverse xs) all ∙ reverse-map bare_entry (entries j'))
