-- What lies under the oldest item, by what the oldest live one that covers the page took out.
use Rattle.std.proofs.Common.{drop_of_length-le, ◌≡◌, ℕ, ◌+◌, ◌-◌, ◌<◌, ◌≤◌, Bool, true, false, cond, IsTrue, List, [], ◌∷◌, ◌++◌, length, reverse, drop, get_or, zero, suc, Option, Some, None, refl, ap, sym, ◌∙◌, subst, arith}
use Rattle.std.specs.Prelude.{MatchOption}
use Rattle.std.specs.List.{find}
use Rattle.std.specs.Option.{option_and_then}
use Rattle.std.proofs.lemmas.List.{reverse-append}
use Rattle.std.proofs.lemmas.List.Folds.{find-append}
use Rattle.gv_types.specs.Page.{PAGES, IsPage}
use Rattle.gv_types.specs.PageRange.{covers}
use Rattle.gv_types.specs.Operation.{range_of, own_part, view as view_of_ops}
use Rattle.gv_types.specs.declared.mapping.Entry.{Entry}
use Rattle.gv_types.specs.declared.mapping.Mapping.{Mapping}
use Rattle.gv_types.specs.declared.operation.PageOp.{PageOp}
use Rattle.gv_ranges.specs.List.{at, IsLaidOut}
use Rattle.gv_ranges.specs.Edit.{undone}
use Rattle.gv_space.specs.State.{SpaceState}
use Rattle.gv_space.specs.Undo.{OpUndoState}
use Rattle.gv_journal.specs.Undoing.{undone_by, AreRevertible}
use Rattle.gv_journal.specs.Items.{JournalState, NumberedItem, entries, next, is_withdrawn, done_by, ops_without}
use Rattle.gv_journal.specs.History.{undos_of, back, base, Save, SavesBelow, EachSaves, Rewinds}
use Rattle.gv_journal.specs.Covering.{first_taken, live_taken}
use Rattle.gv_journal.specs.Fits.{FitsSpace}
use Rattle.gv_journal.specs.Withdrawing.{item_at}
use Rattle.gv_journal.specs.declared.item.Item.{Item}
use Rattle.gv_journal.specs.declared.item.ItemKind.{ItemKind}
use Rattle.gv_journal.specs.declared.item.ItemKind.TheVariants.{Bind, Withdrawal}
use Rattle.gv_ranges.proofs.LookupLemmas.{at_past}
use Rattle.gv_journal.proofs.NotesByIndex.{length-numbered}
use Rattle.gv_journal.proofs.Views.{view-append}
use Rattle.gv_journal.proofs.Covering.{covering}
use Rattle.gv_journal.proofs.EntryLemmas.{item_held, entries_from}

-- what a first operation that covers the page took out is what lay below; where there is none, none covers it
abbrev Tells : List PageOp → (ℕ → Option Entry) → ℕ → Option (Option Entry) → Type 0
Tells done below page None = find (covering page) (reverse done) ≡ None
Tells done below page (Some taken) = taken ≡ below page

no_undo : (ops : List PageOp) (op : PageOp) (below : ℕ → Option Entry) → Save (ops ++ op ∷ []) [] below → ⊥
no_undo [] op below h = h
no_undo (first ∷ ops) op below h = h

no_op : (us : List OpUndoState) (u : OpUndoState) (below : ℕ → Option Entry) → Save [] (us ++ u ∷ []) below → ⊥
no_op [] u below h = h
no_op (first ∷ us) u below h = h

-- the first operation and its undo value stand last
oldest_saves : (ops : List PageOp) (us : List OpUndoState) (op : PageOp) (u : OpUndoState) (below : ℕ → Option Entry) → Save (ops ++ op ∷ []) (us ++ u ∷ []) below →
    Save ops us (view_of_ops (op ∷ []) below) × ((page : ℕ) → IsPage page → IsTrue (covers (range_of op) page) → at u.change.taken page ≡ below page)
oldest_saves [] [] op u below h = (tt, h.0)
oldest_saves [] (v ∷ us) op u below h = absurd (no_op us u below h.1)
oldest_saves (first ∷ ops) [] op u below h = absurd (no_undo ops op below h.1)
oldest_saves (first ∷ ops) (v ∷ us) op u below h =
    let rest = oldest_saves ops us op u below h.1 in
    ((λ page is c. h.0 page is c ∙ view-append ops (op ∷ []) below page, rest.0), rest.1)

turned_op : (op : PageOp) (later : List PageOp) → reverse (op ∷ later) ≡ reverse later ++ op ∷ []
turned_op op later = reverse-append (op ∷ []) later

turned_undo : (u : OpUndoState) (us : List OpUndoState) → reverse (u ∷ us) ≡ reverse us ++ u ∷ []
turned_undo u us = reverse-append (u ∷ []) us

tells_on : (op : PageOp) (later : List PageOp) (below : ℕ → Option Entry) (page : ℕ) (o : Option (Option Entry)) → covering page op ≡ false →
    Tells later (view_of_ops (op ∷ []) below) page o → Tells (op ∷ later) below page o
tells_on op later below page None miss h =
    ap (find (covering page)) (turned_op op later) ∙ find-append (covering page) (reverse later) (op ∷ []) ∙ (rw (h, miss) refl)
tells_on op later below page (Some taken) miss h =
    h ∙ ap (λ (b : Bool). cond b (own_part op page) (below page)) miss

first_tells : (done : List PageOp) (us : List OpUndoState) (below : ℕ → Option Entry) (page : ℕ) → IsPage page → Save (reverse done) (reverse us) below →
    Tells done below page (first_taken done us page)
first_tells [] us below page is saves = refl
first_tells (op ∷ later) [] below page is saves = absurd (no_undo (reverse later) op below (subst (λ (ops : List PageOp). Save ops [] below) (turned_op op later) saves))
first_tells (op ∷ later) (u ∷ us) below page is saves =
    let both = oldest_saves (reverse later) (reverse us) op u below
    (subst (λ (xs : List OpUndoState). Save (reverse later ++ op ∷ []) xs below) (turned_undo u us)
    (subst (λ (ops : List PageOp). Save ops (reverse (u ∷ us)) below) (turned_op op later) saves)) in
    let rest : Tells later (view_of_ops (op ∷ []) below) page (first_taken later us page) = first_tells later us (view_of_ops (op ∷ []) below) page is both.0 in
    elim (covering page op) as (λ c. covering page op ≡ c → Tells (op ∷ later) below page (cond c (Some (at u.change.taken page)) (first_taken later us page))) [
      | true ↦ (λ c. both.1 page is c)
      | false ↦ (λ c. tells_on op later below page (first_taken later us page) c rest)
    ] refl

kind_tells : (kind : ItemKind) (us : List OpUndoState) (below : ℕ → Option Entry) (page : ℕ) → IsPage page → SavesBelow kind (reverse us) below →
    Tells (done_by kind) below page (first_taken (done_by kind) us page)
kind_tells (Bind queue number request seen done) us below page is saves = first_tells done.items us below page is saves
kind_tells (Withdrawal of) us below page is saves = refl

-- no live operation of these items covers the page
abbrev pub IsQuiet : (ℕ → Bool) → ℕ → List NumberedItem → Type 0
IsQuiet gone page xs = find (covering page) (ops_without gone xs) ≡ None

quiet_view : (ops : List PageOp) (below : ℕ → Option Entry) (page : ℕ) → find (covering page) ops ≡ None → view_of_ops ops below page ≡ below page
quiet_view [] below page none = refl
quiet_view (op ∷ ops) below page none =
    elim (covering page op) as (λ c. cond c (Some op) (find (covering page) ops) ≡ None → cond c (own_part op page) (view_of_ops ops below page) ≡ below page) [
      | true ↦ (λ h. cc)
      | false ↦ (λ h. quiet_view ops below page h)
    ] none

EachSaves-drop : (gone : ℕ → Bool) (k : ℕ) (xs : List NumberedItem) (below : ℕ → Option Entry) → EachSaves gone xs below → EachSaves gone (drop k xs) below
EachSaves-drop gone zero xs below h = h
EachSaves-drop gone (suc k) [] below h = tt
EachSaves-drop gone (suc k) (x ∷ xs) below h = EachSaves-drop gone k xs below h.1

-- What an item tells: it keeps quiet, or tells what lies below all.
abbrev pub Goes : (ℕ → Bool) → ℕ → List NumberedItem → (ℕ → Option Entry) → Option (Option Entry) → Type 0
Goes gone page xs below o = MatchOption o (IsQuiet gone page xs) (λ taken. taken ≡ below page)

live_goes : (gone : ℕ → Bool) (x : NumberedItem) (older : List NumberedItem) (below : ℕ → Option Entry) (page : ℕ) → gone x.number ≡ false → IsQuiet gone page older →
    (o : Option (Option Entry)) → Tells (done_by x.item.kind) (view_of_ops (ops_without gone older) below) page o → Goes gone page (x ∷ older) below o
live_goes gone x older below page live quiet None h =
    ap (λ (b : Bool). find (covering page) (cond b [] (reverse (done_by x.item.kind)) ++ ops_without gone older)) live
    ∙ find-append (covering page) (reverse (done_by x.item.kind)) (ops_without gone older) ∙ (rw (h, quiet) refl)
live_goes gone x older below page live quiet (Some taken) h = h ∙ quiet_view (ops_without gone older) below page quiet

item_goes : (gone : ℕ → Bool) (x : NumberedItem) (older : List NumberedItem) (below : ℕ → Option Entry) (page : ℕ) → IsPage page → EachSaves gone (x ∷ older) below → IsQuiet gone page older →
    Goes gone page (x ∷ older) below (live_taken (gone x.number) x.item page)
item_goes gone x older below page is saves quiet =
    elim (gone x.number) as (λ b. gone x.number ≡ b → Goes gone page (x ∷ older) below (live_taken b x.item page)) [
      | true ↦ (λ g. ap (λ (b : Bool). find (covering page) (cond b [] (reverse (done_by x.item.kind)) ++ ops_without gone older)) g ∙ quiet)
      | false ↦ (λ g. live_goes gone x older below page g quiet (first_taken (done_by x.item.kind) x.item.undos.items page)
          (kind_tells x.item.kind x.item.undos.items (view_of_ops (ops_without gone older) below) page is (saves.0 g)))
    ] refl

-- one item more is asked, each one older keeps quiet
some_item : (items : List Item) → 0 < length items → Item
some_item [] some = absurd (omega arith)
some_item (item ∷ items) some = item

pub one_goes : (s : SpaceState) (j : JournalState) (page n : ℕ) → IsPage page → FitsSpace s j → j.first ≤ n → n < next j →
    IsQuiet (is_withdrawn (entries j)) page (drop (next j - n) (entries j)) →
    Goes (is_withdrawn (entries j)) page (drop (next j - (n + 1)) (entries j)) (base s.mappings j.items) (option_and_then (λ x. live_taken (is_withdrawn (entries j) n) x page) (item_at j n))
one_goes s j page n is fits low high quiet =
    let item : Item = some_item j.items (omega arith) in
    let gone : ℕ → Bool = is_withdrawn (entries j) in
    let below : ℕ → Option Entry = base s.mappings j.items in
    let x : NumberedItem = record { number = n; item = get_or j.items (next j - 1 - n) item } in
    let older : List NumberedItem = drop (next j - n) (entries j) in
    let from : drop (next j - (n + 1)) (entries j) ≡ x ∷ older = entries_from j n item low high in
    let saves : EachSaves gone (x ∷ older) below = subst (λ (xs : List NumberedItem). EachSaves gone xs below) from (EachSaves-drop gone (next j - (n + 1)) (entries j) below fits.saves) in
    let there : Goes gone page (x ∷ older) below (live_taken (gone n) x.item page) = item_goes gone x older below page is saves quiet in
    subst (λ (xs : List NumberedItem). Goes gone page xs below (option_and_then (λ y. live_taken (gone n) y page) (item_at j n))) (sym from)
    (subst (λ (o : Option Item). Goes gone page (x ∷ older) below (option_and_then (λ y. live_taken (gone n) y page) o)) (sym (item_held j n item low high)) there)

pub none_older : (j : JournalState) (page : ℕ) → IsQuiet (is_withdrawn (entries j)) page (drop (next j - j.first) (entries j))
none_older j page =
    ap (λ (xs : List NumberedItem). find (covering page) (ops_without (is_withdrawn (entries j)) xs))
    (drop_of_length-le (entries j) (omega (arith, length-numbered j.first j.items)))

-- all keep quiet
pub all_quiet : (s : SpaceState) (j : JournalState) (page n : ℕ) → IsPage page → FitsSpace s j → n ≡ next j → IsQuiet (is_withdrawn (entries j)) page (drop (next j - n) (entries j)) →
    at s.mappings page ≡ base s.mappings j.items page
all_quiet s j page n is fits end quiet =
    let none : next j - n ≡ 0 = omega (arith, end) in
    fits.translates page is
    ∙ quiet_view (ops_without (is_withdrawn (entries j)) (entries j)) (base s.mappings j.items) page
    (subst (λ (k : ℕ). IsQuiet (is_withdrawn (entries j)) page (drop k (entries j))) none quiet)

-- the list before all items is in order
laid_undone : (limit room : ℕ) (ms : List Mapping) (us : List OpUndoState) → IsLaidOut ms → AreRevertible limit room ms us → IsLaidOut (undone_by ms us)
laid_undone limit room ms [] laid are = laid
laid_undone limit room ms (u ∷ us) laid are = laid_undone limit room (undone ms u.change) us are.0.undo.laid_out are.1

laid_back : (limit room first : ℕ) (ms : List Mapping) (items : List Item) (below : ℕ → Option Entry) → IsLaidOut ms → Rewinds limit room first ms items below → IsLaidOut (back ms items (length items))
laid_back limit room first ms [] below laid rewinds = laid
laid_back limit room first ms (item ∷ items) below laid rewinds =
    laid_back limit room first (undone_by ms (undos_of item)) items below (laid_undone limit room ms (undos_of item) laid rewinds.0) rewinds.4

pub base_past : (s : SpaceState) (j : JournalState) (page : ℕ) → IsLaidOut s.mappings → FitsSpace s j → PAGES ≤ page → base s.mappings j.items page ≡ None
base_past s j page laid fits past = at_past (back s.mappings j.items (length j.items)) 0 page (laid_back s.limits.mappings s.room j.first s.mappings j.items (base s.mappings j.items) laid fits.rewinds) past
