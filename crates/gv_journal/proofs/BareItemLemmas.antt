-- For callers: journals that are the same, bare of memory, have the same numbers, the same items live, and answer the same faults.
use Rattle.std.proofs.Common.{◌≡◌, ℕ, ◌+◌, ◌-◌, ◌==◌, ◌&&◌, ◌||◌, List, [], ◌∷◌, map, take, drop, reverse, length, Bool, true, false, cond, not, Option, Some, None, option_map, slice_get, position, nat_lt, refl, sym, ap, ◌∙◌}
use Rattle.std.specs.List.{list_any, prefix_len}
use Rattle.std.proofs.lemmas.List.{take-map, drop-map, length-map}
use Rattle.std.proofs.lemmas.Option.{slice_get-map}
use Rattle.gv_types.specs.declared.fault.Fault.{Fault}
use Rattle.gv_types.specs.declared.fault.Fault.TheVariants.{NoEntry, NotABind, Withdrawn, Crossed}
use Rattle.gv_types.specs.declared.operation.PageOp.{PageOp}
use Rattle.gv_space.specs.Refusal.{first_of}
use Rattle.gv_journal.specs.Items.{JournalState, numbered, entries, next, names, is_withdrawn, done_by}
use Rattle.gv_journal.specs.Verdict.{full_fault}
use Rattle.gv_journal.specs.Withdrawing.{item_at, touch, touched_from, touched_by, touched_fault, kind_fault, found_fault, entry_fault, done_of, ops_at}
use Rattle.gv_journal.specs.Settling.{later, crosses, crossing, settle_fault}
use Rattle.gv_journal.specs.Bare.{BareItem, BareJournal, bare_item, bare_journal, withdrawn_by}
use Rattle.gv_journal.specs.declared.item.Item.{Item}
use Rattle.gv_journal.specs.declared.item.ItemKind.{ItemKind}
use Rattle.gv_journal.specs.declared.item.ItemKind.TheVariants.{Bind, Withdrawal}
use Rattle.gv_journal.proofs.MapLemmas.{reverse-map}

or_same : {a a' b b' : Bool} → a ≡ a' → b ≡ b' → (a || b) ≡ (a' || b')
or_same first second = cc

-- Each question, asked of bare items.

abbrev names_it : ℕ → Option ℕ → Bool
names_it n None = false
names_it n (Some of) = of == n

names_bare : (n : ℕ) (kind : ItemKind) → names kind n ≡ names_it n (withdrawn_by kind)
names_bare n (Bind queue number request seen done) = refl
names_bare n (Withdrawal of) = refl

withdrawn_bare : (n first : ℕ) (items : List Item) → is_withdrawn (numbered first items) n ≡ list_any (λ item. names_it n item.withdraws) (map bare_item items)
withdrawn_bare n first [] = refl
withdrawn_bare n first (item ∷ older) = or_same (names_bare n item.kind) (withdrawn_bare n first older)

abbrev bare_done : Option BareItem → List PageOp
bare_done None = []
bare_done (Some item) = item.done

done_of_bare : (o : Option Item) → done_of o ≡ bare_done (option_map bare_item o)
done_of_bare None = refl
done_of_bare (Some item) = refl

abbrev touched_bare : (ℕ → Bool) → List PageOp → ℕ → List BareItem → Option ℕ
touched_bare gone ops n [] = None
touched_bare gone ops n (item ∷ later) = cond (touch ops item.done && not (gone n)) (Some n) (touched_bare gone ops (n + 1) later)

touched_from_bare : (gone : ℕ → Bool) (ops : List PageOp) (n : ℕ) (items : List Item) → touched_from gone ops n items ≡ touched_bare gone ops n (map bare_item items)
touched_from_bare gone ops n [] = refl
touched_from_bare gone ops n (item ∷ later) = rw (touched_from_bare gone ops (n + 1) later) refl

touched_same : (gone' gone : ℕ → Bool) (ops : List PageOp) (n : ℕ) (items : List BareItem) → ((m : ℕ) → gone' m ≡ gone m) →
    touched_bare gone' ops n items ≡ touched_bare gone ops n items
touched_same gone' gone ops n [] same = refl
touched_same gone' gone ops n (item ∷ later) same = rw (same n, touched_same gone' gone ops (n + 1) later same) refl

abbrev kind_bare : Bool → (List PageOp → Option ℕ) → Option ℕ → List PageOp → Option Fault
kind_bare gone touched None done = cond gone (Some Withdrawn) (touched_fault (touched done))
kind_bare gone touched (Some of) done = Some NotABind

abbrev found_bare : Bool → (List PageOp → Option ℕ) → Option BareItem → Option Fault
found_bare gone touched None = Some NoEntry
found_bare gone touched (Some item) = kind_bare gone touched item.withdraws item.done

kind_fault_bare : (j : JournalState) (n : ℕ) (kind : ItemKind) →
    kind_fault j n kind ≡ kind_bare (is_withdrawn (entries j) n) (touched_by j n) (withdrawn_by kind) (done_by kind)
kind_fault_bare j n (Bind queue number request seen done) = refl
kind_fault_bare j n (Withdrawal of) = refl

found_fault_bare : (j : JournalState) (n : ℕ) (o : Option Item) →
    found_fault j n o ≡ found_bare (is_withdrawn (entries j) n) (touched_by j n) (option_map bare_item o)
found_fault_bare j n None = refl
found_fault_bare j n (Some item) = kind_fault_bare j n item.kind

kind_same : (gone : Bool) (touched' touched : List PageOp → Option ℕ) (withdraws : Option ℕ) (done : List PageOp) →
    ((ops : List PageOp) → touched' ops ≡ touched ops) → kind_bare gone touched' withdraws done ≡ kind_bare gone touched withdraws done
kind_same gone touched' touched None done same = rw (same done) refl
kind_same gone touched' touched (Some of) done same = refl

found_same : (gone : Bool) (touched' touched : List PageOp → Option ℕ) (o : Option BareItem) → ((ops : List PageOp) → touched' ops ≡ touched ops) →
    found_bare gone touched' o ≡ found_bare gone touched o
found_same gone touched' touched None same = refl
found_same gone touched' touched (Some item) same = kind_same gone touched' touched item.withdraws item.done same

abbrev crosses_it : ℕ → Option ℕ → Bool
crosses_it to None = false
crosses_it to (Some of) = nat_lt of to

crosses_bare : (to : ℕ) (kind : ItemKind) → crosses to kind ≡ crosses_it to (withdrawn_by kind)
crosses_bare to (Bind queue number request seen done) = refl
crosses_bare to (Withdrawal of) = refl

prefix_len-map : {A B : Type 0} (test : B → Bool) (f : A → B) (own : A → Bool) (xs : List A) → ((x : A) → own x ≡ test (f x)) →
    prefix_len (λ x. not (own x)) xs ≡ prefix_len (λ y. not (test y)) (map f xs)
prefix_len-map test f own [] same = refl
prefix_len-map test f own (x ∷ xs) same = rw (same x, prefix_len-map test f own xs same) refl

pub position-map : {A B : Type 0} (test : B → Bool) (f : A → B) (own : A → Bool) (xs : List A) → ((x : A) → own x ≡ test (f x)) →
    position own xs ≡ position test (map f xs)
position-map test f own xs same = rw (prefix_len-map test f own xs same, length-map xs f) refl

option_map-cond : {A B : Type 0} (f : A → B) (b : Bool) (o : Option A) → option_map f (cond b None o) ≡ cond b None (option_map f o)
option_map-cond f true o = refl
option_map-cond f false o = refl

-- the item with a number, bare
abbrev bare_at : BareJournal → ℕ → Option BareItem
bare_at j n = cond (nat_lt n j.first) None (slice_get (reverse j.items) (n - j.first))

item_at_bare : (j : JournalState) (n : ℕ) → option_map bare_item (item_at j n) ≡ bare_at (bare_journal j) n
item_at_bare j n =
    option_map-cond bare_item (nat_lt n j.first) (slice_get (reverse j.items) (n - j.first))
    ∙ ap (λ (o : Option BareItem). cond (nat_lt n j.first) None o)
    (sym (slice_get-map bare_item (reverse j.items) (n - j.first)) ∙ ap (λ (xs : List BareItem). slice_get xs (n - j.first)) (sym (reverse-map bare_item j.items)))

abbrev touched_after : BareJournal → (ℕ → Bool) → ℕ → List PageOp → Option ℕ
touched_after j gone n ops = touched_bare gone ops (n + 1) (drop (n + 1 - j.first) (reverse j.items))

touched_by_bare : (j : JournalState) (n : ℕ) (ops : List PageOp) → touched_by j n ops ≡ touched_after (bare_journal j) (is_withdrawn (entries j)) n ops
touched_by_bare j n ops =
    touched_from_bare (is_withdrawn (entries j)) ops (n + 1) (drop (n + 1 - j.first) (reverse j.items))
    ∙ ap (touched_bare (is_withdrawn (entries j)) ops (n + 1))
    (sym (drop-map bare_item (n + 1 - j.first) (reverse j.items)) ∙ ap (drop (n + 1 - j.first)) (sym (reverse-map bare_item j.items)))

abbrev crossing_bare : BareJournal → ℕ → ℕ → Option ℕ
crossing_bare j next to = option_map (λ index. to + index) (position (λ item. crosses_it to item.withdraws) (reverse (take (next - to) j.items)))

crossing_is : (j : JournalState) (to : ℕ) → crossing j to ≡ crossing_bare (bare_journal j) (next j) to
crossing_is j to =
    ap (option_map (λ index. to + index))
    (position-map (λ (item : BareItem). crosses_it to item.withdraws) bare_item (λ item. crosses to item.kind) (reverse (later j to)) (λ item. crosses_bare to item.kind)
    ∙ ap (position (λ (item : BareItem). crosses_it to item.withdraws))
    (sym (reverse-map bare_item (later j to)) ∙ ap (λ (xs : List BareItem). reverse xs) (sym (take-map bare_item (next j - to) j.items))))

abbrev settle_bare : ℕ → ℕ → ℕ → Option ℕ → Option Fault
settle_bare to first next found = cond (nat_lt to first || nat_lt next to) (Some NoEntry) (option_map (λ by. Crossed by) found)

module _ (j j' : JournalState) (same : bare_journal j ≡ bare_journal j') where
  pub limit_alike : j.limit ≡ j'.limit
  limit_alike = ap (λ (b : BareJournal). b.limit) same

  pub first_alike : j.first ≡ j'.first
  first_alike = ap (λ (b : BareJournal). b.first) same

  pub items_alike : map bare_item j.items ≡ map bare_item j'.items
  items_alike = ap (λ (b : BareJournal). b.items) same

  -- as many items
  pub count_alike : length j.items ≡ length j'.items
  count_alike = sym (length-map j.items bare_item) ∙ ap (λ (xs : List BareItem). length xs) items_alike ∙ length-map j'.items bare_item

  pub next_alike : next j ≡ next j'
  next_alike = rw (first_alike, count_alike) refl

  pub full_fault_alike : full_fault j ≡ full_fault j'
  full_fault_alike = rw (limit_alike, first_alike, count_alike) refl

  -- which items are withdrawn
  pub is_withdrawn_alike : (n : ℕ) → is_withdrawn (entries j) n ≡ is_withdrawn (entries j') n
  is_withdrawn_alike n =
      withdrawn_bare n j.first j.items ∙ ap (list_any (λ (item : BareItem). names_it n item.withdraws)) items_alike ∙ sym (withdrawn_bare n j'.first j'.items)

  -- the item with a number
  pub item_at_alike : (n : ℕ) → option_map bare_item (item_at j n) ≡ option_map bare_item (item_at j' n)
  item_at_alike n = item_at_bare j n ∙ ap (λ (b : BareJournal). bare_at b n) same ∙ sym (item_at_bare j' n)

  -- what it did, the newest operation first
  pub ops_at_alike : (n : ℕ) → ops_at j n ≡ ops_at j' n
  ops_at_alike n =
      ap (λ (xs : List PageOp). reverse xs) (done_of_bare (item_at j n) ∙ ap bare_done (item_at_alike n) ∙ sym (done_of_bare (item_at j' n)))

  -- the least live later item that touches some operations
  pub touched_by_alike : (n : ℕ) (ops : List PageOp) → touched_by j n ops ≡ touched_by j' n ops
  touched_by_alike n ops =
      touched_by_bare j n ops ∙ ap (λ (b : BareJournal). touched_after b (is_withdrawn (entries j)) n ops) same
      ∙ touched_same (is_withdrawn (entries j)) (is_withdrawn (entries j')) ops (n + 1) (drop (n + 1 - j'.first) (reverse (map bare_item j'.items))) is_withdrawn_alike
      ∙ sym (touched_by_bare j' n ops)

  -- why an item isn't withdrawn, before its pages are put back
  pub entry_fault_alike : (n : ℕ) → entry_fault j n ≡ entry_fault j' n
  entry_fault_alike n =
      let found : found_fault j n (item_at j n) ≡ found_fault j' n (item_at j' n) =
      found_fault_bare j n (item_at j n)
      ∙ ap (λ gone. found_bare gone (touched_by j n) (option_map bare_item (item_at j n))) (is_withdrawn_alike n)
      ∙ ap (found_bare (is_withdrawn (entries j') n) (touched_by j n)) (item_at_alike n)
      ∙ found_same (is_withdrawn (entries j') n) (touched_by j n) (touched_by j' n) (option_map bare_item (item_at j' n)) (touched_by_alike n)
      ∙ sym (found_fault_bare j' n (item_at j' n)) in
      ap (λ (o : Option Fault). first_of o (full_fault j)) found ∙ ap (first_of (found_fault j' n (item_at j' n))) full_fault_alike

  pub crossing_alike : (to : ℕ) → crossing j to ≡ crossing j' to
  crossing_alike to =
      crossing_is j to ∙ ap (λ (b : BareJournal). crossing_bare b (next j) to) same ∙ ap (λ n. crossing_bare (bare_journal j') n to) next_alike ∙ sym (crossing_is j' to)

  -- why the items below a number can't be settled
  pub settle_fault_alike : (to : ℕ) → settle_fault j to ≡ settle_fault j' to
  settle_fault_alike to =
      ap (settle_bare to j.first (next j)) (crossing_alike to) ∙ ap (λ n. settle_bare to j.first n (crossing j' to)) next_alike
      ∙ ap (λ first. settle_bare to first (next j') (crossing j' to)) first_alike
