-- What `Vm::past` and `Vm::base_at` answer: each place has a byte, and no item is left out.
use Rattle.std.proofs.Common.{◌≡◌, ℕ, ◌+◌, ◌-◌, ◌/◌, ◌<◌, ◌≤◌, Bool, true, false, cond, List, [], ◌∷◌, ◌++◌, length, reverse, take, drop, get_or, zero, suc, Option, Some, None, refl, ap, sym, ◌∙◌, arith}
use Rattle.std.specs.Prelude.{IfSome}
use Rattle.std.specs.List.{All, find, filter_map, cons_option}
use Rattle.std.specs.Option.{option_map, option_and_then, option_to_list}
use Rattle.std.proofs.lemmas.List.{append-nil, length-append, take_all, take-append-drop}
use Rattle.std.proofs.lemmas.List.Elements.{All-nil, All-cons, All-head, All-tail, All-take, All-drop, All-append, All-get_or, filter_map-append}
use Rattle.gv_types.specs.Bounds.{BoundsState}
use Rattle.gv_types.specs.Page.{IsPage, bytes_per_page}
use Rattle.gv_types.specs.PageRange.{covers}
use Rattle.gv_types.specs.Operation.{range_of, own_part, view as view_of_ops}
use Rattle.gv_types.specs.declared.mapping.Entry.{Entry}
use Rattle.gv_types.specs.declared.mapping.Mapping.{Mapping}
use Rattle.gv_types.specs.declared.operation.PageOp.{PageOp}
use Rattle.gv_ranges.specs.Edit.{undone}
use Rattle.gv_buffers.specs.Buffers.{BuffersState, IsTable}
use Rattle.gv_space.specs.State.{IsValidMapping}
use Rattle.gv_space.specs.Undo.{OpUndoState}
use Rattle.gv_journal.specs.Undoing.{taken_by, undone_by}
use Rattle.gv_journal.specs.Items.{JournalState, NumberedItem, numbered, entries, next, is_withdrawn, done_by, ops_without}
use Rattle.gv_journal.specs.History.{undos_of, kept_by, back, base, Translates, Rewinds}
use Rattle.gv_journal.specs.Covering.{last_covering, WereLive}
use Rattle.gv_journal.specs.Withdrawing.{item_at}
use Rattle.gv_journal.specs.declared.item.Item.{Item}
use Rattle.gv_journal.proofs.EntryLemmas.{item_held, entries_from}
use Rattle.gv_vm.specs.AddressPast.{effect_at, past_of}
use Rattle.gv_vm.specs.Places.{BytesFit, place_by}
use Rattle.gv_vm.specs.State.{VmState, IsVm}
use Rattle.gv_vm.specs.declared.vm.past.PastItem.{PastItem}
use Rattle.gv_vm.proofs.BytesFit.{BytesFit-at}

-- what an item's last operation that covers a page puts there has bytes
abbrev SaysBytes : Item → Type 0
SaysBytes x = (page : ℕ) (op : PageOp) (e : Entry) → IsPage page → last_covering x.kind page ≡ Some op → own_part op page ≡ Some e → BytesFit e.backing

view_found : (ops older : List PageOp) (below : ℕ → Option Entry) (page : ℕ) (op : PageOp) → find (λ o. covers (range_of o) page) ops ≡ Some op →
    view_of_ops (ops ++ older) below page ≡ own_part op page
view_found [] older below page op is = cc
view_found (first ∷ ops) older below page op is =
    elim (covers (range_of first) page) as (λ c. cond c (Some first) (find (λ o. covers (range_of o) page) ops) ≡ Some op → cond c (own_part first page) (view_of_ops (ops ++ older) below page) ≡ own_part op page) [
      | true ↦ (λ found. let same : first ≡ op = cc in ap (λ (o : PageOp). own_part o page) same)
      | false ↦ (λ found. view_found ops older below page op found)
    ] is

All-front : {X : Type 0} (P : X → Type 0) (xs ys : List X) → All P (xs ++ ys) → All P xs
All-front P [] ys all = All-nil P
All-front P (x ∷ xs) ys all = All-cons P x xs (All-head P x (xs ++ ys) all) (All-front P xs ys (All-tail P x (xs ++ ys) all))

All-behind : {X : Type 0} (P : X → Type 0) (xs ys : List X) → All P (xs ++ ys) → All P ys
All-behind P [] ys all = all
All-behind P (x ∷ xs) ys all = All-behind P xs ys (All-tail P x (xs ++ ys) all)

All-undone : (P : Mapping → Type 0) (ms : List Mapping) (us : List OpUndoState) → All P ms → All P (taken_by us) → All P (undone_by ms us)
All-undone P ms [] all taken = all
All-undone P ms (u ∷ us) all taken =
    let own : All P u.change.taken = All-front P u.change.taken (taken_by us) taken in
    let before : All P (undone ms u.change) =
    All-append P (take u.change.index ms) (u.change.taken ++ drop (u.change.index + u.change.put_in) ms) (All-take P u.change.index ms all)
    (All-append P u.change.taken (drop (u.change.index + u.change.put_in) ms) own (All-drop P (u.change.index + u.change.put_in) ms all)) in
    All-undone P (undone ms u.change) us before (All-behind P u.change.taken (taken_by us) taken)

All-back : (P : Mapping → Type 0) (ms : List Mapping) (items : List Item) → All P ms → All P (kept_by items) → All P (back ms items (length items))
All-back P ms [] all kept = all
All-back P ms (item ∷ items) all kept =
    All-back P (undone_by ms (undos_of item)) items
    (All-undone P ms (undos_of item) all (All-front P (taken_by (undos_of item)) (kept_by items) kept))
    (All-behind P (taken_by (undos_of item)) (kept_by items) kept)

all_say : (a : BoundsState) (t : BuffersState) (limit room first : ℕ) (ms : List Mapping) (items : List Item) (below : ℕ → Option Entry) → IsTable t → All (IsValidMapping a t) ms →
    All (IsValidMapping a t) (kept_by items) → Translates ms (numbered first items) below → Rewinds limit room first ms items below → WereLive (numbered first items) → All SaysBytes items
all_say a t limit room first ms [] below table valid kept translates rewinds live = All-nil SaysBytes
all_say a t limit room first ms (item ∷ items) below table valid kept translates rewinds live =
    let xs : List NumberedItem = numbered first (item ∷ items) in
    let older : List PageOp = ops_without (is_withdrawn xs) (numbered first items) in
    let here : SaysBytes item = λ page op e is found part.
    BytesFit-at a t ms page e table valid
    (translates page is ∙ ap (λ (b : Bool). view_of_ops (cond b [] (reverse (done_by item.kind)) ++ older) below page) live.0
    ∙ view_found (reverse (done_by item.kind)) older below page op found ∙ part) in
    All-cons SaysBytes item items here
    (all_say a t limit room first (undone_by ms (undos_of item)) items below table
    (All-undone (IsValidMapping a t) ms (undos_of item) valid (All-front (IsValidMapping a t) (taken_by (undos_of item)) (kept_by items) kept))
    (All-behind (IsValidMapping a t) (taken_by (undos_of item)) (kept_by items) kept) rewinds.2 rewinds.4 live.1)

pub said_bytes : (v : VmState) (n page : ℕ) (op : PageOp) → IsVm v → WereLive (entries v.journal) → v.journal.first ≤ n → n < next v.journal → IsPage page →
    Some op ≡ option_and_then (λ x. last_covering x.kind page) (item_at v.journal n) → IfSome (own_part op page) (λ e. BytesFit e.backing)
said_bytes v n page op holds live low high is said =
    let says : All SaysBytes v.journal.items =
    all_say v.space.area v.space.buffers v.space.limits.mappings v.space.room v.journal.first v.space.mappings v.journal.items (base v.space.mappings v.journal.items)
    holds.buffers_counted.used.buffers holds.buffers_counted.used.valid holds.buffers_counted.kept.valid holds.translates holds.rewinds live in
    by_items v.journal.items (next v.journal - 1 - n) (omega arith) says (λ d. said ∙ ap (option_and_then (λ (x : Item). last_covering x.kind page)) (item_held v.journal n d low high))
  where
    by_part : (o : Option Entry) → ((e : Entry) → o ≡ Some e → BytesFit e.backing) → IfSome o (λ e. BytesFit e.backing)
    by_part None h = tt
    by_part (Some e) h = h e refl

    by_items : (items : List Item) (k : ℕ) → k < length items → All SaysBytes items → ((d : Item) → Some op ≡ last_covering (get_or items k d).kind page) → IfSome (own_part op page) (λ e. BytesFit e.backing)
    by_items [] k within says found = absurd (omega arith)
    by_items (item ∷ items) k within says found =
        by_part (own_part op page) (λ e part. All-get_or SaysBytes (item ∷ items) k item within says page op e is (sym (found item)) part)

-- what lies under the oldest item has bytes
pub base_bytes : (v : VmState) (page : ℕ) (e : Entry) → IsVm v → base v.space.mappings v.journal.items page ≡ Some e → BytesFit e.backing
base_bytes v page e holds is =
    BytesFit-at v.space.area v.space.buffers (back v.space.mappings v.journal.items (length v.journal.items)) page e holds.buffers_counted.used.buffers
    (All-back (IsValidMapping v.space.area v.space.buffers) v.space.mappings v.journal.items holds.buffers_counted.used.valid holds.buffers_counted.kept.valid) is

found_covers : (ops : List PageOp) (page : ℕ) (op : PageOp) → find (λ o. covers (range_of o) page) ops ≡ Some op → covers (range_of op) page ≡ true
found_covers [] page op is = cc
found_covers (first ∷ ops) page op is =
    elim (covers (range_of first) page) as (λ c. covers (range_of first) page ≡ c → cond c (Some first) (find (λ o. covers (range_of o) page) ops) ≡ Some op → covers (range_of op) page ≡ true) [
      | true ↦ (λ covered found. let same : first ≡ op = cc in ap (λ (o : PageOp). covers (range_of o) page) (sym same) ∙ covered)
      | false ↦ (λ _ found. found_covers ops page op found)
    ] refl is

-- what an item says of a page covers it
pub said_covers : (o : Option Item) (page : ℕ) (op : PageOp) → Some op ≡ option_and_then (λ x. last_covering x.kind page) o → covers (range_of op) page ≡ true
said_covers None page op said = cc
said_covers (Some item) page op said = found_covers (reverse (done_by item.kind)) page op (sym said)

-- the items from the newest on, one more each time
take_suc : (k : ℕ) (xs : List NumberedItem) (x : NumberedItem) (ys : List NumberedItem) → drop k xs ≡ x ∷ ys → take (suc k) xs ≡ take k xs ++ x ∷ []
take_suc zero [] x ys is = cc
take_suc zero (z ∷ zs) x ys is = let same : z ≡ x = cc in ap (λ (u : NumberedItem). u ∷ []) same
take_suc (suc k) [] x ys is = cc
take_suc (suc k) (z ∷ zs) x ys is = ap (λ (us : List NumberedItem). z ∷ us) (take_suc k zs x ys is)

take_one_more : (k : ℕ) (xs : List NumberedItem) (x : NumberedItem) (ys : List NumberedItem) → drop k xs ≡ x ∷ ys → take (k + 1) xs ≡ take k xs ++ x ∷ []
take_one_more k xs x ys is =
    let same : k + 1 ≡ suc k = omega arith in
    ap (λ (n : ℕ). take n xs) same ∙ take_suc k xs x ys is

abbrev pub saying : JournalState → ℕ → NumberedItem → Option PastItem
saying j addr = effect_at (is_withdrawn (entries j)) addr

-- what an item says, by its number
abbrev pub said_at : JournalState → ℕ → ℕ → Option PastItem
said_at j addr n = option_and_then (λ item. effect_at (is_withdrawn (entries j)) addr (record { number = n; item = item })) (item_at j n)

one_said : (o : Option PastItem) → cons_option o [] ≡ option_to_list o
one_said None = refl
one_said (Some item) = refl

said_is : (j : JournalState) (addr n : ℕ) (d : Item) → j.first ≤ n → n < next j → said_at j addr n ≡ saying j addr (record { number = n; item = get_or j.items (next j - 1 - n) d })
said_is j addr n d low high = ap (option_and_then (λ (item : Item). saying j addr (record { number = n; item = item }))) (item_held j n d low high)

pub past_more : (j : JournalState) (addr n : ℕ) (d : Item) → j.first ≤ n → n < next j →
    filter_map (saying j addr) (take (next j - n) (entries j)) ≡ filter_map (saying j addr) (take (next j - (n + 1)) (entries j)) ++ option_to_list (said_at j addr n)
past_more j addr n d low high =
    let x : NumberedItem = record { number = n; item = get_or j.items (next j - 1 - n) d } in
    let more : next j - n ≡ next j - (n + 1) + 1 = omega arith in
    ap (λ (k : ℕ). filter_map (saying j addr) (take k (entries j))) more
    ∙ ap (filter_map (saying j addr)) (take_one_more (next j - (n + 1)) (entries j) x (drop (next j - n) (entries j)) (entries_from j n d low high))
    ∙ filter_map-append (saying j addr) (take (next j - (n + 1)) (entries j)) (x ∷ [])
    ∙ ap (λ (items : List PastItem). filter_map (saying j addr) (take (next j - (n + 1)) (entries j)) ++ items) (one_said (saying j addr x) ∙ ap option_to_list (sym (said_is j addr n d low high)))

numbered_length : (first : ℕ) (items : List Item) → length (numbered first items) ≡ length items
numbered_length first [] = refl
numbered_length first (item ∷ items) = ap suc (numbered_length first items)

pub past_all : (j : JournalState) (addr n : ℕ) → n ≡ j.first → filter_map (saying j addr) (take (next j - n) (entries j)) ≡ past_of j addr
past_all j addr n is =
    ap (filter_map (saying j addr)) (take_all (next j - n) (entries j) (omega (arith, is, numbered_length j.first j.items)))

-- where one says something there is something to list
pub past_some : (j : JournalState) (addr n : ℕ) (item : PastItem) (d : Item) → j.first ≤ n → n < next j → said_at j addr n ≡ Some item → 0 < length (past_of j addr)
past_some j addr n item d low high is =
    let some : List PastItem = filter_map (saying j addr) (take (next j - (n + 1)) (entries j)) in
    let rest : List PastItem = filter_map (saying j addr) (drop (next j - n) (entries j)) in
    let whole : past_of j addr ≡ (some ++ item ∷ []) ++ rest =
    ap (filter_map (saying j addr)) (sym (take-append-drop (next j - n) (entries j)))
    ∙ filter_map-append (saying j addr) (take (next j - n) (entries j)) (drop (next j - n) (entries j))
    ∙ ap (λ (items : List PastItem). items ++ rest) (past_more j addr n d low high ∙ ap (λ (o : Option PastItem). some ++ option_to_list o) is) in
    omega (arith, ap (λ (items : List PastItem). length items) whole, length-append (some ++ item ∷ []) rest, length-append some (item ∷ []))

some_item : (items : List Item) → 0 < length items → Item
some_item [] some = absurd (omega arith)
some_item (item ∷ items) some = item

-- what those from a number on say, and what the next older one says of it
next_older : (j : JournalState) (addr n : ℕ) (list : List PastItem) (o : Option PastItem) → j.first < n → n ≤ next j →
    list ≡ filter_map (saying j addr) (take (next j - n) (entries j)) → o ≡ said_at j addr (n - 1) →
    list ++ option_to_list o ≡ filter_map (saying j addr) (take (next j - (n - 1)) (entries j))
next_older j addr n list o low high items said =
    let back : n ≡ n - 1 + 1 = omega arith in
    let d : Item = some_item j.items (omega arith) in
    ap (λ (xs : List PastItem). xs ++ option_to_list o) (items ∙ ap (λ (k : ℕ). filter_map (saying j addr) (take (next j - k) (entries j))) back)
    ∙ ap (λ (x : Option PastItem). filter_map (saying j addr) (take (next j - (n - 1 + 1)) (entries j)) ++ option_to_list x) said
    ∙ sym (past_more j addr (n - 1) d (omega arith) (omega arith))

pub one_listed : (j : JournalState) (addr n : ℕ) (list : List PastItem) (item : PastItem) → j.first < n → n ≤ next j →
    list ≡ filter_map (saying j addr) (take (next j - n) (entries j)) → Some item ≡ said_at j addr (n - 1) →
    list ++ item ∷ [] ≡ filter_map (saying j addr) (take (next j - (n - 1)) (entries j))
one_listed j addr n list item low high items said = next_older j addr n list (Some item) low high items said

pub none_listed : (j : JournalState) (addr n : ℕ) (list : List PastItem) → j.first < n → n ≤ next j →
    list ≡ filter_map (saying j addr) (take (next j - n) (entries j)) → None ≡ said_at j addr (n - 1) →
    list ≡ filter_map (saying j addr) (take (next j - (n - 1)) (entries j))
none_listed j addr n list low high items said = sym (append-nil list) ∙ next_older j addr n list None low high items said

pub one_to_list : (j : JournalState) (addr n : ℕ) (item : PastItem) → j.first < n → n ≤ next j → Some item ≡ said_at j addr (n - 1) → 0 < length (past_of j addr)
one_to_list j addr n item low high said =
    past_some j addr (n - 1) item (some_item j.items (omega arith)) (omega arith) (omega arith) (sym said)

-- what an item says of an address, by its last operation that covers the page
pub said_item : (j : JournalState) (addr n : ℕ) (said : Option PageOp) → said ≡ option_and_then (λ x. last_covering x.kind (addr / bytes_per_page)) (item_at j n) →
    option_map (λ op. record { entry = n; is_withdrawn = is_withdrawn (entries j) n; place = place_by (own_part op) addr }) said ≡ said_at j addr n
said_item j addr n said is = by_item (item_at j n) is
  where
    by_item : (o : Option Item) → said ≡ option_and_then (λ x. last_covering x.kind (addr / bytes_per_page)) o →
        option_map (λ op. record { entry = n; is_withdrawn = is_withdrawn (entries j) n; place = place_by (own_part op) addr }) said
        ≡ option_and_then (λ item. effect_at (is_withdrawn (entries j)) addr (record { number = n; item = item })) o
    by_item None h = ap (option_map (λ (op : PageOp). record { entry = n; is_withdrawn = is_withdrawn (entries j) n; place = place_by (own_part op) addr })) h
    by_item (Some item) h = ap (option_map (λ (op : PageOp). record { entry = n; is_withdrawn = is_withdrawn (entries j) n; place = place_by (own_part op) addr })) h
