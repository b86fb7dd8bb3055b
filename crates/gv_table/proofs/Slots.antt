-- What a slot made of a variant is, and the chain of empty tables.
use Rattle.std.proofs.Common.{◌≡◌, ◌≢◌, ◌⊎◌, inl, inr, ℕ, zero, suc, map, ◌+◌, ◌-◌, ◌/◌, ◌%◌, ◌^◌, ◌<◌, ◌==◌, nat_lt, if◌then◌else◌, Bool, true, false, List, [], ◌∷◌, length, slice_index_or, slice_set, Box, Global, refl, arith, subst, sym, ap, ◌∙◌, add-one, rules}
use Rattle.std.proofs.lemmas.Bool.Decides.{nat_tests}
use Rattle.std.proofs.lemmas.List.{get_or-set_same, get_or-set_other, length-set}
use Rattle.gv_types.specs.declared.mapping.Backing.{Backing}
use Rattle.gv_types.specs.declared.mapping.Backing.TheVariants as backing
use Rattle.gv_types.specs.declared.mapping.BufferId.{BufferId}
use Rattle.gv_types.specs.declared.mapping.Entry.{Entry}
use Rattle.gv_types.specs.declared.mapping.Flags.{Flags}
use Rattle.gv_table.specs.BufferNames.{PageSlot}
use Rattle.gv_table.specs.declared.slot.Slot.{Slot, out-Slot, the_lemmas}
use Rattle.gv_table.specs.declared.slot.Slot.TheVariants.{Empty, Zero, Buffer, Pages, Table}
use Rattle.gv_table.specs.declared.slot.Slot.TheOpen as layer
use Rattle.gv_table.specs.Tree.{is_table, child, leaf, leaf_with, no_page, slot_of, layer_is_table, layer_child}
use Rattle.gv_table.specs.Chain.{IsChainOf, AreEmpty, chain_length, is_slots, layer_is_slots}

pub out-Table : (slots : Box (List Slot) Global) → out-Slot (Table slots) ≡ layer.Table slots
out-Table slots = search (rules, the_lemmas)

out-Empty : out-Slot Empty ≡ layer.Empty
out-Empty = search (rules, the_lemmas)

out-Zero : (flags : Flags) → out-Slot (Zero flags) ≡ layer.Zero flags
out-Zero flags = search (rules, the_lemmas)

out-Buffer : (flags : Flags) (id : BufferId) (page : ℕ) → out-Slot (Buffer flags id page) ≡ layer.Buffer flags id page
out-Buffer flags id page = search (rules, the_lemmas)

pub is_table-Table : (slots : Box (List Slot) Global) → is_table (Table slots) ≡ true
unfolding is_table
is_table-Table slots = ap layer_is_table (out-Table slots)

pub out-Pages : (pages : Box (List PageSlot × Slot) Global) → out-Slot (Pages pages) ≡ layer.Pages pages
out-Pages pages = search (rules, the_lemmas)

pub is_table-Pages : (pages : Box (List PageSlot × Slot) Global) → is_table (Pages pages) ≡ true
unfolding is_table
is_table-Pages pages = ap layer_is_table (out-Pages pages)

pub child-Pages : (pages : Box (List PageSlot × Slot) Global) (index : ℕ) → child (Pages pages) index ≡ slot_of (slice_index_or pages.value.0 index no_page)
unfolding child
child-Pages pages index = ap (λ (l : layer.Slot-F Slot). layer_child l index) (out-Pages pages)

pub is_table-Empty : is_table Empty ≡ false
unfolding is_table
is_table-Empty = ap layer_is_table out-Empty

pub is_table-Zero : (flags : Flags) → is_table (Zero flags) ≡ false
unfolding is_table
is_table-Zero flags = ap layer_is_table (out-Zero flags)

pub is_table-Buffer : (flags : Flags) (id : BufferId) (page : ℕ) → is_table (Buffer flags id page) ≡ false
unfolding is_table
is_table-Buffer flags id page = ap layer_is_table (out-Buffer flags id page)

with-no-table : (flags : Flags) (held : Backing) → is_table (leaf_with flags held) ≡ false
with-no-table flags backing.Zero = is_table-Zero flags
with-no-table flags (backing.Buffer id page) = is_table-Buffer flags id page

pub is_table-leaf : (entry : Entry) → is_table (leaf entry) ≡ false
unfolding leaf
is_table-leaf entry = with-no-table entry.flags entry.backing

pub slot_of-none : slot_of no_page ≡ Empty
unfolding slot_of
slot_of-none = refl

encoded-other : (b : Bool) (one other : Slot) → is_table one ≡ false → is_table other ≡ false → is_table (if b then one else other) ≡ false
encoded-other true one other a b = a
encoded-other false one other a b = b

-- a page is no table
pub page-other : (p : PageSlot) → is_table (slot_of p) ≡ false
unfolding slot_of
page-other p =
    let head : ℕ = p / 2 ^ 40 in
    encoded-other (p == 0) Empty _ is_table-Empty
    (encoded-other (nat_lt head 3) _ _ (is_table-Zero (record { read_only = head == 2 })) (is_table-Buffer (record { read_only = (head - 3) % 2 == 1 }) _ _))

encoded-some : (b : Bool) (flags flags' : Flags) (id : BufferId) (page : ℕ) → (if b then Zero flags else Buffer flags' id page) ≡ Empty → ⊥
encoded-some true flags flags' id page e = cc
encoded-some false flags flags' id page e = cc

word-by : (b : Bool) (rest : Slot) → (rest ≡ Empty → ⊥) → (if b then Empty else rest) ≡ Empty → b ≡ true
word-by true rest some e = refl
word-by false rest some e = absurd (some e)

-- a page that is an empty slot is empty
is-zero : (n : ℕ) → (n == 0) ≡ true → n ≡ 0
is-zero n e = grind (arith, nat_tests, e)

pub empty-page : (p : PageSlot) → slot_of p ≡ Empty → p ≡ no_page
unfolding slot_of
empty-page p e =
    let head : ℕ = p / 2 ^ 40 in
    is-zero p (word-by (p == 0) _ (encoded-some (nat_lt head 3) (record { read_only = head == 2 }) (record { read_only = (head - 3) % 2 == 1 }) _ _) e)

-- a slot of a variant that is no table
pub no-table : (slot : Slot) →
    (slot ≡ Empty) ⊎ (((flags : Flags) × (slot ≡ Zero flags)) ⊎ ((flags : Flags) × (id : BufferId) × (page : ℕ) × (slot ≡ Buffer flags id page))) →
    is_table slot ≡ false
no-table slot (inl e) = ap is_table e ∙ is_table-Empty
no-table slot (inr (inl p)) = ap is_table p.1 ∙ is_table-Zero p.0
no-table slot (inr (inr p)) = ap is_table p.3 ∙ is_table-Buffer p.0 p.1 p.2

-- a slot of a variant that is a table
pub some-table : (slot : Slot) → ((pages : Box (List PageSlot × Slot) Global) × (slot ≡ Pages pages)) ⊎ ((slots : Box (List Slot) Global) × (slot ≡ Table slots)) →
    is_table slot ≡ true
some-table slot (inl p) = ap is_table p.1 ∙ is_table-Pages p.0
some-table slot (inr p) = ap is_table p.1 ∙ is_table-Table p.0

with-some : (flags : Flags) (held : Backing) → leaf_with flags held ≡ Empty → ⊥
with-some flags backing.Zero e = cc
with-some flags (backing.Buffer id page) e = cc

-- a leaf is not empty
pub leaf-some : (entry : Entry) → leaf entry ≡ Empty → ⊥
unfolding leaf
leaf-some entry e = with-some entry.flags entry.backing e

with-same : (f g : Flags) (a b : Backing) → leaf_with f a ≡ leaf_with g b → (f ≡ g) × (a ≡ b)
with-same f g backing.Zero backing.Zero e = (cc, refl)
with-same f g backing.Zero (backing.Buffer id page) e = cc
with-same f g (backing.Buffer id page) backing.Zero e = cc
with-same f g (backing.Buffer id page) (backing.Buffer id' page') e = (cc, cc)

-- a leaf has one entry
pub leaf-same : (one other : Entry) → leaf one ≡ leaf other → one ≡ other
unfolding leaf
leaf-same one other e =
    let h = with-same one.flags other.flags one.backing other.backing e in
    let held : Backing → Entry = λ b. record { backing = b; flags = one.flags } in
    let marked : Flags → Entry = λ f. record { backing = other.backing; flags = f } in
    ap held h.1 ∙ ap marked h.0

pub leaf-Zero : (flags : Flags) → leaf (record { backing = backing.Zero; flags = flags }) ≡ Zero flags
unfolding leaf
leaf-Zero flags = refl

pub leaf-Buffer : (flags : Flags) (id : BufferId) (page : ℕ) → leaf (record { backing = backing.Buffer id page; flags = flags }) ≡ Buffer flags id page
unfolding leaf
leaf-Buffer flags id page = refl

pub child-Table : (slots : Box (List Slot) Global) (index : ℕ) → child (Table slots) index ≡ slice_index_or slots.value index Empty
unfolding child
child-Table slots index = ap (λ (l : layer.Slot-F Slot). layer_child l index) (out-Table slots)

pub child-Empty : (index : ℕ) → child Empty index ≡ Empty
unfolding child
child-Empty index = ap (λ (l : layer.Slot-F Slot). layer_child l index) out-Empty

pub is_slots-Table : (slots : Box (List Slot) Global) → is_slots (Table slots) ≡ true
unfolding is_slots
is_slots-Table slots = ap layer_is_slots (out-Table slots)

other-slots : (l : layer.Slot-F Slot) → layer_is_table l ≡ false → layer_is_slots l ≡ false
other-slots layer.Empty other = refl
other-slots (layer.Zero flags) other = refl
other-slots (layer.Buffer flags id page) other = refl
other-slots (layer.Pages pages) other = refl
other-slots (layer.Table slots) other = cc

pub no-slots : (slot : Slot) → is_table slot ≡ false → is_slots slot ≡ false
unfolding is_table is_slots
no-slots slot other = other-slots (out-Slot slot) other

pub is_slots-Pages : (pages : Box (List PageSlot × Slot) Global) → is_slots (Pages pages) ≡ false
unfolding is_slots
is_slots-Pages pages = ap layer_is_slots (out-Pages pages)

-- an empty table before a chain
pub IsChainOf-more :
    (count : ℕ) (slots : Box (List Slot) Global) (rest : Slot) → length slots.value ≡ 512 → AreEmpty slots.value → IsChainOf count rest →
    (linked : Box (List Slot) Global) → linked.value ≡ slice_set slots.value 0 rest → IsChainOf (count + 1) (Table linked)
unfolding IsChainOf
IsChainOf-more count slots rest long empty chain linked e =
    let within : 0 < length slots.value = omega arith in
    let head : child (Table linked) 0 ≡ rest =
    child-Table linked 0 ∙ ap (λ (l : List Slot). slice_index_or l 0 Empty) e ∙ get_or-set_same slots.value 0 rest Empty within in
    let P : Slot → Type 0 = λ s. IsChainOf count s in
    rw add-one (
      is_slots-Table linked,
      subst P (sym head) chain,
      λ index some below.
          let differ : index ≢ 0 = omega arith in
          child-Table linked index ∙ ap (λ (l : List Slot). slice_index_or l index Empty) e ∙
          get_or-set_other slots.value 0 index rest Empty differ ∙ empty index below,
    )

pub IsChainOf-none : IsChainOf 0 Empty
unfolding IsChainOf
IsChainOf-none = refl

pub IsChainOf-rest : (count : ℕ) (slots : Box (List Slot) Global) → 0 < count → IsChainOf count (Table slots) → IsChainOf (count - 1) (slice_index_or slots.value 0 Empty)
unfolding IsChainOf
IsChainOf-rest zero slots some chain = absurd (omega arith)
IsChainOf-rest (suc count) slots some chain =
    let P : Slot → Type 0 = λ s. IsChainOf count s in
    let e : suc count - 1 ≡ count = omega arith in
    rw e (subst P (child-Table slots 0) chain.1)

pub IsChainOf-others :
    (count : ℕ) (slots : Box (List Slot) Global) → 0 < count → IsChainOf count (Table slots) → length slots.value ≡ 512 →
    (first : Slot) → first ≡ Empty → AreEmpty (slice_set slots.value 0 first)
unfolding IsChainOf
IsChainOf-others zero slots some chain long first none index below = absurd (omega arith)
IsChainOf-others (suc count) slots some chain long first none zero below =
    get_or-set_same slots.value 0 first Empty (let h : 0 < length slots.value = omega arith in h) ∙ none
IsChainOf-others (suc count) slots some chain long first none (suc index) below =
    let differ : suc index ≢ 0 = omega arith in
    get_or-set_other slots.value 0 (suc index) first Empty differ ∙ sym (child-Table slots (suc index)) ∙ chain.2 (suc index) (omega arith) below

layer-other : (l : layer.Slot-F Slot) (k : ℕ) → layer_is_table l ≡ false → layer_child l k ≡ Empty
layer-other layer.Empty k other = refl
layer-other (layer.Zero flags) k other = refl
layer-other (layer.Buffer flags id page) k other = refl
layer-other (layer.Pages pages) k other = cc
layer-other (layer.Table slots) k other = cc

-- a slot that is no table has empty parts
pub child-other : (slot : Slot) (k : ℕ) → is_table slot ≡ false → child slot k ≡ Empty
unfolding is_table child
child-other slot k other = layer-other (out-Slot slot) k other

pub chain_length-Empty : chain_length Empty ≡ 0
unfolding chain_length
chain_length-Empty = search (rules, the_lemmas)

pub chain_length-Table : (slots : Box (List Slot) Global) → chain_length (Table slots) ≡ 1 + slice_index_or (map chain_length slots.value) 0 0
unfolding chain_length
chain_length-Table slots = search (rules, the_lemmas)

first-map : (xs : List Slot) → 0 < length xs → slice_index_or (map chain_length xs) 0 0 ≡ chain_length (slice_index_or xs 0 Empty)
first-map [] some = absurd (omega arith)
first-map (x ∷ xs) some = refl

-- a table's chain is one longer than that of its first slot
pub chain_length-first : (slots : Box (List Slot) Global) → 0 < length slots.value → chain_length (Table slots) ≡ 1 + chain_length (slice_index_or slots.value 0 Empty)
chain_length-first slots some = chain_length-Table slots ∙ ap (λ (n : ℕ). 1 + n) (first-map slots.value some)

-- a chain put into a table's first slot
pub chain_length-put : (slots : Box (List Slot) Global) (rest : Slot) → length slots.value ≡ 512 → (linked : Box (List Slot) Global) →
    linked.value ≡ slice_set slots.value 0 rest → chain_length (Table linked) ≡ chain_length rest + 1
chain_length-put slots rest long linked e =
    let within : 0 < length slots.value = omega arith in
    let longs : length linked.value ≡ 512 = ap length e ∙ length-set slots.value 0 rest ∙ long in
    let head : slice_index_or linked.value 0 Empty ≡ rest = ap (λ (l : List Slot). slice_index_or l 0 Empty) e ∙ get_or-set_same slots.value 0 rest Empty within in
    let one = chain_length-first linked (omega arith) in
    let same = ap chain_length head in
    omega (arith, one, same)
