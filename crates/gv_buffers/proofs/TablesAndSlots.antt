-- A table of buffers against its slots: what an id finds, and what a change of slots does to the table.
use Rattle.std.proofs.Common.{◌≡◌, ◌≢◌, ℕ, ◌+◌, List, [], ◌∷◌, length, map, true, false, cond, eqb, arith, refl, sym, reverse, ◌∙◌, ap, subst, ⊎_elim, Some, None, Option, IsSome, is_some, count_by}
use Rattle.std.specs.Option.{option_map, option_copied, IsSomeAnd, MatchOption}
use Rattle.std.specs.Borrow.{Bor}
use Rattle.std.specs.List.{All}
use Rattle.std.proofs.lemmas.Bool.{cases_eq, ne_eqb, eq-eqb, eqb-true, false≢true}
use Rattle.std.proofs.lemmas.Option.{none-some, same_Some}
use Rattle.std.proofs.lemmas.List.{length-map}
use Rattle.std.proofs.lemmas.List.Sums.{sum_by-cons}
use Rattle.gv_types.specs.declared.mapping.BufferId.{BufferId}
use Rattle.gv_buffers.specs.declared.live_buffer.LiveBuffer.{LiveBuffer}
use Rattle.gv_buffers.specs.declared.buffers.Buffers.TheInside.{Inside}
use Rattle.gv_buffers.specs.Buffers.{Buffer, BuffersState, has_id, buffer, IsLive, IsTable, IsBuffer, only, changed}
use Rattle.gv_buffers.specs.Indices.{Notes, IsNoted}
use Rattle.gv_buffers.specs.declared.counter.Move.{Move}
use Rattle.gv_buffers.specs.Slots.{SlotList, SlotsState, after_move, get, buffer_at, buffer_in, buffers_from, live_count, of_generation, live_at, Holds, AreNoted}
use Rattle.gv_buffers.specs.Inside.{table_of, AreSoundBuffers}
use Rattle.gv_buffers.proofs.Vacancy.{AreVacant-alike}
use Rattle.gv_buffers.proofs.LiveBufferLists.{seen_at, buffers_from-map, buffers_from-same, All-buffers_from, AllPairs-buffers_from, find-buffers_from}

-- what an id finds is the buffer in its slot
pub buffer_from_slot : (a : Inside) (id : BufferId) → buffer (table_of a) id ≡ option_map (buffer_at id.index) (live_at a.slots.entries id)
buffer_from_slot a id = find-buffers_from id 0 id.index a.slots.entries (omega arith)

of_generation_is : (generation i : ℕ) (o : Option LiveBuffer) (v : LiveBuffer) → IsSome (option_map (buffer_at i) (of_generation generation o)) → o ≡ Some v → v.generation ≡ generation
of_generation_is generation i None v lives found = absurd (none-some v found)
of_generation_is generation i (Some x) v lives found =
    let same : x ≡ v = same_Some x v found in
    let t : eqb x.generation generation ≡ true =
    elim (eqb x.generation generation) as (λ t. IsSome (option_map (buffer_at i) (cond t (Some x) None)) → t ≡ true) [ true ↦ (λ _. refl) | false ↦ (λ h. absurd (false≢true h)) ] lives in
    rw (← same) (eqb-true _ _ t)

-- the slot at a live id's index holds a buffer of its generation
pub live_generation : (a : Inside) (id : BufferId) (v : LiveBuffer) → IsLive (table_of a) id → get a.slots.entries id.index ≡ Some v → v.generation ≡ id.generation
live_generation a id v lives found =
    of_generation_is id.generation id.index (get a.slots.entries id.index) v (rw (buffer_from_slot a id) at lives) found

contains_of_generation : (generation i : ℕ) (o : Option LiveBuffer) → IsSome (option_map (buffer_at i) (of_generation generation o)) → IsSome o
contains_of_generation generation i None lives = lives
contains_of_generation generation i (Some x) lives = refl

pub live_contains : (a : Inside) (id : BufferId) → IsLive (table_of a) id → Holds a.slots.entries id.index
live_contains a id lives = contains_of_generation id.generation id.index (get a.slots.entries id.index) (rw (buffer_from_slot a id) at lives)

some_slot : (o : Option LiveBuffer) → IsSome o → (v : LiveBuffer) × (o ≡ Some v)
some_slot None lives = absurd (false≢true lives)
some_slot (Some v) lives = (v, refl)

slot_of : (a : Inside) (id : BufferId) → IsLive (table_of a) id → (v : LiveBuffer) × (get a.slots.entries id.index ≡ Some v)
slot_of a id lives = some_slot (get a.slots.entries id.index) (live_contains a id lives)

-- the buffer of a live id, by its slot
pub live_buffer : (a : Inside) (id : BufferId) (v : LiveBuffer) → IsLive (table_of a) id → get a.slots.entries id.index ≡ Some v → buffer (table_of a) id ≡ Some (buffer_at id.index v)
live_buffer a id v lives found =
    let generation : eqb v.generation id.generation ≡ true = eq-eqb _ _ (live_generation a id v lives found) in
    buffer_from_slot a id ∙ (rw found (rw generation refl))

-- there is a live buffer for each slot that holds one
pub length-buffers_from : (i : ℕ) (xs : SlotList) → length (buffers_from i xs) ≡ count_by is_some xs
length-buffers_from i [] = refl
length-buffers_from i (None ∷ xs) = omega (arith, length-buffers_from (i + 1) xs, sum_by-cons (λ (o : Option LiveBuffer). cond (is_some o) 1 0) None xs)
length-buffers_from i (Some x ∷ xs) = omega (arith, length-buffers_from (i + 1) xs, sum_by-cons (λ (o : Option LiveBuffer). cond (is_some o) 1 0) (Some x) xs)

-- each buffer that is changed stands in its slot
pub live_from_map : (f : Buffer → Buffer) (old new : SlotList) → ((index : ℕ) → buffer_in new index ≡ option_map f (buffer_in old index)) →
    buffers_from 0 new ≡ map f (buffers_from 0 old)
live_from_map f old new each =
    buffers_from-map f 0 old new (λ k j e. let same : j ≡ k = omega arith in rw same (each k))

pub live_from_same : (old new : SlotList) → ((index : ℕ) → buffer_in new index ≡ buffer_in old index) → buffers_from 0 new ≡ buffers_from 0 old
live_from_same old new each =
    buffers_from-same 0 old new (λ k j e. let same : j ≡ k = omega arith in rw same (each k))

-- a change of one buffer, slot by slot
only_elsewhere : (id : BufferId) (change : Buffer → Buffer) (index : ℕ) (o : Option LiveBuffer) → index ≢ id.index →
    option_map (buffer_at index) o ≡ option_map (only id change) (option_map (buffer_at index) o)
only_elsewhere id change index None apart = refl
only_elsewhere id change index (Some x) apart =
    let other : eqb index id.index ≡ false = ne_eqb index id.index apart in rw other refl

pub only_here : (id : BufferId) (change : Buffer → Buffer) (v : LiveBuffer) → v.generation ≡ id.generation →
    only id change (buffer_at id.index v) ≡ change (buffer_at id.index v)
only_here id change v same =
    let index : eqb id.index id.index ≡ true = eq-eqb _ _ refl in
    let generation : eqb v.generation id.generation ≡ true = eq-eqb _ _ same in
    rw (index, generation) refl

pub indices_from_only : (id : BufferId) (change : Buffer → Buffer) (old new : SlotList) (v : LiveBuffer) → get old id.index ≡ Some v → v.generation ≡ id.generation →
    buffer_in new id.index ≡ option_map change (buffer_in old id.index) → ((index : ℕ) → index ≢ id.index → buffer_in new index ≡ buffer_in old index) →
    (index : ℕ) → buffer_in new index ≡ option_map (only id change) (buffer_in old index)
indices_from_only id change old new v found same here others index =
    ⊎_elim
    (λ (e : index ≡ id.index).
    let now : buffer_in old id.index ≡ Some (buffer_at id.index v) = ap (option_map (buffer_at id.index)) found in
    let after : buffer_in new id.index ≡ option_map (only id change) (buffer_in old id.index) =
    here ∙ (rw now (ap (λ (b : Buffer). Some b) (sym (only_here id change v same)))) in
    rw e after)
    (λ (apart : index ≢ id.index). others index apart ∙ only_elsewhere id change index (get old index) apart)
    (cases_eq index id.index)

buffers_after : (f : Buffer → Buffer) (made : ℕ) (o : Option Buffer) (x : Buffer) → option_map f o ≡ Some x →
    ((y : Buffer) → o ≡ Some y → IsBuffer made y → IsBuffer made (f y)) → ((y : Buffer) → o ≡ Some y → IsBuffer made y) → IsBuffer made x
buffers_after f made None x found keeps old = absurd (none-some x found)
buffers_after f made (Some y) x found keeps old = subst (IsBuffer made) (same_Some _ _ found) (keeps y refl (old y refl))

noted_after : (f : Buffer → Buffer) (old new : Notes) (index : ℕ) (o : Option Buffer) →
    ((y : Buffer) → o ≡ Some y → AreNoted old index (Some y) → AreNoted new index (Some (f y))) → AreNoted old index o → AreNoted new index (option_map f o)
noted_after f old new index None keeps were = were
noted_after f old new index (Some y) keeps were = keeps y refl were

nothing_seen : (index : ℕ) (o : Option LiveBuffer) → option_map (buffer_at index) o ≡ None → o ≡ None
nothing_seen index None seen = refl
nothing_seen index (Some x) seen = absurd (none-some (buffer_at index x) (sym seen))

-- a sound table whose buffers are changed one by one
pub sound_map : (a b : Inside) (f : Buffer → Buffer) → AreSoundBuffers a → b.limit ≡ a.limit → b.made ≡ a.made → b.slots.vacant ≡ a.slots.vacant →
    length b.slots.entries ≡ length a.slots.entries →
    ((index : ℕ) → buffer_in b.slots.entries index ≡ option_map f (buffer_in a.slots.entries index)) →
    ((index : ℕ) (x : Buffer) → buffer_in a.slots.entries index ≡ Some x → IsBuffer a.made x → IsBuffer a.made (f x)) →
    ((index : ℕ) (x : Buffer) → buffer_in a.slots.entries index ≡ Some x → AreNoted a.indices index (Some x) → AreNoted b.indices index (Some (f x))) →
    AreSoundBuffers b
sound_map a b f sound limit made vacant long each keeps notes =
    let lists : buffers_from 0 b.slots.entries ≡ map f (buffers_from 0 a.slots.entries) = live_from_map f a.slots.entries b.slots.entries each in
    let same_len : live_count b.slots.entries ≡ live_count a.slots.entries =
    sym (length-buffers_from 0 b.slots.entries) ∙ ap length lists ∙ length-map _ _ ∙ length-buffers_from 0 a.slots.entries in
    record {
      limit = rw limit sound.limit;
      few = rw (limit, same_len) sound.few;
      buffers = λ index x found. rw made (buffers_after f a.made (buffer_in a.slots.entries index) x (sym (each index) ∙ found) (keeps index) (sound.buffers index));
      noted = λ index. rw (each index) (noted_after f a.indices b.indices index (buffer_in a.slots.entries index) (notes index) (sound.noted index));
      vacant = rw vacant (AreVacant-alike a.slots.entries b.slots.entries a.slots.vacant long same_len
          (λ index nothing. nothing_seen index (get b.slots.entries index) (each index ∙ ap (λ o. option_map f (option_map (buffer_at index) o)) nothing)) sound.vacant);
      within = rw (limit, long) sound.within;
    }

-- what a sound table's buffers keep
pub sound_table : (a : Inside) → AreSoundBuffers a → IsTable (table_of a)
sound_table a sound =
    record {
      limit = sound.limit;
      few = rw (length-buffers_from 0 a.slots.entries) sound.few;
      buffers = All-buffers_from (IsBuffer a.made) 0 a.slots.entries (λ k j e b found. let same : j ≡ k = omega arith in sound.buffers k b (subst (λ (n : ℕ). seen_at n a.slots.entries k ≡ Some b) same found));
      apart = AllPairs-buffers_from 0 a.slots.entries;
    }

-- one buffer's counts were changed in its slot
pub record IsCounted (b : Inside) (id : BufferId) (change : Buffer → Buffer) (t : BuffersState) : Type 0 where
  pub sound : AreSoundBuffers b
  pub table : table_of b ≡ changed id change t

only_keeps : (id : BufferId) (change : Buffer → Buffer) (made : ℕ) (x : Buffer) → (IsBuffer made x → IsBuffer made (change x)) → IsBuffer made x → IsBuffer made (only id change x)
only_keeps id change made x keeps was =
    elim (has_id id x) as (λ t. IsBuffer made (cond t (change x) x)) [ true ↦ keeps was | false ↦ was ]

only_notes : (id : BufferId) (change : Buffer → Buffer) (notes : Notes) (index : ℕ) (x : Buffer) → (change x).users ≡ x.users → AreNoted notes index (Some x) → AreNoted notes index (Some (only id change x))
only_notes id change notes index x same was =
    elim (has_id id x) as (λ t. All (λ u. IsNoted notes u.job index) (cond t (change x) x).users) [ true ↦ rw same was | false ↦ was ]

pub moved : (a : Inside) (t : BuffersState) (new : SlotsState) (id : BufferId) (change : Buffer → Buffer) → AreSoundBuffers a → table_of a ≡ t → IsLive t id → new.vacant ≡ a.slots.vacant →
    length new.entries ≡ length a.slots.entries → buffer_in new.entries id.index ≡ option_map change (buffer_in a.slots.entries id.index) →
    ((index : ℕ) → index ≢ id.index → get new.entries index ≡ get a.slots.entries index) →
    ((made : ℕ) (x : Buffer) → IsBuffer made x → IsBuffer made (change x)) → ((x : Buffer) → (change x).users ≡ x.users) →
    IsCounted (record a { slots = new }) id change t
moved a t new id change sound view lives vacant long here others keeps users =
    let lives_here : IsLive (table_of a) id = subst (λ (s : BuffersState). IsLive s id) (sym view) lives in
    let found = slot_of a id lives_here in
    let each = indices_from_only id change a.slots.entries new.entries found.0 found.1 (live_generation a id found.0 lives_here found.1) here (λ index apart. ap (option_map (buffer_at index)) (others index apart)) in
    record {
      sound = sound_map a (record a { slots = new }) (only id change) sound refl refl vacant long each
          (λ index x _ was. only_keeps id change a.made x (keeps a.made x) was)
          (λ index x _ was. only_notes id change a.indices index x (users x) was);
      table = ap (λ (vs : List ℕ). record { limit = a.limit; made = a.made; live = buffers_from 0 new.entries; vacant = reverse vs }) vacant
          ∙ ap (λ (live : List Buffer). record { limit = a.limit; made = a.made; live = live; vacant = reverse a.slots.vacant }) (live_from_map (only id change) a.slots.entries new.entries each)
          ∙ ap (changed id change) view;
    }

pub some_lives : (P : Buffer → Type 0) (o : Option Buffer) → IsSomeAnd o P → IsSome o
some_lives P None holds = absurd holds
some_lives P (Some b) holds = refl

-- a mapping that moves leaves all but the counts of its buffer as it was
pub IsBuffer-after_move : (how : Move) (made : ℕ) (b : Buffer) → IsBuffer made b → IsBuffer made (after_move how b)
IsBuffer-after_move how made b was = record { made_before = was.made_before; some_pages = was.some_pages; few_pages = was.few_pages; no_conflict = was.no_conflict }

-- what is said of a live buffer holds of the one in its slot
pub in_place : (a : Inside) (t : BuffersState) (id : BufferId) (P : Buffer → Type 0) → table_of a ≡ t →
    IsSomeAnd (buffer t id) P → IsSomeAnd (buffer_in a.slots.entries id.index) P
in_place a t id P view holds =
    let holds_here : IsSomeAnd (buffer (table_of a) id) P = subst (λ (s : BuffersState). IsSomeAnd (buffer s id) P) (sym view) holds in
    let lives : IsLive (table_of a) id = some_lives P (buffer (table_of a) id) holds_here in
    let found = slot_of a id lives in
    let seen : buffer (table_of a) id ≡ buffer_in a.slots.entries id.index = live_buffer a id found.0 lives found.1 ∙ sym (ap (option_map (buffer_at id.index)) found.1) in
    subst (λ (o : Option Buffer). IsSomeAnd o P) seen holds_here

-- a number read of what a search found
pub read_from_map : (o : Option (Bor LiveBuffer)) (r : Option ℕ) (read : LiveBuffer → ℕ) (Gives : Bor LiveBuffer → ℕ → Type 0) →
    MatchOption o (r ≡ None) (λ x. IsSomeAnd r (Gives x)) → ((x : Bor LiveBuffer) (y : ℕ) → Gives x y → y ≡ read x.now) → r ≡ option_map read (option_copied o)
read_from_map None r read Gives cases says = cases
read_from_map (Some x) None read Gives cases says = absurd cases
read_from_map (Some x) (Some y) read Gives cases says = ap (λ (n : ℕ). Some n) (says x y cases)

-- a slot that is put back as it was
pub buffer_in_from_get : (slots : SlotList) (index : ℕ) (v : LiveBuffer) → get slots index ≡ Some v → buffer_in slots index ≡ Some (buffer_at index v)
buffer_in_from_get slots index v found = ap (option_map (buffer_at index)) found

of_generation_found : (generation : ℕ) (o : Option LiveBuffer) (v : LiveBuffer) → of_generation generation o ≡ Some v → (o ≡ Some v) × (v.generation ≡ generation)
of_generation_found generation None v found = absurd (none-some v found)
of_generation_found generation (Some x) v found =
    elim (eqb x.generation generation) as (λ t. eqb x.generation generation ≡ t → cond t (Some x) None ≡ Some v → (Some x ≡ Some v) × (v.generation ≡ generation)) [
      | true ↦ (λ e h. let same : x ≡ v = same_Some x v h in (h, rw (← same) (eqb-true _ _ e)))
      | false ↦ (λ _ h. absurd (none-some v h))
    ] refl found

-- a search that found a slot found it at its index, with its generation
pub live_slot : (a : Inside) (id : BufferId) (v : LiveBuffer) → live_at a.slots.entries id ≡ Some v → (get a.slots.entries id.index ≡ Some v) × (v.generation ≡ id.generation)
live_slot a id v found = of_generation_found id.generation (get a.slots.entries id.index) v found

-- the buffer that a search found, or missed
pub found_buffer : (a : Inside) (t : BuffersState) (id : BufferId) (v : LiveBuffer) → table_of a ≡ t → live_at a.slots.entries id ≡ Some v → buffer t id ≡ Some (buffer_at id.index v)
found_buffer a t id v view found =
    sym (ap (λ (s : BuffersState). buffer s id) view) ∙ buffer_from_slot a id ∙ ap (option_map (buffer_at id.index)) found

pub missed_buffer : (a : Inside) (t : BuffersState) (id : BufferId) → table_of a ≡ t → live_at a.slots.entries id ≡ None → buffer t id ≡ None
missed_buffer a t id view missed =
    sym (ap (λ (s : BuffersState). buffer s id) view) ∙ buffer_from_slot a id ∙ ap (option_map (buffer_at id.index)) missed

pub index_of_seen : (j : ℕ) (o : Option LiveBuffer) (b : Buffer) → option_map (buffer_at j) o ≡ Some b → b.id.index ≡ j
index_of_seen j None b found = absurd (none-some b found)
index_of_seen j (Some s) b found = ap (λ (x : Buffer). x.id.index) (sym (same_Some _ _ found))

-- as many buffers are alive as slots hold one
pub count_live : (a : Inside) (t : BuffersState) → table_of a ≡ t → length t.live ≡ live_count a.slots.entries
count_live a t view = ap (λ (s : BuffersState). length s.live) (sym view) ∙ length-buffers_from 0 a.slots.entries

field_seen : (i : ℕ) (field : Buffer → ℕ) (o : Option LiveBuffer) → option_map (λ s. field (buffer_at i s)) o ≡ option_map field (option_map (buffer_at i) o)
field_seen i field None = refl
field_seen i field (Some s) = refl

-- a number of the buffer with an id, read from its slot
pub field_in_slot : (a : Inside) (t : BuffersState) (id : BufferId) (field : Buffer → ℕ) → table_of a ≡ t →
    option_map (λ s. field (buffer_at id.index s)) (live_at a.slots.entries id) ≡ option_map field (buffer t id)
field_in_slot a t id field view =
    field_seen id.index field (live_at a.slots.entries id) ∙ ap (option_map field) (sym (buffer_from_slot a id) ∙ ap (λ (s : BuffersState). buffer s id) view)

-- a table of buffers that is seen keeps what a sound one does
pub is_table : (a : Inside) (t : BuffersState) → AreSoundBuffers a → table_of a ≡ t → IsTable t
is_table a t sound view = subst IsTable view (sound_table a sound)
