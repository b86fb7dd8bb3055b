-- A buffer is made, or destroyed.
use Rattle.std.proofs.Common.{◌≡◌, ◌≢◌, ℕ, ◌+◌, ◌-◌, ◌<◌, ◌≤◌, ◌||◌, Bool, List, ◌∷◌, [], length, reverse, drop, get_or, slice_get, unwrap_or, true, false, cond, not, eqb, ltb, leb, arith, refl, sym, ◌∙◌, ap, subst, ⊎_elim, Some, None, Option, zero-add}
use Rattle.std.specs.Option.{option_map}
use Rattle.std.proofs.lemmas.List.{length-reverse, length-drop, get_or-reverse}
use Rattle.std.specs.List.{insert, filter}
use Rattle.std.proofs.lemmas.Bool.{cases_eq, ne_eqb, eq-eqb, le-ltb, lt-leb, le-leb}
use Rattle.std.proofs.lemmas.Bool.Decides.{nat_tests}
use Rattle.std.proofs.lemmas.Option.{none-some, same_Some, get_or_from_slice_get, slice_get_within}
use Rattle.std.proofs.lemmas.List.Elements.{All-nil}
use Rattle.gv_types.specs.Page.{pages_per_buffer}
use Rattle.gv_types.specs.Mapping.{buffer_id}
use Rattle.gv_types.specs.declared.mapping.BufferId.{BufferId}
use Rattle.gv_types.specs.declared.fault.Fault.TheVariants.{BadSize, TooManyBuffers}
use Rattle.gv_buffers.specs.declared.live_buffer.LiveBuffer.{LiveBuffer}
use Rattle.gv_buffers.specs.declared.buffers.Buffers.TheInside.{Inside}
use Rattle.gv_buffers.specs.Buffers.{Buffer, BuffersState, has_id, fresh, create_fault, most_made, count_below, next_index, next_id, with_new, IsBuffer, IsCreated, without}
use Rattle.gv_buffers.specs.Indices.{IsNoted}
use Rattle.gv_buffers.specs.Slots.{SlotList, SlotsState, get, buffer_at, buffer_in, buffers_from, live_count, live_at, next_slot, Updates, AreVacant}
use Rattle.gv_buffers.specs.Inside.{table_of, AreSoundBuffers}
use Rattle.gv_buffers.proofs.LiveBufferLists.{All-buffers_from, put_in, passing, buffers_from-filter}
use Rattle.gv_buffers.proofs.TablesAndSlots.{live_slot, index_of_seen, length-buffers_from}
use Rattle.gv_buffers.proofs.Conflicts.{no_pairs}

-- a buffer of this size can be made
pub no_create_fault : (t : BuffersState) (pages : ℕ) → pages ≢ 0 → pages ≤ pages_per_buffer → length t.live < t.limit → t.made < most_made → create_fault t pages ≡ None
no_create_fault t pages some few room more =
    let a : eqb pages 0 ≡ false = ne_eqb _ _ some in
    let b : ltb pages_per_buffer pages ≡ false = le-ltb _ _ few in
    let d : leb t.limit (length t.live) ≡ false = lt-leb _ _ room in
    let e : leb most_made t.made ≡ false = lt-leb _ _ more in
    rw (a, b, d, e) refl

-- too many are alive, or were made
pub too_many_live : (t : BuffersState) (pages : ℕ) → pages ≢ 0 → pages ≤ pages_per_buffer → t.limit ≤ length t.live → create_fault t pages ≡ Some TooManyBuffers
too_many_live t pages some few full =
    let a : eqb pages 0 ≡ false = ne_eqb _ _ some in
    let b : ltb pages_per_buffer pages ≡ false = le-ltb _ _ few in
    let d : leb t.limit (length t.live) ≡ true = le-leb _ _ full in
    rw (a, b, d) refl

pub too_many_made : (t : BuffersState) (pages : ℕ) → pages ≢ 0 → pages ≤ pages_per_buffer → most_made ≤ t.made → create_fault t pages ≡ Some TooManyBuffers
too_many_made t pages some few full =
    let a : eqb pages 0 ≡ false = ne_eqb _ _ some in
    let b : ltb pages_per_buffer pages ≡ false = le-ltb _ _ few in
    let e : leb most_made t.made ≡ true = le-leb _ _ full in
    rw (a, b, e) (elim (leb t.limit (length t.live)) as (λ d. cond (d || true) (Some TooManyBuffers) None ≡ Some TooManyBuffers) [ true ↦ refl | false ↦ refl ])

pub record IsMade (b : Inside) (t : BuffersState) (id : BufferId) (pages : ℕ) : Type 0 where
  pub sound : AreSoundBuffers b
  pub created : IsCreated t (table_of b) id pages

no_first : (vs : List ℕ) → slice_get vs 0 ≡ None → length vs ≡ 0
no_first [] none = refl
no_first (v ∷ vs) none = absurd (none-some v (sym none))

-- the next vacant slot has the next index: where none is vacant, as many buffers live as there are slots
pub next_from_slots : (slots : SlotList) (vacant : List ℕ) (first : Option ℕ) → slice_get (reverse vacant) 0 ≡ first → AreVacant slots vacant →
    unwrap_or first (length slots) ≡ unwrap_or first (length (buffers_from 0 slots))
next_from_slots slots vacant None is are =
    let none : length vacant ≡ 0 = sym (length-reverse vacant) ∙ no_first (reverse vacant) is in
    omega (arith, none, are.all, length-buffers_from 0 slots)
next_from_slots slots vacant (Some v) is are = refl

-- and where the slots are at most the limit's, with fewer alive, it is below the limit
pub next_few : (slots : SlotList) (vacant : List ℕ) (limit : ℕ) (first : Option ℕ) → slice_get (reverse vacant) 0 ≡ first → AreVacant slots vacant → length (buffers_from 0 slots) < limit →
    length slots ≤ limit → unwrap_or first (length slots) < limit
next_few slots vacant limit None is are few within =
    let none : length vacant ≡ 0 = sym (length-reverse vacant) ∙ no_first (reverse vacant) is in
    omega (arith, none, are.all, length-buffers_from 0 slots, few)
next_few slots vacant limit (Some v) is are few within =
    let some : 0 < length vacant = omega (arith, slice_get_within (reverse vacant) 0 v is, length-reverse vacant) in
    let here = are.each (length vacant - 1 - 0) v (omega (arith, some)) in
    let same : get_or vacant (length vacant - 1 - 0) v ≡ v = sym (get_or-reverse vacant 0 v some) ∙ get_or_from_slice_get (reverse vacant) 0 v v is in
    let below : v < length slots = subst (λ (n : ℕ). n < length slots) same here.within in
    omega (arith, below, within)

-- a buffer is put into a free slot
pub made : (a : Inside) (t : BuffersState) (slots : SlotsState) (index pages : ℕ) (slot : LiveBuffer) → AreSoundBuffers a → table_of a ≡ t →
    live_count a.slots.entries < a.limit → 0 < pages → pages ≤ pages_per_buffer →
    index ≡ next_slot a.slots.entries a.slots.vacant → get a.slots.entries index ≡ None →
    Updates a.slots.entries slots.entries index (Some slot) → live_count slots.entries ≡ live_count a.slots.entries + 1 → AreVacant slots.entries slots.vacant →
    reverse slots.vacant ≡ drop 1 (reverse a.slots.vacant) → buffer_at index slot ≡ fresh (buffer_id index a.made) pages →
    IsMade (record a { made = a.made + 1; slots = slots }) t (buffer_id index a.made) pages
made a t slots index pages slot sound view room some few next free updates len are rest seen =
    let b : Buffer = fresh (buffer_id index a.made) pages in
    let here : buffer_in slots.entries index ≡ Some b = ap (option_map (buffer_at index)) updates.changed ∙ ap (λ (x : Buffer). Some x) seen in
    let elsewhere = λ (position : ℕ) (apart : position ≢ index). ap (option_map (buffer_at position)) (updates.others position apart) in
    let is_buffer : IsBuffer (a.made + 1) b = record { made_before = omega arith; some_pages = some; few_pages = few; no_conflict = no_pairs } in
    let put = put_in 0 index index slot a.slots.entries slots.entries (omega arith) free updates.changed updates.others in
    let at_index : buffer_at (0 + index) slot ≡ b = rw zero-add seen in
    let is_next : index ≡ next_index (table_of a) = next ∙ next_from_slots a.slots.entries a.slots.vacant _ refl sound.vacant in
    let name : buffer_id index a.made ≡ next_id (table_of a) = ap (λ (n : ℕ). buffer_id n a.made) is_next in
    record {
      sound = record {
        limit = sound.limit;
        few = rw len (omega arith);
        buffers = λ position x found. ⊎_elim
            (λ (e : position ≡ index). subst (IsBuffer (a.made + 1)) (same_Some _ _ (sym here ∙ (rw (← e) found))) is_buffer)
            (λ (apart : position ≢ index).
            let old : IsBuffer a.made x = sound.buffers position x (sym (elsewhere position apart) ∙ found) in
            record { made_before = omega (arith, old.made_before); some_pages = old.some_pages; few_pages = old.few_pages; no_conflict = old.no_conflict })
            (cases_eq position index);
        noted = λ position. ⊎_elim
            (λ (e : position ≡ index). rw (e, here) (All-nil (λ u. IsNoted a.indices u.job index)))
            (λ (apart : position ≢ index). rw (elsewhere position apart) (sound.noted position))
            (cases_eq position index);
        vacant = are;
        within = omega (
          arith,
          are.all,
          len,
          sound.vacant.all,
          sound.within,
          room,
          ap length rest,
          length-reverse slots.vacant,
          length-reverse a.slots.vacant,
          length-drop 1 (reverse a.slots.vacant),
        );
      };
      created = subst (λ (s : BuffersState). IsCreated s (table_of (record a { made = a.made + 1; slots = slots })) (buffer_id index a.made) pages) view (record {
        id_is = name;
        free = All-buffers_from (λ x. x.id.index ≢ index) 0 a.slots.entries (λ k j e x found same.
            let position : x.id.index ≡ j = index_of_seen j _ x found in
            let there : k ≡ index = omega arith in
            absurd (none-some x (sym (ap (option_map (buffer_at j)) (subst (λ (n : ℕ). get a.slots.entries n ≡ None) (sym there) free)) ∙ found)));
        state = ap (λ (live : List Buffer). record { limit = a.limit; made = a.made + 1; live = live; vacant = reverse slots.vacant })
            (put.list ∙ ap (insert (buffers_from 0 a.slots.entries) (count_below index (buffers_from 0 a.slots.entries))) at_index
            ∙ ap (λ (n : ℕ). insert (buffers_from 0 a.slots.entries) (count_below n (buffers_from 0 a.slots.entries)) (fresh (buffer_id n a.made) pages)) is_next)
            ∙ ap (λ (vs : List ℕ). record (with_new pages (table_of a)) { vacant = vs }) rest;
      });
    }

pub record IsDestroyed (b : Inside) (t : BuffersState) (id : BufferId) : Type 0 where
  pub sound : AreSoundBuffers b
  pub table : table_of b ≡ without id t

passing_elsewhere : (id : BufferId) (index : ℕ) (o : Option LiveBuffer) → index ≢ id.index →
    option_map (buffer_at index) o ≡ passing (λ b. not (has_id id b)) (option_map (buffer_at index) o)
passing_elsewhere id index None apart = refl
passing_elsewhere id index (Some s) apart =
    let other : eqb index id.index ≡ false = ne_eqb _ _ apart in rw other refl

-- a buffer is taken out of its slot
pub destroyed : (a : Inside) (t : BuffersState) (slots : SlotsState) (id : BufferId) (v : LiveBuffer) → AreSoundBuffers a → table_of a ≡ t → live_at a.slots.entries id ≡ Some v →
    Updates a.slots.entries slots.entries id.index None → live_count slots.entries + 1 ≡ live_count a.slots.entries → AreVacant slots.entries slots.vacant →
    reverse slots.vacant ≡ id.index ∷ reverse a.slots.vacant → IsDestroyed (record a { slots = slots }) t id
destroyed a t slots id v sound view found updates len are noted =
    let new : SlotList = slots.entries in
    let slot = live_slot a id v found in
    let here : buffer_in new id.index ≡ None = ap (option_map (buffer_at id.index)) updates.changed in
    let elsewhere = λ (position : ℕ) (apart : position ≢ id.index). ap (option_map (buffer_at position)) (updates.others position apart) in
    let index : eqb id.index id.index ≡ true = eq-eqb _ _ refl in
    let generation : eqb v.generation id.generation ≡ true = eq-eqb _ _ slot.1 in
    let gone : None ≡ passing (λ b. not (has_id id b)) (buffer_in a.slots.entries id.index) = rw slot.0 (rw (index, generation) refl) in
    let each = λ (position : ℕ). ⊎_elim
    (λ (e : position ≡ id.index). let there : buffer_in new id.index ≡ passing (λ b. not (has_id id b)) (buffer_in a.slots.entries id.index) = here ∙ gone in
    subst (λ (n : ℕ). buffer_in new n ≡ passing (λ b. not (has_id id b)) (buffer_in a.slots.entries n)) (sym e) there)
    (λ (apart : position ≢ id.index). elsewhere position apart ∙ passing_elsewhere id position (get a.slots.entries position) apart)
    (cases_eq position id.index) in
    let list : buffers_from 0 new ≡ filter (λ b. not (has_id id b)) (buffers_from 0 a.slots.entries) =
    buffers_from-filter (λ b. not (has_id id b)) 0 a.slots.entries new (λ k j e. let same : j ≡ k = omega arith in rw same (each k)) in
    record {
      sound = record {
        limit = sound.limit;
        few = omega (arith, sound.few);
        buffers = λ position x seen. ⊎_elim
            (λ (e : position ≡ id.index). absurd (none-some x (sym here ∙ (rw (← e) seen))))
            (λ (apart : position ≢ id.index). sound.buffers position x (sym (elsewhere position apart) ∙ seen))
            (cases_eq position id.index);
        noted = λ position. ⊎_elim
            (λ (e : position ≡ id.index). rw (e, here) tt)
            (λ (apart : position ≢ id.index). rw (elsewhere position apart) (sound.noted position))
            (cases_eq position id.index);
        vacant = are;
        within = omega (arith, are.all, len, sound.vacant.all, sound.within, ap length noted, length-reverse slots.vacant, length-reverse a.slots.vacant);
      };
      table = ap (λ (live : List Buffer). record { limit = a.limit; made = a.made; live = live; vacant = reverse slots.vacant }) list
          ∙ ap (λ (vs : List ℕ). record (without id (table_of a)) { vacant = vs }) noted ∙ ap (without id) view;
    }

no_faults : (a b c d : Bool) → cond (a || b) (Some BadSize) (cond (c || d) (Some TooManyBuffers) None) ≡ None → (a ≡ false) × (b ≡ false) × (c ≡ false) × (d ≡ false)
no_faults true b c d none = absurd cc
no_faults false true c d none = absurd cc
no_faults false false true d none = absurd cc
no_faults false false false true none = absurd cc
no_faults false false false false none = (refl, refl, refl, refl)

pub record IsCreatable (t : BuffersState) (pages : ℕ) : Type 0 where
  pub some : 0 < pages
  pub few : pages ≤ pages_per_buffer
  pub room : length t.live < t.limit
  pub more : t.made < most_made

-- nothing speaks against a buffer of this size
pub creatable : (t : BuffersState) (pages : ℕ) → create_fault t pages ≡ None → IsCreatable t pages
creatable t pages none =
    let not_so = no_faults (eqb pages 0) (ltb pages_per_buffer pages) (leb t.limit (length t.live)) (leb most_made t.made) none in
    record {
      some = grind (arith, nat_tests, not_so.0);
      few = grind (arith, nat_tests, not_so.1);
      room = grind (arith, nat_tests, not_so.2);
      more = grind (arith, nat_tests, not_so.3);
    }
