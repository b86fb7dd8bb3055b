-- The vacant indices once a buffer is put into one of them, or taken out of its own.
use Rattle.std.proofs.Common.{◌≡◌, ◌≢◌, ℕ, zero, suc, ◌+◌, ◌<◌, List, [], ◌∷◌, ◌++◌, length, get_or, set, true, cond, arith, sym, ◌∙◌, ap, subst, Some, None, Option, is_some, IsSome}
use Rattle.std.proofs.lemmas.Bool.{false≢true}
use Rattle.std.proofs.lemmas.List.{get_or-set_other, get_or-set_same, get_or_append_left, get_or-append-add, length-set, length_push}
use Rattle.std.proofs.lemmas.List.Elements.{All-push, All-weaker}
use Rattle.std.proofs.lemmas.List.Quantifiers.{all_pairs_push}
use Rattle.std.proofs.lemmas.List.Sums.{sum_by-cons}
use Rattle.gv_buffers.specs.declared.live_buffer.LiveBuffer.{LiveBuffer}
use Rattle.gv_buffers.specs.Slots.{SlotList, get, live_count, IsVacant, AreVacant}

abbrev counts : Option LiveBuffer → ℕ
counts slot = cond (is_some slot) 1 0

live_count-cons : (slot : Option LiveBuffer) (slots : SlotList) → live_count (slot ∷ slots) ≡ counts slot + live_count slots
live_count-cons slot slots = sum_by-cons counts slot slots

-- how many are alive once a slot has something else
live_count-set : (slots : SlotList) (index : ℕ) (slot : Option LiveBuffer) → index < length slots →
    live_count (set slots index slot) + counts (get slots index) ≡ live_count slots + counts slot
live_count-set [] index slot within = absurd (omega arith)
live_count-set (old ∷ slots) zero slot within = omega (arith, live_count-cons old slots, live_count-cons slot slots)
live_count-set (old ∷ slots) (suc index) slot within =
    omega (arith, live_count-set slots index slot (omega arith), live_count-cons old slots, live_count-cons old (set slots index slot))

pub live_count-put : (slots : SlotList) (index : ℕ) (buffer : LiveBuffer) → index < length slots → get slots index ≡ None →
    live_count (set slots index (Some buffer)) ≡ live_count slots + 1
live_count-put slots index buffer within nothing =
    let moved : live_count (set slots index (Some buffer)) + counts (get slots index) ≡ live_count slots + 1 = live_count-set slots index (Some buffer) within in
    let none : counts (get slots index) ≡ 0 = ap counts nothing in
    omega (arith, moved, none)

some_counts : (slot : Option LiveBuffer) → IsSome slot → counts slot ≡ 1
some_counts slot lives = ap (λ b. cond b 1 0) lives

within_from_some : (slots : SlotList) (index : ℕ) → IsSome (get slots index) → index < length slots
within_from_some [] index lives = absurd (false≢true lives)
within_from_some (slot ∷ slots) zero lives = omega arith
within_from_some (slot ∷ slots) (suc index) lives = omega (arith, within_from_some slots index lives)

-- an index is as vacant as it was where another one changes
vacant_beside : (slots : SlotList) (index other : ℕ) (slot : Option LiveBuffer) → other ≢ index → IsVacant slots other → IsVacant (set slots index slot) other
vacant_beside slots index other slot apart vacant =
    record {
      within = omega (arith, length-set slots index slot, vacant.within);
      nothing = get_or-set_other slots index other slot None apart ∙ vacant.nothing;
    }

last_of : (vacant : List ℕ) (index d : ℕ) → get_or (vacant ++ index ∷ []) (length vacant) d ≡ index
last_of vacant index d =
    let end : length vacant + 0 ≡ length vacant = omega arith in
    subst (λ n. get_or (vacant ++ index ∷ []) n d ≡ index) end (get_or-append-add vacant (index ∷ []) 0 d)

-- the last vacant index of some
pub last_is_vacant : (slots : SlotList) (vacant : List ℕ) (index : ℕ) → AreVacant slots (vacant ++ index ∷ []) → IsVacant slots index
last_is_vacant slots vacant index are =
    subst (IsVacant slots) (last_of vacant index 0) (are.each (length vacant) 0 (omega (arith, length_push vacant index)))

-- a buffer was put into it
pub AreVacant-put : (slots : SlotList) (vacant : List ℕ) (index : ℕ) (buffer : LiveBuffer) → AreVacant slots (vacant ++ index ∷ []) →
    AreVacant (set slots index (Some buffer)) vacant
AreVacant-put slots vacant index buffer are =
    let more : length (vacant ++ index ∷ []) ≡ length vacant + 1 = length_push vacant index in
    let last : IsVacant slots index = last_is_vacant slots vacant index are in
    record {
      each = λ k d within.
          let same : get_or (vacant ++ index ∷ []) k d ≡ get_or vacant k d = get_or_append_left vacant (index ∷ []) d k within in
          let apart : get_or vacant k d ≢ index = subst (λ n. n ≢ index) same
          (subst (λ n. get_or (vacant ++ index ∷ []) k d ≢ n) (last_of vacant index d) (are.apart k (length vacant) d within (omega (arith, more)))) in
          vacant_beside slots index (get_or vacant k d) (Some buffer) apart
          (subst (IsVacant slots) same (are.each k d (omega (arith, more, within))));
      apart = λ i j d below within.
          subst (λ n. n ≢ get_or vacant j d) (get_or_append_left vacant (index ∷ []) d i (omega (arith, below, within)))
          (subst (λ n. get_or (vacant ++ index ∷ []) i d ≢ n) (get_or_append_left vacant (index ∷ []) d j within)
          (are.apart i j d below (omega (arith, more, within))));
      all = omega (arith, are.all, more, length-set slots index (Some buffer), live_count-put slots index buffer last.within last.nothing);
    }

-- one more slot, with a buffer
pub live_count-push : (slots : SlotList) (buffer : LiveBuffer) → live_count (slots ++ Some buffer ∷ []) ≡ live_count slots + 1
live_count-push [] buffer = omega (arith, live_count-cons (Some buffer) [])
live_count-push (slot ∷ slots) buffer =
    omega (arith, live_count-push slots buffer, live_count-cons slot slots, live_count-cons slot (slots ++ Some buffer ∷ []))

-- another buffer stands in the place of one
pub live_count-kept : (slots : SlotList) (index : ℕ) (buffer : LiveBuffer) → IsSome (get slots index) → live_count (set slots index (Some buffer)) ≡ live_count slots
live_count-kept slots index buffer lives =
    let moved : live_count (set slots index (Some buffer)) + counts (get slots index) ≡ live_count slots + 1 = live_count-set slots index (Some buffer) (within_from_some slots index lives) in
    let one : counts (get slots index) ≡ 1 = some_counts (get slots index) lives in
    omega (arith, moved, one)

-- a buffer was taken out of its index
pub live_count-taken : (slots : SlotList) (index : ℕ) → IsSome (get slots index) → live_count (set slots index None) + 1 ≡ live_count slots
live_count-taken slots index lives =
    let moved : live_count (set slots index None) + counts (get slots index) ≡ live_count slots + 0 = live_count-set slots index None (within_from_some slots index lives) in
    let one : counts (get slots index) ≡ 1 = some_counts (get slots index) lives in
    omega (arith, moved, one)

lives_or_vacant : (slots : SlotList) (index other : ℕ) → IsSome (get slots index) → IsVacant slots other → other ≢ index
lives_or_vacant slots index other lives vacant same =
    absurd (false≢true (sym (ap is_some vacant.nothing) ∙ subst (λ n. is_some (get slots n) ≡ true) (sym same) lives))

pub AreVacant-taken : (slots : SlotList) (vacant : List ℕ) (index : ℕ) → IsSome (get slots index) → AreVacant slots vacant →
    AreVacant (set slots index None) (vacant ++ index ∷ [])
AreVacant-taken slots vacant index lives are =
    let within : index < length slots = within_from_some slots index lives in
    let same_length : length (set slots index None) ≡ length slots = length-set slots index None in
    record {
      each = All-push (IsVacant (set slots index None)) vacant index
          (λ k d inside. let vacant_there : IsVacant slots (get_or vacant k d) = are.each k d inside in
          vacant_beside slots index (get_or vacant k d) None (lives_or_vacant slots index (get_or vacant k d) lives vacant_there) vacant_there)
          (record { within = omega (arith, same_length); nothing = get_or-set_same slots index None None within });
      apart = all_pairs_push (λ a b. a ≢ b) vacant index are.apart (λ k d inside. lives_or_vacant slots index (get_or vacant k d) lives (are.each k d inside));
      all = omega (arith, are.all, same_length, length_push vacant index, live_count-taken slots index lives);
    }

-- slots of which as many are alive, and none where none was
pub AreVacant-alike : (old new : SlotList) (vacant : List ℕ) → length new ≡ length old → live_count new ≡ live_count old →
    ((index : ℕ) → get old index ≡ None → get new index ≡ None) → AreVacant old vacant → AreVacant new vacant
AreVacant-alike old new vacant long many none are =
    record {
      each = All-weaker (IsVacant old) (IsVacant new)
          (λ index is. record { within = omega (arith, long, is.within); nothing = none index is.nothing }) vacant are.each;
      apart = are.apart;
      all = omega (arith, long, many, are.all);
    }

-- the slot of a live buffer, whatever is read past the end
pub slot_at : (slots : SlotList) (index : ℕ) (slot : Option LiveBuffer) → IsSome (get slots index) → slot ≡ get_or slots index slot → get slots index ≡ slot
slot_at [] index slot lives is = absurd (false≢true lives)
slot_at (x ∷ slots) zero slot lives is = sym is
slot_at (x ∷ slots) (suc index) slot lives is = slot_at slots index slot lives is
