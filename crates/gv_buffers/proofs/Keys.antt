-- What is at an index once a buffer is put into the slab, is taken out of it or is written there.
use Rattle.std.proofs.Common.{◌≡◌, ◌≢◌, ℕ, zero, suc, ◌+◌, ◌<◌, List, [], ◌∷◌, ◌++◌, set, arith, refl, sym, ◌∙◌, ap, subst, ⊎_elim, Some, None, Option, is_some, true, length, ◌≤◌}
use Rattle.std.specs.Option.{option_map}
use Rattle.std.proofs.lemmas.Bool.{cases_eq, false≢true}
use Rattle.std.proofs.lemmas.Option.{none-some, same_Some}
use Rattle.std.proofs.lemmas.List.{set-get_or, get_or-set_same, get_or-set_other, get_or_push, length-map, length-set, length_push, map_push}
use Rattle.std.proofs.lemmas.List.Elements.{All-nil}
use Rattle.slab.specs.Slab.{Slab, get as value_at, ContainsKey, slab_len, with_value, Updates as UpdatesSlab}
use Rattle.slab.proofs.SlabLemmas.{Updates-with_value}
use Rattle.gv_buffers.specs.declared.live_buffer.LiveBuffer.{LiveBuffer}
use Rattle.gv_buffers.specs.Buffers.{Buffer}
use Rattle.gv_buffers.specs.Slots.{SlotList, get, buffer_at, buffer_in, live_count, IsVacant, Updates, AreVacant}
use Rattle.gv_buffers.specs.Keys.{key_at, lookup, entries_of, AreKeys, AreSound}
use Rattle.gv_buffers.proofs.Vacancy.{live_count-kept, live_count-put, live_count-push, live_count-taken, last_is_vacant, AreVacant-put, AreVacant-taken}

-- the slot at an index is what the slab has under its key
pub get-entries_of : (live : Slab LiveBuffer) (keys : List (Option ℕ)) (index : ℕ) → get (entries_of live keys) index ≡ lookup live (key_at keys index)
get-entries_of live [] index = refl
get-entries_of live (key ∷ keys) zero = refl
get-entries_of live (key ∷ keys) (suc index) = get-entries_of live keys index

-- the slab has the same under each key
entries_of-same : (live now : Slab LiveBuffer) (keys : List (Option ℕ)) → ((index : ℕ) → lookup now (key_at keys index) ≡ lookup live (key_at keys index)) →
    entries_of now keys ≡ entries_of live keys
entries_of-same live now [] same = refl
entries_of-same live now (key ∷ keys) same = rw (same 0, entries_of-same live now keys (λ index. same (suc index))) refl

-- one index gets another key, and the slab has the same under those of the others
pub entries_of-set : (live now : Slab LiveBuffer) (keys : List (Option ℕ)) (index : ℕ) (key : Option ℕ) →
    ((other : ℕ) → other ≢ index → lookup now (key_at keys other) ≡ lookup live (key_at keys other)) →
    entries_of now (set keys index key) ≡ set (entries_of live keys) index (lookup now key)
entries_of-set live now [] index key same = refl
entries_of-set live now (old ∷ keys) zero key same = rw (entries_of-same live now keys (λ index. same (suc index) (omega arith))) refl
entries_of-set live now (old ∷ keys) (suc index) key same =
    rw (same 0 (omega arith), entries_of-set live now keys index key (λ other apart. same (suc other) (omega (arith, apart)))) refl

-- room for more changes nothing of that
lookup-grown : (live now : Slab LiveBuffer) (key : Option ℕ) → now ≡ record live { capacity = now.capacity } → lookup now key ≡ lookup live key
lookup-grown live now None grew = refl
lookup-grown live now (Some key) grew = ap (λ (s : Slab LiveBuffer). value_at s key) grew

pub entries_of-grown : (live now : Slab LiveBuffer) (keys : List (Option ℕ)) → now ≡ record live { capacity = now.capacity } → entries_of now keys ≡ entries_of live keys
entries_of-grown live now keys grew = entries_of-same live now keys (λ index. lookup-grown live now (key_at keys index) grew)

pub AreSound-grown : (live now : Slab LiveBuffer) (keys : List (Option ℕ)) (room : ℕ) → now ≡ record live { capacity = now.capacity } → AreSound live keys room → AreSound now keys room
AreSound-grown live now keys room grew sound =
    record {
      are_keys = record { contained = λ index key at. ap (λ (s : Slab LiveBuffer). is_some (value_at s key)) grew ∙ sound.are_keys.contained index key at; apart = sound.are_keys.apart };
      count = ap slab_len grew ∙ sound.count ∙ sym (ap live_count (entries_of-grown live now keys grew));
      fits = sound.fits;
    }

-- no index has a vacant key
pub vacant_key_unused : (live : Slab LiveBuffer) (keys : List (Option ℕ)) (key : ℕ) → AreKeys live keys → value_at live key ≡ None →
    (index other : ℕ) → key_at keys index ≡ Some other → other ≢ key
vacant_key_unused live keys key are nothing index other is same =
    absurd (false≢true (sym (ap is_some nothing) ∙ subst (λ (n : ℕ). is_some (value_at live n) ≡ true) same (are.contained index other is)))

-- what is under a key that no index has changes, and each index keeps what it had
lookup-kept : (live now : Slab LiveBuffer) (key : ℕ) (slot : Option LiveBuffer) (o : Option ℕ) → UpdatesSlab live now key slot → ((other : ℕ) → o ≡ Some other → other ≢ key) →
    lookup now o ≡ lookup live o
lookup-kept live now key slot None updates apart = refl
lookup-kept live now key slot (Some other) updates apart = updates.others other (apart other refl)

pub lookup-put : (live now : Slab LiveBuffer) (keys : List (Option ℕ)) (key : ℕ) (slot : Option LiveBuffer) → AreKeys live keys → value_at live key ≡ None → UpdatesSlab live now key slot →
    (index : ℕ) → lookup now (key_at keys index) ≡ lookup live (key_at keys index)
lookup-put live now keys key slot are nothing updates index = lookup-kept live now key slot (key_at keys index) updates (vacant_key_unused live keys key are nothing index)

-- what is under the key of one index changes, and the others keep what they had
pub lookup-others : (live now : Slab LiveBuffer) (keys : List (Option ℕ)) (index key : ℕ) (slot : Option LiveBuffer) → AreKeys live keys → key_at keys index ≡ Some key → UpdatesSlab live now key slot →
    (other : ℕ) → other ≢ index → lookup now (key_at keys other) ≡ lookup live (key_at keys other)
lookup-others live now keys index key slot are at updates other apart =
    lookup-kept live now key slot (key_at keys other) updates (λ k is same. absurd (apart (are.apart other index key (is ∙ ap (λ (n : ℕ). Some n) same) at)))

ContainsKey-others : (live now : Slab LiveBuffer) (key : ℕ) (slot : Option LiveBuffer) → UpdatesSlab live now key slot → (other : ℕ) → other ≢ key → ContainsKey live other → ContainsKey now other
ContainsKey-others live now key slot updates other apart held = ap is_some (updates.others other apart) ∙ held

-- a buffer was put under a vacant key, which became that of an index without one
pub AreKeys-put : (live now : Slab LiveBuffer) (keys later : List (Option ℕ)) (index key : ℕ) (buffer : LiveBuffer) → AreKeys live keys → UpdatesSlab live now key (Some buffer) →
    value_at live key ≡ None → key_at later index ≡ Some key → ((other : ℕ) → other ≢ index → key_at later other ≡ key_at keys other) → AreKeys now later
AreKeys-put live now keys later index key buffer are updates nothing at others =
    let here = λ (n k : ℕ) (same : n ≡ index) (is : key_at later n ≡ Some k). same_Some k key (sym (subst (λ (m : ℕ). key_at later m ≡ Some k) same is) ∙ at) in
    let was = λ (n k : ℕ) (apart : n ≢ index) (is : key_at later n ≡ Some k). sym (others n apart) ∙ is in
    record {
      contained = λ n k is. ⊎_elim
          (λ (same : n ≡ index). subst (ContainsKey now) (sym (here n k same is)) (ap is_some updates.changed))
          (λ (apart : n ≢ index). ContainsKey-others live now key (Some buffer) updates k (vacant_key_unused live keys key are nothing n k (was n k apart is)) (are.contained n k (was n k apart is)))
          (cases_eq n index);
      apart = λ n m k is_n is_m. ⊎_elim
          (λ (n_same : n ≡ index). ⊎_elim
          (λ (m_same : m ≡ index). n_same ∙ sym m_same)
          (λ (m_apart : m ≢ index). absurd (vacant_key_unused live keys key are nothing m k (was m k m_apart is_m) (here n k n_same is_n)))
          (cases_eq m index))
          (λ (n_apart : n ≢ index). ⊎_elim
          (λ (m_same : m ≡ index). absurd (vacant_key_unused live keys key are nothing n k (was n k n_apart is_n) (here m k m_same is_m)))
          (λ (m_apart : m ≢ index). are.apart n m k (was n k n_apart is_n) (was m k m_apart is_m))
          (cases_eq m index))
          (cases_eq n index);
    }

-- a buffer was taken out, and its index lost its key
pub AreKeys-taken : (live now : Slab LiveBuffer) (keys later : List (Option ℕ)) (index key : ℕ) → AreKeys live keys → UpdatesSlab live now key None →
    key_at keys index ≡ Some key → key_at later index ≡ None → ((other : ℕ) → other ≢ index → key_at later other ≡ key_at keys other) → AreKeys now later
AreKeys-taken live now keys later index key are updates at gone others =
    let elsewhere = λ (n k : ℕ) (is : key_at later n ≡ Some k) (same : n ≡ index). none-some k (sym (subst (λ (m : ℕ). key_at later m ≡ None) (sym same) gone) ∙ is) in
    let was = λ (n k : ℕ) (is : key_at later n ≡ Some k). sym (others n (λ same. absurd (elsewhere n k is same))) ∙ is in
    record {
      contained = λ n k is. ContainsKey-others live now key None updates k
          (λ same. absurd (elsewhere n k is (are.apart n index key (was n k is ∙ ap (λ (j : ℕ). Some j) same) at))) (are.contained n k (was n k is));
      apart = λ n m k is_n is_m. are.apart n m k (was n k is_n) (was m k is_m);
    }

-- a buffer was written
AreKeys-written : (live now : Slab LiveBuffer) (keys : List (Option ℕ)) (key : ℕ) (buffer : LiveBuffer) → AreKeys live keys → UpdatesSlab live now key (Some buffer) → AreKeys now keys
AreKeys-written live now keys key buffer are updates =
    record {
      contained = λ n k is. ⊎_elim
          (λ (same : k ≡ key). subst (ContainsKey now) (sym same) (ap is_some updates.changed))
          (λ (apart : k ≢ key). ContainsKey-others live now key (Some buffer) updates k apart (are.contained n k is))
          (cases_eq k key);
      apart = are.apart;
    }

-- the buffer at an index was written, and is another one
pub record IsWritten (live now : Slab LiveBuffer) (keys : List (Option ℕ)) (room index : ℕ) (old new : LiveBuffer) : Type 0 where
  pub sound : AreSound now keys room
  pub was : get (entries_of live keys) index ≡ Some old
  pub here : get (entries_of now keys) index ≡ Some new
  pub others : (other : ℕ) → other ≢ index → get (entries_of now keys) other ≡ get (entries_of live keys) other

pub written : (live : Slab LiveBuffer) (keys : List (Option ℕ)) (room index key : ℕ) (old new : LiveBuffer) → AreSound live keys room → key_at keys index ≡ Some key →
    value_at live key ≡ Some old → IsWritten live (with_value live key new) keys room index old new
written live keys room index key old new sound at found =
    let now : Slab LiveBuffer = with_value live key new in
    let held : ContainsKey live key = sound.are_keys.contained index key at in
    let updates : UpdatesSlab live now key (Some new) = Updates-with_value live key new held in
    let elsewhere = lookup-others live now keys index key (Some new) sound.are_keys at updates in
    let was : get (entries_of live keys) index ≡ Some old = get-entries_of live keys index ∙ ap (lookup live) at ∙ found in
    let there : lookup now (key_at keys index) ≡ Some new = ap (lookup now) at ∙ updates.changed in
    let list : entries_of now keys ≡ set (entries_of live keys) index (Some new) =
    ap (entries_of now) (sym (set-get_or keys index None)) ∙ entries_of-set live now keys index (key_at keys index) elsewhere ∙ ap (set (entries_of live keys) index) there in
    let many : live_count (entries_of now keys) ≡ live_count (entries_of live keys) =
    ap live_count list ∙ live_count-kept (entries_of live keys) index new (ap is_some was) in
    record {
      sound = record {
        are_keys = AreKeys-written live now keys key new sound.are_keys updates;
        count = live_count-kept live.slots key new held ∙ sound.count ∙ sym many;
        fits = sound.fits;
      };
      was = was;
      here = get-entries_of now keys index ∙ there;
      others = λ other apart. get-entries_of now keys other ∙ elsewhere other apart ∙ sym (get-entries_of live keys other);
    }

-- contracts see it so
pub buffer_in-written : (f : Buffer → Buffer) (live now : Slab LiveBuffer) (keys : List (Option ℕ)) (room index : ℕ) (old new : LiveBuffer) → IsWritten live now keys room index old new →
    buffer_at index new ≡ f (buffer_at index old) → buffer_in (entries_of now keys) index ≡ option_map f (buffer_in (entries_of live keys) index)
buffer_in-written f live now keys room index old new is becomes =
    ap (option_map (buffer_at index)) is.here ∙ ap (λ (b : Buffer). Some b) becomes ∙ sym (ap (λ o. option_map f (option_map (buffer_at index) o)) is.was)

-- or see no change
pub buffer_in-same : (live now : Slab LiveBuffer) (keys : List (Option ℕ)) (room index : ℕ) (old new : LiveBuffer) → IsWritten live now keys room index old new →
    ((n : ℕ) → buffer_at n new ≡ buffer_at n old) → (other : ℕ) → buffer_in (entries_of now keys) other ≡ buffer_in (entries_of live keys) other
buffer_in-same live now keys room index old new is same other =
    ⊎_elim
    (λ (e : other ≡ index). rw e (ap (option_map (buffer_at index)) is.here ∙ ap (λ (b : Buffer). Some b) (same index) ∙ sym (ap (option_map (buffer_at index)) is.was)))
    (λ (apart : other ≢ index). ap (option_map (buffer_at other)) (is.others other apart))
    (cases_eq other index)

-- a buffer was put into an index
pub record IsPut (live now : Slab LiveBuffer) (keys later : List (Option ℕ)) (vacant : List ℕ) (room index : ℕ) (buffer : LiveBuffer) : Type 0 where
  pub sound : AreSound now later room
  pub updates : Updates (entries_of live keys) (entries_of now later) index (Some buffer)
  pub count : live_count (entries_of now later) ≡ live_count (entries_of live keys) + 1
  pub are_vacant : AreVacant (entries_of now later) vacant

Updates-put : (live now : Slab LiveBuffer) (keys later : List (Option ℕ)) (index key : ℕ) (buffer : LiveBuffer) → AreKeys live keys → UpdatesSlab live now key (Some buffer) →
    value_at live key ≡ None → key_at later index ≡ Some key → ((other : ℕ) → other ≢ index → key_at later other ≡ key_at keys other) →
    Updates (entries_of live keys) (entries_of now later) index (Some buffer)
Updates-put live now keys later index key buffer are updates nothing at others =
    record {
      changed = get-entries_of now later index ∙ ap (lookup now) at ∙ updates.changed;
      others = λ other apart. get-entries_of now later other ∙ ap (lookup now) (others other apart) ∙ lookup-put live now keys key (Some buffer) are nothing updates other ∙ sym (get-entries_of live keys other);
    }

-- into the one that was left last
pub put_in_vacant : (live now : Slab LiveBuffer) (keys : List (Option ℕ)) (vacant : List ℕ) (room index key : ℕ) (buffer : LiveBuffer) → AreSound live keys room →
    AreVacant (entries_of live keys) (vacant ++ index ∷ []) → UpdatesSlab live now key (Some buffer) → value_at live key ≡ None → slab_len now ≡ slab_len live + 1 →
    IsPut live now keys (set keys index (Some key)) vacant room index buffer
put_in_vacant live now keys vacant room index key buffer sound are updates nothing len =
    let slots : SlotList = entries_of live keys in
    let later : List (Option ℕ) = set keys index (Some key) in
    let last : IsVacant slots index = last_is_vacant slots vacant index are in
    let long : length slots ≡ length keys = length-map _ _ in
    let within : index < length keys = omega (arith, last.within, long) in
    let at : key_at later index ≡ Some key = get_or-set_same keys index (Some key) None within in
    let others = λ (other : ℕ) (apart : other ≢ index). get_or-set_other keys index other (Some key) None apart in
    let list : entries_of now later ≡ set slots index (Some buffer) =
    entries_of-set live now keys index (Some key) (λ other _. lookup-put live now keys key (Some buffer) sound.are_keys nothing updates other) ∙ ap (set slots index) updates.changed in
    let many : live_count (entries_of now later) ≡ live_count slots + 1 = ap live_count list ∙ live_count-put slots index buffer last.within last.nothing in
    record {
      sound = record {
        are_keys = AreKeys-put live now keys later index key buffer sound.are_keys updates nothing at others;
        count = omega (arith, len, sound.count, many);
        fits = omega (arith, sound.fits, length-set keys index (Some key));
      };
      updates = Updates-put live now keys later index key buffer sound.are_keys updates nothing at others;
      count = many;
      are_vacant = subst (λ (xs : SlotList). AreVacant xs vacant) (sym list) (AreVacant-put slots vacant index buffer are);
    }

key_at-push : (keys : List (Option ℕ)) (key : Option ℕ) (other : ℕ) → other ≢ length keys → key_at (keys ++ key ∷ []) other ≡ key_at keys other
key_at-push [] key zero apart = absurd (apart refl)
key_at-push [] key (suc other) apart = refl
key_at-push (old ∷ keys) key zero apart = refl
key_at-push (old ∷ keys) key (suc other) apart = key_at-push keys key other (omega (arith, apart))

-- into the first that never had one
pub put_in_new : (live now : Slab LiveBuffer) (keys : List (Option ℕ)) (was room index key : ℕ) (buffer : LiveBuffer) → AreSound live keys was →
    AreVacant (entries_of live keys) [] → UpdatesSlab live now key (Some buffer) → value_at live key ≡ None → slab_len now ≡ slab_len live + 1 → index ≡ length keys →
    length keys + 1 ≤ room → IsPut live now keys (keys ++ Some key ∷ []) [] room index buffer
put_in_new live now keys was room index key buffer sound are updates nothing len is fits =
    let slots : SlotList = entries_of live keys in
    let later : List (Option ℕ) = keys ++ Some key ∷ [] in
    let at : key_at later index ≡ Some key = get_or_push keys (Some key) None index (sym is) in
    let others = λ (other : ℕ) (apart : other ≢ index). key_at-push keys (Some key) other (λ same. absurd (apart (same ∙ sym is))) in
    let list : entries_of now later ≡ slots ++ Some buffer ∷ [] =
    map_push (lookup now) keys (Some key)
    ∙ ap (λ (xs : SlotList). xs ++ lookup now (Some key) ∷ []) (entries_of-same live now keys (lookup-put live now keys key (Some buffer) sound.are_keys nothing updates))
    ∙ ap (λ (o : Option LiveBuffer). slots ++ o ∷ []) updates.changed in
    let many : live_count (entries_of now later) ≡ live_count slots + 1 = ap live_count list ∙ live_count-push slots buffer in
    record {
      sound = record {
        are_keys = AreKeys-put live now keys later index key buffer sound.are_keys updates nothing at others;
        count = omega (arith, len, sound.count, many);
        fits = omega (arith, fits, length_push keys (Some key));
      };
      updates = Updates-put live now keys later index key buffer sound.are_keys updates nothing at others;
      count = many;
      are_vacant = rw list (record {
        each = All-nil (IsVacant (slots ++ Some buffer ∷ []));
        apart = λ i j d below within. absurd (omega arith);
        all = omega (arith, are.all, live_count-push slots buffer, length_push slots (Some buffer));
      });
    }

-- a buffer was taken out of its index
pub record IsTaken (live now : Slab LiveBuffer) (keys later : List (Option ℕ)) (vacant : List ℕ) (room index : ℕ) : Type 0 where
  pub sound : AreSound now later room
  pub updates : Updates (entries_of live keys) (entries_of now later) index None
  pub count : live_count (entries_of now later) + 1 ≡ live_count (entries_of live keys)
  pub are_vacant : AreVacant (entries_of now later) (vacant ++ index ∷ [])

key_within : (keys : List (Option ℕ)) (index key : ℕ) → key_at keys index ≡ Some key → index < length keys
key_within [] index key at = absurd (none-some key at)
key_within (old ∷ keys) zero key at = omega arith
key_within (old ∷ keys) (suc index) key at = omega (arith, key_within keys index key at)

pub taken : (live now : Slab LiveBuffer) (keys : List (Option ℕ)) (vacant : List ℕ) (room index key : ℕ) → AreSound live keys room → AreVacant (entries_of live keys) vacant →
    key_at keys index ≡ Some key → UpdatesSlab live now key None → slab_len now + 1 ≡ slab_len live → IsTaken live now keys (set keys index None) vacant room index
taken live now keys vacant room index key sound are at updates len =
    let slots : SlotList = entries_of live keys in
    let later : List (Option ℕ) = set keys index None in
    let gone : key_at later index ≡ None = get_or-set_same keys index None None (key_within keys index key at) in
    let others = λ (other : ℕ) (apart : other ≢ index). get_or-set_other keys index other None None apart in
    let elsewhere = lookup-others live now keys index key None sound.are_keys at updates in
    let list : entries_of now later ≡ set slots index None = entries_of-set live now keys index None elsewhere in
    let lives : is_some (get slots index) ≡ true = ap is_some (get-entries_of live keys index ∙ ap (lookup live) at) ∙ sound.are_keys.contained index key at in
    let many : live_count (entries_of now later) + 1 ≡ live_count slots = ap (λ (xs : SlotList). live_count xs + 1) list ∙ live_count-taken slots index lives in
    record {
      sound = record {
        are_keys = AreKeys-taken live now keys later index key sound.are_keys updates at gone others;
        count = omega (arith, len, sound.count, many);
        fits = omega (arith, sound.fits, length-set keys index None);
      };
      updates = record {
        changed = get-entries_of now later index ∙ ap (lookup now) gone;
        others = λ other apart. get-entries_of now later other ∙ ap (lookup now) (others other apart) ∙ elsewhere other apart ∙ sym (get-entries_of live keys other);
      };
      count = many;
      are_vacant = rw list (AreVacant-taken slots vacant index lives are);
    }

-- so the slots stay sound
pub AreSound-taken : (live now : Slab LiveBuffer) (keys : List (Option ℕ)) (vacant : List ℕ) (room index key : ℕ) → AreSound live keys room → AreVacant (entries_of live keys) vacant →
    key_at keys index ≡ Some key → UpdatesSlab live now key None → slab_len now + 1 ≡ slab_len live → AreSound now (set keys index None) room
AreSound-taken live now keys vacant room index key sound are at updates len = (taken live now keys vacant room index key sound are at updates len).sound

-- the key of an index was looked up in what `deref` gives
pub key_found : (shown keys : List (Option ℕ)) (index key : ℕ) → shown ≡ keys → key_at shown index ≡ Some key → key_at keys index ≡ Some key
key_found shown keys index key same found = subst (λ (ks : List (Option ℕ)). key_at ks index ≡ Some key) same found
