-- A job joins a buffer, or leaves every one.
use Rattle.std.proofs.Common.{◌≡◌, ◌≢◌, ◌⊎◌, ℕ, List, [], ◌∷◌, true, false, cond, not, eqb, refl, sym, length, reverse, ◌∙◌, ap, subst, inl, inr, ⊎_elim, Some, None, Option}
use Rattle.std.specs.Option.{option_map}
use Rattle.std.specs.List.{All}
use Rattle.std.proofs.lemmas.Bool.{eqb-true, eqb-false, and_parts}
use Rattle.std.proofs.lemmas.Option.{same_Some}
use Rattle.std.proofs.lemmas.List.Elements.{All-nil, All-cons, All-head, All-tail, All-weaker}
use Rattle.gv_types.specs.declared.mapping.BufferId.{BufferId}
use Rattle.gv_buffers.specs.declared.live_buffer.LiveBuffer.{LiveBuffer}
use Rattle.gv_buffers.specs.declared.usage.Usage.{Usage}
use Rattle.gv_buffers.specs.declared.usage.User.{User}
use Rattle.gv_buffers.specs.declared.buffers.Buffers.TheInside.{Inside}
use Rattle.gv_buffers.specs.Users.{conflict, users_without, HaveNoConflict}
use Rattle.gv_buffers.specs.Buffers.{Buffer, BuffersState, has_id, only, changed, joined_by, left_by, left_everywhere, IsBuffer}
use Rattle.gv_buffers.specs.Indices.{Notes, IsNoted}
use Rattle.gv_buffers.specs.Slots.{SlotsState, get, buffer_at, buffer_in, buffers_from, live_at, AreNoted, IsLeftOrSame}
use Rattle.gv_buffers.specs.Inside.{table_of, AreSoundBuffers}
use Rattle.gv_buffers.proofs.TablesAndSlots.{live_slot, index_of_seen, buffer_in_from_get, indices_from_only, sound_map, live_from_map, live_from_same}
use Rattle.gv_buffers.proofs.Conflicts.{AreHarmless, harmless_from_none, HaveNoConflict-joined, HaveNoConflict-users_without, All-joined}

-- what a table keeps from one state to another, and what contracts see then
pub record IsNow (b : Inside) (t : BuffersState) : Type 0 where
  pub sound : AreSoundBuffers b
  pub table : table_of b ≡ t

unmapped : (o : Option Buffer) → o ≡ option_map (λ b. b) o
unmapped None = refl
unmapped (Some b) = refl

-- room was made, and more may be noted
pub unchanged : (a : Inside) (t : BuffersState) (new : SlotsState) (notes : Notes) → AreSoundBuffers a → table_of a ≡ t → new.vacant ≡ a.slots.vacant → length new.entries ≡ length a.slots.entries →
    ((index : ℕ) → buffer_in new.entries index ≡ buffer_in a.slots.entries index) → ((job index : ℕ) → IsNoted a.indices job index → IsNoted notes job index) →
    IsNow (record a { slots = new; indices = notes }) t
unchanged a t new notes sound view vacant long same keeps =
    record {
      sound = sound_map a (record a { slots = new; indices = notes }) (λ b. b) sound refl refl vacant long
          (λ index. same index ∙ unmapped (buffer_in a.slots.entries index)) (λ index x _ was. was)
          (λ index x _ was. All-weaker (λ u. IsNoted a.indices u.job index) (λ u. IsNoted notes u.job index) (λ u noted. keeps u.job index noted) x.users was);
      table = ap (λ (vs : List ℕ). record { limit = a.limit; made = a.made; live = buffers_from 0 new.entries; vacant = reverse vs }) vacant
          ∙ ap (λ (live : List Buffer). record { limit = a.limit; made = a.made; live = live; vacant = reverse a.slots.vacant }) (live_from_same a.slots.entries new.entries same) ∙ view;
    }

-- a buffer that has an id is the one at its position
same_index : (id : BufferId) (position : ℕ) (o : Option LiveBuffer) (x : Buffer) → option_map (buffer_at position) o ≡ Some x → has_id id x ≡ true → position ≡ id.index
same_index id position o x found has =
    let index : x.id.index ≡ id.index = eqb-true _ _ (and_parts (eqb x.id.index id.index) (eqb x.id.generation id.generation) has).0 in
    sym (index_of_seen position o x found) ∙ index

-- no two jobs conflict that use a buffer in its slot
pub no_conflict_in_slot : (a : Inside) (id : BufferId) (v : LiveBuffer) → AreSoundBuffers a → live_at a.slots.entries id ≡ Some v → HaveNoConflict v.users.list.items
no_conflict_in_slot a id v sound found =
    (sound.buffers id.index (buffer_at id.index v) (buffer_in_from_get a.slots.entries id.index v (live_slot a id v found).0)).no_conflict

-- a job joined the buffer with an id, where it conflicts with none
pub joined_table : (a : Inside) (t : BuffersState) (new : SlotsState) (notes : Notes) (id : BufferId) (v : LiveBuffer) (job : ℕ) (usage : Usage) → AreSoundBuffers a → table_of a ≡ t → new.vacant ≡ a.slots.vacant →
    length new.entries ≡ length a.slots.entries → live_at a.slots.entries id ≡ Some v → conflict job usage v.users.list.items ≡ None →
    buffer_in new.entries id.index ≡ option_map (joined_by job usage) (buffer_in a.slots.entries id.index) → ((index : ℕ) → index ≢ id.index → buffer_in new.entries index ≡ buffer_in a.slots.entries index) →
    ((other index : ℕ) → IsNoted a.indices other index → IsNoted notes other index) → IsNoted notes job id.index →
    IsNow (record a { slots = new; indices = notes }) (changed id (joined_by job usage) t)
joined_table a t new notes id v job usage sound view vacant long found none here others keeps noted =
    let slot = live_slot a id v found in
    let each = indices_from_only id (joined_by job usage) a.slots.entries new.entries v slot.0 slot.1 here others in
    let harmless : AreHarmless job usage v.users.list.items = harmless_from_none job usage v.users.list.items none in
    let buffer_here : buffer_in a.slots.entries id.index ≡ Some (buffer_at id.index v) = buffer_in_from_get a.slots.entries id.index v slot.0 in
    record {
      sound = sound_map a (record a { slots = new; indices = notes }) (only id (joined_by job usage)) sound refl refl vacant long each
          (λ index x seen was. elim (has_id id x) as (λ h. has_id id x ≡ h → IsBuffer a.made (cond h (joined_by job usage x) x)) [
            | true ↦ (λ has.
                let at : index ≡ id.index = same_index id index (get a.slots.entries index) x seen has in
                let is : buffer_at id.index v ≡ x = same_Some _ _ (sym buffer_here ∙ subst (λ (n : ℕ). buffer_in a.slots.entries n ≡ Some x) at seen) in
                let safe : AreHarmless job usage x.users = subst (λ (b : Buffer). AreHarmless job usage b.users) is harmless in
                record { made_before = was.made_before; some_pages = was.some_pages; few_pages = was.few_pages; no_conflict = HaveNoConflict-joined job usage x.users safe was.no_conflict })
            | false ↦ (λ _. was)
          ] refl)
          (λ index x seen was.
          let all : All (λ u. IsNoted notes u.job index) x.users = All-weaker (λ u. IsNoted a.indices u.job index) (λ u. IsNoted notes u.job index) (λ u h. keeps u.job index h) x.users was in
          elim (has_id id x) as (λ h. has_id id x ≡ h → All (λ u. IsNoted notes u.job index) (cond h (joined_by job usage x) x).users) [
            | true ↦ (λ has.
                let at : index ≡ id.index = same_index id index (get a.slots.entries index) x seen has in
                All-joined (λ u. IsNoted notes u.job index) job usage x.users all (subst (λ (n : ℕ). IsNoted notes job n) (sym at) noted) (λ u _ h. h))
            | false ↦ (λ _. all)
          ] refl);
      table = ap (λ (vs : List ℕ). record { limit = a.limit; made = a.made; live = buffers_from 0 new.entries; vacant = reverse vs }) vacant
          ∙ ap (λ (live : List Buffer). record { limit = a.limit; made = a.made; live = live; vacant = reverse a.slots.vacant }) (live_from_map (only id (joined_by job usage)) a.slots.entries new.entries each) ∙ ap (changed id (joined_by job usage)) view;
    }

-- a job is noted where it is a user
left_or_noted : (notes : Notes) (index job : ℕ) (users : List User) → All (λ u. IsNoted notes u.job index) users → (users_without job users ≡ users) ⊎ IsNoted notes job index
left_or_noted notes index job [] noted = inl refl
left_or_noted notes index job (user ∷ users) noted =
    elim (eqb user.job job) as (λ t. eqb user.job job ≡ t → (cond (not t) (user ∷ users_without job users) (users_without job users) ≡ user ∷ users) ⊎ IsNoted notes job index) [
      | true ↦ (λ e. inr (subst (λ (j : ℕ). IsNoted notes j index) (eqb-true _ _ e) (All-head (λ u. IsNoted notes u.job index) user users noted)))
      | false ↦ (λ _. ⊎_elim (λ same. inl (ap (λ us. user ∷ us) same)) (λ there. inr there)
          (left_or_noted notes index job users (All-tail (λ u. IsNoted notes u.job index) user users noted)))
    ] refl

-- the notes of the other jobs serve the users that stay
noted_of_left : (old new : Notes) (index job : ℕ) (users : List User) → ((other at : ℕ) → other ≢ job → IsNoted old other at → IsNoted new other at) →
    All (λ u. IsNoted old u.job index) users → All (λ u. IsNoted new u.job index) (users_without job users)
noted_of_left old new index job [] keeps noted = All-nil (λ u. IsNoted new u.job index)
noted_of_left old new index job (user ∷ users) keeps noted =
    let rest : All (λ u. IsNoted new u.job index) (users_without job users) = noted_of_left old new index job users keeps (All-tail (λ u. IsNoted old u.job index) user users noted) in
    elim (eqb user.job job) as (λ t. eqb user.job job ≡ t → All (λ u. IsNoted new u.job index) (cond (not t) (user ∷ users_without job users) (users_without job users))) [
      | true ↦ (λ _. rest)
      | false ↦ (λ e. All-cons (λ u. IsNoted new u.job index) user (users_without job users) (keeps user.job index (eqb-false _ _ e) (All-head (λ u. IsNoted old u.job index) user users noted)) rest)
    ] refl

-- a buffer that stayed as it was had no such user, or the job was noted there
stays : (notes : Notes) (index job : ℕ) (new old : Option Buffer) → new ≡ old → AreNoted notes index old →
    (IsNoted notes job index → new ≡ option_map (left_by job) old) → new ≡ option_map (left_by job) old
stays notes index job new None same users noted = same
stays notes index job new (Some b) same users noted =
    ⊎_elim (λ e. same ∙ ap (λ (us : List User). Some (record b { users = us })) (sym e)) noted (left_or_noted notes index job b.users users)

-- a job left each buffer where it was noted
pub left_table : (a : Inside) (t : BuffersState) (new : SlotsState) (notes : Notes) (job : ℕ) → AreSoundBuffers a → table_of a ≡ t → new.vacant ≡ a.slots.vacant → length new.entries ≡ length a.slots.entries →
    ((index : ℕ) → IsLeftOrSame job a.slots.entries new.entries index) →
    ((index : ℕ) → IsNoted a.indices job index → buffer_in new.entries index ≡ option_map (left_by job) (buffer_in a.slots.entries index)) →
    ((other at : ℕ) → other ≢ job → IsNoted a.indices other at → IsNoted notes other at) →
    IsNow (record a { slots = new; indices = notes }) (left_everywhere job t)
left_table a t new notes job sound view vacant long others noted keeps =
    let each : (index : ℕ) → buffer_in new.entries index ≡ option_map (left_by job) (buffer_in a.slots.entries index) =
    λ index. ⊎_elim (λ gone. gone) (λ same. stays a.indices index job (buffer_in new.entries index) (buffer_in a.slots.entries index) same (sound.noted index) (noted index)) (others index) in
    record {
      sound = sound_map a (record a { slots = new; indices = notes }) (left_by job) sound refl refl vacant long each
          (λ index x _ was. record { made_before = was.made_before; some_pages = was.some_pages; few_pages = was.few_pages; no_conflict = HaveNoConflict-users_without job x.users was.no_conflict })
          (λ index x _ was. noted_of_left a.indices notes index job x.users keeps was);
      table = ap (λ (vs : List ℕ). record { limit = a.limit; made = a.made; live = buffers_from 0 new.entries; vacant = reverse vs }) vacant
          ∙ ap (λ (live : List Buffer). record { limit = a.limit; made = a.made; live = live; vacant = reverse a.slots.vacant }) (live_from_map (left_by job) a.slots.entries new.entries each) ∙ ap (left_everywhere job) view;
    }
