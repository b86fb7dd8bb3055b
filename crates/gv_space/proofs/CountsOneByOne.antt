-- The counts of buffers, moved one mapping at a time.
use Rattle.std.proofs.Common.{◌≡◌, ℕ, ◌+◌, ◌<◌, ◌≤◌, List, [], length, get_or, take, Bool, true, false, cond, arith, refl, sym, ◌∙◌, ap, subst, Some, Option}
use Rattle.std.specs.Option.{option_map, IsSomeAnd}
use Rattle.std.specs.List.{All}
use Rattle.std.proofs.lemmas.List.{take_all}
use Rattle.gv_types.specs.Mapping.{is_same_id, is_of}
use Rattle.gv_types.specs.declared.mapping.Backing.{Backing}
use Rattle.gv_types.specs.declared.mapping.Backing.TheVariants.{Buffer as BufferPages, Zero}
use Rattle.gv_types.specs.declared.mapping.BufferId.{BufferId}
use Rattle.gv_types.specs.declared.mapping.Mapping.{Mapping}
use Rattle.gv_buffers.specs.Buffers.{Buffer, BuffersState, buffer, changed, only, has_id}
use Rattle.gv_space.specs.Counts.{count_of, by_count, more_used, less_used, more_kept, less_kept, moved_out, moved_in}
use Rattle.gv_space.specs.Live.{IsLiveBacking}
use Rattle.gv_space.proofs.CountLemmas.{is_same_id-symmetric, count_of-more, count_of-front_lt}
use Rattle.gv_space.proofs.BufferTableLemmas.{each-each, each-same, each-itself, buffer-each, found_live}

-- a change of a buffer by a number of mappings, which may be made one mapping at a time
pub record IsCounting (change : Buffer → ℕ → Buffer) : Type 0 where
  pub none : (b : Buffer) → change b 0 ≡ b
  pub more : (b : Buffer) (n : ℕ) → change (change b n) 1 ≡ change b (n + 1)
  pub id : (b : Buffer) (n : ℕ) → (change b n).id ≡ b.id

with_uses : (b : Buffer) (n k : ℕ) → n ≡ k → record b { uses = n } ≡ record b { uses = k }
with_uses b n k same = ap (λ (uses : ℕ). record b { uses = uses }) same

with_kept : (b : Buffer) (n k : ℕ) → n ≡ k → record b { kept = n } ≡ record b { kept = k }
with_kept b n k same = ap (λ (kept : ℕ). record b { kept = kept }) same

pub more_used_counting : IsCounting more_used
more_used_counting = record { none = λ b. with_uses b _ b.uses (omega arith); more = λ b n. with_uses b _ _ (omega arith); id = λ b n. refl }

pub less_used_counting : IsCounting less_used
less_used_counting = record { none = λ b. with_uses b _ b.uses (omega arith); more = λ b n. with_uses b _ _ (omega arith); id = λ b n. refl }

pub more_kept_counting : IsCounting more_kept
more_kept_counting = record { none = λ b. with_kept b _ b.kept (omega arith); more = λ b n. with_kept b _ _ (omega arith); id = λ b n. refl }

pub less_kept_counting : IsCounting less_kept
less_kept_counting = record { none = λ b. with_kept b _ b.kept (omega arith); more = λ b n. with_kept b _ _ (omega arith); id = λ b n. refl }

with_both : (b : Buffer) (uses kept uses' kept' : ℕ) → uses ≡ uses' → kept ≡ kept' → record b { uses = uses; kept = kept } ≡ record b { uses = uses'; kept = kept' }
with_both b uses kept uses' kept' same_uses same_kept = rw (same_uses, same_kept) refl

pub moved_out_counting : IsCounting moved_out
moved_out_counting = record {
  none = λ b. with_both b _ _ b.uses b.kept (omega arith) (omega arith);
  more = λ b n. with_both b _ _ _ _ (omega arith) (omega arith);
  id = λ b n. refl;
}

pub moved_in_counting : IsCounting moved_in
moved_in_counting = record {
  none = λ b. with_both b _ _ b.uses b.kept (omega arith) (omega arith);
  more = λ b n. with_both b _ _ _ _ (omega arith) (omega arith);
  id = λ b n. refl;
}

-- the table with one mapping counted
abbrev pub with_one : (Buffer → ℕ → Buffer) → Backing → BuffersState → BuffersState
with_one change (BufferPages id page) t = changed id (λ b. change b 1) t
with_one change Zero t = t

-- no mapping is counted
pub by_count_none : (change : Buffer → ℕ → Buffer) (t : BuffersState) → IsCounting change → by_count change [] t ≡ t
by_count_none change t counting = each-itself (λ b. Unit {0}) (λ b. change b 0) t (λ k d within. tt) (λ b _. counting.none b)

-- one mapping more or none
one_step : (change : Buffer → ℕ → Buffer) (b : Buffer) (n k : ℕ) (here : Bool) → IsCounting change → k ≡ n + cond here 1 0 →
    cond here (change (change b n) 1) (change b n) ≡ change b k
one_step change b n k true counting is = counting.more b n ∙ ap (change b) (sym is)
one_step change b n k false counting is = let same : n ≡ k = omega arith in ap (change b) same

-- one more mapping of a buffer, at each buffer
one_of : (change : Buffer → ℕ → Buffer) (id : BufferId) (page : ℕ) (ms : List Mapping) (i : ℕ) (m : Mapping) (b : Buffer) → IsCounting change → i < length ms →
    get_or ms i m ≡ m → m.backing ≡ BufferPages id page →
    only id (λ x. change x 1) (change b (count_of b.id (take i ms))) ≡ change b (count_of b.id (take (i + 1) ms))
one_of change id page ms i m b counting within is of =
    let n : ℕ = count_of b.id (take i ms) in
    let has : has_id id (change b n) ≡ is_same_id id b.id = ap (λ (x : BufferId). is_same_id x id) (counting.id b n) ∙ is_same_id-symmetric b.id id in
    let more : count_of b.id (take (i + 1) ms) ≡ n + cond (is_same_id id b.id) 1 0 = rw (is, of) at (count_of-more b.id ms i m within) in
    subst (λ (t : Bool). cond t (change (change b n) 1) (change b n) ≡ change b (count_of b.id (take (i + 1) ms))) (sym has)
    (one_step change b n (count_of b.id (take (i + 1) ms)) (is_same_id id b.id) counting more)

-- one more mapping of zeros, at each buffer
none_of : (change : Buffer → ℕ → Buffer) (ms : List Mapping) (i : ℕ) (m : Mapping) (b : Buffer) → i < length ms → get_or ms i m ≡ m → m.backing ≡ Zero →
    change b (count_of b.id (take i ms)) ≡ change b (count_of b.id (take (i + 1) ms))
none_of change ms i m b within is of =
    let more : count_of b.id (take (i + 1) ms) ≡ count_of b.id (take i ms) + 0 = rw (is, of) at (count_of-more b.id ms i m within) in
    let same : count_of b.id (take i ms) ≡ count_of b.id (take (i + 1) ms) = omega arith in
    ap (change b) same

-- one more mapping of the list is counted
by_count_more : (change : Buffer → ℕ → Buffer) (t : BuffersState) (ms : List Mapping) (i : ℕ) (m : Mapping) (backing : Backing) → IsCounting change → i < length ms →
    get_or ms i m ≡ m → m.backing ≡ backing → with_one change backing (by_count change (take i ms) t) ≡ by_count change (take (i + 1) ms) t
by_count_more change t ms i m (BufferPages id page) counting within is of =
    each-each (only id (λ x. change x 1)) (λ b. change b (count_of b.id (take i ms))) t
    ∙ each-same (λ b. Unit {0}) _ _ t (λ k d within. tt) (λ b _. one_of change id page ms i m b counting within is of)
by_count_more change t ms i m Zero counting within is of =
    each-same (λ b. Unit {0}) _ _ t (λ k d within. tt) (λ b _. none_of change ms i m b within is of)

-- a turn of a loop that counts
pub count_turn : (change : Buffer → ℕ → Buffer) (t now new : BuffersState) (ms : List Mapping) (i : ℕ) (m : Mapping) (backing : Backing) → IsCounting change → i < length ms →
    m ≡ get_or ms i m → m.backing ≡ backing → now ≡ by_count change (take i ms) t → new ≡ with_one change backing now → new ≡ by_count change (take (i + 1) ms) t
count_turn change t now new ms i m backing counting within is of so_far turn =
    turn ∙ ap (with_one change backing) so_far ∙ by_count_more change t ms i m backing counting within (sym is) of

-- its end
pub count_end : (change : Buffer → ℕ → Buffer) (t now : BuffersState) (ms : List Mapping) (i : ℕ) → length ms ≤ i → now ≡ by_count change (take i ms) t → now ≡ by_count change ms t
count_end change t now ms i past so_far = so_far ∙ ap (λ (xs : List Mapping). by_count change xs t) (take_all i ms past)

holds_at : (field : Buffer → ℕ) (Q : ℕ → Type 0) (f : Buffer → Buffer) (b : Buffer) (o : Option Buffer) → o ≡ option_map f (Some b) → Q (field (f b)) →
    IsSomeAnd (option_map field o) Q
holds_at field Q f b o is holds = subst (λ (x : Option Buffer). IsSomeAnd (option_map field x) Q) (sym is) holds

-- what a call in a loop that counts requires: the buffer is alive, and so is room for one more of all the mappings
pub can_count : (change : Buffer → ℕ → Buffer) (field : Buffer → ℕ) (CanRevert : Buffer → ℕ → Type 0) (Q : ℕ → Type 0) → IsCounting change →
    ((b : Buffer) (n k : ℕ) → n < k → CanRevert b k → Q (field (change b n))) →
    (t now : BuffersState) (ms : List Mapping) (i : ℕ) (m : Mapping) (id : BufferId) (page : ℕ) → i < length ms → m ≡ get_or ms i m → m.backing ≡ BufferPages id page →
    All (λ x. IsLiveBacking t x.backing) ms → All (λ b. CanRevert b (count_of b.id ms)) t.live → now ≡ by_count change (take i ms) t →
    IsSomeAnd (option_map field (buffer now id)) Q
can_count change field CanRevert Q counting enough t now ms i m id page within is of live room so_far =
    let lives : IsLiveBacking t (BufferPages id page) = rw (← is, of) at (live i m within) in
    let found = found_live (λ b. CanRevert b (count_of b.id ms)) t id room lives in
    let b : Buffer = found.b in
    let mine : is_of b.id m.backing ≡ true = ap (is_of b.id) of ∙ is_same_id-symmetric id b.id ∙ found.same_id in
    let fewer : count_of b.id (take i ms) < count_of b.id ms = count_of-front_lt b.id ms i m within is mine in
    let at : buffer now id ≡ option_map (λ x. change x (count_of x.id (take i ms))) (Some b) =
    ap (λ (x : BuffersState). buffer x id) so_far ∙ buffer-each (λ x. change x (count_of x.id (take i ms))) t id (λ x. counting.id x (count_of x.id (take i ms)))
    ∙ ap (option_map (λ x. change x (count_of x.id (take i ms)))) found.found in
    holds_at field Q (λ x. change x (count_of x.id (take i ms))) b (buffer now id) at (enough b (count_of b.id (take i ms)) (count_of b.id ms) fewer found.holds)
