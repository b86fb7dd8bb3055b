-- The counts of buffers where the first mapping taken out of a list gives way to another of its buffer.
use Rattle.std.proofs.Common.{◌≡◌, ℕ, ◌+◌, ◌-◌, ◌≤◌, List, length, get_or, take, drop, cond, arith, refl, sym, ◌∙◌, ap}
use Rattle.std.specs.List.{All}
use Rattle.std.proofs.lemmas.List.{take_all, length-drop, get_or_default}
use Rattle.std.proofs.lemmas.List.Elements.{All-weaker, All-drop, All-take}
use Rattle.gv_types.specs.Mapping.{one_page_of_zeros, is_same_id}
use Rattle.gv_types.specs.declared.mapping.Backing.TheVariants.{Buffer as BufferPages}
use Rattle.gv_types.specs.declared.mapping.BufferId.{BufferId}
use Rattle.gv_types.specs.declared.mapping.Mapping.{Mapping}
use Rattle.gv_buffers.specs.Buffers.{Buffer, BuffersState, changed, most_counted}
use Rattle.gv_space.specs.Counts.{count_of, by_count, more_used, more_kept, moved_out, IsFirstOf}
use Rattle.gv_space.specs.Live.{IsLiveBacking}
use Rattle.gv_space.proofs.ByCountLemmas.{more_kept_of_counts, moved_out_of_counts, live-by_count, All-by_count}
use Rattle.gv_space.proofs.CountLemmas.{count_of-front, count_of-more}
use Rattle.gv_space.proofs.CountsOneByOne.{more_kept_counting, by_count_none, count_turn}
use Rattle.gv_space.proofs.BufferTableLemmas.{each-each, each-same}

-- the mappings behind the first, as a slice from 1 on has them
abbrev pub rest : List Mapping → List Mapping
rest ms = take (length ms - 1) (drop 1 ms)

count_of-rest : (id : BufferId) (ms : List Mapping) → count_of id (take 1 ms) + count_of id (rest ms) ≡ count_of id ms
count_of-rest id ms =
    let front = count_of-front id ms 1 in
    let same : count_of id (rest ms) ≡ count_of id (drop 1 ms) = ap (count_of id) (take_all (length ms - 1) (drop 1 ms) (omega (arith, length-drop 1 ms))) in
    omega arith

-- the first mapping is kept
pub first-kept : (id : BufferId) (taken : List Mapping) (t new : BuffersState) → IsFirstOf id taken → new ≡ changed id (λ b. more_kept b 1) t → new ≡ by_count more_kept (take 1 taken) t
first-kept id taken t new first turn =
    count_turn more_kept t t new taken 0 (get_or taken 0 one_page_of_zeros) (BufferPages id first.page) more_kept_counting first.some
    (get_or_default taken 0 one_page_of_zeros (get_or taken 0 one_page_of_zeros) first.some) (first.is one_page_of_zeros)
    (sym (by_count_none more_kept t more_kept_counting)) turn

-- how many of a buffer the first mapping is
first-one : (id other : BufferId) (ms : List Mapping) → IsFirstOf id ms → count_of other (take 1 ms) ≡ cond (is_same_id id other) 1 0
first-one id other ms first =
    let more : count_of other (take 1 ms) ≡ 0 + cond (is_same_id id other) 1 0 = rw (first.is one_page_of_zeros) at (count_of-more other ms 0 one_page_of_zeros first.some) in
    omega arith

with_both : (b : Buffer) (uses kept uses' kept' : ℕ) → uses ≡ uses' → kept ≡ kept' → record b { uses = uses; kept = kept } ≡ record b { uses = uses'; kept = kept' }
with_both b uses kept uses' kept' same_uses same_kept = rw (same_uses, same_kept) refl

module _ (taken pieces : List Mapping) (t : BuffersState) where
  -- what counts the others may ask
  pub rest-live : All (λ m. IsLiveBacking t m.backing) taken → All (λ m. IsLiveBacking (by_count more_kept (take 1 taken) t) m.backing) (rest taken)
  rest-live live =
      let P : Mapping → Type 0 = λ m. IsLiveBacking (by_count more_kept (take 1 taken) t) m.backing in
      All-take P (length taken - 1) (drop 1 taken) (All-drop P 1 taken (live-by_count more_kept (take 1 taken) t taken more_kept_of_counts live))

  pub rest-counted : All (λ b. count_of b.id taken ≤ b.uses) t.live → All (λ b. count_of b.id (rest taken) ≤ b.uses) (by_count more_kept (take 1 taken) t).live
  rest-counted few =
      All-by_count (λ b. count_of b.id (rest taken) ≤ b.uses) more_kept (take 1 taken) t
      (All-weaker (λ b. count_of b.id taken ≤ b.uses) (λ b. count_of b.id (rest taken) ≤ b.uses) (λ b fits. omega (arith, fits, count_of-rest b.id taken)) t.live few)

  pub rest-room : All (λ b. b.kept + count_of b.id taken ≤ most_counted) t.live → All (λ b. b.kept + count_of b.id (rest taken) ≤ most_counted) (by_count more_kept (take 1 taken) t).live
  rest-room room =
      All-by_count (λ b. b.kept + count_of b.id (rest taken) ≤ most_counted) more_kept (take 1 taken) t
      (All-weaker (λ b. b.kept + count_of b.id taken ≤ most_counted) (λ b. b.kept + count_of b.id (take 1 taken) + count_of b.id (rest taken) ≤ most_counted)
      (λ b fits. omega (arith, fits, count_of-rest b.id taken)) t.live room)

  pub pieces-live : All (λ m. IsLiveBacking t m.backing) pieces →
      All (λ m. IsLiveBacking (by_count moved_out (rest taken) (by_count more_kept (take 1 taken) t)) m.backing) (rest pieces)
  pieces-live live =
      let kept : BuffersState = by_count more_kept (take 1 taken) t in
      let P : Mapping → Type 0 = λ m. IsLiveBacking (by_count moved_out (rest taken) kept) m.backing in
      All-take P (length pieces - 1) (drop 1 pieces)
      (All-drop P 1 pieces (live-by_count moved_out (rest taken) kept pieces moved_out_of_counts (live-by_count more_kept (take 1 taken) t pieces more_kept_of_counts live)))

  pub pieces-room : All (λ b. b.uses + count_of b.id pieces ≤ most_counted) t.live →
      All (λ b. b.uses + count_of b.id (rest pieces) ≤ most_counted) (by_count moved_out (rest taken) (by_count more_kept (take 1 taken) t)).live
  pieces-room room =
      let kept : BuffersState = by_count more_kept (take 1 taken) t in
      All-by_count (λ b. b.uses + count_of b.id (rest pieces) ≤ most_counted) moved_out (rest taken) kept
      (All-by_count (λ b. b.uses - count_of b.id (rest taken) + count_of b.id (rest pieces) ≤ most_counted) more_kept (take 1 taken) t
      (All-weaker (λ b. b.uses + count_of b.id pieces ≤ most_counted) (λ b. b.uses - count_of b.id (rest taken) + count_of b.id (rest pieces) ≤ most_counted)
      (λ b fits. omega (arith, fits, count_of-rest b.id pieces)) t.live room))

  -- one that stays where another of its buffer was need not be counted
  pub first-stays : (id : BufferId) → IsFirstOf id taken → IsFirstOf id pieces → All (λ b. count_of b.id taken ≤ b.uses) t.live →
      by_count more_used (rest pieces) (by_count moved_out (rest taken) (by_count more_kept (take 1 taken) t)) ≡ by_count more_used pieces (by_count moved_out taken t)
  first-stays id first stands few =
      let keep : Buffer → Buffer = λ b. more_kept b (count_of b.id (take 1 taken)) in
      let out : Buffer → Buffer = λ b. moved_out b (count_of b.id (rest taken)) in
      ap (λ (x : BuffersState). by_count more_used (rest pieces) x) (each-each out keep t)
      ∙ each-each (λ b. more_used b (count_of b.id (rest pieces))) (λ b. out (keep b)) t
      ∙ each-same (λ b. count_of b.id taken ≤ b.uses) _ _ t few (λ b less.
      let one = first-one id b.id taken first in
      let other = first-one id b.id pieces stands in
      let all = count_of-rest b.id taken in
      let whole = count_of-rest b.id pieces in
      with_both b _ _ _ _ (omega arith) (omega arith))
      ∙ sym (each-each (λ b. more_used b (count_of b.id pieces)) (λ b. moved_out b (count_of b.id taken)) t)
