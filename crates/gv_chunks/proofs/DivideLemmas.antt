-- A chunk divided: the chunk that held nothing is rotated from the end to stand behind it.
use Rattle.std.proofs.Common.{◌≡◌, ℕ, ◌+◌, ◌-◌, ◌<◌, List, ◌++◌, length, take, drop, slice_index_or, slice_set, arith, ◌∙◌, ap, sym}
use Rattle.std.proofs.Math.ListN.{length-set}
use Rattle.std.proofs.lemmas.List.{take-append-le, take-set, get_or_append_left, get_or-append_right, get_or-set_same, get_or-set_other, get_or-take, length-append, length-drop, length-take-le}
use Rattle.std.specs.Global.{Vec}
use Rattle.gv_types.specs.declared.mapping.Mapping.{Mapping}

module _ (f b r : List (Vec Mapping)) (n : ℕ) (w v : Vec Mapping) (size : length f ≡ n + 1) (some_left : 0 < length b) (rotated : r ≡ drop (length b - 1) b ++ take (length b - 1) b) where
  same : length (slice_set f n w) ≡ n + 1
  same = length-set f n w ∙ size

  last : length (drop (length b - 1) b) ≡ 1
  last = omega (arith, length-drop (length b - 1) b)

  all : length r ≡ length b
  all = omega (arith, ap length rotated, length-append (drop (length b - 1) b) (take (length b - 1) b), last, length-take-le (length b - 1) b (omega arith))

  pub divided_front : take n (slice_set f n w ++ slice_set r 0 v) ≡ take n f
  divided_front = take-append-le n (slice_set f n w) (slice_set r 0 v) (omega (arith, same)) ∙ take-set f n w

  pub divided_first : (d : Vec Mapping) → slice_index_or (slice_set f n w ++ slice_set r 0 v) n d ≡ w
  divided_first d = get_or_append_left (slice_set f n w) (slice_set r 0 v) d n (omega (arith, same)) ∙ get_or-set_same f n w d (omega (arith, size))

  pub divided_second : (d : Vec Mapping) → slice_index_or (slice_set f n w ++ slice_set r 0 v) (n + 1) d ≡ v
  divided_second d =
      get_or-append_right (slice_set f n w) (slice_set r 0 v) (n + 1) (n + 1) d same (omega arith)
      ∙ (ap (λ k. slice_index_or (slice_set r 0 v) k d) (omega arith) ∙ get_or-set_same r 0 v d (omega (arith, all, some_left)))

  pub divided_later : (k : ℕ) (d : Vec Mapping) → n + 1 < k → k < length f + length b → slice_index_or (slice_set f n w ++ slice_set r 0 v) k d ≡ slice_index_or (f ++ b) (k - 1) d
  divided_later k d past below =
      let right : slice_index_or (slice_set f n w ++ slice_set r 0 v) k d ≡ slice_index_or (slice_set r 0 v) (k - (n + 1)) d = get_or-append_right (slice_set f n w) (slice_set r 0 v) (n + 1) k d same (omega arith) in
      let other : slice_index_or (slice_set r 0 v) (k - (n + 1)) d ≡ slice_index_or r (k - (n + 1)) d = get_or-set_other r 0 (k - (n + 1)) v d (λ p. omega (arith, p, past)) in
      let moved : slice_index_or r (k - (n + 1)) d ≡ slice_index_or (take (length b - 1) b) (k - (n + 1) - 1) d =
      ap (λ xs. slice_index_or xs (k - (n + 1)) d) rotated ∙ get_or-append_right (drop (length b - 1) b) (take (length b - 1) b) 1 (k - (n + 1)) d last (omega arith) in
      let there : slice_index_or (take (length b - 1) b) (k - (n + 1) - 1) d ≡ slice_index_or b (k - (n + 1) - 1) d = get_or-take (length b - 1) b (k - (n + 1) - 1) d (omega (arith, size)) in
      let old : slice_index_or (f ++ b) (k - 1) d ≡ slice_index_or b (k - 1 - (n + 1)) d = get_or-append_right f b (n + 1) (k - 1) d size (omega arith) in
      right ∙ (other ∙ (moved ∙ (there ∙ (ap (λ j. slice_index_or b j d) (omega arith) ∙ sym old))))
