use Rattle.std.proofs.Common.{◌≡◌, ◌+◌, ◌/◌, ◌^◌, ◌<◌, ◌≤◌, ◌++◌, length, take, drop, slice_index_or, arith, ap, sym, ◌∙◌}
use Rattle.std.proofs.lemmas.List.{take_at}
use Rattle.gv_chunks.specs.Starts.{StartsState, sums}
use Rattle.gv_chunks.proofs.SumLemmas.{length-sums, sums_same, sums_move}
use Rattle.gv_chunks.proofs.starts.Starts.shift.Goals as goal

pub add-requires : goal.add-requires
add-requires c =
    omega (arith, c.min.ensures, c.requires.within, ap (λ (s : StartsState). length s.numbers) c.self.view_is, length-sums c.self.inside.numbers.items c.self.inside.bases.items, ap length c.deref_mut.ensures.value)

pub add-requires-2 : goal.add-requires-2
add-requires-2 c =
    omega (
      arith,
      c.div_ceil.ensures,
      c.requires.within,
      ap (λ (s : StartsState). length s.numbers) c.self.view_is,
      length-sums c.self.inside.numbers.items c.self.inside.bases.items,
      c.self.invariant,
      ap length c.deref_mut-2.ensures.value,
    )

pub returns-clause-len : goal.returns-clause-len
returns-clause-len c =
    let numbers = c.self.inside.numbers.items in
    let bases = c.self.inside.bases.items in
    let now = c.add.new.numbers in
    let now_bases = c.add-2.new.numbers in
    let size : length now ≡ length numbers = c.add.ensures.len ∙ ap length c.deref_mut.ensures.value in
    let back : take c.self.inside.numbers.len (now ++ drop (length now) numbers) ≡ now = take_at now (drop (length now) numbers) c.self.inside.numbers.len (omega (arith, size, c.self.inside.numbers.ok)) in
    rw back (length-sums now _ ∙ (size ∙ (sym (length-sums numbers bases) ∙ ap (λ (s : StartsState). length s.numbers) c.self.view_is)))

pub returns-clause-moved : goal.returns-clause-moved
returns-clause-moved c = λ k d past below.
    let numbers = c.self.inside.numbers.items in
    let bases = c.self.inside.bases.items in
    let now = c.add.new.numbers in
    let now_bases = c.add-2.new.numbers in
    let size : length now ≡ length numbers = c.add.ensures.len ∙ ap length c.deref_mut.ensures.value in
    let base_size : length now_bases ≡ length bases = c.add-2.ensures.len ∙ ap length c.deref_mut-2.ensures.value in
    let back : take c.self.inside.numbers.len (now ++ drop (length now) numbers) ≡ now = take_at now (drop (length now) numbers) c.self.inside.numbers.len (omega (arith, size, c.self.inside.numbers.ok)) in
    let base_back : take c.self.inside.bases.len (now_bases ++ drop (length now_bases) bases) ≡ now_bases =
    take_at now_bases (drop (length now_bases) bases) c.self.inside.bases.len (omega (arith, base_size, c.self.inside.bases.ok)) in
    let within : c.args.to ≤ length numbers = omega (arith, c.requires.within, ap (λ (s : StartsState). length s.numbers) c.self.view_is, length-sums numbers bases) in
    let holds : c.args.out_count ≤ slice_index_or (sums numbers bases) k d = rw (ap (λ (s : StartsState). s.numbers) c.self.view_is) (c.requires.out k d past below) in
    let fits : slice_index_or (sums numbers bases) k d + c.args.in_count < c.args.out_count + 2 ^ 64 = rw (ap (λ (s : StartsState). s.numbers) c.self.view_is) (c.requires.fits k d past below) in
    rw (back, base_back, ← c.self.view_is)
    (sums_move numbers bases now now_bases c.args.from c.args.to c.args.out_count c.args.in_count c.if-to-from.false within size c.self.invariant
    (λ j e low high. rw c.deref_mut.ensures.value at (c.add.ensures.added j e low (omega (arith, high, c.min.ensures))))
    (λ j e high. rw c.deref_mut.ensures.value at (c.add.ensures.behind j e (omega (arith, high, c.min.ensures))))
    (λ j e low high. rw c.deref_mut-2.ensures.value at (c.add-2.ensures.added j e low (omega (arith, high, c.div_ceil.ensures))))
    (λ j e low. rw c.deref_mut-2.ensures.value at (c.add-2.ensures.before j e low))
    k d past below holds fits)

pub returns-clause-before : goal.returns-clause-before
returns-clause-before c = λ k d low inside.
    let numbers = c.self.inside.numbers.items in
    let bases = c.self.inside.bases.items in
    let now = c.add.new.numbers in
    let now_bases = c.add-2.new.numbers in
    let size : length now ≡ length numbers = c.add.ensures.len ∙ ap length c.deref_mut.ensures.value in
    let base_size : length now_bases ≡ length bases = c.add-2.ensures.len ∙ ap length c.deref_mut-2.ensures.value in
    let back : take c.self.inside.numbers.len (now ++ drop (length now) numbers) ≡ now = take_at now (drop (length now) numbers) c.self.inside.numbers.len (omega (arith, size, c.self.inside.numbers.ok)) in
    let base_back : take c.self.inside.bases.len (now_bases ++ drop (length now_bases) bases) ≡ now_bases =
    take_at now_bases (drop (length now_bases) bases) c.self.inside.bases.len (omega (arith, base_size, c.self.inside.bases.ok)) in
    let below : k < length numbers = omega (arith, inside, ap (λ (s : StartsState). length s.numbers) c.self.view_is, length-sums numbers bases) in
    rw (back, base_back, ← c.self.view_is)
    (sums_same numbers bases now now_bases k d below (omega (arith, size)) (rw c.deref_mut.ensures.value at (c.add.ensures.before k 0 low))
    (rw c.deref_mut-2.ensures.value at (c.add-2.ensures.before (k / 64) 0 (omega (arith, low)))))
