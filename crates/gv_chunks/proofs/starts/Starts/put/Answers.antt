use Rattle.std.proofs.Common.{◌≡◌, ◌+◌, ◌-◌, ◌/◌, ◌%◌, ◌^◌, ◌<◌, ◌++◌, length, take, drop, slice_index_or, arith, refl, ap, sym, ◌∙◌}
use Rattle.std.proofs.lemmas.List.{take_at, get_or_default}
use Rattle.gv_chunks.specs.Starts.{StartsState}
use Rattle.gv_chunks.proofs.SumLemmas.{length-sums, sums_at, sums_same, sums_told}
use Rattle.gv_chunks.proofs.starts.Starts.put.Goals as goal

pub index-base-requires : goal.index-base-requires
index-base-requires c =
    omega (
      arith,
      c.requires.at,
      c.requires.within,
      ap (λ (s : StartsState). length s.numbers) c.self.view_is,
      length-sums c.self.inside.numbers.items c.self.inside.bases.items,
      c.self.invariant,
      c.self.inside.bases.ok,
    )

pub put_entry-requires-clause-within : goal.put_entry-requires-clause-within
put_entry-requires-clause-within c =
    omega (arith, c.requires.within, ap (λ (s : StartsState). length s.numbers) c.self.view_is, length-sums c.self.inside.numbers.items c.self.inside.bases.items, ap length c.deref_mut.ensures.value)

pub mend_firsts-requires-clause-within : goal.mend_firsts-requires-clause-within
mend_firsts-requires-clause-within c =
    let numbers = c.self.inside.numbers.items in
    let row = c.put_entry.new.row in
    let row_size : length row ≡ length numbers = c.put_entry.ensures.len ∙ ap length c.deref_mut.ensures.value in
    let row_back : take c.self.inside.numbers.len (row ++ drop (length row) numbers) ≡ row = take_at row (drop (length row) numbers) c.self.inside.numbers.len (omega (arith, row_size, c.self.inside.numbers.ok)) in
    omega (
      arith,
      c.requires.at,
      c.requires.within,
      ap (λ (s : StartsState). length s.numbers) c.self.view_is,
      length-sums numbers c.self.inside.bases.items,
      ap length (c.deref_mut-2.ensures.value ∙ row_back),
      row_size,
    )

pub returns-clause-len : goal.returns-clause-len
returns-clause-len c =
    let numbers = c.self.inside.numbers.items in
    let bases = c.self.inside.bases.items in
    let row = c.put_entry.new.row in
    let now = c.mend_firsts.new.numbers in
    let row_size : length row ≡ length numbers = c.put_entry.ensures.len ∙ ap length c.deref_mut.ensures.value in
    let row_back : take c.self.inside.numbers.len (row ++ drop (length row) numbers) ≡ row = take_at row (drop (length row) numbers) c.self.inside.numbers.len (omega (arith, row_size, c.self.inside.numbers.ok)) in
    let is_row = c.deref_mut-2.ensures.value ∙ row_back in
    let size : length now ≡ length numbers = c.mend_firsts.ensures.len ∙ (ap length is_row ∙ row_size) in
    let back : take c.self.inside.numbers.len (now ++ drop (length now) row) ≡ now = take_at now (drop (length now) row) c.self.inside.numbers.len (omega (arith, size, c.self.inside.numbers.ok)) in
    rw (row_back, back) (length-sums now bases ∙ (size ∙ (sym (length-sums numbers bases) ∙ ap (λ (s : StartsState). length s.numbers) c.self.view_is)))

pub returns-clause-before : goal.returns-clause-before
returns-clause-before c = λ k d low.
    let numbers = c.self.inside.numbers.items in
    let bases = c.self.inside.bases.items in
    let row = c.put_entry.new.row in
    let now = c.mend_firsts.new.numbers in
    let row_size : length row ≡ length numbers = c.put_entry.ensures.len ∙ ap length c.deref_mut.ensures.value in
    let row_back : take c.self.inside.numbers.len (row ++ drop (length row) numbers) ≡ row = take_at row (drop (length row) numbers) c.self.inside.numbers.len (omega (arith, row_size, c.self.inside.numbers.ok)) in
    let is_row = c.deref_mut-2.ensures.value ∙ row_back in
    let size : length now ≡ length numbers = c.mend_firsts.ensures.len ∙ (ap length is_row ∙ row_size) in
    let back : take c.self.inside.numbers.len (now ++ drop (length now) row) ≡ now = take_at now (drop (length now) row) c.self.inside.numbers.len (omega (arith, size, c.self.inside.numbers.ok)) in
    let below : k < length numbers = omega (arith, low, c.requires.at, c.requires.within, ap (λ (s : StartsState). length s.numbers) c.self.view_is, length-sums numbers bases) in
    let stays : slice_index_or now k 0 ≡ slice_index_or row k 0 = rw is_row at (c.mend_firsts.ensures.before k 0 (omega (arith, low))) in
    let stood : slice_index_or row k 0 ≡ slice_index_or numbers k 0 = rw c.deref_mut.ensures.value at (c.put_entry.ensures.before k 0 low) in
    rw (row_back, back, ← c.self.view_is) (sums_same numbers bases now bases k d below (omega (arith, size)) (stays ∙ stood) refl)

pub returns-clause-value : goal.returns-clause-value
returns-clause-value c = λ d.
    let numbers = c.self.inside.numbers.items in
    let bases = c.self.inside.bases.items in
    let row = c.put_entry.new.row in
    let now = c.mend_firsts.new.numbers in
    let row_size : length row ≡ length numbers = c.put_entry.ensures.len ∙ ap length c.deref_mut.ensures.value in
    let row_back : take c.self.inside.numbers.len (row ++ drop (length row) numbers) ≡ row = take_at row (drop (length row) numbers) c.self.inside.numbers.len (omega (arith, row_size, c.self.inside.numbers.ok)) in
    let is_row = c.deref_mut-2.ensures.value ∙ row_back in
    let size : length now ≡ length numbers = c.mend_firsts.ensures.len ∙ (ap length is_row ∙ row_size) in
    let back : take c.self.inside.numbers.len (now ++ drop (length now) row) ≡ now = take_at now (drop (length now) row) c.self.inside.numbers.len (omega (arith, size, c.self.inside.numbers.ok)) in
    let at : c.args.at < length numbers = omega (arith, c.requires.at, c.requires.within, ap (λ (s : StartsState). length s.numbers) c.self.view_is, length-sums numbers bases) in
    let stays : slice_index_or now c.args.at 0 ≡ slice_index_or row c.args.at 0 = rw is_row at (c.mend_firsts.ensures.before c.args.at 0 (omega arith)) in
    let base : slice_index_or bases (c.args.at / 64) 0 ≡ c.index-base.result.now =
    get_or_default bases (c.args.at / 64) 0 c.index-base.result.now (omega (arith, at, c.self.invariant)) ∙ sym c.index-base.ensures in
    let put : slice_index_or row c.args.at 0 ≡ (c.args.start + (2 ^ 64 - c.index-base.result.now)) % 2 ^ 64 = c.put_entry.ensures.value 0 in
    rw (row_back, back) (sums_at now bases c.args.at d (omega (arith, at, size)) ∙ (rw (stays, put, base) (omega (arith, c.ranges.start.fits))))

pub returns-clause-behind : goal.returns-clause-behind
returns-clause-behind c = λ k d low high.
    let numbers = c.self.inside.numbers.items in
    let bases = c.self.inside.bases.items in
    let row = c.put_entry.new.row in
    let now = c.mend_firsts.new.numbers in
    let row_size : length row ≡ length numbers = c.put_entry.ensures.len ∙ ap length c.deref_mut.ensures.value in
    let row_back : take c.self.inside.numbers.len (row ++ drop (length row) numbers) ≡ row = take_at row (drop (length row) numbers) c.self.inside.numbers.len (omega (arith, row_size, c.self.inside.numbers.ok)) in
    let is_row = c.deref_mut-2.ensures.value ∙ row_back in
    let size : length now ≡ length numbers = c.mend_firsts.ensures.len ∙ (ap length is_row ∙ row_size) in
    let back : take c.self.inside.numbers.len (now ++ drop (length now) row) ≡ now = take_at now (drop (length now) row) c.self.inside.numbers.len (omega (arith, size, c.self.inside.numbers.ok)) in
    let below : k < length numbers = omega (arith, high, c.requires.within, ap (λ (s : StartsState). length s.numbers) c.self.view_is, length-sums numbers bases) in
    let same_sum = rw (is_row, c.deref.ensures.value) at (c.mend_firsts.ensures.same_sum k 0 low high) in
    let moved : slice_index_or row k 0 ≡ slice_index_or numbers (k - 1) 0 = rw c.deref_mut.ensures.value at (c.put_entry.ensures.behind k 0 low high) in
    rw (row_back, back, ← c.self.view_is) (sums_told numbers bases now k (k - 1) d (omega (arith, below, size)) (omega (arith, below)) (rw moved at same_sum))
