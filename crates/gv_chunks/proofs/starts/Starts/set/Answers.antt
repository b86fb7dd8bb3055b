use Rattle.std.proofs.Common.{◌≡◌, ◌+◌, ◌-◌, ◌/◌, ◌%◌, ◌^◌, ◌<◌, length, slice_index_or, slice_set, arith, refl, ap, sym, ◌∙◌}
use Rattle.std.proofs.Math.ListN.{length-set}
use Rattle.std.proofs.lemmas.List.{get_or_default, get_or-set_same, get_or-set_other}
use Rattle.gv_chunks.specs.Starts.{StartsState}
use Rattle.gv_chunks.proofs.SumLemmas.{length-sums, sums_at, sums_same}
use Rattle.gv_chunks.proofs.starts.Starts.set.Goals as goal

pub index-requires : goal.index-requires
index-requires c =
    omega (arith, c.requires, ap (λ (s : StartsState). length s.numbers) c.self.view_is, length-sums c.self.inside.numbers.items c.self.inside.bases.items, c.self.invariant, c.self.inside.bases.ok)

pub index_mut-requires : goal.index_mut-requires
index_mut-requires c = omega (arith, c.requires, ap (λ (s : StartsState). length s.numbers) c.self.view_is, length-sums c.self.inside.numbers.items c.self.inside.bases.items, c.self.inside.numbers.ok)

pub returns-clause-len : goal.returns-clause-len
returns-clause-len c =
    let numbers = c.self.inside.numbers.items in
    let bases = c.self.inside.bases.items in
    let value = (c.args.start + (2 ^ 64 - c.index.result.now)) % 2 ^ 64 in
    length-sums (slice_set numbers c.args.chunk value) bases ∙ (length-set numbers c.args.chunk value ∙ (sym (length-sums numbers bases) ∙ ap (λ (s : StartsState). length s.numbers) c.self.view_is))

pub returns-clause-here : goal.returns-clause-here
returns-clause-here c = λ d.
    let numbers = c.self.inside.numbers.items in
    let bases = c.self.inside.bases.items in
    let value = (c.args.start + (2 ^ 64 - c.index.result.now)) % 2 ^ 64 in
    let below : c.args.chunk < length numbers = omega (arith, c.requires, ap (λ (s : StartsState). length s.numbers) c.self.view_is, length-sums numbers bases) in
    let block : c.args.chunk / 64 < length bases = omega (arith, below, c.self.invariant) in
    let number : slice_index_or (slice_set numbers c.args.chunk value) c.args.chunk 0 ≡ value = get_or-set_same numbers c.args.chunk value 0 below in
    let base : slice_index_or bases (c.args.chunk / 64) 0 ≡ c.index.result.now = get_or_default bases (c.args.chunk / 64) 0 c.index.result.now block ∙ sym c.index.ensures in
    sums_at (slice_set numbers c.args.chunk value) bases c.args.chunk d (omega (arith, below, length-set numbers c.args.chunk value))
    ∙ (rw (number, base) (omega (arith, c.ranges.start.fits)))

pub returns-clause-others : goal.returns-clause-others
returns-clause-others c = λ k d within apart.
    let numbers = c.self.inside.numbers.items in
    let bases = c.self.inside.bases.items in
    let value = (c.args.start + (2 ^ 64 - c.index.result.now)) % 2 ^ 64 in
    let below : k < length numbers = omega (arith, within, ap (λ (s : StartsState). length s.numbers) c.self.view_is, length-sums numbers bases) in
    sums_same numbers bases (slice_set numbers c.args.chunk value) bases k d below (omega (arith, length-set numbers c.args.chunk value))
    (get_or-set_other numbers c.args.chunk k value 0 (λ e. apart e)) refl
    ∙ ap (λ (s : StartsState). slice_index_or s.numbers k d) c.self.view_is
