use Rattle.std.proofs.Common.{◌≡◌, ◌/◌, ◌<◌, length, slice_index_or, arith, refl, ap, sym, ◌∙◌}
use Rattle.std.proofs.lemmas.List.{get_or_default}
use Rattle.gv_chunks.specs.Starts.{StartsState}
use Rattle.gv_chunks.proofs.SumLemmas.{length-sums, sums_at}
use Rattle.gv_chunks.proofs.starts.Starts.get.Goals as goal

pub index-requires : goal.index-requires
index-requires c = omega (arith, c.requires, ap (λ (s : StartsState). length s.numbers) c.self.view_is, length-sums c.self.inside.numbers.items c.self.inside.bases.items, c.self.inside.numbers.ok)

pub index-requires-2 : goal.index-requires-2
index-requires-2 c =
    omega (arith, c.requires, ap (λ (s : StartsState). length s.numbers) c.self.view_is, length-sums c.self.inside.numbers.items c.self.inside.bases.items, c.self.invariant, c.self.inside.bases.ok)

pub returns : goal.returns
returns c = λ d.
    let numbers = c.self.inside.numbers.items in
    let bases = c.self.inside.bases.items in
    let below : c.args.chunk < length numbers = omega (arith, c.requires, ap (λ (s : StartsState). length s.numbers) c.self.view_is, length-sums numbers bases) in
    let block : c.args.chunk / 64 < length bases = omega (arith, below, c.self.invariant) in
    let number : slice_index_or numbers c.args.chunk 0 ≡ c.index.result.now = get_or_default numbers c.args.chunk 0 c.index.result.now below ∙ sym c.index.ensures in
    let base : slice_index_or bases (c.args.chunk / 64) 0 ≡ c.index-2.result.now = get_or_default bases (c.args.chunk / 64) 0 c.index-2.result.now block ∙ sym c.index-2.ensures in
    rw (← c.self.view_is, sums_at numbers bases c.args.chunk d below, number, base) refl
