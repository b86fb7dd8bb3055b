use Rattle.std.proofs.Common.{◌≡◌, ◌/◌, ◌<◌, ℕ, List, length, take, slice_index_or, arith, ap, sym, ◌∙◌}
use Rattle.std.proofs.lemmas.List.{get_or-take, length-take}
use Rattle.gv_chunks.specs.Starts.{StartsState}
use Rattle.gv_chunks.proofs.SumLemmas.{length-sums, sums_same}
use Rattle.gv_chunks.proofs.starts.Starts.shorten.Goals as goal

pub returns-clause-len : goal.returns-clause-len
returns-clause-len c =
    let numbers = c.self.inside.numbers.items in
    let bases = c.self.inside.bases.items in
    let now = c.shrink_to_fit-2.new.self.items in
    let is : now ≡ take c.args.count numbers = c.shrink_to_fit-2.ensures.items ∙ c.truncate-2.ensures.items in
    omega (arith, length-sums now c.shrink_to_fit.new.self.items, ap length is, length-take c.args.count numbers, ap (λ (s : StartsState). length s.numbers) c.self.view_is, length-sums numbers bases)

pub returns-clause-kept : goal.returns-clause-kept
returns-clause-kept c = λ k d low within.
    let numbers = c.self.inside.numbers.items in
    let bases = c.self.inside.bases.items in
    let now = c.shrink_to_fit-2.new.self.items in
    let now_bases = c.shrink_to_fit.new.self.items in
    let below : k < length numbers = omega (arith, within, ap (λ (s : StartsState). length s.numbers) c.self.view_is, length-sums numbers bases) in
    let is : now ≡ take c.args.count numbers = c.shrink_to_fit-2.ensures.items ∙ c.truncate-2.ensures.items in
    let is_bases : now_bases ≡ take c.div_ceil.result bases = c.shrink_to_fit.ensures.items ∙ c.truncate.ensures.items in
    let same : slice_index_or now k 0 ≡ slice_index_or numbers k 0 = ap (λ (ns : List ℕ). slice_index_or ns k 0) is ∙ get_or-take c.args.count numbers k 0 low in
    let same_base : slice_index_or now_bases (k / 64) 0 ≡ slice_index_or bases (k / 64) 0 =
    ap (λ (ns : List ℕ). slice_index_or ns (k / 64) 0) is_bases ∙ get_or-take c.div_ceil.result bases (k / 64) 0 (omega (arith, low, c.div_ceil.ensures)) in
    sym (sums_same now now_bases numbers bases k d (omega (arith, ap length is, length-take c.args.count numbers, low, below)) (omega (arith, ap length is, length-take c.args.count numbers)) (sym same) (sym same_base))
    ∙ ap (λ (s : StartsState). slice_index_or s.numbers k d) c.self.view_is
