use Rattle.std.proofs.Common.{◌≡◌, ◌/◌, ◌<◌, ℕ, List, length, take, slice_index_or, arith, refl, ap, sym, ◌∙◌}
use Rattle.std.proofs.lemmas.List.{get_or-take}
use Rattle.gv_chunks.specs.Starts.{StartsState}
use Rattle.gv_chunks.proofs.StoreLemmas.{more_numbers}
use Rattle.gv_chunks.proofs.SumLemmas.{length-sums, sums_same}
use Rattle.gv_chunks.proofs.starts.Starts.pad.Goals as goal

at_before : (old new : List ℕ) (k d : ℕ) → k < length old → take (length old) new ≡ old → slice_index_or new k d ≡ slice_index_or old k d
at_before old new k d below kept = sym (get_or-take (length old) new k d below) ∙ ap (λ ns. slice_index_or ns k d) kept

pub returns-in_err-pad-clause-kept : goal.returns-in_err-pad-clause-kept
returns-in_err-pad-clause-kept c = λ k d within.
    let numbers = c.self.inside.numbers.items in
    let bases = c.self.inside.bases.items in
    let below : k < length numbers = omega (arith, within, ap (λ (s : StartsState). length s.numbers) c.self.view_is, length-sums numbers bases) in
    sums_same numbers bases numbers c.pad.new.items.items k d below (omega arith) refl
    (at_before bases c.pad.new.items.items (k / 64) 0 (omega (arith, below, c.self.invariant)) c.pad.ensures.kept)
    ∙ ap (λ (s : StartsState). slice_index_or s.numbers k d) c.self.view_is

pub invariant_of-self-2 : goal.invariant_of-self-2
invariant_of-self-2 c =
    omega (
      arith,
      c.self.invariant,
      c.pad-2.ensures.at_most,
      c.in_ok-pad.ensures.ok,
      c.div_ceil.ensures,
      more_numbers c.self.inside.bases.items c.pad.new.items.items c.pad.ensures.kept,
    )

pub returns-clause-more : goal.returns-clause-more
returns-clause-more c =
    let numbers = c.self.inside.numbers.items in
    let bases = c.self.inside.bases.items in
    omega (arith, ap (λ (s : StartsState). length s.numbers) c.self.view_is, length-sums numbers bases, length-sums c.pad-2.new.items.items c.pad.new.items.items, more_numbers numbers c.pad-2.new.items.items c.pad-2.ensures.kept)

pub returns-clause-kept : goal.returns-clause-kept
returns-clause-kept c = λ k d within.
    let numbers = c.self.inside.numbers.items in
    let bases = c.self.inside.bases.items in
    let below : k < length numbers = omega (arith, within, ap (λ (s : StartsState). length s.numbers) c.self.view_is, length-sums numbers bases) in
    sums_same numbers bases c.pad-2.new.items.items c.pad.new.items.items k d below (more_numbers numbers c.pad-2.new.items.items c.pad-2.ensures.kept)
    (at_before numbers c.pad-2.new.items.items k 0 below c.pad-2.ensures.kept)
    (at_before bases c.pad.new.items.items (k / 64) 0 (omega (arith, below, c.self.invariant)) c.pad.ensures.kept)
    ∙ ap (λ (s : StartsState). slice_index_or s.numbers k d) c.self.view_is

pub returns-clause-ok : goal.returns-clause-ok
returns-clause-ok c = rw (length-sums c.pad-2.new.items.items c.pad.new.items.items) c.pad-2.ensures.ok
