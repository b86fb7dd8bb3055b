use Rattle.std.proofs.Common.{◌≤◌, List, length, arith, refl, ap}
use Rattle.gv_types.specs.declared.mapping.Mapping.{Mapping}
use Rattle.gv_ranges.specs.List.{run}
use Rattle.gv_ranges.specs.Edit.{restored}
use Rattle.gv_space.specs.State.{SpaceState}
use Rattle.gv_space.proofs.RestoredLengths.{length-restored, length-between, count_met-run}
use Rattle.gv_space.proofs.LimitFaults.{too_long, held_too_much, within_limits}
use Rattle.gv_space.proofs.Rests.{few_rests_of_run}
use Rattle.gv_space.proofs.space.Space.check_limits.Goals.{else-without_rests-limit-via-then-without_rests-limit+else-without_rests-count_rests, else-without_rests-limit-via-else-without_rests-limit}
use Rattle.gv_space.proofs.space.Space.check_limits.Goals as goal

pub returns-then-without_rests-count_rests : goal.returns-then-without_rests-count_rests
returns-then-without_rests-count_rests c =
    let s = c.args.self.now in
    let laid = c.list-list.ensures.space.laid_out in
    let long = length-restored s.mappings c.args.saved.now c.args.range c.args.overlap.spot.index c.args.overlap.count laid c.requires.met in
    let between = length-between (run s.mappings c.args.overlap.spot.index c.args.overlap.count) c.args.saved.now c.args.range c.requires.laid_out c.count_in_range.ensures.in_space in
    let limit = ap (λ (t : SpaceState). t.limits.mappings) c.self.view_is in
    let len = ap (λ (l : List Mapping). length l) c.list-list.ensures.value in
    let rests = rw c.list-list.ensures.value at c.count_rests.ensures.value in
    rw (too_long s c.args.range (restored s.mappings c.args.range c.args.saved.now)
    (omega (arith, long, between, limit, len, rests, c.requires.met.within, c.if-without_rests-count_rests.true, c.mappings-limit.ensures.value, c.len.ensures.len, c.count_in_range.ensures.count))) refl

pub returns-then-self-count-gt-MAX_KEPT : goal.returns-then-self-count-gt-MAX_KEPT
returns-then-self-count-gt-MAX_KEPT c =
    let s = c.args.self.now in
    let met = count_met-run s.mappings c.args.range c.args.overlap.spot.index c.args.overlap.count c.requires.met in
    let kept_count = ap (λ (t : SpaceState). t.kept_count) c.self.view_is in
    rw (held_too_much s c.args.range (restored s.mappings c.args.range c.args.saved.now) (omega (arith, met, kept_count, c.if-self-count-gt-MAX_KEPT.true))) refl

pub returns : goal.returns
returns c =
    let s = c.args.self.now in
    let laid = c.list-list.ensures.space.laid_out in
    let long = length-restored s.mappings c.args.saved.now c.args.range c.args.overlap.spot.index c.args.overlap.count laid c.requires.met in
    let between = length-between (run s.mappings c.args.overlap.spot.index c.args.overlap.count) c.args.saved.now c.args.range c.requires.laid_out c.count_in_range.ensures.in_space in
    let few = few_rests_of_run s.mappings c.args.range c.args.overlap.spot.index c.args.overlap.count laid c.requires.met in
    let met = count_met-run s.mappings c.args.range c.args.overlap.spot.index c.args.overlap.count c.requires.met in
    let limit = ap (λ (t : SpaceState). t.limits.mappings) c.self.view_is in
    let kept_count = ap (λ (t : SpaceState). t.kept_count) c.self.view_is in
    let len = ap (λ (l : List Mapping). length l) c.list-list.ensures.value in
    let fits : length (restored s.mappings c.args.range c.args.saved.now) ≤ s.limits.mappings = elim c.else-without_rests-limit.branch [
      | else-without_rests-limit-via-then-without_rests-limit+else-without_rests-count_rests w ↦
          let rests = rw c.list-list.ensures.value at w.count_rests.ensures.value in
          omega (arith, long, between, limit, len, rests, c.requires.met.within, w.if-without_rests-count_rests.false, c.mappings-limit.ensures.value, c.len.ensures.len, c.count_in_range.ensures.count)
      | else-without_rests-limit-via-else-without_rests-limit w ↦
          omega (arith, long, between, limit, len, few, c.requires.met.within, w.if-without_rests-limit.false, c.mappings-limit.ensures.value, c.len.ensures.len, c.count_in_range.ensures.count)
    ] in
    rw (within_limits s c.args.range (restored s.mappings c.args.range c.args.saved.now) fits (omega (arith, met, kept_count, c.if-self-count-gt-MAX_KEPT.false))) refl
