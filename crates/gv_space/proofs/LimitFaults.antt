-- Where a change passes a limit, and where it passes none.
use Rattle.std.proofs.Common.{◌≡◌, ◌+◌, ◌<◌, ◌≤◌, List, length, true, false, Bool, Some, None, refl}
use Rattle.std.specs.Prelude.{◌||◌, nat_lt, if◌then◌else◌}
use Rattle.std.proofs.lemmas.Bool.{lt-ltb, le-ltb}
use Rattle.gv_types.specs.PageRange.{PageRangeState}
use Rattle.gv_types.specs.declared.fault.Fault.TheVariants.{TooManyMappings}
use Rattle.gv_types.specs.declared.mapping.Mapping.{Mapping}
use Rattle.gv_space.specs.State.{SpaceState, most_kept}
use Rattle.gv_space.specs.Refusal.{count_met, limit_fault}

second_holds : (a : Bool) → (if a || true then Some TooManyMappings else None) ≡ Some TooManyMappings
second_holds true = refl
second_holds false = refl

module _ (s : SpaceState) (range : PageRangeState) (ms : List Mapping) where
  pub too_long : s.limits.mappings < length ms → limit_fault s range ms ≡ Some TooManyMappings
  too_long more = rw (lt-ltb s.limits.mappings (length ms) more) refl

  pub held_too_much : most_kept < s.kept_count + count_met s.mappings range → limit_fault s range ms ≡ Some TooManyMappings
  held_too_much more = rw (lt-ltb most_kept (s.kept_count + count_met s.mappings range) more) (second_holds (nat_lt s.limits.mappings (length ms)))

  pub within_limits : length ms ≤ s.limits.mappings → s.kept_count + count_met s.mappings range ≤ most_kept → limit_fault s range ms ≡ None
  within_limits few few_kept = rw (le-ltb s.limits.mappings (length ms) few, le-ltb most_kept (s.kept_count + count_met s.mappings range) few_kept) refl
