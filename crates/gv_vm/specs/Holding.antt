-- What a job's accesses came to so far. No public clause cites this module.
use Rattle.std.specs.Prelude.{◌≡◌, ℕ, ◌<◌, List, map, take, drop, Some, None}
use Rattle.gv_types.specs.declared.mapping.Mapping.{Mapping}
use Rattle.gv_buffers.specs.Buffers.{left_everywhere}
use Rattle.gv_space.specs.State.{SpaceState, AreKept}
use Rattle.gv_vm.specs.Places.{place_at}
use Rattle.gv_vm.specs.Jobs.{accesses_fault, with_all_held}
use Rattle.gv_vm.specs.declared.jobs.Access.{Access}
use Rattle.gv_vm.specs.declared.places.Place.{Place}

-- the first so many accesses found these places, and what is left to do comes to the same from here as from the beginning
pub record HoldsSoFar (old s : SpaceState) (job n : ℕ) (accesses : List Access) (places : List Place) : Type 0 where
  pub start : n ≡ 0 → s.buffers ≡ old.buffers
  pub rest : s ≡ record old { buffers = s.buffers }
  pub faults : accesses_fault old.mappings job s.buffers n (drop n accesses) ≡ accesses_fault old.mappings job old.buffers 0 accesses
  pub holds : with_all_held old.mappings job (drop n accesses) s.buffers ≡ with_all_held old.mappings job accesses old.buffers
  pub left : left_everywhere job s.buffers ≡ left_everywhere job old.buffers
  pub first : 0 < n → accesses_fault old.mappings job old.buffers 0 (take 1 accesses) ≡ None
  pub found : map Some places ≡ map (λ access. place_at old.mappings access.addr) (take n accesses)
  pub kept : (ms : List Mapping) → AreKept old ms → AreKept s ms
