-- Each access of a job that begins keeps `HoldsSoFar`.
use Rattle.std.proofs.Common.{◌≡◌, inl, inr, ℕ, zero, suc, ◌+◌, ◌<◌, ◌≤◌, List, [], ◌∷◌, ◌++◌, length, get_or, map, take, drop, arith, refl, sym, ◌∙◌, ap, subst, Some, None, Option}
use Rattle.std.specs.Prelude.{MatchOption, Result, Ok, Err}
use Rattle.std.specs.Bool.{⊤}
use Rattle.std.proofs.lemmas.List.{drop_more, drop_all, take_more, take_all, map-append}
use Rattle.gv_types.specs.declared.fault.Fault.{Fault}
use Rattle.gv_types.specs.declared.fault.Fault.TheVariants.{OutOfMemory}
use Rattle.gv_types.specs.declared.mapping.Mapping.{Mapping}
use Rattle.gv_buffers.specs.Buffers.{BuffersState, left_everywhere}
use Rattle.gv_space.specs.Refusal.{first_of}
use Rattle.gv_space.specs.State.{SpaceState, AreKept}
use Rattle.gv_vm.specs.Places.{place_at}
use Rattle.gv_vm.specs.Jobs.{access_fault, with_access_held, accesses_fault, with_all_held, AreRefused}
use Rattle.gv_vm.specs.Holding.{HoldsSoFar}
use Rattle.gv_vm.specs.declared.jobs.Access.{Access}
use Rattle.gv_vm.specs.declared.places.Place.{Place}

pub HoldsSoFar-none : (s : SpaceState) (job : ℕ) (accesses : List Access) → HoldsSoFar s s job 0 accesses []
HoldsSoFar-none s job accesses = record { start = λ _. refl; rest = refl; faults = refl; holds = refl; left = refl; first = λ h. absurd (omega (arith, h)); found = refl; kept = λ ms h. h }

first_of_none : (o p : Option Fault) → o ≡ None → first_of o p ≡ p
first_of_none o p none = ap (λ (q : Option Fault). first_of q p) none

first_of_some : (o p : Option Fault) (fault : Fault) → o ≡ Some fault → first_of o p ≡ Some fault
first_of_some o p fault is = ap (λ (q : Option Fault). first_of q p) is

none_of_first : (o p : Option Fault) → first_of o p ≡ None → o ≡ None
none_of_first None p none = refl
none_of_first (Some fault) p none = cc

-- the access whose turn it is
turn : (accesses : List Access) (n : ℕ) (a d : Access) → n < length accesses → a ≡ get_or accesses n d → drop n accesses ≡ a ∷ drop (n + 1) accesses
turn accesses n a d less is = drop_more accesses n d less ∙ ap (λ (x : Access). x ∷ drop (n + 1) accesses) (sym is)

-- the fault of the access whose turn it is, in the words of the space as it was
here_none : (old s : SpaceState) (job n : ℕ) (a : Access) → s ≡ record old { buffers = s.buffers } → access_fault s.mappings job s.buffers n a ≡ None →
    access_fault old.mappings job s.buffers n a ≡ None
here_none old s job n a rest none = subst (λ (ms : List Mapping). access_fault ms job s.buffers n a ≡ None) (ap (λ (x : SpaceState). x.mappings) rest) none

here_some : (old s : SpaceState) (job n : ℕ) (a : Access) (fault : Fault) → s ≡ record old { buffers = s.buffers } → access_fault s.mappings job s.buffers n a ≡ Some fault →
    access_fault old.mappings job s.buffers n a ≡ Some fault
here_some old s job n a fault rest is = subst (λ (ms : List Mapping). access_fault ms job s.buffers n a ≡ Some fault) (ap (λ (x : SpaceState). x.mappings) rest) is

-- what is left to do goes on behind an access without fault
faults_go_on : (ms : List Mapping) (job n : ℕ) (t : BuffersState) (accesses : List Access) (a d : Access) → n < length accesses → a ≡ get_or accesses n d →
    access_fault ms job t n a ≡ None → accesses_fault ms job t n (drop n accesses) ≡ accesses_fault ms job (with_access_held ms job a t) (n + 1) (drop (n + 1) accesses)
faults_go_on ms job n t accesses a d less is none =
    ap (λ (xs : List Access). accesses_fault ms job t n xs) (turn accesses n a d less is)
    ∙ first_of_none (access_fault ms job t n a) (accesses_fault ms job (with_access_held ms job a t) (n + 1) (drop (n + 1) accesses)) none

-- the first access has no fault where it had none in its turn
first_allowed : (ms : List Mapping) (job n : ℕ) (t t0 : BuffersState) (accesses : List Access) (a d : Access) → n < length accesses → a ≡ get_or accesses n d → (n ≡ 0 → t ≡ t0) →
    access_fault ms job t n a ≡ None → (0 < n → accesses_fault ms job t0 0 (take 1 accesses) ≡ None) → accesses_fault ms job t0 0 (take 1 accesses) ≡ None
first_allowed ms job zero t t0 [] a d less is same none first = absurd (omega (arith, less))
first_allowed ms job zero t t0 (x ∷ accesses) a d less is same none first =
    let start : t ≡ t0 = same refl in
    let here : access_fault ms job t0 0 a ≡ None = subst (λ (u : BuffersState). access_fault ms job u 0 a ≡ None) start none in
    let there : access_fault ms job t0 0 x ≡ None = subst (λ (y : Access). access_fault ms job t0 0 y ≡ None) is here in
    first_of_none (access_fault ms job t0 0 x) None there
first_allowed ms job (suc n) t t0 accesses a d less is same none first = first (omega arith)

-- one access further
pub HoldsSoFar-more : (old s new : SpaceState) (job n : ℕ) (accesses : List Access) (places : List Place) (a d : Access) (place : Place) →
    HoldsSoFar old s job n accesses places → n < length accesses → a ≡ get_or accesses n d →
    access_fault s.mappings job s.buffers n a ≡ None → place_at s.mappings a.addr ≡ Some place →
    new ≡ record s { buffers = with_access_held s.mappings job a s.buffers } → left_everywhere job new.buffers ≡ left_everywhere job s.buffers →
    ((ms : List Mapping) → AreKept s ms → AreKept new ms) → HoldsSoFar old new job (n + 1) accesses (places ++ place ∷ [])
HoldsSoFar-more old s new job n accesses places a d place so_far less is none found held left kept =
    let same : s.mappings ≡ old.mappings = ap (λ (x : SpaceState). x.mappings) so_far.rest in
    let none_here : access_fault old.mappings job s.buffers n a ≡ None = here_none old s job n a so_far.rest none in
    let buffers : new.buffers ≡ with_access_held old.mappings job a s.buffers =
    ap (λ (x : SpaceState). x.buffers) held ∙ ap (λ (ms : List Mapping). with_access_held ms job a s.buffers) same in
    let found_here : place_at old.mappings a.addr ≡ Some place = subst (λ (ms : List Mapping). place_at ms a.addr ≡ Some place) same found in
    record {
      start = λ e. absurd (omega (arith, e));
      rest = held ∙ ap (λ (x : SpaceState). record x { buffers = with_access_held s.mappings job a s.buffers }) so_far.rest
          ∙ ap (λ (t : BuffersState). record old { buffers = t }) (sym (ap (λ (x : SpaceState). x.buffers) held));
      faults = ap (λ (t : BuffersState). accesses_fault old.mappings job t (n + 1) (drop (n + 1) accesses)) buffers
          ∙ sym (faults_go_on old.mappings job n s.buffers accesses a d less is none_here) ∙ so_far.faults;
      holds = ap (λ (t : BuffersState). with_all_held old.mappings job (drop (n + 1) accesses) t) buffers
          ∙ sym (ap (λ (xs : List Access). with_all_held old.mappings job xs s.buffers) (turn accesses n a d less is)) ∙ so_far.holds;
      left = left ∙ so_far.left;
      first = λ _. first_allowed old.mappings job n s.buffers old.buffers accesses a d less is so_far.start none_here so_far.first;
      found = map-append Some places (place ∷ [])
          ∙ ap (λ (xs : List (Option Place)). xs ++ Some place ∷ []) so_far.found
          ∙ ap (λ (o : Option Place). map (λ access. place_at old.mappings access.addr) (take n accesses) ++ o ∷ []) (sym found_here)
          ∙ sym (map-append (λ access. place_at old.mappings access.addr) (take n accesses) (a ∷ []))
          ∙ ap (λ (xs : List Access). map (λ access. place_at old.mappings access.addr) xs)
          (ap (λ (x : Access). take n accesses ++ x ∷ []) is ∙ sym (take_more accesses n d less));
      kept = λ ms h. kept ms (so_far.kept ms h);
    }

abbrev refused_with : Fault → Result Place Fault
refused_with fault = Err fault

same_fault : (f fault : Fault) → refused_with fault ≡ Err f → f ≡ fault
same_fault f fault same = cc

abbrev found_place : Place → Result Place Fault
found_place place = Ok place

-- an access that found its place has no fault
pub no_fault : (o : Option Fault) (place : Place) → MatchOption o ⊤ (λ fault. found_place place ≡ Err fault) → o ≡ None
no_fault None place h = refl
no_fault (Some fault) place h = cc

-- an access is refused: so are all of them
pub AreRefused-here : (old s : SpaceState) (job n : ℕ) (accesses : List Access) (places : List Place) (a d : Access) (fault : Fault) →
    HoldsSoFar old s job n accesses places → n < length accesses → a ≡ get_or accesses n d →
    MatchOption (access_fault s.mappings job s.buffers n a) (fault ≡ OutOfMemory) (λ f. refused_with fault ≡ Err f) → AreRefused old.mappings job old.buffers accesses fault
AreRefused-here old s job n accesses places a d fault so_far less is why =
    elim (access_fault s.mappings job s.buffers n a) as (λ o. access_fault s.mappings job s.buffers n a ≡ o → MatchOption o (fault ≡ OutOfMemory) (λ f. refused_with fault ≡ Err f)
    → AreRefused old.mappings job old.buffers accesses fault) [
      | None ↦ (λ none memory. inr (memory, first_allowed old.mappings job n s.buffers old.buffers accesses a d less is so_far.start (here_none old s job n a so_far.rest none) so_far.first))
      | Some f ↦ (λ some same. inl (
          sym so_far.faults
          ∙ ap (λ (xs : List Access). accesses_fault old.mappings job s.buffers n xs) (turn accesses n a d less is)
          ∙ first_of_some (access_fault old.mappings job s.buffers n a) (accesses_fault old.mappings job (with_access_held old.mappings job a s.buffers) (n + 1) (drop (n + 1) accesses)) f (here_some old s job n a f so_far.rest some)
          ∙ ap (λ (x : Fault). Some x) (same_fault f fault same)))
    ] refl why

-- want of memory behind the first access
pub AreRefused-later : (old s : SpaceState) (job n : ℕ) (accesses : List Access) (places : List Place) (fault : Fault) → HoldsSoFar old s job (n + 1) accesses places → fault ≡ OutOfMemory →
    AreRefused old.mappings job old.buffers accesses fault
AreRefused-later old s job n accesses places fault so_far memory = inr (memory, so_far.first (omega arith))

-- want of memory behind all accesses
pub AreRefused-last : (ms : List Mapping) (job : ℕ) (t : BuffersState) (accesses : List Access) (fault : Fault) → accesses_fault ms job t 0 accesses ≡ None → fault ≡ OutOfMemory →
    AreRefused ms job t accesses fault
AreRefused-last ms job t [] fault none memory = inr (memory, refl)
AreRefused-last ms job t (a ∷ accesses) fault none memory =
    inr (memory, first_of_none (access_fault ms job t 0 a) None (none_of_first (access_fault ms job t 0 a) (accesses_fault ms job (with_access_held ms job a t) (0 + 1) accesses) none))

-- all accesses are done
pub record AreAllHeld (old s : SpaceState) (job : ℕ) (accesses : List Access) (places : List Place) : Type 0 where
  pub none : accesses_fault old.mappings job old.buffers 0 accesses ≡ None
  pub found : map Some places ≡ map (λ access. place_at old.mappings access.addr) accesses
  pub space : s ≡ record old { buffers = with_all_held old.mappings job accesses old.buffers }

pub AreAllHeld-end : (old s : SpaceState) (job n : ℕ) (accesses : List Access) (places : List Place) → HoldsSoFar old s job n accesses places → length accesses ≤ n →
    AreAllHeld old s job accesses places
AreAllHeld-end old s job n accesses places so_far past =
    let over : drop n accesses ≡ [] = drop_all n accesses past in
    record {
      none = sym so_far.faults ∙ ap (λ (xs : List Access). accesses_fault old.mappings job s.buffers n xs) over;
      found = so_far.found ∙ ap (λ (xs : List Access). map (λ access. place_at old.mappings access.addr) xs) (take_all n accesses past);
      space = so_far.rest ∙ ap (λ (t : BuffersState). record old { buffers = t })
          (ap (λ (xs : List Access). with_all_held old.mappings job xs s.buffers) (sym over) ∙ so_far.holds);
    }
