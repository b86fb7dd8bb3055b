-- For callers: faults that a call answers for one that it made.
use Rattle.std.proofs.Common.{◌≡◌, Option, Some, None, Result, Ok, Err, refl, ◌∙◌, true, false}
use Rattle.std.specs.Prelude.{IsOk, MatchOption}
use Rattle.gv_types.specs.declared.fault.Fault.{Fault}
use Rattle.gv_types.specs.Bounds.{unless_fault}
use Rattle.gv_types.specs.declared.operation.PageOp.{PageOp}
use Rattle.gv_space.specs.Refusal.{first_of}

module _ {X Y : Type 0} (P : Type 0) (r : Result X Fault) (s : Result Y Fault) (fault : Fault) (refused : r ≡ Err fault) (same : s ≡ Err fault) where
  not_ok : IsOk r → P
  not_ok ok = let wrong : false ≡ true = rw refused at ok in absurd cc

  -- a fault that a call answers is the one that its caller answers
  pub passed_on : (o : Option Fault) → MatchOption o (IsOk r) (λ f. r ≡ Err f) → MatchOption o P (λ f. s ≡ Err f)
  passed_on None ok = not_ok ok
  passed_on (Some f) is = same ∙ (let h : Err fault ≡ Err f = rw refused at is in let e : fault ≡ f = cc in rw e refl)

  -- also where later faults are asked for
  pub first_passed_on : (o later : Option Fault) → MatchOption o (IsOk r) (λ f. r ≡ Err f) → MatchOption (first_of o later) P (λ f. s ≡ Err f)
  first_passed_on None later ok = absurd (let wrong : false ≡ true = rw refused at ok in cc)
  first_passed_on (Some f) later is = passed_on (Some f) is

-- where a call answers Ok, it met no fault
pub no_fault : {X : Type 0} (o : Option Fault) (r : Result X Fault) (x : X) → MatchOption o (IsOk r) (λ f. r ≡ Err f) → r ≡ Ok x → o ≡ None
no_fault None r x ok is = refl
no_fault (Some f) r x refused is = let wrong : Ok x ≡ Err f = rw is at refused in absurd cc

-- a fault that `check` answers is the first one
pub first_refused : (o later : Option Fault) (p : PageOp) (fault : Fault) → unless_fault o p ≡ Err fault → first_of o later ≡ Some fault
first_refused None later p fault is = absurd cc
first_refused (Some f) later p fault is = let e : f ≡ fault = cc in rw e refl
