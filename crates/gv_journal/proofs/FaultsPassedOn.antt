-- Faults handed on.
use Rattle.std.proofs.Common.{◌≡◌, Option, Some, None, Result, Ok, Err, refl, ap, subst}
use Rattle.std.specs.Prelude.{MatchOption, IsOkUnless, IfErr, OnOk}
use Rattle.gv_types.specs.declared.fault.Fault.{Fault}
use Rattle.gv_types.specs.declared.fault.Fault.TheVariants.{OutOfMemory}

pub same_err : {A : Type 0} (f g : Fault) (r : Result A Fault) → r ≡ Err f → r ≡ Err g → f ≡ g
same_err f g r is that = cc

-- a call answers the fault of another one
pub passed_on : {A : Type 0} (B : Type 0) (o : Option Fault) (r : Result A Fault) (f : Fault) → r ≡ Err f →
    MatchOption o (IsOkUnless r OutOfMemory) (λ g. r ≡ Err g) → MatchOption o (f ≡ OutOfMemory) (λ g. ◌≡◌ {A = Result B Fault} (Err f) (Err g))
passed_on B None r f is h = subst (λ x. IsOkUnless x OutOfMemory) is h
passed_on B (Some g) r f is h = ap (λ (x : Fault). Err x) (same_err f g r is h)

pub if_err : {A : Type 0} (r : Result A Fault) (P : Fault → Type 0) → ((f : Fault) → r ≡ Err f → P f) → IfErr r P
if_err (Ok x) P h = tt
if_err (Err f) P h = h f refl

pub on_ok : {A : Type 0} (r : Result A Fault) (P Q : Type 0) → (P → Q) → OnOk r P → OnOk r Q
on_ok (Ok x) P Q h p = h p
on_ok (Err f) P Q h p = tt
