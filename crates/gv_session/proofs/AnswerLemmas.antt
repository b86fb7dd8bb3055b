-- For callers: options and results that an answer carries.
use Rattle.std.proofs.Common.{◌≡◌, ◌≢◌, false, Option, Some, None, is_some, Result, Ok, Err, MatchOption, IsOkUnless, OnOk, refl, sym, ap, subst}
use Rattle.std.specs.Prelude.{ok_or}
use Rattle.gv_types.specs.declared.fault.Fault.{Fault}
use Rattle.gv_types.specs.declared.fault.Fault.TheVariants.{OutOfMemory}
use Rattle.gv_session.specs.Line.{Of}

-- what is there is the one that was found
pub of_found : {X : Type 0} (o : Option X) (x : X) (P : X → Type 0) → Some x ≡ o → P x → Of o P
of_found o x P is holds = subst (λ (r : Option _). Of r P) is holds

-- a fault that is not want of memory is the one that stands before
pub fault_but_memory : (T : Type 0) (o : Option Fault) (why : Fault) → MatchOption o (IsOkUnless {T = T} {E = Fault} (Err why) OutOfMemory) (λ fault. ◌≡◌ {A = Result T Fault} (Err why) (Err fault)) →
    why ≢ OutOfMemory → o ≡ Some why
fault_but_memory T None why is apart = absurd (apart is)
fault_but_memory T (Some fault) why is apart = let same : fault ≡ why = cc in ap (λ (f : Fault). Some f) same

pub none_from_ok : {T : Type 0} (o : Option Fault) (done : T) → MatchOption o (IsOkUnless {T = T} {E = Fault} (Ok done) OutOfMemory) (λ fault. ◌≡◌ {A = Result T Fault} (Ok done) (Err fault)) → o ≡ None
none_from_ok None done is = refl
none_from_ok (Some fault) done is = absurd cc

pub ok_or_some : {T E : Type 0} (o : Option T) (e : E) (x : T) → Ok x ≡ ok_or o e → o ≡ Some x
ok_or_some None e x is = absurd cc
ok_or_some (Some y) e x is = let same : x ≡ y = cc in ap (λ (z : _). Some z) (sym same)

pub none_of : {X : Type 0} (o : Option X) → is_some o ≡ false → o ≡ None
none_of None none = refl
none_of (Some x) none = absurd cc

-- what a call came to, said otherwise
pub then_ok : {T E : Type 0} (r : Result T E) (A B : Type 0) → (A → B) → OnOk r A → OnOk r B
then_ok (Ok done) A B so is = so is
then_ok (Err why) A B so is = tt
