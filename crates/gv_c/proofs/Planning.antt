-- What `vmbind_plan` writes: an operation's split steps, or its fault.
use Rattle.std.proofs.Common.{◌≡◌, ℕ, ◌<◌, List, length, map, Option, Some, None, Result, Ok, Err, MatchOption, IsOkUnless, Vec, inl, inr, refl, ap, subst}
use Rattle.std.specs.declared.alloc.Global.{Global}
use Rattle.gv_types.specs.Fault.{number_of}
use Rattle.gv_types.specs.Operation.{in_pages}
use Rattle.gv_types.specs.declared.fault.Fault.{Fault}
use Rattle.gv_types.specs.declared.fault.Fault.TheVariants.{OutOfMemory}
use Rattle.gv_types.specs.declared.operation.Op.{Op}
use Rattle.gv_split.specs.Steps.{steps}
use Rattle.gv_split.specs.declared.step.Step.{Step}
use Rattle.gv_space.specs.State.{SpaceState}
use Rattle.gv_c.specs.Lists.{IsWritten, ArePlanned}
use Rattle.gv_c.specs.Values.{c_step}
use Rattle.gv_c.specs.declared.space_values.SplitStep.{SplitStep}

pub planned_ok : (s : SpaceState) (op : Op) (o : Option Fault) (list : Vec Step Global) (old new : List SplitStep) (count total : ℕ) →
    MatchOption o (IsOkUnless {T = Vec Step Global} {E = Fault} (Ok list) OutOfMemory) (λ fault. ◌≡◌ {A = Result (Vec Step Global) Fault} (Ok list) (Err fault)) →
    list.items ≡ steps s.mappings (in_pages op) → IsWritten (map c_step list.items) 0 old new count total → ArePlanned s op o old 0 new count total
planned_ok s op None list old new count total is same wrote =
    inl (refl, subst (λ (xs : List Step). IsWritten (map c_step xs) 0 old new count total) same wrote)
planned_ok s op (Some fault) list old new count total is same wrote = absurd cc

pub planned_err : (s : SpaceState) (op : Op) (o : Option Fault) (why : Fault) (old : List SplitStep) →
    MatchOption o (IsOkUnless {T = Vec Step Global} {E = Fault} (Err why) OutOfMemory) (λ fault. ◌≡◌ {A = Result (Vec Step Global) Fault} (Err why) (Err fault)) →
    (◌≡◌ {A = Result (Vec Step Global) Fault} (Err why) (Err OutOfMemory) → 0 < length (steps s.mappings (in_pages op))) → ArePlanned s op o old (number_of why) old 0 0
planned_err s op None why old is some =
    inr (ap number_of is, some (ap (λ (f : Fault). Err f) is), record { list = refl; written = refl; in_all = refl })
planned_err s op (Some fault) why old is some =
    let same : why ≡ fault = cc in (ap number_of same, record { list = refl; written = refl; in_all = refl })
