-- An operation that names its pages (no `unmapall`) is one page operation, with the same fault.
use Rattle.std.proofs.Common.{◌≡◌, inl, inr, List, [], ◌∷◌, Option, Some, None, Result, Err, refl, ap, sym, ◌∙◌, subst}
use Rattle.std.specs.Prelude.{IsTrue, MatchOption, IsOkUnless}
use Rattle.std.proofs.lemmas.Bool.{false≢true}
use Rattle.gv_types.specs.Operation.{has_range, in_pages, range_of}
use Rattle.gv_types.specs.declared.fault.Fault.{Fault}
use Rattle.gv_types.specs.declared.fault.Fault.TheVariants.{OutOfMemory}
use Rattle.gv_types.specs.declared.mapping.Mapping.{Mapping}
use Rattle.gv_types.specs.declared.operation.Op.{Op}
use Rattle.gv_types.specs.declared.operation.Op.TheVariants.{Map, MapZero, Unmap, UnmapBuffer}
use Rattle.gv_types.specs.declared.operation.PageOp.{PageOp}
use Rattle.gv_ranges.specs.Edit.{edited}
use Rattle.gv_space.specs.State.{SpaceState}
use Rattle.gv_space.specs.Refusal.{first_of, operation_fault, limit_fault, apply_fault}
use Rattle.gv_journal.specs.Applying.{does}
use Rattle.gv_journal.specs.Verdict.{limits_fault, request_op_fault}
use Rattle.gv_journal.specs.Work.{IsOpRefused}
use Rattle.gv_journal.proofs.FaultsPassedOn.{same_err}

pub does_itself : (ms : List Mapping) (op : Op) → IsTrue (has_range op) → does ms op ≡ in_pages op ∷ []
does_itself ms (Map addr len buffer offset flags) ranged = refl
does_itself ms (MapZero addr len flags) ranged = refl
does_itself ms (Unmap addr len) ranged = refl
does_itself ms (UnmapBuffer buffer) ranged = absurd (false≢true ranged)

or_none : (o : Option Fault) → first_of o None ≡ o
or_none None = refl
or_none (Some fault) = refl

pub named_fault : (s : SpaceState) (op : Op) → IsTrue (has_range op) → request_op_fault s op ≡ apply_fault s op
named_fault s op ranged =
    ap (λ (ops : List PageOp). first_of (operation_fault s op) (limits_fault s ops)) (does_itself s.mappings op ranged)
    ∙ ap (λ (o : Option Fault). first_of (operation_fault s op) o) (or_none (limit_fault s (range_of (in_pages op)) (edited s.mappings (in_pages op))))

pub named_refused : {A : Type 0} (s : SpaceState) (op : Op) (r : Result A Fault) (fault : Fault) → IsTrue (has_range op) → r ≡ Err fault →
    MatchOption (apply_fault s op) (IsOkUnless r OutOfMemory) (λ g. r ≡ Err g) → IsOpRefused s op fault
named_refused s op r fault ranged is why = by_cases (apply_fault s op) refl why
  where
    by_cases : (o : Option Fault) → apply_fault s op ≡ o → MatchOption o (IsOkUnless r OutOfMemory) (λ g. r ≡ Err g) → IsOpRefused s op fault
    by_cases None none h = inr (subst (λ x. IsOkUnless x OutOfMemory) is h, inl (named_fault s op ranged ∙ none))
    by_cases (Some g) some h = inl (named_fault s op ranged ∙ some ∙ ap (λ (f : Fault). Some f) (sym (same_err fault g r is h)))
