-- What clauses ask for, one clause after another.
use Rattle.std.proofs.Common.{◌≡◌, ℕ, List, [], ◌∷◌, Option, Some, None, IsSome, refl, ap, ◌∙◌, subst, append-nil}
use Rattle.gv_lines.specs.OptionSteps.{◌>>=◌, all_read}
use Rattle.gv_lines.specs.Clause.{operations_of, waits_of, signals_of}
use Rattle.gv_lines.specs.declared.clause.Clause.{Clause}
use Rattle.gv_lines.specs.declared.clause.Clause.TheVariants.{Change, Wait, Signal, Queue}
use Rattle.gv_session.specs.Requests.{op_named, point_named}
use Rattle.gv_session.specs.Line.{AreDeclared}
use Rattle.gv_session.specs.LineProgress.{IsDeclared, IsAskedTo}
use Rattle.gv_session.specs.State.{Buffers}
use Rattle.gv_session.specs.declared.request.Asked.{Asked}

-- nothing remains
pub asked_all : (buffers : Buffers) (timelines : List (List ℕ)) (clauses remaining : List Clause) (asked : Asked) → IsAskedTo buffers timelines clauses remaining asked → remaining ≡ [] →
    (all_read (op_named buffers) (operations_of clauses) ≡ Some asked.request.ops.items) × (all_read (point_named timelines) (waits_of clauses) ≡ Some asked.request.waits.items)
    × (all_read (point_named timelines) (signals_of clauses) ≡ Some asked.request.signals.items)
asked_all buffers timelines clauses remaining asked is none =
    let end : IsAskedTo buffers timelines clauses [] asked = subst (λ (cs : List Clause). IsAskedTo buffers timelines clauses cs asked) none is in (
      end.ops [] refl ∙ ap Some (append-nil asked.request.ops.items),
      end.waits [] refl ∙ ap Some (append-nil asked.request.waits.items),
      end.signals [] refl ∙ ap Some (append-nil asked.request.signals.items),
    )

some_first : {A B : Type 0} (read : A → Option B) (first : A) (more : List A) → IsSome (read first) → IsSome (all_read read more) → IsSome (all_read read (first ∷ more))
some_first {A} {B} read first more here remaining =
    (elim (read first) as (λ (o : Option B). IsSome o → IsSome (o >>= (λ x. all_read read more >>= (λ xs. Some (x ∷ xs))))) [
      | None ↦ λ none. absurd cc
      | Some x ↦ λ some. (elim (all_read read more) as (λ (o : Option (List B)). IsSome o → IsSome (o >>= (λ xs. Some (x ∷ xs)))) [ None ↦ λ none. absurd cc | Some xs ↦ λ there. refl ]) remaining
    ]) here

some_both : {A B : Type 0} (read : A → Option B) (first : A) (more : List A) → IsSome (all_read read (first ∷ more)) → IsSome (read first) × IsSome (all_read read more)
some_both {A} {B} read first more =
    elim (read first) as (λ (o : Option B). IsSome (o >>= (λ x. all_read read more >>= (λ xs. Some (x ∷ xs)))) → IsSome o × IsSome (all_read read more)) [
      | None ↦ λ none. absurd cc
      | Some x ↦ elim (all_read read more) as (λ (o : Option (List B)). IsSome (o >>= (λ xs. Some (x ∷ xs))) → IsSome (Some x) × IsSome o) [ None ↦ λ none. absurd cc | Some xs ↦ λ there. (refl, refl) ]
    ]

-- what a clause names, and what those behind it do
pub declared_first : (buffers : Buffers) (timelines : List (List ℕ)) (clause : Clause) (more : List Clause) → IsDeclared buffers timelines clause → AreDeclared buffers timelines more →
    AreDeclared buffers timelines (clause ∷ more)
declared_first buffers timelines (Change operation) more here all = record { ops = some_first (op_named buffers) operation (operations_of more) here all.ops; waits = all.waits; signals = all.signals }
declared_first buffers timelines (Wait point) more here all = record { ops = all.ops; waits = some_first (point_named timelines) point (waits_of more) here all.waits; signals = all.signals }
declared_first buffers timelines (Signal point) more here all = record { ops = all.ops; waits = all.waits; signals = some_first (point_named timelines) point (signals_of more) here all.signals }
declared_first buffers timelines (Queue queue) more here all = record { ops = all.ops; waits = all.waits; signals = all.signals }

pub declared_both : (buffers : Buffers) (timelines : List (List ℕ)) (clause : Clause) (more : List Clause) → AreDeclared buffers timelines (clause ∷ more) →
    IsDeclared buffers timelines clause × AreDeclared buffers timelines more
declared_both buffers timelines (Change operation) more all = let both = some_both (op_named buffers) operation (operations_of more) all.ops in (both.0, record { ops = both.1; waits = all.waits; signals = all.signals })
declared_both buffers timelines (Wait point) more all = let both = some_both (point_named timelines) point (waits_of more) all.waits in (both.0, record { ops = all.ops; waits = both.1; signals = all.signals })
declared_both buffers timelines (Signal point) more all = let both = some_both (point_named timelines) point (signals_of more) all.signals in (both.0, record { ops = all.ops; waits = all.waits; signals = both.1 })
declared_both buffers timelines (Queue queue) more all = (tt, record { ops = all.ops; waits = all.waits; signals = all.signals })
