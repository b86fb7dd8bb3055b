-- No call changes the limits.
use Rattle.std.proofs.Common.{◌≡◌, ℕ, List, [], ◌∷◌, reverse, refl, ◌∙◌, ap, Result, Ok, Err}
use Rattle.std.specs.Prelude.{OnOk, OnErr}
use Rattle.gv_types.specs.Limits.{LimitsState}
use Rattle.gv_types.specs.declared.fault.Fault.{Fault}
use Rattle.gv_types.specs.declared.mapping.Mapping.{Mapping}
use Rattle.gv_types.specs.declared.operation.PageOp.{PageOp}
use Rattle.gv_types.specs.declared.request.Request.{Request}
use Rattle.gv_ranges.specs.Edit.{edited_by_all}
use Rattle.gv_space.specs.State.{SpaceState}
use Rattle.gv_space.specs.Undo.{OpUndoState, reverted}
use Rattle.gv_journal.specs.Items.{JournalState}
use Rattle.gv_journal.specs.History.{undos_of}
use Rattle.gv_journal.specs.Undoing.{reverted_by}
use Rattle.gv_journal.specs.Applying.{all_do, after_all}
use Rattle.gv_journal.specs.Binding.{IsRewound}
use Rattle.gv_journal.specs.Withdrawing.{after_restore, after_withdrawal, list_before, ops_at, IsWithdrawn}
use Rattle.gv_vm.specs.State.{VmState}
use Rattle.gv_vm.specs.BindOutcome.{CameTo}
use Rattle.gv_vm.specs.declared.outcome.Outcome.{Outcome}
use Rattle.gv_vm.specs.declared.outcome.Outcome.TheVariants.{Accepted, Refused, NotReady}

pub limits-after_all : (ops : List PageOp) (s : SpaceState) → (after_all ops s).limits ≡ s.limits
limits-after_all [] s = refl
limits-after_all (op ∷ older) s = limits-after_all older s

pub limits-reverted_by : (s : SpaceState) (us : List OpUndoState) → (reverted_by s us).limits ≡ s.limits
limits-reverted_by s [] = refl
limits-reverted_by s (u ∷ older) = limits-reverted_by (reverted s u) older

pub limits-after_withdrawal : (before : List Mapping) (ops : List PageOp) (s : SpaceState) → (after_withdrawal before ops s).limits ≡ s.limits
limits-after_withdrawal before [] s = refl
limits-after_withdrawal before (op ∷ older) s = limits-after_withdrawal before older (after_restore s op (edited_by_all older before))

abbrev limits_in : SpaceState → LimitsState
limits_in s = s.limits

pub limits-came : (s t : SpaceState) (old new : JournalState) (queue number : ℕ) (request : Request) (seen : List ℕ) (outcome : Outcome) → CameTo s t old new queue number request seen outcome → t.limits ≡ s.limits
limits-came s t old new queue number request seen (Accepted entry) came = ap limits_in came.space.state ∙ limits-after_all (reverse (all_do s.mappings request.ops.items)) s
limits-came s t old new queue number request seen (Refused op fault) came = ap limits_in came.space
limits-came s t old new queue number request seen (NotReady point have) came = absurd came

pub limits-rewound : (s t : SpaceState) (old new : JournalState) (r : Result ℕ Fault) → OnOk r (IsRewound s t old new) → OnErr r (t ≡ s) → t.limits ≡ s.limits
limits-rewound s t old new (Ok n) rewound same = ap limits_in rewound.space ∙ limits-reverted_by s (undos_of rewound.item)
limits-rewound s t old new (Err fault) rewound same = ap limits_in same

pub limits-withdrawn : (s t : SpaceState) (old new : JournalState) (n : ℕ) (r : Result ℕ Fault) → OnOk r (IsWithdrawn s t old new n) → OnErr r (t ≡ s) → t.limits ≡ s.limits
limits-withdrawn s t old new n (Ok item) withdrawn same = ap limits_in withdrawn.state ∙ limits-after_withdrawal (list_before s old n) (ops_at old n) s
limits-withdrawn s t old new n (Err fault) withdrawn same = ap limits_in same

pub same_space : (v w : VmState) (r : Result ℕ Fault) → OnErr r (v ≡ w) → OnErr r (v.space ≡ w.space)
same_space v w (Ok n) same = tt
same_space v w (Err fault) same = ap (λ (x : VmState). x.space) same
