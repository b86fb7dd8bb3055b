-- What holds of a space holds of it without its room for mappings (`roomless`).
use Rattle.std.proofs.Common.{◌≡◌, ℕ, List, [], ◌∷◌, reverse, Option, None, Result, Ok, Err, inl, inr, refl, sym, ap, ◌∙◌, subst}
use Rattle.std.proofs.lemmas.Option.{none-some}
use Rattle.std.proofs.lemmas.List.{reverse-reverse}
use Rattle.std.specs.Prelude.{OnOk, OnErr, IfOk, IfErr}
use Rattle.gv_types.specs.Limits.{LimitsState}
use Rattle.gv_types.specs.declared.fault.Fault.{Fault}
use Rattle.gv_types.specs.declared.fault.Fault.TheVariants.{Held}
use Rattle.gv_types.specs.declared.mapping.Entry.{Entry}
use Rattle.gv_types.specs.declared.mapping.Mapping.{Mapping}
use Rattle.gv_types.specs.declared.operation.Op.{Op}
use Rattle.gv_types.specs.declared.request.Request.{Request}
use Rattle.gv_ranges.specs.Edit.{undone}
use Rattle.gv_space.specs.State.{SpaceState, IsSpace, IsUnchanged}
use Rattle.gv_space.specs.Undo.{OpUndoState}
use Rattle.gv_space.specs.Refusal.{first_of}
use Rattle.gv_journal.specs.Undoing.{undone_by, AreRevertible}
use Rattle.gv_journal.specs.Items.{JournalState}
use Rattle.gv_journal.specs.History.{undos_of, base, Rewinds}
use Rattle.gv_journal.specs.Applying.{all_do}
use Rattle.gv_journal.specs.Verdict.{refused_or, request_fault, verdict, ComesBefore, IsRefused}
use Rattle.gv_journal.specs.Binding.{IsApplied, IsRewound}
use Rattle.gv_journal.specs.Settling.{IsSettled}
use Rattle.gv_journal.specs.Withdrawing.{list_before, ops_at, entry_fault, withdraw_fault, IsWithdrawRefused, IsWithdrawn}
use Rattle.gv_journal.specs.declared.item.Item.{Item}
use Rattle.gv_journal.specs.declared.refusal.Refusal.{Refusal}
use Rattle.gv_journal.proofs.RoomLemmas.{with_room, after_all-room, verdict_from-room, after_withdrawal-room, withdrawal_limits-room, reverted_by-room}
use Rattle.gv_vm.specs.Jobs.{JobsState, IsBegun}
use Rattle.gv_vm.specs.State.{VmState, IsVm, roomless}
use Rattle.gv_vm.specs.Trimming.{held_fault, trim_fault}
use Rattle.gv_vm.specs.declared.jobs.Access.{Access}
use Rattle.gv_vm.specs.declared.jobs.Job.{Job}
use Rattle.gv_vm.proofs.SameLimits.{limits-after_all, limits-after_withdrawal, limits-reverted_by}

-- What is within the limit needs no other room.

revertible : (limit room : ℕ) (ms : List Mapping) (us : List OpUndoState) → AreRevertible limit room ms us → AreRevertible limit limit ms us
revertible limit room ms [] are = tt
revertible limit room ms (u ∷ older) are =
    (record { undo = are.0.undo; few = are.0.few; room_for = are.0.few }, revertible limit room (undone ms u.change) older are.1)

rewinds : (limit room first : ℕ) (ms : List Mapping) (items : List Item) (below : ℕ → Option Entry) → Rewinds limit room first ms items below → Rewinds limit limit first ms items below
rewinds limit room first ms [] below is = tt
rewinds limit room first ms (item ∷ older) below is =
    (revertible limit room ms (undos_of item) is.0, is.1, is.2, is.3, rewinds limit room first (undone_by ms (undos_of item)) older below is.4)

pub IsSpace-room : (s : SpaceState) (room : ℕ) → IsSpace s → IsSpace (record s { room = room })
IsSpace-room s room is = record {
  limits = is.limits;
  laid_out = is.laid_out;
  few = is.few;
  valid = is.valid;
  buffers = is.buffers;
  used = is.used;
  all_kept = is.all_kept;
  are_kept = record { valid = is.are_kept.valid; kept = is.are_kept.kept; kept_count = is.are_kept.kept_count };
  few_kept = is.few_kept;
}

pub IsSpace-roomless : (s : SpaceState) → IsSpace s → IsSpace (roomless s)
IsSpace-roomless s is = IsSpace-room s s.limits.mappings is

-- nothing is held: no undo value needs room
none_held : (first : ℕ) (items : List Item) → held_fault first items ≡ None → items ≡ []
none_held first [] none = refl
none_held first (item ∷ older) none = absurd (none-some (Held first) (sym none))

pub none_of_empty : (j : JournalState) → reverse j.items ≡ [] → trim_fault j ≡ None
none_of_empty j empty = ap (held_fault j.first) (sym (reverse-reverse j.items) ∙ ap reverse empty)

pub IsVm-room : (v : VmState) (t : SpaceState) → IsVm v → trim_fault v.journal ≡ None → t ≡ record v.space { room = t.room } → IsVm (record v { space = t })
IsVm-room v t holds none is =
    let items : v.journal.items ≡ [] = none_held v.journal.first v.journal.items none in
    let ms = v.space.mappings in
    let limit = v.space.limits.mappings in
    let there : IsVm (record v { space = record v.space { room = t.room } }) =
    record {
      translates = holds.translates;
      buffers_counted = record {
        used = IsSpace-room v.space t.room holds.buffers_counted.used;
        kept = record { valid = holds.buffers_counted.kept.valid; kept = holds.buffers_counted.kept.kept; kept_count = holds.buffers_counted.kept.kept_count };
        held = holds.buffers_counted.held;
      };
      rewinds = subst (λ (is : List Item). Rewinds limit t.room v.journal.first ms is (base ms is)) (sym items) tt;
      undo_saves_the_view = holds.undo_saves_the_view;
      told_matches_journal = holds.told_matches_journal;
      waits_were_reached = holds.waits_were_reached;
      no_conflicting_jobs = holds.no_conflicting_jobs;
      queues = holds.queues;
      forgotten = holds.forgotten;
    } in
    subst (λ (s : SpaceState). IsVm (record v { space = s })) (sym is) there

pub IsVm-roomless : (v : VmState) → IsVm v → IsVm (record v { space = roomless v.space })
IsVm-roomless v holds = record {
  translates = holds.translates;
  buffers_counted = record {
    used = IsSpace-roomless v.space holds.buffers_counted.used;
    kept = record { valid = holds.buffers_counted.kept.valid; kept = holds.buffers_counted.kept.kept; kept_count = holds.buffers_counted.kept.kept_count };
    held = holds.buffers_counted.held;
  };
  rewinds = rewinds v.space.limits.mappings v.space.room v.journal.first v.space.mappings v.journal.items (base v.space.mappings v.journal.items) holds.rewinds;
  undo_saves_the_view = holds.undo_saves_the_view;
  told_matches_journal = holds.told_matches_journal;
  waits_were_reached = holds.waits_were_reached;
  no_conflicting_jobs = holds.no_conflicting_jobs;
  queues = holds.queues;
  forgotten = holds.forgotten;
}

-- a space that only has more room is the same
pub roomless-unchanged : (s t : SpaceState) → IsUnchanged s t → roomless t ≡ roomless s
roomless-unchanged s t same = ap roomless same.state

-- Requests.

verdict-roomless : (s : SpaceState) (j : JournalState) (ops : List Op) → verdict (roomless s) j ops ≡ verdict s j ops
verdict-roomless s j ops = ap (refused_or 0 (request_fault j ops)) (verdict_from-room s.limits.mappings 0 s ops)

pub allowed : (s : SpaceState) (j : JournalState) (ops : List Op) → verdict s j ops ≡ None → verdict (roomless s) j ops ≡ None
allowed s j ops none = verdict-roomless s j ops ∙ none

pub refused : (s : SpaceState) (j : JournalState) (ops : List Op) (r : Refusal) → IsRefused s j ops r → IsRefused (roomless s) j ops r
refused s j ops r (inl is) = inl (verdict-roomless s j ops ∙ is)
refused s j ops r (inr is) = inr (record {
  fault = is.fault;
  whole = is.whole;
  there = is.there;
  before = subst (ComesBefore r.op ops) (sym (verdict_from-room s.limits.mappings 0 s ops)) is.before;
})

pub applied : (s t : SpaceState) (request : Request) → IsApplied s t request → IsApplied (roomless s) (roomless t) request
applied s t request is =
    let done = reverse (all_do s.mappings request.ops.items) in
    record {
      list = is.list;
      state = ap (with_room t.limits.mappings) is.state ∙ ap (with_room t.limits.mappings) (sym (after_all-room s.limits.mappings done s));
    }

pub applied_room : (s t : SpaceState) (request : Request) → IsApplied s t request → (roomless t).room ≡ (roomless s).room
applied_room s t request is =
    ap (λ (x : SpaceState). x.limits.mappings) is.state ∙ ap (λ l. l.mappings) (limits-after_all (reverse (all_do s.mappings request.ops.items)) s)

-- Items taken back, withdrawn and settled.

pub rewound : (s t : SpaceState) (old new : JournalState) → IsRewound s t old new → IsRewound (roomless s) (roomless t) old new
rewound s t old new is = record {
  item = is.item;
  items = is.items;
  space =
      ap (λ (l : LimitsState). with_room l.mappings t) (ap (λ (x : SpaceState). x.limits) is.space ∙ limits-reverted_by s (undos_of is.item))
      ∙ ap (with_room s.limits.mappings) is.space ∙ sym (reverted_by-room s.limits.mappings s (undos_of is.item));
}

withdraw_fault-roomless : (s : SpaceState) (j : JournalState) (n : ℕ) → withdraw_fault (roomless s) j n ≡ withdraw_fault s j n
withdraw_fault-roomless s j n = ap (first_of (entry_fault j n)) (withdrawal_limits-room s.limits.mappings (list_before s j n) (ops_at j n) s)

pub withdraw_refused : (s : SpaceState) (j : JournalState) (n : ℕ) (fault : Fault) → IsWithdrawRefused s j n fault → IsWithdrawRefused (roomless s) j n fault
withdraw_refused s j n fault (inl is) = inl (withdraw_fault-roomless s j n ∙ is)
withdraw_refused s j n fault (inr is) = inr is

pub withdraw_allowed : (s : SpaceState) (j : JournalState) (n : ℕ) → withdraw_fault s j n ≡ None → withdraw_fault (roomless s) j n ≡ None
withdraw_allowed s j n none = withdraw_fault-roomless s j n ∙ none

pub withdrawn_room : (s t : SpaceState) (old new : JournalState) (n : ℕ) → IsWithdrawn s t old new n → (roomless t).room ≡ (roomless s).room
withdrawn_room s t old new n is =
    ap (λ (x : SpaceState). x.limits.mappings) is.state ∙ ap (λ l. l.mappings) (limits-after_withdrawal (list_before s old n) (ops_at old n) s)

pub withdrawn : (s t : SpaceState) (old new : JournalState) (n : ℕ) → IsWithdrawn s t old new n → IsWithdrawn (roomless s) (roomless t) old new n
withdrawn s t old new n is = record {
  item = is.item;
  items = is.items;
  kind = is.kind;
  state =
      ap (with_room t.limits.mappings) is.state
      ∙ ap (with_room t.limits.mappings) (sym (after_withdrawal-room s.limits.mappings (list_before s old n) (ops_at old n) s));
  list = is.list;
  pages = is.pages;
  undos = is.undos;
  others = is.others;
}

pub settled : (s t : SpaceState) (old new : JournalState) (to : ℕ) → IsSettled s t old new to → IsSettled (roomless s) (roomless t) old new to
settled s t old new to is = record { items = is.items; space = ap roomless is.space; back = is.back; base = is.base }

-- The same of what calls answer.

pub rewound_if : (s t : SpaceState) (old new : JournalState) (r : Result ℕ Fault) → OnOk r (IsRewound s t old new) → OnOk r (IsRewound (roomless s) (roomless t) old new)
rewound_if s t old new (Ok n) is = rewound s t old new is
rewound_if s t old new (Err fault) is = tt

pub withdrawn_if : (s t : SpaceState) (old new : JournalState) (n : ℕ) (r : Result ℕ Fault) → OnOk r (IsWithdrawn s t old new n) → OnOk r (IsWithdrawn (roomless s) (roomless t) old new n)
withdrawn_if s t old new n (Ok item) is = withdrawn s t old new n is
withdrawn_if s t old new n (Err fault) is = tt

pub withdraw_allowed_if : (s : SpaceState) (j : JournalState) (n : ℕ) (r : Result ℕ Fault) → OnOk r (withdraw_fault s j n ≡ None) → OnOk r (withdraw_fault (roomless s) j n ≡ None)
withdraw_allowed_if s j n (Ok item) none = withdraw_allowed s j n none
withdraw_allowed_if s j n (Err fault) none = tt

pub withdraw_refused_if : (s : SpaceState) (j : JournalState) (n : ℕ) (r : Result ℕ Fault) → IfErr r (IsWithdrawRefused s j n) → IfErr r (IsWithdrawRefused (roomless s) j n)
withdraw_refused_if s j n (Ok item) is = tt
withdraw_refused_if s j n (Err fault) is = withdraw_refused s j n fault is

pub withdrawal_room : (s t : SpaceState) (old new : JournalState) (n : ℕ) (r : Result ℕ Fault) → OnOk r (IsWithdrawn s t old new n) → OnErr r (IsUnchanged s t) → (roomless t).room ≡ (roomless s).room
withdrawal_room s t old new n (Ok item) is same = withdrawn_room s t old new n is
withdrawal_room s t old new n (Err fault) is same = ap (λ (x : SpaceState). x.limits.mappings) same.state

pub begun_if : (s t : SpaceState) (before after : JobsState) (accesses : List Access) (r : Result Job Fault) → IfOk r (IsBegun s t before after accesses) → IfOk r (IsBegun (roomless s) (roomless t) before after accesses)
begun_if s t before after accesses (Ok job) is = record { number = is.number; places = is.places; jobs = is.jobs; space = ap roomless is.space }
begun_if s t before after accesses (Err fault) is = tt
