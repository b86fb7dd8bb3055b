-- Each step says what the headline says of it.
use Rattle.std.proofs.Common.{◌≡◌, ℕ, suc, ◌+◌, true, eqb, List, [], ◌∷◌, arith, refl, sym, ◌∙◌, ap, subst, Some, None, Option, Result, Ok, Err}
use Rattle.std.specs.Prelude.{IfOk}
use Rattle.std.specs.Option.{option_map}
use Rattle.std.proofs.lemmas.Bool.{eqb-true, and_parts}
use Rattle.std.proofs.lemmas.Option.{same_Some}
use Rattle.gv_types.specs.declared.fault.OutOfMemory.{OutOfMemory as WantOfMemory}
use Rattle.gv_types.specs.declared.mapping.BufferId.{BufferId}
use Rattle.gv_types.specs.declared.mapping.Mapping.{Mapping}
use Rattle.gv_table.specs.Table.{IsTree}
use Rattle.gv_buffers.specs.Buffers.{Buffer, uses, kept, buffer}
use Rattle.gv_space.specs.Counts.{count_of}
use Rattle.gv_space.specs.State.{SpaceState}
use Rattle.gv_space.specs.Undo.{OpUndoState, reverted}
use Rattle.gv_space.proofs.BufferTableLemmas.{IsFound, found_buffer}
use Rattle.gv_journal.specs.Items.{JournalState}
use Rattle.gv_journal.specs.History.{back, undos_of}
use Rattle.gv_journal.specs.Undoing.{undone_by, reverted_by}
use Rattle.gv_journal.specs.Binding.{IsRewound}
use Rattle.gv_journal.specs.declared.item.Item.{Item}
use Rattle.gv_vm.specs.State.{VmState, IsVm}
use Rattle.gv_vm.specs.World.{WorldState}
use Rattle.gv_vm.specs.BindOutcome.{CameTo}
use Rattle.gv_types.specs.declared.request.Request.{Request}
use Rattle.gv_vm.specs.Step.{step, IsStep, IsGivenUp}
use Rattle.gv_vm.specs.Headline.{EachPageTranslates, LeavesAll, TakesBack, SaysOfOutcome, SaysOfReply, Says}
use Rattle.gv_vm.specs.declared.event.Event.{Event}
use Rattle.gv_vm.specs.declared.event.Event.TheVariants.{Bind, GiveUp, Rewind, Withdraw}
use Rattle.gv_vm.specs.declared.event.Reply.{Reply}
use Rattle.gv_vm.specs.declared.event.Reply.TheVariants.{Told, Rewound, Withdrawn}
use Rattle.gv_vm.specs.declared.outcome.Outcome.{Outcome}
use Rattle.gv_vm.specs.declared.outcome.Outcome.TheVariants.{Accepted, Refused, NotReady}

pages : (v : VmState) → IsVm v → EachPageTranslates v
pages v holds page is = (holds.translates page is, λ table held tree h. h v.space.mappings holds.buffers_counted.used.laid_out tree)

-- a request that left the space
leaves : (before after : VmState) → after.space ≡ before.space → after.journal ≡ before.journal → LeavesAll before after
leaves before after same journal =
    let list : after.space.mappings ≡ before.space.mappings = ap (λ (s : SpaceState). s.mappings) same in
    record {
      list = list;
      tree = λ table tree. subst (λ (ms : List Mapping). IsTree ms table) (sym list) tree;
      used = λ id. ap (λ (s : SpaceState). uses s.buffers id) same;
      kept = λ id. ap (λ (s : SpaceState). kept s.buffers id) same;
      items = journal;
    }

came : (before after : VmState) (queue number : ℕ) (request : Request) (seen : List ℕ) (outcome : Outcome) →
    CameTo before.space after.space before.journal after.journal queue number request seen outcome → SaysOfOutcome outcome before after
came before after queue number request seen (Accepted entry) h = h.rewinds
came before after queue number request seen (Refused op fault) h = leaves before after h.space h.journal
came before after queue number request seen (NotReady point have) h = absurd h

given_up : (before after : WorldState) (queue number : ℕ) (outcome : Outcome) → IsGivenUp before queue number outcome after → SaysOfOutcome outcome before.vm after.vm
given_up before after queue number outcome h =
    subst (λ (o : Outcome). SaysOfOutcome o before.vm after.vm) (sym h.outcome_is)
    (leaves before.vm after.vm (ap (λ (w : WorldState). w.vm.space) h.state) (ap (λ (w : WorldState). w.vm.journal) h.state))

list_reverted : (s : SpaceState) (us : List OpUndoState) → (reverted_by s us).mappings ≡ undone_by s.mappings us
list_reverted s [] = refl
list_reverted s (u ∷ older) = list_reverted (reverted s u) older

-- an id finds the buffer that has it
its_id : (a b : BufferId) → eqb a.index b.index ≡ true → eqb a.generation b.generation ≡ true → a ≡ b
its_id a b index generation =
    ap (λ (i : ℕ). (let id : BufferId = record { index = i; generation = a.generation } in id)) (eqb-true a.index b.index index)
    ∙ ap (λ (g : ℕ). (let id : BufferId = record { index = b.index; generation = g } in id)) (eqb-true a.generation b.generation generation)

used_by : (v : VmState) (id : BufferId) (n : ℕ) (o : Option Buffer) → IsVm v → buffer v.space.buffers id ≡ o → option_map (λ b. b.uses) o ≡ Some n → n ≡ count_of id v.space.mappings
used_by v id n None holds is h = cc
used_by v id n (Some b) holds is h =
    let found : IsFound v.space.buffers id (λ b. b.uses ≡ count_of b.id v.space.mappings) = found_buffer (λ b. b.uses ≡ count_of b.id v.space.mappings) v.space.buffers id b holds.buffers_counted.used.used is in
    let same : found.b ≡ b = same_Some found.b b (sym found.found ∙ is) in
    let parts : (eqb found.b.id.index id.index ≡ true) × (eqb found.b.id.generation id.generation ≡ true) = and_parts (eqb found.b.id.index id.index) (eqb found.b.id.generation id.generation) found.same_id in
    let id_is : found.b.id ≡ id = its_id found.b.id id parts.0 parts.1 in
    sym (same_Some b.uses n h) ∙ ap (λ (x : Buffer). x.uses) (sym same) ∙ found.holds ∙ ap (λ (i : BufferId). count_of i v.space.mappings) id_is

-- the list that comes back
list_back : (s t : SpaceState) (old new : JournalState) (rewound : IsRewound s t old new) → t.mappings ≡ undone_by s.mappings (undos_of rewound.item)
list_back s t old new rewound = ap (λ (x : SpaceState). x.mappings) rewound.space ∙ list_reverted s (undos_of rewound.item)

back_more : (ms : List Mapping) (item : Item) (older : List Item) (n : ℕ) → back ms (item ∷ older) (n + 1) ≡ back (undone_by ms (undos_of item)) older n
back_more ms item older n =
    let one : n + 1 ≡ suc n = omega arith in
    ap (λ (k : ℕ). back ms (item ∷ older) k) one

taken_back : (before after : VmState) → IsVm after → IsRewound before.space after.space before.journal after.journal → TakesBack before after
taken_back before after holds rewound =
    let items : before.journal.items ≡ rewound.item ∷ after.journal.items = ap (λ (j : JournalState). j.items) rewound.items in
    let one : back before.space.mappings before.journal.items 1 ≡ undone_by before.space.mappings (undos_of rewound.item) =
    ap (λ (xs : List Item). back before.space.mappings xs 1) items ∙ back_more before.space.mappings rewound.item after.journal.items 0 in
    let list : after.space.mappings ≡ back before.space.mappings before.journal.items 1 = list_back before.space after.space before.journal after.journal rewound ∙ sym one in
    record {
      list = list;
      tree = λ table tree. subst (λ (ms : List Mapping). IsTree ms table) (sym list) tree;
      used = λ id n h. used_by after id n (buffer after.space.buffers id) holds refl h ∙ ap (λ (ms : List Mapping). count_of id ms) list;
      older = λ n. ap (λ (ms : List Mapping). back ms after.journal.items n) (list_back before.space after.space before.journal after.journal rewound)
          ∙ sym (back_more before.space.mappings rewound.item after.journal.items n) ∙ ap (λ (xs : List Item). back before.space.mappings xs (n + 1)) (sym items);
    }

reply_says : (before after : WorldState) (event : Event) (reply : Reply) → IsVm after.vm → step before event reply after → SaysOfReply event reply before.vm after.vm
reply_says before after (Bind queue) (Told number outcome) holds h =
    came before.vm after.vm queue number h.enabled.has.hand.request _ outcome h.vm.came
reply_says before after (GiveUp queue) (Told number outcome) holds h = given_up before after queue number outcome h
reply_says before after Rewind (Rewound item) holds h = taken_back before.vm after.vm holds h.rewound
reply_says before after (Withdraw entry) (Withdrawn item) holds h = (h.withdrawn.pages, h.rewinds)
reply_says before after event (Told number outcome) holds h = absurd h
reply_says before after event (Rewound item) holds h = absurd h
reply_says before after event reply holds h = tt

pub says : (before after : WorldState) (event : Event) (reply : Reply) → IsVm after.vm → step before event reply after → Says before event reply after
says before after event reply holds h = (pages after.vm holds, holds, reply_says before after event reply holds h)

-- and so it does where a step is answered
pub said : (before after : WorldState) (event : Event) (r : Result Reply WantOfMemory) → IsVm after.vm → IsStep before event r after → IfOk r (λ reply. Says before event reply after)
said before after event (Ok reply) holds h = says before after event reply holds h
said before after event (Err e) holds h = tt
