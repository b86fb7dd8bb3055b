-- For callers: spaces that are the same, with journals that are the same bare of memory, answer the same faults, and go on to be the same after
-- the same change.
use Rattle.std.proofs.Common.{◌≡◌, ℕ, zero, suc, ◌-◌, List, [], ◌∷◌, ◌++◌, map, take, drop, reverse, Option, Some, Vec, Global, refl, sym, ap, ◌∙◌, subst}
use Rattle.std.proofs.lemmas.List.{take-map, drop-map}
use Rattle.gv_types.specs.declared.fault.Fault.{Fault}
use Rattle.gv_types.specs.declared.mapping.Mapping.{Mapping}
use Rattle.gv_types.specs.declared.operation.Op.{Op}
use Rattle.gv_types.specs.declared.operation.PageOp.{PageOp}
use Rattle.gv_types.specs.declared.request.Request.{Request}
use Rattle.gv_space.specs.State.{SpaceState}
use Rattle.gv_space.specs.Undo.{released}
use Rattle.gv_space.specs.Refusal.{first_of}
use Rattle.gv_journal.specs.Undoing.{taken_by, undone_by, reverted_by}
use Rattle.gv_journal.specs.Items.{JournalState, next, done_by}
use Rattle.gv_journal.specs.History.{undos_of, kept_by, back, AreUndosOf}
use Rattle.gv_journal.specs.Applying.{all_do, after_all}
use Rattle.gv_journal.specs.Verdict.{request_fault, refused_or, verdict_from, verdict}
use Rattle.gv_journal.specs.Binding.{IsBound, IsApplied, IsRewound}
use Rattle.gv_journal.specs.Settling.{earlier, IsSettled}
use Rattle.gv_journal.specs.Withdrawing.{list_before, ops_at, withdrawal_limits, entry_fault, withdraw_fault, after_withdrawal, AreUndosOfWithdrawal, IsWithdrawn}
use Rattle.gv_journal.specs.Bare.{BareRequest, BareBind, BareUndo, BareItem, BareJournal, bare_request, bare_undo, bare_item, bare_journal, bind_of, withdrawn_by}
use Rattle.gv_journal.specs.declared.item.Item.{Item}
use Rattle.gv_journal.proofs.MapLemmas.{reverse-map}
use Rattle.gv_journal.proofs.BareItemLemmas.{limit_alike, first_alike, items_alike, next_alike, full_fault_alike, entry_fault_alike, ops_at_alike}
use Rattle.gv_journal.proofs.BareUndoLemmas.{all_filled, undos_alike, withdrawal_undos_alike, taken_by_bare, undone_by_bare, reverted_by_bare}

-- What bare items keep, and the lists before them.

abbrev kept_bare : List BareItem → List Mapping
kept_bare [] = []
kept_bare (item ∷ older) = taken_by (all_filled item.undos) ++ kept_bare older

kept_by_bare : (items : List Item) → kept_by items ≡ kept_bare (map bare_item items)
kept_by_bare [] = refl
kept_by_bare (item ∷ older) =
    ap (λ (ms : List Mapping). ms ++ kept_by older) (taken_by_bare (undos_of item))
    ∙ ap (λ (ms : List Mapping). taken_by (all_filled (map bare_undo (undos_of item))) ++ ms) (kept_by_bare older)

abbrev back_of : List Mapping → List BareItem → ℕ → List Mapping
back_of ms items zero = ms
back_of ms [] (suc n) = ms
back_of ms (item ∷ older) (suc n) = back_of (undone_by ms (all_filled item.undos)) older n

back_bare : (ms : List Mapping) (items : List Item) (n : ℕ) → back ms items n ≡ back_of ms (map bare_item items) n
back_bare ms items zero = refl
back_bare ms [] (suc n) = refl
back_bare ms (item ∷ older) (suc n) =
    ap (λ (l : List Mapping). back l older n) (undone_by_bare ms (undos_of item)) ∙ back_bare (undone_by ms (all_filled (map bare_undo (undos_of item)))) older n

pub cons_same : {X : Type 0} {x y : X} {xs ys : List X} → x ≡ y → xs ≡ ys → x ∷ xs ≡ y ∷ ys
cons_same first rest = cc

head_same : {X : Type 0} (x y : X) (xs ys : List X) → x ∷ xs ≡ y ∷ ys → x ≡ y
head_same x y xs ys same = cc

tail_same : {X : Type 0} (x y : X) (xs ys : List X) → x ∷ xs ≡ y ∷ ys → xs ≡ ys
tail_same x y xs ys same = cc

item_same : (one other : Item) → bind_of one.kind ≡ bind_of other.kind → withdrawn_by one.kind ≡ withdrawn_by other.kind → done_by one.kind ≡ done_by other.kind →
    map bare_undo (undos_of one) ≡ map bare_undo (undos_of other) → bare_item one ≡ bare_item other
item_same one other bind withdraws done undos = rw (bind, withdraws, done, undos) refl

journal_same : (limit limit' first first' : ℕ) (items items' : List BareItem) → limit ≡ limit' → first ≡ first' → items ≡ items' →
    let one : BareJournal = record { limit = limit; first = first; items = items } in
    let other : BareJournal = record { limit = limit'; first = first'; items = items' } in
    one ≡ other
journal_same limit limit' first first' items items' limits firsts all = rw (limits, firsts, all) refl

module _ (s s' : SpaceState) (j j' : JournalState) (space : s ≡ s') (journal : bare_journal j ≡ bare_journal j') where
  pub list_alike : s.mappings ≡ s'.mappings
  list_alike = ap (λ (t : SpaceState). t.mappings) space

  -- the lists before the items
  pub back_alike : (n : ℕ) → back s.mappings j.items n ≡ back s'.mappings j'.items n
  back_alike n =
      back_bare s.mappings j.items n ∙ ap (λ (items : List BareItem). back_of s.mappings items n) (items_alike j j' journal)
      ∙ ap (λ (ms : List Mapping). back_of ms (map bare_item j'.items) n) list_alike ∙ sym (back_bare s'.mappings j'.items n)

  pub list_before_alike : (n : ℕ) → list_before s j n ≡ list_before s' j' n
  list_before_alike n = back_alike (next j - n) ∙ ap (λ k. back s'.mappings j'.items (k - n)) (next_alike j j' journal)

  -- the verdict on a request
  pub verdict_alike : (ops : List Op) → verdict s j ops ≡ verdict s' j' ops
  verdict_alike ops =
      let turns : verdict_from 0 s ops ≡ verdict_from 0 s' ops = ap (λ (t : SpaceState). verdict_from 0 t ops) space in
      let whole : request_fault j ops ≡ request_fault j' ops = rw (full_fault_alike j j' journal) refl in
      ap (refused_or 0 (request_fault j ops)) turns ∙ ap (λ (o : Option Fault). refused_or 0 o (verdict_from 0 s' ops)) whole

  -- why a withdrawal is refused
  pub withdraw_fault_alike : (n : ℕ) → withdraw_fault s j n ≡ withdraw_fault s' j' n
  withdraw_fault_alike n =
      let limits : withdrawal_limits (list_before s j n) (ops_at j n) s ≡ withdrawal_limits (list_before s' j' n) (ops_at j' n) s' =
      ap (λ (ms : List Mapping). withdrawal_limits ms (ops_at j n) s) (list_before_alike n)
      ∙ ap (λ (ops : List PageOp). withdrawal_limits (list_before s' j' n) ops s) (ops_at_alike j j' journal n)
      ∙ ap (withdrawal_limits (list_before s' j' n) (ops_at j' n)) space in
      ap (first_of (entry_fault j n)) limits ∙ ap (λ (o : Option Fault). first_of o (withdrawal_limits (list_before s' j' n) (ops_at j' n) s')) (entry_fault_alike j j' journal n)

  -- one item more
  more_alike : (new new' : JournalState) (item item' : Item) → new ≡ record j { items = item ∷ j.items } → new' ≡ record j' { items = item' ∷ j'.items } →
      bare_item item ≡ bare_item item' → bare_journal new ≡ bare_journal new'
  more_alike new new' item item' is is' same =
      ap bare_journal is
      ∙ journal_same j.limit j'.limit j.first j'.first (map bare_item (item ∷ j.items)) (map bare_item (item' ∷ j'.items))
      (limit_alike j j' journal) (first_alike j j' journal) (cons_same same (items_alike j j' journal))
      ∙ sym (ap bare_journal is')

  -- the same request was accepted
  pub bound_alike : (new new' : JournalState) (queue number : ℕ) (request request' : Request) (saw saw' : Vec ℕ Global) → bare_request request ≡ bare_request request' → saw.items ≡ saw'.items →
      IsBound s j new queue number request saw → IsBound s' j' new' queue number request' saw' → bare_journal new ≡ bare_journal new'
  bound_alike new new' queue number request request' saw saw' same seen now now' =
      let did : now.done.items ≡ now'.done.items =
      now.did ∙ ap (λ (ms : List Mapping). all_do ms request.ops.items) list_alike ∙ ap (λ (r : BareRequest). all_do s'.mappings r.ops) same ∙ sym now'.did in
      let bind : bind_of now.item.kind ≡ bind_of now'.item.kind =
      ap bind_of now.kind
      ∙ ap (λ (r : BareRequest). let o : Option BareBind = Some (record { queue = queue; number = number; request = r; saw = saw.items }) in o) same
      ∙ ap (λ (ns : List ℕ). let o : Option BareBind = Some (record { queue = queue; number = number; request = bare_request request'; saw = ns }) in o) seen
      ∙ sym (ap bind_of now'.kind) in
      let undos : map bare_undo (undos_of now.item) ≡ map bare_undo (undos_of now'.item) =
      undos_alike s.mappings (reverse now.done.items) (undos_of now.item) (undos_of now'.item) now.undos
      (subst (λ (ms : List Mapping). AreUndosOf ms (reverse now.done.items) (undos_of now'.item)) (sym list_alike)
      (subst (λ (ops : List PageOp). AreUndosOf s'.mappings (reverse ops) (undos_of now'.item)) (sym did) now'.undos)) in
      more_alike new new' now.item now'.item now.items now'.items
      (item_same now.item now'.item bind (ap withdrawn_by now.kind ∙ sym (ap withdrawn_by now'.kind)) (ap done_by now.kind ∙ did ∙ sym (ap done_by now'.kind)) undos)

  pub applied_alike : (t t' : SpaceState) (request request' : Request) → bare_request request ≡ bare_request request' → t.room ≡ t'.room → IsApplied s t request → IsApplied s' t' request' → t ≡ t'
  applied_alike t t' request request' same room now now' =
      let ops : all_do s.mappings request.ops.items ≡ all_do s'.mappings request'.ops.items =
      ap (λ (ms : List Mapping). all_do ms request.ops.items) list_alike ∙ ap (λ (r : BareRequest). all_do s'.mappings r.ops) same in
      now.state ∙ ap (λ k. record (after_all (reverse (all_do s.mappings request.ops.items)) s) { room = k }) room
      ∙ ap (λ (x : SpaceState). record (after_all (reverse (all_do s.mappings request.ops.items)) x) { room = t'.room }) space
      ∙ ap (λ (done : List PageOp). record (after_all (reverse done) s') { room = t'.room }) ops
      ∙ sym now'.state

  -- the same item was withdrawn
  pub withdrawn_alike : (t t' : SpaceState) (new new' : JournalState) (n : ℕ) → t.room ≡ t'.room → IsWithdrawn s t j new n → IsWithdrawn s' t' j' new' n →
      (t ≡ t') × (bare_journal new ≡ bare_journal new')
  withdrawn_alike t t' new new' n room out out' =
      let before : list_before s j n ≡ list_before s' j' n = list_before_alike n in
      let ops : ops_at j n ≡ ops_at j' n = ops_at_alike j j' journal n in
      let undos : map bare_undo out.item.undos.items ≡ map bare_undo out'.item.undos.items =
      withdrawal_undos_alike (list_before s j n) (ops_at j n) s.mappings out.item.undos.items out'.item.undos.items out.undos
      (subst (λ (ms : List Mapping). AreUndosOfWithdrawal ms (ops_at j n) s.mappings out'.item.undos.items) (sym before)
      (subst (λ (done : List PageOp). AreUndosOfWithdrawal (list_before s' j' n) done s.mappings out'.item.undos.items) (sym ops)
      (subst (λ (ms : List Mapping). AreUndosOfWithdrawal (list_before s' j' n) (ops_at j' n) ms out'.item.undos.items) (sym list_alike) out'.undos))) in (
        out.state ∙ ap (λ k. record (after_withdrawal (list_before s j n) (ops_at j n) s) { room = k }) room
            ∙ ap (λ (x : SpaceState). record (after_withdrawal (list_before s j n) (ops_at j n) x) { room = t'.room }) space
            ∙ ap (λ (ms : List Mapping). record (after_withdrawal ms (ops_at j n) s') { room = t'.room }) before
            ∙ ap (λ (done : List PageOp). record (after_withdrawal (list_before s' j' n) done s') { room = t'.room }) ops
            ∙ sym out'.state,
        more_alike new new' out.item out'.item out.items out'.items
            (item_same out.item out'.item (ap bind_of out.kind ∙ sym (ap bind_of out'.kind)) (ap withdrawn_by out.kind ∙ sym (ap withdrawn_by out'.kind))
            (ap done_by out.kind ∙ sym (ap done_by out'.kind))
            (sym (reverse-map bare_undo out.item.undos.items) ∙ ap (λ (us : List BareUndo). reverse us) undos ∙ reverse-map bare_undo out'.item.undos.items)),
      )

  -- the newest item was taken back
  pub rewound_alike : (t t' : SpaceState) (new new' : JournalState) → IsRewound s t j new → IsRewound s' t' j' new' → (t ≡ t') × (bare_journal new ≡ bare_journal new')
  rewound_alike t t' new new' now now' =
      let items : bare_item now.item ∷ map bare_item new.items ≡ bare_item now'.item ∷ map bare_item new'.items =
      ap (λ (x : JournalState). map bare_item x.items) (sym now.items) ∙ items_alike j j' journal ∙ ap (λ (x : JournalState). map bare_item x.items) now'.items in
      let undos : map bare_undo (undos_of now.item) ≡ map bare_undo (undos_of now'.item) =
      ap (λ (item : BareItem). item.undos) (head_same (bare_item now.item) (bare_item now'.item) (map bare_item new.items) (map bare_item new'.items) items) in (
        now.space ∙ ap (λ (x : SpaceState). reverted_by x (undos_of now.item)) space
            ∙ reverted_by_bare s' (undos_of now.item) ∙ ap (λ (us : List BareUndo). reverted_by s' (all_filled us)) undos
            ∙ sym (reverted_by_bare s' (undos_of now'.item)) ∙ sym now'.space,
        journal_same new.limit new'.limit new.first new'.first (map bare_item new.items) (map bare_item new'.items)
            (ap (λ (x : JournalState). x.limit) (sym now.items) ∙ limit_alike j j' journal ∙ ap (λ (x : JournalState). x.limit) now'.items)
            (ap (λ (x : JournalState). x.first) (sym now.items) ∙ first_alike j j' journal ∙ ap (λ (x : JournalState). x.first) now'.items)
            (tail_same (bare_item now.item) (bare_item now'.item) (map bare_item new.items) (map bare_item new'.items) items),
      )

  earlier_alike : (to : ℕ) → kept_by (earlier j to) ≡ kept_by (earlier j' to)
  earlier_alike to =
      kept_by_bare (earlier j to)
      ∙ ap kept_bare (sym (drop-map bare_item (next j - to) j.items) ∙ ap (drop (next j - to)) (items_alike j j' journal)
      ∙ ap (λ n. drop (n - to) (map bare_item j'.items)) (next_alike j j' journal) ∙ drop-map bare_item (next j' - to) j'.items)
      ∙ sym (kept_by_bare (earlier j' to))

  -- the items below the same number were settled
  pub settled_alike : (t t' : SpaceState) (new new' : JournalState) (to : ℕ) → IsSettled s t j new to → IsSettled s' t' j' new' to →
      (t ≡ t') × (bare_journal new ≡ bare_journal new')
  settled_alike t t' new new' to now now' = (
    now.space ∙ ap (λ (x : SpaceState). released x (kept_by (earlier j to))) space ∙ ap (released s') (earlier_alike to) ∙ sym now'.space,
    ap bare_journal now.items
        ∙ journal_same j.limit j'.limit to to (map bare_item (take (next j - to) j.items)) (map bare_item (take (next j' - to) j'.items)) (limit_alike j j' journal) refl
        (sym (take-map bare_item (next j - to) j.items) ∙ ap (take (next j - to)) (items_alike j j' journal)
        ∙ ap (λ n. take (n - to) (map bare_item j'.items)) (next_alike j j' journal) ∙ take-map bare_item (next j' - to) j'.items)
        ∙ sym (ap bare_journal now'.items),
  )
