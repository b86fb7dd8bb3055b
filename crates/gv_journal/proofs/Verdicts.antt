-- The verdict on a request, operation by operation.
use Rattle.std.proofs.Common.{◌≡◌, inl, inr, ℕ, ◌+◌, ◌<◌, ◌≤◌, List, [], ◌∷◌, ◌++◌, length, drop, get_or, reverse, Option, Some, None, refl, ap, sym, ◌∙◌, subst, arith, append_assoc}
use Rattle.std.proofs.lemmas.List.{drop_more, reverse-append}
use Rattle.std.proofs.lemmas.Option.{slice_get-get_or}
use Rattle.gv_types.specs.declared.fault.Fault.{Fault}
use Rattle.gv_types.specs.declared.fault.Fault.TheVariants.{TooManyMappings, OutOfMemory}
use Rattle.gv_types.specs.declared.mapping.Mapping.{Mapping}
use Rattle.gv_types.specs.declared.operation.Op.{Op}
use Rattle.gv_types.specs.declared.operation.PageOp.{PageOp}
use Rattle.gv_ranges.specs.Edit.{edited_by_all}
use Rattle.gv_space.specs.State.{SpaceState}
use Rattle.gv_space.specs.Refusal.{first_of, operation_fault}
use Rattle.gv_journal.specs.Applying.{after_op, after_all, does, all_do}
use Rattle.gv_journal.specs.Verdict.{request_op_fault, refusal, refused_or, verdict_from, ComesBefore, IsUnmapAllAt}
use Rattle.gv_journal.specs.Work.{IsOpRefused, IsUnmapAll, IsRefusedInTurn}
use Rattle.gv_journal.specs.declared.refusal.Refusal.{Refusal}
use Rattle.gv_journal.proofs.Limits.{limits_fault-room}
use Rattle.gv_journal.proofs.Changing.{after_all-mappings}

after_all-append : (later earlier : List PageOp) (s : SpaceState) → after_all (later ++ earlier) s ≡ after_all later (after_all earlier s)
after_all-append [] earlier s = refl
after_all-append (op ∷ later) earlier s = ap (λ (t : SpaceState). after_op t op) (after_all-append later earlier s)

at_or_later : (from : ℕ) (o : Option Fault) (later : Option Refusal) (r : Refusal) → (later ≡ Some r → from + 1 ≤ r.op) → refused_or from o later ≡ Some r → from ≤ r.op
at_or_later from (Some fault) later r more h =
    let here : refusal from fault ≡ r = cc in
    let same : from ≡ r.op = ap (λ (x : Refusal). x.op) here in
    omega (arith, same)
at_or_later from None later r more h = omega (arith, more h)

-- a verdict names no operation before the first one
pub verdict_later : (from : ℕ) (s : SpaceState) (ops : List Op) (r : Refusal) → verdict_from from s ops ≡ Some r → from ≤ r.op
verdict_later from s [] r is = cc
verdict_later from s (op ∷ ops) r is =
    at_or_later from (request_op_fault s op) (verdict_from (from + 1) (after_all (reverse (does s.mappings op)) s) ops) r
    (verdict_later (from + 1) (after_all (reverse (does s.mappings op)) s) ops r) is

-- the operations from an index on
pub rest_of : (ops : List Op) (i : ℕ) (op : Op) → i < length ops → op ≡ get_or ops i op → drop i ops ≡ op ∷ drop (i + 1) ops
rest_of ops i op below is = drop_more ops i op below ∙ ap (λ (x : Op). x ∷ drop (i + 1) ops) (sym is)

-- an operation's turn: the space is what the operations before it made of it, but for its room
pub turn_room : (s now : SpaceState) (op : Op) → now ≡ record s { room = now.room } → request_op_fault now op ≡ request_op_fault s op
turn_room s now op is =
    ap (λ (t : SpaceState). request_op_fault t op) is
    ∙ ap (λ (o : Option Fault). first_of (operation_fault s op) o) (limits_fault-room s now.room (does s.mappings op))

-- the verdict at a turn
pub verdict_at : (s now : SpaceState) (done : List PageOp) (ops : List Op) (i : ℕ) (op : Op) → i < length ops → op ≡ get_or ops i op →
    now ≡ record (after_all (reverse done) s) { room = now.room } → verdict_from 0 s ops ≡ verdict_from i (after_all (reverse done) s) (drop i ops) →
    verdict_from 0 s ops ≡ refused_or i (request_op_fault now op) (verdict_from (i + 1) (after_all (reverse (does now.mappings op)) (after_all (reverse done) s)) (drop (i + 1) ops))
verdict_at s now done ops i op below is state was =
    let here = after_all (reverse done) s in
    let list_is : now.mappings ≡ here.mappings = ap (λ (t : SpaceState). t.mappings) state in
    was ∙ ap (λ (rest : List Op). verdict_from i here rest) (rest_of ops i op below is)
    ∙ ap (λ (o : Option Fault). refused_or i o (verdict_from (i + 1) (after_all (reverse (does here.mappings op)) here) (drop (i + 1) ops))) (sym (turn_room here now op state))
    ∙ ap (λ (ms : List Mapping). refused_or i (request_op_fault now op) (verdict_from (i + 1) (after_all (reverse (does ms op)) here) (drop (i + 1) ops))) (sym list_is)

-- an operation that is not refused passes the verdict on
pub verdict_more : (s now : SpaceState) (done more : List PageOp) (ops : List Op) (i : ℕ) (op : Op) → i < length ops → op ≡ get_or ops i op →
    now ≡ record (after_all (reverse done) s) { room = now.room } → verdict_from 0 s ops ≡ verdict_from i (after_all (reverse done) s) (drop i ops) →
    request_op_fault now op ≡ None → more ≡ done ++ does now.mappings op →
    verdict_from 0 s ops ≡ verdict_from (i + 1) (after_all (reverse more) s) (drop (i + 1) ops)
verdict_more s now done more ops i op below is state was passes grown =
    let ops_are : reverse more ≡ reverse (does now.mappings op) ++ reverse done = ap (λ (xs : List PageOp). reverse xs) grown ∙ reverse-append done (does now.mappings op) in
    verdict_at s now done ops i op below is state was
    ∙ ap (λ (o : Option Fault). refused_or i o (verdict_from (i + 1) (after_all (reverse (does now.mappings op)) (after_all (reverse done) s)) (drop (i + 1) ops))) passes
    ∙ ap (λ (t : SpaceState). verdict_from (i + 1) t (drop (i + 1) ops))
    (sym (after_all-append (reverse (does now.mappings op)) (reverse done) s) ∙ ap (λ (xs : List PageOp). after_all xs s) (sym ops_are))

-- what the operations do from an index on
pub all_do_more : (s now : SpaceState) (done more : List PageOp) (ops : List Op) (i : ℕ) (op : Op) → i < length ops → op ≡ get_or ops i op →
    all_do s.mappings ops ≡ done ++ all_do now.mappings (drop i ops) → (new : SpaceState) →
    new ≡ record (after_all (reverse (does now.mappings op)) now) { room = new.room } → more ≡ done ++ does now.mappings op →
    all_do s.mappings ops ≡ more ++ all_do new.mappings (drop (i + 1) ops)
all_do_more s now done more ops i op below is was new state grown =
    let list_is : new.mappings ≡ edited_by_all (reverse (does now.mappings op)) now.mappings = ap (λ (t : SpaceState). t.mappings) state ∙ after_all-mappings (reverse (does now.mappings op)) now in
    was ∙ ap (λ (rest : List Op). done ++ all_do now.mappings rest) (rest_of ops i op below is)
    ∙ sym (append_assoc done (does now.mappings op) (all_do (edited_by_all (reverse (does now.mappings op)) now.mappings) (drop (i + 1) ops)))
    ∙ ap (λ (xs : List PageOp). xs ++ all_do (edited_by_all (reverse (does now.mappings op)) now.mappings) (drop (i + 1) ops)) (sym grown)
    ∙ ap (λ (ms : List Mapping). more ++ all_do ms (drop (i + 1) ops)) (sym list_is)

unmap_all_at : (ops : List Op) (i : ℕ) (op : Op) → i < length ops → op ≡ get_or ops i op → IsUnmapAll op → IsUnmapAllAt ops i
unmap_all_at ops i op below is all = record { buffer = all.buffer; is = slice_get-get_or ops i op below ∙ ap (λ (x : Op). Some x) (sym is ∙ all.is) }

-- want of memory that no fault of its own operation precedes
comes_before : (ops : List Op) (i : ℕ) (s : SpaceState) (v : Option Refusal) → v ≡ verdict_from (i + 1) s (drop (i + 1) ops) → ComesBefore i ops v
comes_before ops i s None is = tt
comes_before ops i s (Some r) is = inl (omega (arith, verdict_later (i + 1) s (drop (i + 1) ops) r (sym is)))

-- an operation was refused
pub refused_at_turn : (s now : SpaceState) (done : List PageOp) (ops : List Op) (i : ℕ) (op : Op) (fault : Fault) → i < length ops → op ≡ get_or ops i op →
    now ≡ record (after_all (reverse done) s) { room = now.room } → verdict_from 0 s ops ≡ verdict_from i (after_all (reverse done) s) (drop i ops) →
    IsOpRefused now op fault → IsRefusedInTurn s ops (refusal i fault)
refused_at_turn s now done ops i op fault below is state was (inl why) =
    inl (verdict_at s now done ops i op below is state was
    ∙ ap (λ (o : Option Fault). refused_or i o (verdict_from (i + 1) (after_all (reverse (does now.mappings op)) (after_all (reverse done) s)) (drop (i + 1) ops))) why)
refused_at_turn s now done ops i op fault below is state was (inr (memory, inl none)) =
    let next = after_all (reverse (does now.mappings op)) (after_all (reverse done) s) in
    let v : verdict_from 0 s ops ≡ verdict_from (i + 1) next (drop (i + 1) ops) =
    verdict_at s now done ops i op below is state was ∙ ap (λ (o : Option Fault). refused_or i o (verdict_from (i + 1) next (drop (i + 1) ops))) none in
    inr (memory, (inr below, comes_before ops i next (verdict_from 0 s ops) v))
refused_at_turn s now done ops i op fault below is state was (inr (memory, inr all)) =
    let next = after_all (reverse (does now.mappings op)) (after_all (reverse done) s) in
    let v : verdict_from 0 s ops ≡ Some (refusal i TooManyMappings) =
    verdict_at s now done ops i op below is state was ∙ ap (λ (o : Option Fault). refused_or i o (verdict_from (i + 1) next (drop (i + 1) ops))) all.1 in
    inr (memory, (inr below, subst (λ (x : Option Refusal). ComesBefore i ops x) (sym v) (inr (inr (unmap_all_at ops i op below is all.0, refl)))))

-- memory for the request itself was wanted
pub refused_at_first : (s : SpaceState) (ops : List Op) → IsRefusedInTurn s ops (refusal 0 OutOfMemory)
refused_at_first s ops = inr (refl, (inl refl, first (verdict_from 0 s ops)))
  where
    first : (v : Option Refusal) → ComesBefore 0 ops v
    first None = tt
    first (Some r) = inr (inl refl)
