use Rattle.std.proofs.Common.{rules, ◌≡◌, ◌∙◌, ℕ, List, [], ◌∷◌, ◌++◌, ◌+◌, ◌≤◌, length, vec_len, sym, ap, subst, arith}
use Rattle.std.proofs.lemmas.List.{length-append}
use Rattle.gv_types.specs.declared.request.Request.{Request}
use Rattle.gv_sync.specs.Seats.{SeatState}
use Rattle.gv_vm.specs.declared.outcome.Outcome.{Outcome}
use Rattle.gv_queues.specs.Taking.{TakerState}
use Rattle.gv_queues.specs.Working.{RaisedJustOwed}
use Rattle.gv_queues.proofs.Owed.{owed_more, owed_same, owed_still}
use Rattle.gv_queues.proofs.worker.work.Goals.{in-None, in-Some+then-is_err, in-Some+else-is_err+in_default, in-Some+else-is_err+in-Some-take+in-Err}
use Rattle.gv_queues.proofs.worker.work.Goals as goal

pub loop-preserved : goal.loop-preserved
loop-preserved g c =
    let was = c.loop.invariant in
    let took = c.in-Some-take.ensures.taken in
    let request : Request = c.in-Some-take.taken.request in
    let gave : List Outcome = c.loop.gave.items in let taken : List Request = c.loop.taker.taken in
    let gave' : List Outcome = gave ++ c.in-Ok.outcome ∷ [] in let taken' : List Request = taken ++ request ∷ [] in
    let grown : c.push_reserved.new.self.items ≡ gave' = c.push_reserved.ensures.items ∙ ap (λ (l : List Outcome). l ++ c.in-Ok.outcome ∷ []) c.reserve.ensures.items in
    let longer : c.take.new.self.taken ≡ taken' = ap (λ (t : TakerState). t.taken) took.taken in
    let even : length taken ≡ length gave = search rules in
    let more : RaisedJustOwed gave' taken' c.attend.new.seat = owed_more gave taken c.in-Ok.outcome request c.loop.seat c.attend.new.seat even was.7 c.in-Ok.ensures.raised in
    let taken_len : length c.take.new.self.taken ≡ vec_len c.loop.gave + 1 = ap (λ (l : List Request). length l) longer ∙ (length-append taken (request ∷ []) ∙ ap (λ (n : ℕ). n + 1) was.4) in
    let gave_len : vec_len c.push_reserved.new.self ≡ vec_len c.loop.gave + 1 = c.push_reserved.ensures.len ∙ ap (λ (n : ℕ). n + 1) c.reserve.ensures.len in (
      search rules,
      search rules,
      search rules,
      search rules,
      taken_len ∙ sym gave_len,
      search rules,
      search rules,
      subst (λ (l : List Outcome). RaisedJustOwed l c.take.new.self.taken c.attend.new.seat) (sym grown)
          (subst (λ (l : List Request). RaisedJustOwed gave' l c.attend.new.seat) (sym longer) more),
      c.in-Ok.ensures.raised.halvings ∙ was.8,
    )

pub new-requires-clause-raised : goal.new-requires-clause-raised
new-requires-clause-raised g c = elim c.match-next.branch [
  | in-None w ↦ search rules
  | in-Some+then-is_err w ↦ search rules
  | in-Some+else-is_err+in_default w ↦ search rules
  | in-Some+else-is_err+in-Some-take+in-Err w ↦ (
      let was = c.loop.invariant in
      let took = w.in-Some-take.ensures.taken in
      let request : Request = w.in-Some-take.taken.request in
      let gave : List Outcome = c.loop.gave.items in let taken : List Request = c.loop.taker.taken in
      let few : length gave ≤ length taken = let e : length taken ≡ length gave = search rules in omega (arith, e) in
      let more : RaisedJustOwed gave (taken ++ request ∷ []) w.attend.new.seat =
      owed_same gave taken request w.attend.new.seat few (owed_still gave taken c.loop.seat w.attend.new.seat was.7 w.in-Err.ensures.raised) in
      let same : c.match-next.gave.items ≡ gave = ap (λ (v : _). v.items) w.gave-is ∙ w.reserve.ensures.items in
      let longer : c.match-next.taker.taken ≡ taken ++ request ∷ [] = ap (λ (t : TakerState). t.taken) (w.taker-is ∙ took.taken) in
      subst (λ (s : SeatState). RaisedJustOwed c.match-next.gave.items c.match-next.taker.taken s) (sym w.seat-is)
      (subst (λ (l : List Outcome). RaisedJustOwed l c.match-next.taker.taken w.attend.new.seat) (sym same)
      (subst (λ (l : List Request). RaisedJustOwed gave l w.attend.new.seat) (sym longer) more))
      )
]
