use Rattle.std.proofs.Common.{◌≡◌, ◌<◌, List, ◌∷◌, [], arith, length, sym, ap, Some, None, Option, is_some, subst, refl, reverse, false, vec_len}
use Rattle.std.proofs.lemmas.Bool.{eqb-true}
use Rattle.gv_types.specs.declared.request.Point.{Point}
use Rattle.gv_sync.specs.Sights.{Sight}
use Rattle.gv_vm.specs.World.{QueueState}
use Rattle.gv_vm.specs.QueueEvents.{TookFront}
use Rattle.gv_vm.proofs.queue.Queue.take.Goals as goal

none_left : {X : Type 0} (xs : List X) → length xs ≡ 0 → xs ≡ []
none_left [] h = refl
none_left (x ∷ xs) h = absurd (omega arith)

none_there : {X : Type 0} (o : Option X) → is_some o ≡ false → o ≡ None
none_there None h = refl
none_there (Some x) h = cc

pub returns-clause-took : goal.returns-clause-took
returns-clause-took c = λ _.
    let empty : vec_len c.self.inside.owed ≡ 0 = eqb-true (vec_len c.self.inside.owed) 0 (sym c.if-not-is_empty.ensures) in
    let none : length c.self.inside.owed.items ≡ 0 = omega arith in
    let items : c.self.inside.waiting.items ≡ c.in-Some.request ∷ c.pop_front.new.self.items = c.in-Some.ensures.items in
    let count : 0 < length c.self.inside.waiting.items = omega (arith, ap length items) in
    let free : c.self.inside.hand ≡ None = none_there c.self.inside.hand (grind arith) in
    subst (λ (q : QueueState). TookFront q (record { put = c.self.inside.put; waiting = c.pop_front.new.self.items; hand = Some (record { request = c.in-Some.request; reached = c.new.result.items; lacked = None }); owed = reverse c.self.inside.owed.items })) c.self.view_is
    (record {
      may = record { waits = count; free = free; paid = ap (λ (ps : List Point). reverse ps) (none_left c.self.inside.owed.items none) };
      request = c.in-Some.request;
      later = c.pop_front.new.self.items;
      front = items;
      state = ap (λ (ss : List Sight). (let q : QueueState = record { put = c.self.inside.put; waiting = c.pop_front.new.self.items; hand = Some (record { request = c.in-Some.request; reached = ss; lacked = None }); owed = reverse c.self.inside.owed.items } in q)) c.new.ensures.items;
    })
