use Rattle.std.proofs.Common.{◌∙◌, refl, arith, ap, length}
use Rattle.gv_buffers.specs.Buffers.{BuffersState, next_index}
use Rattle.gv_buffers.proofs.MakeAndDestroy.{next_from_slots, next_few}
use Rattle.gv_buffers.proofs.buffers.Buffers.next_index.Goals as goal

pub returns-clause-index : goal.returns-clause-index
returns-clause-index c =
    c.next_index.ensures ∙ next_from_slots c.self.inside.slots.entries c.self.inside.slots.vacant _ refl c.self.invariant.vacant ∙ ap next_index c.self.view_is

pub returns-clause-few : goal.returns-clause-few
returns-clause-few c =
    let live = ap (λ (t : BuffersState). length t.live) c.self.view_is in
    let limit = ap (λ (t : BuffersState). t.limit) c.self.view_is in
    let few = next_few c.self.inside.slots.entries c.self.inside.slots.vacant c.self.inside.limit _ refl c.self.invariant.vacant (omega (arith, live, limit, c.requires)) c.self.invariant.within in
    omega (arith, few, c.next_index.ensures, c.self.invariant.limit)
