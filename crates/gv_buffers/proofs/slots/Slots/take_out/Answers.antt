use Rattle.std.proofs.Common.{rules, sym, subst, vec_capacity}
use Rattle.gv_buffers.specs.Slots.{SlotsState, AreVacant}
use Rattle.gv_buffers.specs.Keys.{entries_of}
use Rattle.gv_buffers.proofs.Keys.{taken, AreSound-taken, key_found}
use Rattle.gv_buffers.proofs.slots.Slots.take_out.Goals as goal

-- no name of the removal stands here, so a body that leaves the buffer in the slab is refused for what it does
pub invariant_of-self : goal.invariant_of-self
invariant_of-self c =
    let s = c.self.inside in
    let at = key_found c.deref.result.now s.keys.items c.args.index c.key_of-key.result c.deref.ensures.value c.key_of-key.ensures in
    let are : AreVacant (entries_of s.live s.keys.items) s.vacant.items = subst (λ (t : SlotsState). AreVacant t.entries t.vacant) (sym c.self.view_is) c.requires.vacant in
    rw c.push_reserved.ensures.capacity (AreSound-taken s.live _ s.keys.items s.vacant.items (vec_capacity s.vacant) c.args.index c.key_of-key.result c.self.invariant are at (search rules) (search rules))

pub returns-clause-updates : goal.returns-clause-updates
returns-clause-updates c =
    let s = c.self.inside in
    let at = key_found c.deref.result.now s.keys.items c.args.index c.key_of-key.result c.deref.ensures.value c.key_of-key.ensures in
    let are : AreVacant (entries_of s.live s.keys.items) s.vacant.items = subst (λ (t : SlotsState). AreVacant t.entries t.vacant) (sym c.self.view_is) c.requires.vacant in
    rw (← c.self.view_is) (taken s.live c.remove.new.self s.keys.items s.vacant.items (vec_capacity s.vacant) c.args.index c.key_of-key.result c.self.invariant are at c.remove.ensures.updates c.remove.ensures.len).updates

pub returns-clause-count : goal.returns-clause-count
returns-clause-count c =
    let s = c.self.inside in
    let at = key_found c.deref.result.now s.keys.items c.args.index c.key_of-key.result c.deref.ensures.value c.key_of-key.ensures in
    let are : AreVacant (entries_of s.live s.keys.items) s.vacant.items = subst (λ (t : SlotsState). AreVacant t.entries t.vacant) (sym c.self.view_is) c.requires.vacant in
    rw (← c.self.view_is) (taken s.live c.remove.new.self s.keys.items s.vacant.items (vec_capacity s.vacant) c.args.index c.key_of-key.result c.self.invariant are at c.remove.ensures.updates c.remove.ensures.len).count

pub returns-clause-vacant : goal.returns-clause-vacant
returns-clause-vacant c =
    let s = c.self.inside in
    let at = key_found c.deref.result.now s.keys.items c.args.index c.key_of-key.result c.deref.ensures.value c.key_of-key.ensures in
    let are : AreVacant (entries_of s.live s.keys.items) s.vacant.items = subst (λ (t : SlotsState). AreVacant t.entries t.vacant) (sym c.self.view_is) c.requires.vacant in
    rw c.push_reserved.ensures.items (taken s.live c.remove.new.self s.keys.items s.vacant.items (vec_capacity s.vacant) c.args.index c.key_of-key.result c.self.invariant are at c.remove.ensures.updates c.remove.ensures.len).are_vacant
