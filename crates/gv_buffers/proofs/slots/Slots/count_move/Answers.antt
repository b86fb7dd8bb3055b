use Rattle.std.specs.Prelude.{vec_capacity}
use Rattle.gv_buffers.specs.Slots.{after_move}
use Rattle.gv_buffers.proofs.Keys.{written, buffer_in-written, key_found}
use Rattle.gv_buffers.proofs.slots.Slots.count_move.Goals as goal

pub invariant_of-self : goal.invariant_of-self
invariant_of-self c =
    let s = c.self.inside in
    let at = key_found c.deref.result.now s.keys.items c.args.index c.key_of.result c.deref.ensures.value c.key_of.ensures in
    (written s.live s.keys.items (vec_capacity s.vacant) c.args.index c.key_of.result c.index_mut.result.now c.count_move.new.self c.self.invariant at c.index_mut.ensures.value).sound

pub returns-clause-here : goal.returns-clause-here
returns-clause-here c =
    let s = c.self.inside in
    let at = key_found c.deref.result.now s.keys.items c.args.index c.key_of.result c.deref.ensures.value c.key_of.ensures in
    rw (← c.self.view_is) (buffer_in-written (after_move c.args.how) s.live _ s.keys.items (vec_capacity s.vacant) c.args.index _ _
    (written s.live s.keys.items (vec_capacity s.vacant) c.args.index c.key_of.result c.index_mut.result.now c.count_move.new.self c.self.invariant at c.index_mut.ensures.value) (c.count_move.ensures c.args.index))

pub returns-clause-others : goal.returns-clause-others
returns-clause-others c =
    let s = c.self.inside in
    let at = key_found c.deref.result.now s.keys.items c.args.index c.key_of.result c.deref.ensures.value c.key_of.ensures in
    rw (← c.self.view_is) (written s.live s.keys.items (vec_capacity s.vacant) c.args.index c.key_of.result c.index_mut.result.now c.count_move.new.self c.self.invariant at c.index_mut.ensures.value).others
