use Rattle.std.specs.Prelude.{◌≡◌, Some, vec_capacity}
use Rattle.std.proofs.Common.{rules}
use Rattle.gv_buffers.specs.Keys.{key_at}
use Rattle.gv_buffers.proofs.Keys.{written, buffer_in-same}
use Rattle.gv_buffers.proofs.slots.Slots.shrink_at.Goals as goal

pub invariant_of-self : goal.invariant_of-self
invariant_of-self c =
    let s = c.self.inside in
    let at : key_at s.keys.items c.args.index ≡ Some c.in-Some-Some.key = search rules in
    let is = written s.live s.keys.items (vec_capacity s.vacant) c.args.index c.in-Some-Some.key c.index_mut.result.now c.shrink.new.self c.self.invariant at c.index_mut.ensures.value in
    is.sound

pub returns-in-Some-Some-clause-same : goal.returns-in-Some-Some-clause-same
returns-in-Some-Some-clause-same c =
    let s = c.self.inside in
    let at : key_at s.keys.items c.args.index ≡ Some c.in-Some-Some.key = search rules in
    let is = written s.live s.keys.items (vec_capacity s.vacant) c.args.index c.in-Some-Some.key c.index_mut.result.now c.shrink.new.self c.self.invariant at c.index_mut.ensures.value in
    rw (← c.self.view_is) (buffer_in-same s.live _ s.keys.items (vec_capacity s.vacant) c.args.index _ _ is c.shrink.ensures)
