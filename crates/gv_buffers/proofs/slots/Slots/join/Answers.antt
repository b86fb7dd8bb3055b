use Rattle.std.specs.Prelude.{vec_capacity}
use Rattle.gv_buffers.proofs.Keys.{written, key_found}
use Rattle.gv_buffers.proofs.slots.Slots.join.Goals as goal

pub invariant_of-self : goal.invariant_of-self
invariant_of-self c =
    let s = c.self.inside in
    let at = key_found c.deref.result.now s.keys.items c.args.index c.key_of-key.result c.deref.ensures.value c.key_of-key.ensures in
    (written s.live s.keys.items (vec_capacity s.vacant) c.args.index c.key_of-key.result c.index_mut.result.now (record c.index_mut.result.now { users = c.join.new.self }) c.self.invariant at c.index_mut.ensures.value).sound

pub returns-clause-others : goal.returns-clause-others
returns-clause-others c =
    let s = c.self.inside in
    let at = key_found c.deref.result.now s.keys.items c.args.index c.key_of-key.result c.deref.ensures.value c.key_of-key.ensures in
    rw (← c.self.view_is) (written s.live s.keys.items (vec_capacity s.vacant) c.args.index c.key_of-key.result c.index_mut.result.now (record c.index_mut.result.now { users = c.join.new.self }) c.self.invariant at c.index_mut.ensures.value).others
