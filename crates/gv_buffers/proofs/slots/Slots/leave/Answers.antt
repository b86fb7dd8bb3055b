use Rattle.std.specs.Prelude.{◌≡◌, Some, vec_capacity}
use Rattle.std.proofs.Common.{rules}
use Rattle.gv_buffers.specs.Keys.{key_at}
use Rattle.gv_buffers.proofs.Keys.{written}
use Rattle.gv_buffers.proofs.slots.Slots.leave.Goals as goal

pub invariant_of-self : goal.invariant_of-self
invariant_of-self c =
    let s = c.self.inside in
    let at : key_at s.keys.items c.args.index ≡ Some c.in-Some-Some.key = search rules in
    (written s.live s.keys.items (vec_capacity s.vacant) c.args.index c.in-Some-Some.key c.index_mut.result.now (record c.index_mut.result.now { users = c.leave.new.self }) c.self.invariant at c.index_mut.ensures.value).sound

pub returns-in-Some-Some-clause-others : goal.returns-in-Some-Some-clause-others
returns-in-Some-Some-clause-others c =
    let s = c.self.inside in
    let at : key_at s.keys.items c.args.index ≡ Some c.in-Some-Some.key = search rules in
    rw (← c.self.view_is) (written s.live s.keys.items (vec_capacity s.vacant) c.args.index c.in-Some-Some.key c.index_mut.result.now (record c.index_mut.result.now { users = c.leave.new.self }) c.self.invariant at c.index_mut.ensures.value).others
