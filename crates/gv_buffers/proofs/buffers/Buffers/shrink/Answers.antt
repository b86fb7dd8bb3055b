use Rattle.gv_buffers.proofs.JoinAndLeave.{unchanged}
use Rattle.gv_buffers.proofs.buffers.Buffers.shrink.Goals as goal

pub invariant_of-self : goal.invariant_of-self
invariant_of-self c =
    let a = c.self.inside in
    let b = c.shrink_buffers in
    rw c.shrink.ensures
    (unchanged a c.args.self.now b.new.self a.indices c.self.invariant c.self.view_is b.ensures.vacant b.ensures.length b.ensures.same (λ job index noted. noted)).sound

pub returns : goal.returns
returns c =
    let a = c.self.inside in
    let b = c.shrink_buffers in
    rw c.shrink.ensures
    (unchanged a c.args.self.now b.new.self a.indices c.self.invariant c.self.view_is b.ensures.vacant b.ensures.length b.ensures.same (λ job index noted. noted)).table
