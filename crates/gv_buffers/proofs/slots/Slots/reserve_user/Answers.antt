use Rattle.std.proofs.Common.{rules, ◌≡◌, ◌∙◌, Some, false, sym, ap, subst, vec_capacity}
use Rattle.std.specs.Option.{option_map}
use Rattle.gv_buffers.specs.Slots.{SlotsState, get, buffer_at, AreNoted}
use Rattle.gv_buffers.proofs.NotedUsers.{noted_in_slot}
use Rattle.gv_buffers.proofs.Keys.{written, buffer_in-same, key_found}
use Rattle.gv_buffers.proofs.slots.Slots.reserve_user.Goals as goal

pub invariant_of-self : goal.invariant_of-self
invariant_of-self c =
    let s = c.self.inside in
    let at = key_found c.deref.result.now s.keys.items c.args.index c.key_of-key.result c.deref.ensures.value c.key_of-key.ensures in
    let is = written s.live s.keys.items (vec_capacity s.vacant) c.args.index c.key_of-key.result c.index_mut.result.now c.reserve_user.new.self c.self.invariant at c.index_mut.ensures.value in
    is.sound

pub returns-in_err-reserve_user-clause-same : goal.returns-in_err-reserve_user-clause-same
returns-in_err-reserve_user-clause-same c =
    let s = c.self.inside in
    let at = key_found c.deref.result.now s.keys.items c.args.index c.key_of-key.result c.deref.ensures.value c.key_of-key.ensures in
    let is = written s.live s.keys.items (vec_capacity s.vacant) c.args.index c.key_of-key.result c.index_mut.result.now c.reserve_user.new.self c.self.invariant at c.index_mut.ensures.value in
    rw (← c.self.view_is) (buffer_in-same s.live _ s.keys.items (vec_capacity s.vacant) c.args.index _ _ is c.in_err-reserve_user.ensures.same)

pub invariant_of-self-then-not-branch : goal.invariant_of-self-then-not-branch
invariant_of-self-then-not-branch c =
    let s = c.self.inside in
    let at = key_found c.deref.result.now s.keys.items c.args.index c.key_of-key.result c.deref.ensures.value c.key_of-key.ensures in
    let is = written s.live s.keys.items (vec_capacity s.vacant) c.args.index c.key_of-key.result c.index_mut.result.now c.reserve_user.new.self c.self.invariant at c.index_mut.ensures.value in
    is.sound

pub returns-then-not-branch-clause-same : goal.returns-then-not-branch-clause-same
returns-then-not-branch-clause-same c =
    let s = c.self.inside in
    let at = key_found c.deref.result.now s.keys.items c.args.index c.key_of-key.result c.deref.ensures.value c.key_of-key.ensures in
    let is = written s.live s.keys.items (vec_capacity s.vacant) c.args.index c.key_of-key.result c.index_mut.result.now c.reserve_user.new.self c.self.invariant at c.index_mut.ensures.value in
    rw (← c.self.view_is) (buffer_in-same s.live _ s.keys.items (vec_capacity s.vacant) c.args.index _ _ is c.in_ok-reserve_user.ensures.same)

pub returns-then-not-branch-clause-noted : goal.returns-then-not-branch-clause-noted
returns-then-not-branch-clause-noted c =
    let s = c.self.inside in
    let at = key_found c.deref.result.now s.keys.items c.args.index c.key_of-key.result c.deref.ensures.value c.key_of-key.ensures in
    let is = written s.live s.keys.items (vec_capacity s.vacant) c.args.index c.key_of-key.result c.index_mut.result.now c.reserve_user.new.self c.self.invariant at c.index_mut.ensures.value in
    let was = ap (λ (t : SlotsState). get t.entries c.args.index) (sym c.self.view_is) ∙ is.was in
    let known : c.in_ok-reserve_user.field-0 ≡ false = search rules in
    noted_in_slot c.args.indices.now c.args.index c.args.job (Some c.index_mut.result.now) (c.in_ok-reserve_user.ensures.user known)
    (subst (AreNoted c.args.indices.now c.args.index) (ap (option_map (buffer_at c.args.index)) was) c.requires.noted)

pub invariant_of-self-2 : goal.invariant_of-self-2
invariant_of-self-2 c =
    let s = c.self.inside in
    let at = key_found c.deref.result.now s.keys.items c.args.index c.key_of-key.result c.deref.ensures.value c.key_of-key.ensures in
    let is = written s.live s.keys.items (vec_capacity s.vacant) c.args.index c.key_of-key.result c.index_mut.result.now c.reserve_user.new.self c.self.invariant at c.index_mut.ensures.value in
    is.sound

pub returns-clause-same : goal.returns-clause-same
returns-clause-same c =
    let s = c.self.inside in
    let at = key_found c.deref.result.now s.keys.items c.args.index c.key_of-key.result c.deref.ensures.value c.key_of-key.ensures in
    let is = written s.live s.keys.items (vec_capacity s.vacant) c.args.index c.key_of-key.result c.index_mut.result.now c.reserve_user.new.self c.self.invariant at c.index_mut.ensures.value in
    rw (← c.self.view_is) (buffer_in-same s.live _ s.keys.items (vec_capacity s.vacant) c.args.index _ _ is c.in_ok-reserve_user.ensures.same)
