use Rattle.std.proofs.Common.{◌≡◌, ◌-◌, true, length, arith, List, sym, subst}
use Rattle.gv_buffers.specs.declared.usage.User.{User}
use Rattle.gv_buffers.specs.Ascending.{AreAscending}
use Rattle.gv_buffers.proofs.Ascending.{below-last}
use Rattle.gv_buffers.proofs.users.Users.is_newest.Goals as goal

pub returns-in-Some : goal.returns-in-Some
returns-in-Some c =
    let users : List User = c.deref.result.now in
    let last : User = c.in-Some.last.now in
    let known : c.args.self.now.ascending ≡ true = c.if-not-self.false in
    let up : AreAscending users = subst AreAscending (sym c.deref.ensures.value) (c.args.self.now.in_order known) in
    let item = c.in-Some.ensures.item.3 in
    let below = below-last users c.args.job (length users - 1) last up (omega (arith, item.0)) (λ d. sym (item.1 d)) in
    rw (known, ← c.deref.ensures.value) (sym below)
