use Rattle.std.proofs.Common.{◌≡◌, ◌<◌, Some, None, List, rules, sym, ◌∙◌, ap, subst, position}
use Rattle.std.proofs.lemmas.Fn.{filter_same}
use Rattle.std.proofs.lemmas.List.Quantifiers.{all_pairs_remove}
use Rattle.gv_buffers.specs.declared.usage.User.{User}
use Rattle.gv_buffers.specs.Ascending.{AreAscending}
use Rattle.gv_buffers.proofs.UsersAfterJoin.{is_of}
use Rattle.gv_buffers.proofs.Ascending.{at-position, users_without-at, users_without-absent}
use Rattle.gv_buffers.proofs.users.Users.leave.Goals as goal

pub returns-then-not-self-clause-without : goal.returns-then-not-self-clause-without
returns-then-not-self-clause-without c = filter_same _ _ _ (λ x b f' k. search rules) _ _ c.retain.ensures.filtered

pub invariant_of-self-in-Some : goal.invariant_of-self-in-Some
invariant_of-self-in-Some c =
    let users : List User = c.args.self.now.list.items in
    let found : position (is_of c.args.job) users ≡ Some c.in-Some.index = ap (position (is_of c.args.job)) (sym c.deref.ensures.value) ∙ sym c.search.ensures ∙ c.in-Some.is in
    let at = at-position users c.args.job c.in-Some.index found in
    record {
      in_order = λ known. subst AreAscending (sym c.remove.ensures.items)
          (all_pairs_remove (λ a b. a.job < b.job) users c.in-Some.index at.within (c.args.self.now.in_order known));
    }

pub returns-in-Some-clause-without : goal.returns-in-Some-clause-without
returns-in-Some-clause-without c =
    let users : List User = c.args.self.now.list.items in
    let found : position (is_of c.args.job) users ≡ Some c.in-Some.index = ap (position (is_of c.args.job)) (sym c.deref.ensures.value) ∙ sym c.search.ensures ∙ c.in-Some.is in
    c.remove.ensures.items ∙ users_without-at users c.args.job c.in-Some.index (c.args.self.now.in_order c.if-not-self.false) (at-position users c.args.job c.in-Some.index found)

pub returns-in_default-clause-without : goal.returns-in_default-clause-without
returns-in_default-clause-without c =
    let users : List User = c.args.self.now.list.items in
    let missed : position (is_of c.args.job) users ≡ None = ap (position (is_of c.args.job)) (sym c.deref.ensures.value) ∙ sym c.search.ensures ∙ c.in_default.is in
    sym (users_without-absent c.args.job users missed)
