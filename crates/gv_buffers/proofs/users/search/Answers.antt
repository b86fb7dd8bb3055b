use Rattle.std.proofs.Common.{rules, sym}
use Rattle.std.proofs.lemmas.List.Sorted.{answers_always}
use Rattle.gv_buffers.specs.declared.usage.User.{User}
use Rattle.gv_buffers.proofs.Ascending.{position-at, position-absent, searched_at, searched_none}
use Rattle.gv_buffers.proofs.users.search.Goals as goal

-- the closure gives a user's job
pub returns-in-Ok : goal.returns-in-Ok
returns-in-Ok c =
    sym (position-at c.args.users.now c.args.job c.in-Ok.index c.requires
    (searched_at c.args.users.now c.requires c.args.job c.in-Ok.index c.in-Ok.ensures.bound
    (c.in-Ok.ensures.position (λ (u : User). u.job) (answers_always _ _ _ (λ f a r g called. search rules)))))

pub returns-in-Err : goal.returns-in-Err
returns-in-Err c =
    sym (position-absent c.args.users.now c.args.job
    (searched_none c.args.users.now c.requires c.args.job c.in-Err.field-0 c.in-Err.ensures.bound
    (c.in-Err.ensures.position (λ (u : User). u.job) (answers_always _ _ _ (λ f a r g called. search rules)))))
