use Rattle.std.proofs.Common.{◌≡◌, ℕ, ◌+◌, List, reverse, sym, ◌∙◌, ap}
use Rattle.gv_types.specs.Operation.{in_pages}
use Rattle.gv_types.specs.declared.operation.PageOp.{PageOp}
use Rattle.gv_journal.specs.Applying.{after_op, after_all, does}
use Rattle.gv_journal.specs.Work.{HasRoom, IsOpRefused}
use Rattle.gv_journal.proofs.RangedOps.{does_itself, named_refused}
use Rattle.gv_journal.proofs.FaultsPassedOn.{if_err, on_ok}
use Rattle.gv_journal.proofs.applying.apply_named.Goals as goal

pub returns-clause-err : goal.returns-clause-err
returns-clause-err c =
    if_err c.apply_ranged.result (IsOpRefused c.args.space.now c.args.op.now)
    (λ fault is. named_refused c.args.space.now c.args.op.now c.apply_ranged.result fault c.requires.ranged is c.apply_ranged.ensures.fault)

pub returns-clause-state : goal.returns-clause-state
returns-clause-state c =
    let s = c.args.space.now in
    let new = c.apply_ranged.new.space in
    on_ok c.apply_ranged.result
    (new ≡ record (after_op s (in_pages c.args.op.now)) { room = new.room })
    (new ≡ record (after_all (reverse (does s.mappings c.args.op.now)) s) { room = new.room })
    (λ is. is ∙ ap (λ (ops : List PageOp). record (after_all (reverse ops) s) { room = new.room }) (sym (does_itself s.mappings c.args.op.now c.requires.ranged)))
    c.apply_ranged.ensures.state

pub returns-clause-room : goal.returns-clause-room
returns-clause-room c =
    on_ok c.apply_ranged.result
    ((remaining : ℕ) → HasRoom (1 + remaining) c.args.work.now → HasRoom remaining c.apply_ranged.new.work)
    (HasRoom c.args.remaining c.apply_ranged.new.work)
    (λ room. room c.args.remaining c.requires.room)
    c.apply_ranged.ensures.room
