use Rattle.std.proofs.Common.{◌≡◌, ◌<◌, false, length, arith, sym, ◌∙◌}
use Rattle.gv_buffers.specs.Users.{is_write}
use Rattle.gv_buffers.proofs.Conflicts.{one_more_reader}
use Rattle.gv_buffers.proofs.users.Users.conflict.Goals as goal

pub returns-then-not-is_write : goal.returns-then-not-is_write
returns-then-not-is_write c =
    let several : 1 < length c.args.self.now.list.items = omega arith in
    let reads : is_write c.args.usage ≡ false = sym c.is_write.ensures ∙ c.if-not-is_write.true in
    sym (one_more_reader c.args.job c.args.usage c.args.self.now.list.items several reads c.requires)
