use Rattle.std.proofs.Common.{List, sym, ◌∙◌}
use Rattle.std.proofs.lemmas.Bool.{and_parts}
use Rattle.gv_buffers.specs.declared.usage.User.{User}
use Rattle.gv_buffers.specs.Ascending.{are_below}
use Rattle.gv_buffers.proofs.Ascending.{absent-below, position-absent}
use Rattle.gv_buffers.proofs.users.Users.index_of.Goals as goal

-- the job is newer than each user
pub returns-then-is_newest : goal.returns-then-is_newest
returns-then-is_newest c =
    let users : List User = c.args.self.now.list.items in
    let newest = and_parts c.args.self.now.ascending (are_below c.args.job users) (sym c.is_newest.ensures ∙ c.if-is_newest.true) in
    sym (position-absent users c.args.job (absent-below c.args.job users newest.1))
