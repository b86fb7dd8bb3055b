use Rattle.std.proofs.Common.{◌≡◌, Some, None, true, ap, is_some, ◌∙◌, position}
use Rattle.std.proofs.lemmas.List.Quantifiers.{position-Some}
use Rattle.gv_buffers.proofs.UsersAfterJoin.{is_of, set_joined, push_joined_past, past_from_none}
use Rattle.gv_buffers.proofs.users.Users.join.Goals as goal

pub push_reserved-requires : goal.push_reserved-requires
push_reserved-requires c =
    let missed : position (is_of c.args.job) c.args.self.now.list.items ≡ None = cc in
    c.requires (ap is_some missed)

pub returns-in-Some : goal.returns-in-Some
returns-in-Some c =
    let users = c.args.self.now.list.items in
    let found : position (is_of c.args.job) users ≡ Some c.in-Some.index = cc in
    let at = position-Some (is_of c.args.job) users c.in-Some.index c.index_mut.result.now found in
    let here : is_of c.args.job c.index_mut.result.now ≡ true = rw c.index_mut.ensures.value at.1 in
    set_joined c.args.job c.args.usage c.stronger.result users c.in-Some.index c.index_mut.result.now c.index.result.now at.0 c.index_mut.ensures.value c.index.ensures c.stronger.ensures here at.2

pub returns-in-None : goal.returns-in-None
returns-in-None c =
    let users = c.args.self.now.list.items in
    let missed : position (is_of c.args.job) users ≡ None = cc in
    c.push_reserved.ensures.items ∙ push_joined_past c.args.job c.args.usage users (past_from_none _ _ missed)
