use Rattle.std.proofs.Common.{◌/◌, ◌<◌, ◌≤◌, Bool, Option, Some, ap, sym, ◌∙◌, subst}
use Rattle.gv_types.specs.Page.{bytes_per_page}
use Rattle.gv_types.specs.Operation.{own_part}
use Rattle.gv_journal.specs.Items.{next}
use Rattle.gv_journal.specs.Withdrawing.{item_at}
use Rattle.gv_vm.specs.Places.{place_by}
use Rattle.gv_vm.specs.State.{VmState}
use Rattle.gv_vm.specs.VmInside.{parts_of}
use Rattle.gv_vm.specs.declared.places.Place.{Place}
use Rattle.gv_vm.proofs.AddressPasts.{said_bytes, said_covers, said_item, said_at}
use Rattle.gv_vm.proofs.vm.Vm.effect_at.Goals as goal

pub place_by-requires-clause-covered : goal.place_by-requires-clause-covered
place_by-requires-clause-covered c =
    said_covers (item_at c.self.inside.journal c.args.number) (c.args.addr / bytes_per_page) c.in_ok-said.said.op c.in_ok-said.ensures.op

pub place_by-requires-clause-bytes : goal.place_by-requires-clause-bytes
place_by-requires-clause-bytes c =
    let low : c.self.inside.journal.first ≤ c.args.number = subst (λ (v : VmState). v.journal.first ≤ c.args.number) (sym c.self.view_is) c.requires.not_settled in
    let high : c.args.number < next c.self.inside.journal = subst (λ (v : VmState). c.args.number < next v.journal) (sym c.self.view_is) c.requires.there in
    said_bytes (parts_of c.self.inside) c.args.number (c.args.addr / bytes_per_page) c.in_ok-said.said.op c.self.invariant c.items-items.ensures.were_live
    low high c.in_ok-said.ensures.in_space c.in_ok-said.ensures.op

pub returns : goal.returns
returns c =
    let j = c.self.inside.journal in
    let n = c.args.number in
    let op = c.in_ok-said.said.op in
    ap (λ (p : Option Place). Some (record { entry = n; is_withdrawn = c.in_ok-said.said.is_withdrawn; place = p })) c.place_by.ensures
    ∙ ap (λ (b : Bool). Some (record { entry = n; is_withdrawn = b; place = place_by (own_part op) c.args.addr })) c.in_ok-said.ensures.withdrawn
    ∙ said_item j c.args.addr n (Some op) c.in_ok-said.ensures.op
    ∙ ap (λ (v : VmState). said_at v.journal c.args.addr n) c.self.view_is
