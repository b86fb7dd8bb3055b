use Rattle.std.proofs.Common.{◌≡◌, ◌∙◌, None, arith, refl, sym, ap, rules}
use Rattle.gv_buffers.specs.Buffers.{BuffersState}
use Rattle.gv_buffers.proofs.TablesAndSlots.{is_table, count_live}
use Rattle.gv_buffers.proofs.MakeAndDestroy.{made, creatable}
use Rattle.gv_buffers.proofs.buffers.Buffers.create.Goals as goal

pub invariant_of-self : goal.invariant_of-self
invariant_of-self c = rw c.in_err-index.ensures.err c.self.invariant

pub invariant_of-self-2 : goal.invariant_of-self-2
invariant_of-self-2 c =
    let put = c.in_ok-index.ensures in
    let none : c.create_fault.result ≡ None = search rules in
    let can = creatable c.args.self.now c.args.pages (sym c.create_fault.ensures ∙ none) in
    (made c.self.inside c.args.self.now c.put_in.new.self c.in_ok-index.index c.args.pages _ c.self.invariant c.self.view_is
    (omega (arith, can.room, count_live c.self.inside c.args.self.now c.self.view_is, ap (λ (t : BuffersState). t.limit) c.self.view_is)) can.some can.few
    put.index put.was_vacant put.updates put.count put.vacant put.rest (rw (c.new.ensures, c.new-2.ensures) refl)).sound

pub returns-clause-ok : goal.returns-clause-ok
returns-clause-ok c =
    let put = c.in_ok-index.ensures in
    let none : c.create_fault.result ≡ None = search rules in
    let can = creatable c.args.self.now c.args.pages (sym c.create_fault.ensures ∙ none) in
    rw c.new-3.ensures (made c.self.inside c.args.self.now c.put_in.new.self c.in_ok-index.index c.args.pages _ c.self.invariant c.self.view_is
    (omega (arith, can.room, count_live c.self.inside c.args.self.now c.self.view_is, ap (λ (t : BuffersState). t.limit) c.self.view_is)) can.some can.few
    put.index put.was_vacant put.updates put.count put.vacant put.rest (rw (c.new.ensures, c.new-2.ensures) refl)).created

pub returns-clause-table : goal.returns-clause-table
returns-clause-table c =
    let put = c.in_ok-index.ensures in
    let none : c.create_fault.result ≡ None = search rules in
    let can = creatable c.args.self.now c.args.pages (sym c.create_fault.ensures ∙ none) in
    is_table _ _ (made c.self.inside c.args.self.now c.put_in.new.self c.in_ok-index.index c.args.pages _ c.self.invariant c.self.view_is
    (omega (arith, can.room, count_live c.self.inside c.args.self.now c.self.view_is, ap (λ (t : BuffersState). t.limit) c.self.view_is)) can.some can.few
    put.index put.was_vacant put.updates put.count put.vacant put.rest (rw (c.new.ensures, c.new-2.ensures) refl)).sound refl
