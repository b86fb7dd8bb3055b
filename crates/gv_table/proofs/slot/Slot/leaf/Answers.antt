use Rattle.std.proofs.Common.{◌≡◌, ap, sym, ◌∙◌}
use Rattle.gv_types.specs.Mapping.{buffer_id}
use Rattle.gv_types.specs.declared.mapping.Backing.{Backing}
use Rattle.gv_types.specs.declared.mapping.Backing.TheVariants as backing
use Rattle.gv_types.specs.declared.mapping.BufferId.{BufferId}
use Rattle.gv_types.specs.declared.mapping.Entry.{Entry}
use Rattle.gv_table.specs.BufferNames.{unnamed_id, IsEncodable}
use Rattle.gv_table.specs.declared.slot.Slot.TheVariants.{Buffer}
use Rattle.gv_table.specs.Tree.{leaf}
use Rattle.gv_table.proofs.Slots.{leaf-Zero, leaf-Buffer, is_table-Zero, is_table-Buffer}
use Rattle.gv_table.proofs.slot.Slot.leaf.Goals as goal

pub returns-in-Zero-clause-leaf : goal.returns-in-Zero-clause-leaf
returns-in-Zero-clause-leaf c = λ encoded.
    let with : Backing → Entry = λ b. record { backing = b; flags = c.args.entry.flags } in
    sym (ap leaf (ap with c.in-Zero.is) ∙ leaf-Zero c.args.entry.flags)

pub returns-in-Zero-clause-other : goal.returns-in-Zero-clause-other
returns-in-Zero-clause-other c = is_table-Zero c.args.entry.flags

pub returns-in-Buffer-clause-leaf : goal.returns-in-Buffer-clause-leaf
returns-in-Buffer-clause-leaf c = λ encoded.
    let said : IsEncodable (backing.Buffer c.in-Buffer.id c.in-Buffer.page) 1 = rw c.in-Buffer.is at encoded in
    let made : c.of.result ≡ unnamed_id c.in-Buffer.id = rw c.in-Buffer.is at c.of.ensures in
    let same : unnamed_id c.in-Buffer.id ≡ c.in-Buffer.id = ap (λ g. buffer_id c.in-Buffer.id.index g) (sym said.0) in
    rw c.in-Buffer.is (ap (λ (d : BufferId). Buffer c.args.entry.flags d c.in-Buffer.page) (made ∙ same) ∙ sym (leaf-Buffer c.args.entry.flags c.in-Buffer.id c.in-Buffer.page))

pub returns-in-Buffer-clause-other : goal.returns-in-Buffer-clause-other
returns-in-Buffer-clause-other c = is_table-Buffer c.args.entry.flags c.of.result _
