use Rattle.std.proofs.Common.{◌≡◌, ℕ, ◌+◌, ◌*◌, ◌<◌, if◌then◌else◌, Bool, true, false, rules, arith, refl, ap, sym, ◌∙◌}
use Rattle.gv_types.specs.declared.mapping.Backing.{Backing}
use Rattle.gv_types.specs.declared.mapping.Backing.TheVariants as backing
use Rattle.gv_types.specs.declared.mapping.BufferId.{BufferId}
use Rattle.gv_types.specs.Mapping.{buffer_id}
use Rattle.gv_types.specs.declared.mapping.Entry.{Entry}
use Rattle.gv_table.specs.BufferNames.{IsEncodable}
use Rattle.gv_table.specs.declared.slot.Slot.TheVariants.{Buffer}
use Rattle.gv_table.specs.Tree.{leaf}
use Rattle.gv_table.proofs.Slots.{leaf-Zero, leaf-Buffer}
use Rattle.gv_table.proofs.PageSlotDecoding.{word-encoded, encoded-zero, encoded-buffer}
use Rattle.gv_table.proofs.page_slot.page_leaf.Goals as goal
use Rattle.gv_table.proofs.page_slot.page_leaf.Goals.{in-Zero, in-Buffer}

bit : (b : Bool) → (if b then 1 else 0) < 2
bit true = omega arith
bit false = omega arith

pub returns : goal.returns
returns c = λ encoded.
    let with : Backing → Entry = λ b. record { backing = b; flags = c.args.entry.flags } in
    let one : c.from-read_only.result ≡ (if c.args.entry.flags.read_only then 1 else 0) = search rules in
    elim c.match-entry.branch [
      | in-Zero w ↦ (
          let head : c.match-entry.head.0 ≡ 1 + (if c.args.entry.flags.read_only then 1 else 0) = ap (λ (p : ℕ × ℕ). p.0) w.head-is ∙ ap (λ (n : ℕ). 1 + n) one in
          let page : c.match-entry.head.1 ≡ 0 = ap (λ (p : ℕ × ℕ). p.1) w.head-is in
          let few : (if c.args.entry.flags.read_only then 1 else 0) < 2 = bit c.args.entry.flags.read_only in
          word-encoded c.match-entry.head.0 c.match-entry.head.1 _ refl (omega (arith, head)) (omega (arith, head, few)) (omega (arith, page)) ∙
          encoded-zero c.args.entry.flags.read_only _ _ head ∙ sym (ap leaf (ap with w.in-Zero.is) ∙ leaf-Zero c.args.entry.flags))
      | in-Buffer w ↦ (
          let id : BufferId = w.in-Buffer.id in
          let said : IsEncodable (backing.Buffer w.in-Buffer.id w.in-Buffer.page) 1 = rw w.in-Buffer.is at encoded in
          let head : c.match-entry.head.0 ≡ 3 + 2 * w.in-Buffer.id.index + (if c.args.entry.flags.read_only then 1 else 0) =
          (let h = ap (λ (p : ℕ × ℕ). p.0) w.head-is in
          let at = ap (λ (d : BufferId). d.index) w.in-Buffer.id-is in
          omega (arith, h, w.from.ensures, one, at)) in
          let page : c.match-entry.head.1 ≡ w.in-Buffer.page = (let h = ap (λ (p : ℕ × ℕ). p.1) w.head-is in cc (h)) in
          let few : (if c.args.entry.flags.read_only then 1 else 0) < 2 = bit c.args.entry.flags.read_only in
          let same : buffer_id w.in-Buffer.id.index 0 ≡ w.in-Buffer.id = ap (λ (g : ℕ). buffer_id w.in-Buffer.id.index g) (sym said.0) in
          word-encoded c.match-entry.head.0 c.match-entry.head.1 _ refl (omega (arith, head)) (omega (arith, head, few, said.1)) (omega (arith, page, said.2)) ∙
          encoded-buffer c.args.entry.flags.read_only w.in-Buffer.id.index _ _ head ∙
          (ap (λ (n : ℕ). Buffer c.args.entry.flags (buffer_id w.in-Buffer.id.index 0) n) page ∙ ap (λ (d : BufferId). Buffer c.args.entry.flags d w.in-Buffer.page) same) ∙
          sym (ap leaf (ap with w.in-Buffer.is) ∙ leaf-Buffer c.args.entry.flags w.in-Buffer.id w.in-Buffer.page))
    ]
