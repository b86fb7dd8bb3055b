use Rattle.std.proofs.Common.{arith, ◌≡◌, ◌+◌, ◌-◌, ◌*◌, ℕ, refl, ap, sym, ◌∙◌, inr, subst}
use Rattle.gv_table.specs.declared.slot.Slot.{Slot}
use Rattle.gv_table.specs.Levels.{pages_of}
use Rattle.gv_table.specs.Shape.{IsShaped}
use Rattle.gv_table.specs.Tree.{is_table, child, IsTreeOf}
use Rattle.gv_table.proofs.Slots.{is_table-Empty, child-other}
use Rattle.gv_table.proofs.TableCountUpdates.{part-room}
use Rattle.gv_table.proofs.Trees.{divided-parts}
use Rattle.gv_table.proofs.divide.divide.Goals as goal

pub raise-requires : goal.raise-requires
raise-requires c = record {
  known = omega (arith, c.requires.known);
  room = part-room c.args.counts.now c.args.level (c.args.level - 1) c.args.slot.now c.requires.part c.requires.other;
}

pub returns : goal.returns
returns c =
    let other = c.requires.other in
    let made = c.divided-table.ensures in
    let same : (k : ℕ) → child c.overwrite.new.slot k ≡ child c.divided-table.result k = λ k. ap (λ (s : Slot). child s k) c.overwrite.ensures in
    record {
      divided = record {
        table = ap is_table c.overwrite.ensures ∙ made.table;
        parts = λ ms first laid encoded tree k below.
            subst (λ (s : Slot). IsTreeOf ms (c.args.level - 1) (first + k * pages_of (c.args.level - 1)) s) (sym (same k))
            (divided-parts c.entry.result c.args.slot.now (λ k. child c.divided-table.result k) ms c.args.level first (pages_of (c.args.level - 1)) c.entry.ensures other
            made.empty made.entries laid encoded c.requires.some refl tree k below);
        tables = λ k below. inr (ap is_table (child-other c.args.slot.now k other) ∙ is_table-Empty, ap is_table (same k) ∙ made.leaves k below);
      };
      shaped = subst (λ (s : Slot). IsShaped c.args.level s) (sym c.overwrite.ensures) made.shaped;
      taken = made.taken;
      counted = c.raise.ensures;
    }
