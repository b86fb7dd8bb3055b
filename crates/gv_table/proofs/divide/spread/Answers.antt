use Rattle.std.proofs.Common.{rules, arith, ◌≡◌, ◌*◌, ◌<◌, false, length, ap, sym, subst, ◌∙◌}
use Rattle.gv_types.specs.Mapping.{entry_advanced}
use Rattle.gv_types.specs.declared.mapping.Entry.{Entry}
use Rattle.gv_table.proofs.CoveringMappings.{small-less, encoded-advanced}
use Rattle.gv_table.proofs.PagesOf.{part-within}
use Rattle.gv_table.specs.BufferNames.{IsEncodable}
use Rattle.gv_table.specs.Tree.{is_table, leaf}
use Rattle.gv_table.proofs.RowLoops.{row-below}
use Rattle.gv_table.proofs.divide.spread.Goals as goal

pub loop-index-preserved : goal.loop-index-preserved
loop-index-preserved c =
    let within : c.loop-index.index < length c.loop-index.slots = search rules in
    let fits = part-within c.loop-index.index (512 * c.args.pages) c.args.pages (omega arith) (omega arith) in
    record {
      leaves = row-below (λ k s. is_table s ≡ false) c.loop-index.slots c.loop-index.index _ within c.leaf.ensures.other c.loop-index.invariant.leaves;
      entries = λ small encoded.
          let here = c.advanced.ensures (small-less c.args.entry.now.backing (c.loop-index.index * c.args.pages) _ small (omega (arith, fits))) in
          let said = subst (λ (e : Entry). IsEncodable e.backing 1) (sym here) (encoded-advanced c.args.entry.now.backing (c.loop-index.index * c.args.pages) 1 (512 * c.args.pages) encoded (omega (arith, fits, c.requires.some))) in
          row-below (λ k s. s ≡ leaf (entry_advanced c.args.entry.now (k * c.args.pages))) c.loop-index.slots c.loop-index.index _ within
          (c.leaf.ensures.leaf said ∙ ap leaf here) (c.loop-index.invariant.entries small encoded);
    }
