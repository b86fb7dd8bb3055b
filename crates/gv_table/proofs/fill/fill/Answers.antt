use Rattle.std.proofs.Common.{rules, arith, ◌≡◌, ◌≢◌, ◌-◌, ◌<◌, ◌≤◌, ℕ, length, ap, ◌∙◌}
use Rattle.std.proofs.lemmas.List.{get_or-set_other}
use Rattle.gv_types.specs.Mapping.{entry_advanced}
use Rattle.gv_table.specs.Tree.{leaf, slot_of, no_page}
use Rattle.gv_table.proofs.CoveringMappings.{small-less, encoded-advanced}
use Rattle.gv_table.proofs.RowLoops.{below-of, above-of}
use Rattle.gv_table.proofs.fill.fill.Goals as goal

pub loop-index-preserved : goal.loop-index-preserved
loop-index-preserved c =
    let inv = c.loop-index.invariant in
    let low : ℕ = c.args.low in
    let i : ℕ = c.loop-index.index in
    let row = c.loop-index.slots in
    let within : c.loop-index.index < length c.loop-index.slots = search rules in
    let from : c.args.low ≤ c.loop-index.index = c.loop-index.auto.index in
    let new = c.page_leaf.result in
    record {
      made = λ small encoded k up less.
          let few = small-less c.args.entry.now.backing (i - low) (c.args.high - low) small (omega arith) in
          let said = encoded-advanced c.args.entry.now.backing (i - low) 1 (c.args.high - low) encoded (omega arith) in
          let here = c.page_leaf.ensures (rw (c.advanced.ensures few) said) ∙ ap leaf (c.advanced.ensures few) in
          below-of no_page (λ k s. low ≤ k → slot_of s ≡ leaf (entry_advanced c.args.entry.now (k - low))) row i new within (λ up. here)
          (λ k less up. inv.made small encoded k up less) k less up;
      before = λ k less.
          let differ : k ≢ i = omega arith in
          get_or-set_other row i k new no_page differ ∙ inv.before k less;
      behind = above-of no_page row c.args.slots.now i new inv.behind;
    }
