-- What a tree gains on the way back is what it lost, also where its buffers are encoded by their indexes alone.
use Rattle.std.proofs.Common.{◌≡◌, ◌∙◌, List, ap, sym}
use Rattle.gv_types.specs.declared.mapping.BufferId.{BufferId}
use Rattle.gv_types.specs.declared.mapping.Mapping.{Mapping}
use Rattle.gv_ranges.specs.List.{IsLaidOut}
use Rattle.gv_table.specs.declared.slot.Slot.{Slot}
use Rattle.gv_table.specs.Kinds.{Kind, pages, slots, of, each}
use Rattle.gv_table.specs.Counts.{gained, lost}
use Rattle.gv_table.specs.Named.{named}
use Rattle.gv_table.specs.BufferNames.{unnamed}
use Rattle.gv_table.specs.Table.{PageTable, gained_by, lost_by}
use Rattle.gv_table.specs.Tree.{IsTreeOf}
use Rattle.gv_table.proofs.KindLemmas.{each-of}
use Rattle.gv_table.proofs.TablesAsWanted.{tree-match, gained-lost}
use Rattle.gv_table.proofs.Named.{gained-named, lost-named}
use Rattle.gv_table.proofs.Unnamed.{gained-unnamed, lost-unnamed}

-- what a tree gains on the way back is what it lost
pub both-ways : (ms other : List Mapping) (old new : Slot) → IsLaidOut ms → IsLaidOut other → IsTreeOf ms 5 0 old → IsTreeOf other 5 0 new →
    each (λ kind. gained kind ms 5 0 new) ≡ each (λ kind. lost kind other 5 0 old)
both-ways ms other old new laid laid' tree tree' =
    let of_pages = gained-lost pages ms other 5 0 old new (tree-match ms 5 0 old laid tree) (tree-match other 5 0 new laid' tree') in
    let of_slots = gained-lost slots ms other 5 0 old new (tree-match ms 5 0 old laid tree) (tree-match other 5 0 new laid' tree') in
    cc

-- what the tree that tells indexes gains by the list encoded so is what the tree gains by the list
module _ (names : List BufferId) (root : Slot) (table : PageTable) (ms encoded : List Mapping) (is : encoded ≡ unnamed ms) (view : named names root ≡ table.root) where
  pub gained-is : (kind : Kind) → gained kind encoded 5 0 root ≡ of kind (gained_by ms table)
  gained-is kind =
      ap (λ (xs : List Mapping). gained kind xs 5 0 root) is ∙ gained-unnamed kind ms 5 0 root ∙ sym (gained-named names kind ms 5 0 root) ∙
      ap (gained kind ms 5 0) view ∙ sym (each-of (λ k. gained k ms 5 0 table.root) kind)

  pub lost-is : (kind : Kind) → lost kind encoded 5 0 root ≡ of kind (lost_by ms table)
  lost-is kind =
      ap (λ (xs : List Mapping). lost kind xs 5 0 root) is ∙ lost-unnamed kind ms 5 0 root ∙ sym (lost-named names kind ms 5 0 root) ∙
      ap (lost kind ms 5 0) view ∙ sym (each-of (λ k. lost k ms 5 0 table.root) kind)
