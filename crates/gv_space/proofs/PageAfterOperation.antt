-- What a space says of a page after an operation.
use Rattle.std.proofs.Common.{◌≡◌, ℕ, List, length, arith, refl, ap, ◌∙◌}
use Rattle.gv_types.specs.Page.{IsPage}
use Rattle.gv_types.specs.PageRange.{PageRangeState, end_of}
use Rattle.gv_types.specs.Operation.{range_of, own_mapping, after, IsPageOp}
use Rattle.gv_types.specs.declared.mapping.Mapping.{Mapping}
use Rattle.gv_types.specs.declared.operation.PageOp.{PageOp}
use Rattle.gv_types.specs.declared.operation.PageOp.TheVariants.{Map, Unmap, UnmapBuffer}
use Rattle.gv_ranges.specs.List.{at}
use Rattle.gv_ranges.specs.Edit.{clipped, replaced, edited, restored}
use Rattle.gv_ranges.proofs.ClipLemmas.{clip_whole}
use Rattle.gv_ranges.proofs.ChangeLemmas.{at-edited}
use Rattle.gv_space.specs.State.{SpaceState}
use Rattle.gv_space.specs.Undo.{OpUndoState, IsUndoOf, TookWhatWas}
use Rattle.gv_ranges.proofs.OverlapSaysLemmas.{at_run}
use Rattle.gv_space.specs.Change.{IsChanged}

-- what an undo value holds says what the list before the change said of its range
pub holds_what_was : (old new : List Mapping) (u : OpUndoState) → IsUndoOf old new u → TookWhatWas old u
holds_what_was old new u is page covered =
    ap (λ (ms : List Mapping). at ms page) is.taken ∙ at_run old u.range u.change.index (length u.change.taken) page is.met covered

-- an operation's own mapping lies in its range whole
pub clipped-own : (op : PageOp) → IsPageOp op → clipped (range_of op).first (end_of (range_of op)) (own_mapping op) ≡ own_mapping op
clipped-own (Map range backing flags) is =
    rw (clip_whole range.first (end_of range) (record { range = range; backing = backing; flags = flags }) is.0 (omega arith) (omega arith)) refl
clipped-own (Unmap range) is = refl
clipped-own (UnmapBuffer buffer) is = refl

-- to edit a list is to restore the operation's own mapping in its range
pub restored-own : (ms : List Mapping) (op : PageOp) → IsPageOp op → restored ms (range_of op) (own_mapping op) ≡ edited ms op
restored-own ms op is = ap (λ (own : List Mapping). replaced ms (range_of op) own) (clipped-own op is)

module _ (old new : SpaceState) (op : PageOp) (range : PageRangeState) (own : List Mapping) (u : OpUndoState) (is : IsPageOp op) (range_is : range ≡ range_of op) (own_is : own ≡ own_mapping op) where
  edits : restored old.mappings range own ≡ edited old.mappings op
  edits = rw (range_is, own_is) (restored-own old.mappings op is)

  pub says_after : IsChanged old new (restored old.mappings range own) u → (page : ℕ) → IsPage page → at new.mappings page ≡ after op (at old.mappings) page
  says_after changed page in_space =
      let now : new.mappings ≡ edited old.mappings op = ap (λ (s : SpaceState). s.mappings) changed.state ∙ edits in
      rw now (at-edited old.mappings op page in_space)
