-- The last operation that covers a page, and what the first one took out.
use Rattle.std.proofs.Common.{zero, suc, drop, ◌≡◌, ℕ, ◌<◌, ◌≤◌, Bool, true, false, cond, ◌&&◌, List, [], ◌∷◌, length, reverse, get_or, Option, Some, None, refl, ap, sym, ◌∙◌, arith}
use Rattle.std.specs.List.{find}
use Rattle.std.specs.Prelude.{nat_le, nat_lt}
use Rattle.std.specs.Option.{option_map_or, option_and_then}
use Rattle.std.proofs.lemmas.Bool.Decides.{nat_tests}
use Rattle.std.proofs.lemmas.List.{reverse-append}
use Rattle.std.proofs.lemmas.List.Folds.{find-append}
use Rattle.gv_types.specs.PageRange.{PageRangeState, span, end_of, covers}
use Rattle.gv_types.specs.Operation.{range_of}
use Rattle.gv_types.specs.declared.operation.PageOp.{PageOp}
use Rattle.gv_types.specs.declared.operation.PageOp.TheVariants.{Map, Unmap, UnmapBuffer}
use Rattle.gv_journal.specs.Restoring.{pages_named}
use Rattle.gv_space.specs.Undo.{OpUndoState}
use Rattle.gv_journal.specs.Reach.{extent_of, least_page, past_page, IsSilent}
use Rattle.gv_journal.specs.Covering.{first_taken, last_covering, live_taken}
use Rattle.gv_journal.specs.Items.{done_by}
use Rattle.gv_journal.specs.declared.item.Item.{Item}
use Rattle.gv_ranges.specs.List.{at}
use Rattle.gv_journal.proofs.Reaches.{LieIn, AllLieIn, all_in}

abbrev pub covering : ℕ → PageOp → Bool
covering page op = covers (range_of op) page

-- a page that isn't among the pages from the least to the greatest
abbrev IsOutside : Option PageRangeState → ℕ → Type 0
IsOutside extent page = option_map_or (λ range. covers range page) extent false ≡ false

range_misses : (r : PageRangeState) (extent : Option PageRangeState) (page : ℕ) → LieIn (Some r) extent → IsOutside extent page → covers r page ≡ false
range_misses r None page h out = absurd h
range_misses r (Some t) page h out =
    let low : t.first ≤ r.first = h.0 in
    let high : end_of r ≤ end_of t = h.1 in
    grind (arith, nat_tests)

pub nothing_covers : (page : ℕ) → covers (span 0 0) page ≡ false
nothing_covers page = grind (arith, nat_tests)

op_misses : (op : PageOp) (extent : Option PageRangeState) (page : ℕ) → LieIn (pages_named op) extent → IsOutside extent page → covering page op ≡ false
op_misses (UnmapBuffer buffer) extent page h out = nothing_covers page
op_misses (Map r backing flags) extent page h out = range_misses r extent page h out
op_misses (Unmap r) extent page h out = range_misses r extent page h out

none_found : (ops : List PageOp) (extent : Option PageRangeState) (page : ℕ) → AllLieIn extent ops → IsOutside extent page → find (covering page) (reverse ops) ≡ None
none_found [] extent page all out = refl
none_found (op ∷ ops) extent page all out =
    ap (find (covering page)) (reverse-append (op ∷ []) ops) ∙ find-append (covering page) (reverse ops) (op ∷ [])
    ∙ (rw (none_found ops extent page all.1 out, op_misses op extent page all.0 out) refl)

-- an item that doesn't reach the page
outside : (extent : Option PageRangeState) (page : ℕ) → (nat_le (least_page extent) page && nat_lt page (past_page extent)) ≡ false → IsOutside extent page
outside None page out = refl
outside (Some t) page out = out

-- says nothing of it
pub silent_says : (o : Option Item) (page : ℕ) → IsSilent o page → option_and_then (λ (item : Item). last_covering item.kind page) o ≡ None
silent_says None page silent = refl
silent_says (Some item) page silent =
    none_found (done_by item.kind) (extent_of (done_by item.kind)) page (all_in None (done_by item.kind)) (outside (extent_of (done_by item.kind)) page silent)

nothing_taken : (ops : List PageOp) (us : List OpUndoState) (extent : Option PageRangeState) (page : ℕ) → AllLieIn extent ops → IsOutside extent page → first_taken ops us page ≡ None
nothing_taken [] us extent page all out = refl
nothing_taken (op ∷ ops) [] extent page all out = refl
nothing_taken (op ∷ ops) (u ∷ us) extent page all out = rw (op_misses op extent page all.0 out) (nothing_taken ops us extent page all.1 out)

no_undos : (ops : List PageOp) (page : ℕ) → first_taken ops [] page ≡ None
no_undos [] page = refl
no_undos (op ∷ ops) page = refl

-- an operation that doesn't cover the page is passed over
pub taken_next : (ops : List PageOp) (us : List OpUndoState) (i page : ℕ) (op : PageOp) → i < length ops → op ≡ get_or ops i op → covering page op ≡ false →
    first_taken (drop i ops) (drop i us) page ≡ first_taken (drop (suc i) ops) (drop (suc i) us) page
taken_next [] us i page op below is miss = absurd (omega arith)
taken_next (first ∷ ops) [] zero page op below is miss = sym (no_undos ops page)
taken_next (first ∷ ops) (u ∷ us) zero page op below is miss =
    ap (λ (c : Bool). cond c (Some (at u.change.taken page)) (first_taken ops us page)) (ap (covering page) (sym is) ∙ miss)
taken_next (first ∷ ops) [] (suc i) page op below is miss = no_undos (drop i ops) page ∙ sym (no_undos (drop (suc i) ops) page)
taken_next (first ∷ ops) (u ∷ us) (suc i) page op below is miss = taken_next ops us i page op (omega arith) is miss

live_none : (withdrawn : Bool) (item : Item) (page : ℕ) → first_taken (done_by item.kind) item.undos.items page ≡ None → live_taken withdrawn item page ≡ None
live_none true item page none = refl
live_none false item page none = none

-- and took nothing out of it
pub silent_took : (withdrawn : Bool) (o : Option Item) (page : ℕ) → IsSilent o page → option_and_then (λ (item : Item). live_taken withdrawn item page) o ≡ None
silent_took withdrawn None page silent = refl
silent_took withdrawn (Some item) page silent =
    live_none withdrawn item page
    (nothing_taken (done_by item.kind) item.undos.items (extent_of (done_by item.kind)) page (all_in None (done_by item.kind)) (outside (extent_of (done_by item.kind)) page silent))
