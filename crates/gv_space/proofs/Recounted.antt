-- The counts of buffers after a change of the list, and after it is taken back.
use Rattle.std.proofs.Common.{◌≡◌, ℕ, ◌+◌, ◌-◌, ◌≤◌, List, ◌++◌, slice_index_or, arith, refl, sym, ◌∙◌, ap}
use Rattle.std.specs.List.{All, splice}
use Rattle.gv_types.specs.declared.mapping.Mapping.{Mapping}
use Rattle.gv_ranges.specs.List.{run}
use Rattle.gv_buffers.specs.Buffers.{Buffer, BuffersState}
use Rattle.gv_space.specs.Counts.{count_of, by_count, counted, more_used, less_used, more_kept, less_kept, moved_out, moved_in}
use Rattle.gv_space.proofs.CountLemmas.{count_of-append, count_of-splice}
use Rattle.gv_space.proofs.BufferTableLemmas.{each-each, each-same, each-itself}
use Rattle.gv_space.proofs.ByCountLemmas.{All-by_count}

-- `uses` counts a list
abbrev pub UsesAre : List Mapping → BuffersState → Type 0
UsesAre ms t = All (λ b. b.uses ≡ count_of b.id ms) t.live

-- `kept` counts a list
abbrev pub KeptAre : List Mapping → BuffersState → Type 0
KeptAre ms t = All (λ b. b.kept ≡ count_of b.id ms) t.live

-- the counts of the list don't change with those of undo values
pub uses-more_kept : (ms taken : List Mapping) (t : BuffersState) → UsesAre ms t → UsesAre ms (by_count more_kept taken t)
uses-more_kept ms taken t used = All-by_count (λ b. b.uses ≡ count_of b.id ms) more_kept taken t used

pub uses-less_kept : (ms taken : List Mapping) (t : BuffersState) → UsesAre ms t → UsesAre ms (by_count less_kept taken t)
uses-less_kept ms taken t used = All-by_count (λ b. b.uses ≡ count_of b.id ms) less_kept taken t used

-- a list that is counted anew is counted
pub uses-counted : (ms : List Mapping) (t : BuffersState) → UsesAre ms (by_count counted ms t)
uses-counted ms t = All-by_count (λ b. b.uses ≡ count_of b.id ms) counted ms t (λ k d within. refl)

-- nor do those of undo values with those of the list
pub kept-counted : (saved ms : List Mapping) (t : BuffersState) → KeptAre saved t → KeptAre saved (by_count counted ms t)
kept-counted saved ms t kept = All-by_count (λ b. b.kept ≡ count_of b.id saved) counted ms t kept

-- more mappings are kept
pub kept-more_kept : (taken saved : List Mapping) (t : BuffersState) → KeptAre saved t → KeptAre (taken ++ saved) (by_count more_kept taken t)
kept-more_kept taken saved t kept =
    All-by_count (λ b. b.kept ≡ count_of b.id (taken ++ saved)) more_kept taken t (λ k d within.
    omega (arith, kept k d within, count_of-append (slice_index_or t.live k d).id taken saved))

-- fewer are
pub kept-less_kept : (taken others : List Mapping) (t : BuffersState) → KeptAre (taken ++ others) t → KeptAre others (by_count less_kept taken t)
kept-less_kept taken others t kept =
    All-by_count (λ b. b.kept ≡ count_of b.id others) less_kept taken t (λ k d within.
    omega (arith, kept k d within, count_of-append (slice_index_or t.live k d).id taken others))

with_counts : (b : Buffer) (uses kept : ℕ) → uses ≡ b.uses → kept ≡ b.kept → record b { uses = uses; kept = kept } ≡ b
with_counts b uses kept same_uses same_kept = rw (same_uses, same_kept) refl

-- A run of the list gave way to pieces, and the mappings were counted in and out: as if the new list were counted anew.
pub recounted : (ms taken pieces : List Mapping) (index count : ℕ) (t : BuffersState) → taken ≡ run ms index count → UsesAre ms t →
    by_count less_used taken (by_count more_used pieces t) ≡ by_count counted (splice ms index (index + count) pieces) t
recounted ms taken pieces index count t is used =
    each-each _ (λ b. more_used b (count_of b.id pieces)) t
    ∙ each-same (λ b. b.uses ≡ count_of b.id ms) _ (λ b. counted b (count_of b.id (splice ms index (index + count) pieces))) t used (λ b uses.
    let moved = count_of-splice b.id ms pieces index count in
    let same : count_of b.id taken ≡ count_of b.id (run ms index count) = ap (λ (xs : List Mapping). count_of b.id xs) is in
    let total : b.uses + count_of b.id pieces - count_of b.id taken ≡ count_of b.id (splice ms index (index + count) pieces) = omega arith in
    ap (λ (n : ℕ). record b { uses = n }) total)

-- the same where the run is kept in an undo value
pub moved_counts : (ms taken pieces : List Mapping) (index count : ℕ) (t : BuffersState) → taken ≡ run ms index count → UsesAre ms t →
    by_count less_used taken (by_count more_used pieces (by_count more_kept taken t)) ≡ by_count counted (splice ms index (index + count) pieces) (by_count more_kept taken t)
moved_counts ms taken pieces index count t is used = recounted ms taken pieces index count (by_count more_kept taken t) is (uses-more_kept ms taken t used)

-- and where a run comes back out of one
pub moved_back : (ms pieces taken : List Mapping) (index put_in : ℕ) (t : BuffersState) → pieces ≡ run ms index put_in → UsesAre ms t →
    by_count less_used pieces (by_count more_used taken (by_count less_kept taken t)) ≡ by_count counted (splice ms index (index + put_in) taken) (by_count less_kept taken t)
moved_back ms pieces taken index put_in t is used = recounted ms pieces taken index put_in (by_count less_kept taken t) is (uses-less_kept ms taken t used)

-- there and back again
pub there_and_back : (old new taken : List Mapping) (t : BuffersState) → UsesAre old t →
    by_count counted old (by_count less_kept taken (by_count counted new (by_count more_kept taken t))) ≡ t
there_and_back old new taken t used =
    let keep : Buffer → Buffer = λ b. more_kept b (count_of b.id taken) in
    let there : Buffer → Buffer = λ b. counted (keep b) (count_of b.id new) in
    let unkeep : Buffer → Buffer = λ b. less_kept (there b) (count_of b.id taken) in
    ap (λ (x : BuffersState). by_count counted old (by_count less_kept taken x)) (each-each (λ b. counted b (count_of b.id new)) keep t)
    ∙ ap (by_count counted old) (each-each (λ b. less_kept b (count_of b.id taken)) there t)
    ∙ each-each (λ b. counted b (count_of b.id old)) unkeep t
    ∙ each-itself (λ b. b.uses ≡ count_of b.id old) (λ b. counted (unkeep b) (count_of b.id old)) t used
    (λ b uses. with_counts b (count_of b.id old) (b.kept + count_of b.id taken - count_of b.id taken) (sym uses) (omega arith))

-- mappings that leave a buffer before others come leave it with as many as where they leave it last
left_first : (b : Buffer) (kept gone come : ℕ) → gone ≤ b.uses → record b { uses = b.uses - gone + come; kept = kept } ≡ record b { uses = b.uses + come - gone; kept = kept }
left_first b kept gone come few = let same : b.uses - gone + come ≡ b.uses + come - gone = omega arith in rw same refl

-- mappings are taken out of the list before those that stand for them come into it
pub taken_out_first : (taken pieces : List Mapping) (t : BuffersState) → All (λ b. count_of b.id taken ≤ b.uses) t.live →
    by_count more_used pieces (by_count moved_out taken t) ≡ by_count less_used taken (by_count more_used pieces (by_count more_kept taken t))
taken_out_first taken pieces t few =
    each-each (λ b. more_used b (count_of b.id pieces)) (λ b. moved_out b (count_of b.id taken)) t
    ∙ each-same (λ b. count_of b.id taken ≤ b.uses) _ _ t few (λ b less. left_first b (b.kept + count_of b.id taken) (count_of b.id taken) (count_of b.id pieces) less)
    ∙ sym (ap (by_count less_used taken) (each-each (λ b. more_used b (count_of b.id pieces)) (λ b. more_kept b (count_of b.id taken)) t)
    ∙ each-each (λ b. less_used b (count_of b.id taken)) (λ b. more_used (more_kept b (count_of b.id taken)) (count_of b.id pieces)) t)

-- and those leave it before what was taken out comes back
pub brought_back_last : (pieces taken : List Mapping) (t : BuffersState) → All (λ b. count_of b.id pieces ≤ b.uses) t.live →
    by_count moved_in taken (by_count less_used pieces t) ≡ by_count less_used pieces (by_count more_used taken (by_count less_kept taken t))
brought_back_last pieces taken t few =
    each-each (λ b. moved_in b (count_of b.id taken)) (λ b. less_used b (count_of b.id pieces)) t
    ∙ each-same (λ b. count_of b.id pieces ≤ b.uses) _ _ t few (λ b less. left_first b (b.kept - count_of b.id taken) (count_of b.id pieces) (count_of b.id taken) less)
    ∙ sym (ap (by_count less_used pieces) (each-each (λ b. more_used b (count_of b.id taken)) (λ b. less_kept b (count_of b.id taken)) t)
    ∙ each-each (λ b. less_used b (count_of b.id pieces)) (λ b. more_used (less_kept b (count_of b.id taken)) (count_of b.id taken)) t)
