-- For callers: indices up to which mappings end, as a list changes.
use Rattle.std.proofs.Common.{◌≡◌, ℕ, ◌≤◌, ◌++◌, List, length, take, drop, arith, sym, subst, ◌∙◌}
use Rattle.std.proofs.lemmas.List.{take-append-le, take_all, length-take-le, length-append}
use Rattle.std.specs.List.{All, splice}
use Rattle.gv_types.specs.PageRange.{PageRangeState, end_of}
use Rattle.gv_types.specs.declared.mapping.Mapping.{Mapping}
use Rattle.gv_ranges.specs.List.{AreEnded, IsOverlappingRun}

-- a run of a list replaced from an index on leaves those before it
pub take-splice : (ms pieces : List Mapping) (index end : ℕ) → index ≤ length ms → take index (splice ms index end pieces) ≡ take index ms
take-splice ms pieces index end within =
    let long : length (take index ms) ≡ index = length-take-le index ms within in
    take-append-le index (take index ms) (pieces ++ drop end ms) (omega (arith, long)) ∙ take_all index (take index ms) (omega (arith, long))

pub ended-spliced : (ms pieces : List Mapping) (page index end : ℕ) → AreEnded ms page index → AreEnded (splice ms index end pieces) page index
ended-spliced ms pieces page index end is =
    let same = take-splice ms pieces index end is.within in
    let long : length (take index ms) ≡ index = length-take-le index ms is.within in
    record {
      within = omega (arith, long, length-append (take index ms) (pieces ++ drop end ms));
      ended = rw same is.ended;
    }

-- what a list has before the index it keeps when the run is put back
pub ended-unspliced : (ms now pieces : List Mapping) (page index end : ℕ) → index ≤ length ms → now ≡ splice ms index end pieces →
    All (λ m. end_of m.range ≤ page) (take index ms) → AreEnded now page index
ended-unspliced ms now pieces page index end within is ended =
    subst (λ (xs : List Mapping). AreEnded xs page index) (sym is)
    (ended-spliced ms pieces page index end (record { within = within; ended = ended }))

pub met-ended : (ms : List Mapping) (range : PageRangeState) (index count : ℕ) → IsOverlappingRun ms range index count → AreEnded ms range.first index
met-ended ms range index count is = let within = is.within in record { within = omega (arith, within); ended = is.before }
