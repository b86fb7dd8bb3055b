-- For callers: what the run that meets a range says of the range's pages.
use Rattle.std.proofs.Common.{◌≡◌, ℕ, ◌+◌, ◌<◌, ◌≤◌, take, drop, ◌++◌, List, [], ◌∷◌, arith, refl, sym, ◌∙◌, ap, None}
use Rattle.std.proofs.lemmas.Bool.{lt-leb, leb-true, ltb-true, and_parts, and_left}
use Rattle.std.proofs.lemmas.List.Elements.{All-head, All-tail, All-weaker}
use Rattle.std.specs.List.{All}
use Rattle.gv_types.specs.PageRange.{end_of}
use Rattle.gv_types.specs.declared.mapping.Mapping.{Mapping}
use Rattle.gv_ranges.specs.List.{at, run}
use Rattle.gv_ranges.specs.Laws.{OverlappingRunSays}
use Rattle.gv_ranges.proofs.ClipLemmas.{at-append_none, at-append_left}
use Rattle.gv_ranges.proofs.LookupLemmas.{at_none}
use Rattle.gv_ranges.proofs.ReplacedLemmas.{split_at_run}

-- mappings that begin past a page say nothing of it
pub at_begun_past : (ms : List Mapping) (page : ℕ) → All (λ m. page < m.range.first) ms → at ms page ≡ None
at_begun_past [] page past = refl
at_begun_past (m ∷ ms) page past =
    let here : page < m.range.first = All-head (λ (n : Mapping). page < n.range.first) m ms past in
    let rest : at ms page ≡ None = at_begun_past ms page (All-tail (λ (n : Mapping). page < n.range.first) m ms past) in
    rw (and_left _ _ (lt-leb m.range.first page here)) rest

pub at_run : OverlappingRunSays
at_run ms range index count page is covered =
    let parts = and_parts _ _ covered in
    let from : range.first ≤ page = leb-true _ _ parts.0 in
    let below : page < end_of range = ltb-true _ _ parts.1 in
    let before : at (take index ms) page ≡ None =
    at_none (take index ms) page
    (All-weaker (λ (m : Mapping). end_of m.range ≤ range.first) (λ (m : Mapping). end_of m.range ≤ page) (λ m h. omega (arith, h)) (take index ms) is.before) in
    let behind : at (drop (index + count) ms) page ≡ None =
    at_begun_past (drop (index + count) ms) page
    (All-weaker (λ (m : Mapping). end_of range ≤ m.range.first) (λ (m : Mapping). page < m.range.first) (λ m h. omega (arith, h)) (drop (index + count) ms) is.beyond) in
    sym (
    ap (λ (xs : List Mapping). at xs page) (split_at_run ms index count) ∙
    at-append_none (take index ms) (run ms index count ++ drop (index + count) ms) page before ∙
    at-append_left (run ms index count) (drop (index + count) ms) page behind
    )
