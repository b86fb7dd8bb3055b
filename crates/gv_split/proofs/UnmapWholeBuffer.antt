-- An unmap of a whole buffer makes what the unmaps of its mappings make one after another.
use Rattle.std.proofs.Common.{◌≡◌, ℕ, ◌≤◌, List, [], ◌∷◌, ◌++◌, reverse, true, false, arith, refl, ap, ◌∙◌, get_or, ⊎_elim, inl, inr}
use Rattle.std.specs.List.{All}
use Rattle.std.proofs.lemmas.Bool.{cases_Bool}
use Rattle.std.proofs.lemmas.List.{append_assoc, append-nil, reverse-append}
use Rattle.std.proofs.lemmas.List.Elements.{All-nil, All-cons, All-append, filter_map-append}
use Rattle.gv_types.specs.Page.{PAGES}
use Rattle.gv_types.specs.PageRange.{end_of}
use Rattle.gv_types.specs.Mapping.{clip, is_of, IsMapping}
use Rattle.gv_types.specs.declared.mapping.BufferId.{BufferId}
use Rattle.gv_types.specs.declared.mapping.Mapping.{Mapping}
use Rattle.gv_types.specs.declared.operation.PageOp.{PageOp}
use Rattle.gv_types.specs.declared.operation.PageOp.TheVariants.{Unmap}
use Rattle.gv_ranges.specs.List.{IsLaidOutFrom}
use Rattle.gv_ranges.specs.Edit.{clipped, edited, edited_by_all}
use Rattle.gv_ranges.proofs.ClipLemmas.{clip_none}
use Rattle.gv_ranges.proofs.LookupLemmas.{first_above}
use Rattle.gv_ranges.proofs.ReplacedLemmas.{LiesBetween, LiesOutside, clipped_whole, clipped_none, all_mappings}
use Rattle.gv_split.specs.CarriedOut.{without_buffer}
use Rattle.gv_split.specs.Laws.{unmaps_of, UnmapOfBufferIsUnmaps}

edited_by_all-append : (newer older : List PageOp) (ms : List Mapping) →
    edited_by_all (newer ++ older) ms ≡ edited_by_all newer (edited_by_all older ms)
edited_by_all-append [] older ms = refl
edited_by_all-append (op ∷ newer) older ms = ap (λ (xs : List Mapping). edited xs op) (edited_by_all-append newer older ms)

-- an unmap of a mapping's pages takes it out of a list in order, and leaves the others whole
unmapped-between : (before : List Mapping) (m : Mapping) (later : List Mapping) → All (LiesBetween 0 m.range.first) before → IsMapping m →
    IsLaidOutFrom (end_of m.range) later → edited (before ++ m ∷ later) (Unmap m.range) ≡ before ++ later
unmapped-between before m later ended is laid =
    let ended' : All (LiesOutside (end_of m.range) PAGES) before =
    λ k d within. inl (let h : end_of (get_or before k d).range ≤ m.range.first = (ended k d within).2 in omega arith) in
    let mappings : All IsMapping later = all_mappings later (end_of m.range) laid in
    let behind : All (LiesBetween (end_of m.range) PAGES) later =
    λ k d within. let h : IsMapping (get_or later k d) = mappings k d within in (h, first_above later (end_of m.range) k d laid within, h.0.1) in
    let behind' : All (LiesOutside 0 m.range.first) later =
    λ k d within. inr (let h : end_of m.range ≤ (get_or later k d).range.first = first_above later (end_of m.range) k d laid within in omega arith) in
    let low : clipped 0 m.range.first (before ++ m ∷ later) ≡ before =
    filter_map-append (clip 0 m.range.first) before (m ∷ later)
    ∙ rw (clipped_whole 0 m.range.first before ended, clip_none 0 m.range.first m (inr (omega arith)), clipped_none 0 m.range.first later behind')
    (append-nil before) in
    let high : clipped (end_of m.range) PAGES (before ++ m ∷ later) ≡ later =
    filter_map-append (clip (end_of m.range) PAGES) before (m ∷ later)
    ∙ rw (clipped_none (end_of m.range) PAGES before ended', clip_none (end_of m.range) PAGES m (inl (omega arith)), clipped_whole (end_of m.range) PAGES later behind)
    refl in
    rw (low, high, append-nil before) refl

ended_by : (before : List Mapping) (low page : ℕ) → All (LiesBetween 0 low) before → low ≤ page → All (LiesBetween 0 page) before
ended_by before low page ended up =
    λ k d within. let h : LiesBetween 0 low (get_or before k d) = ended k d within in let end : end_of (get_or before k d).range ≤ low = h.2 in (h.0, h.1, omega arith)

unmaps_carried_out : (buffer : BufferId) (low : ℕ) (before ms : List Mapping) → All (LiesBetween 0 low) before → IsLaidOutFrom low ms →
    edited_by_all (reverse (unmaps_of buffer ms)) (before ++ ms) ≡ before ++ without_buffer buffer ms
unmaps_carried_out buffer low before [] ended laid = refl
unmaps_carried_out buffer low before (m ∷ ms) ended laid =
    let up : low ≤ m.range.first = laid.0 in
    let here : All (LiesBetween 0 m.range.first) before = ended_by before low m.range.first ended up in
    let next : All (LiesBetween 0 (end_of m.range)) before = ended_by before low (end_of m.range) ended (omega arith) in
    ⊎_elim
    (λ (is : is_of buffer m.backing ≡ true).
    let turn : edited (before ++ m ∷ ms) (Unmap m.range) ≡ before ++ ms = unmapped-between before m ms here laid.1 laid.2 in
    rw is
    (ap (λ (ops : List PageOp). edited_by_all ops (before ++ m ∷ ms)) (reverse-append (Unmap m.range ∷ []) (unmaps_of buffer ms))
    ∙ edited_by_all-append (reverse (unmaps_of buffer ms)) (Unmap m.range ∷ []) (before ++ m ∷ ms)
    ∙ ap (edited_by_all (reverse (unmaps_of buffer ms))) turn
    ∙ unmaps_carried_out buffer (end_of m.range) before ms next laid.2))
    (λ (other : is_of buffer m.backing ≡ false).
    let one : All (LiesBetween 0 (end_of m.range)) (m ∷ []) =
    All-cons (LiesBetween 0 (end_of m.range)) m [] (laid.1, omega arith, omega arith) (All-nil (LiesBetween 0 (end_of m.range))) in
    let later : edited_by_all (reverse (unmaps_of buffer ms)) ((before ++ m ∷ []) ++ ms) ≡ (before ++ m ∷ []) ++ without_buffer buffer ms =
    unmaps_carried_out buffer (end_of m.range) (before ++ m ∷ []) ms
    (All-append (LiesBetween 0 (end_of m.range)) before (m ∷ []) next one) laid.2 in
    rw other (rw (append_assoc before (m ∷ []) ms, append_assoc before (m ∷ []) (without_buffer buffer ms)) at later))
    (cases_Bool (is_of buffer m.backing))

pub unmap_of_buffer_is_unmaps : UnmapOfBufferIsUnmaps
unmap_of_buffer_is_unmaps ms buffer laid = unmaps_carried_out buffer 0 [] ms (All-nil (LiesBetween 0 0)) laid
