-- What is left of a run that meets a range.
use Rattle.std.proofs.Common.{◌≡◌, ℕ, zero, suc, ◌+◌, ◌-◌, ◌≤◌, ◌<◌, length, take, drop, List, [], ◌∷◌, arith, refl, sym, ◌∙◌, ap, get_or, inl, inr, Option, Some, None}
use Rattle.std.specs.List.{All, cons_option}
use Rattle.std.specs.Prelude.{slice_get}
use Rattle.std.specs.Option.{option_to_list}
use Rattle.std.proofs.lemmas.List.Elements.{All-get_or}
use Rattle.std.proofs.lemmas.List.{get_or-take, get_or-drop, length-take, length-drop}
use Rattle.gv_types.specs.PageRange.{end_of}
use Rattle.gv_types.specs.Mapping.{clip}
use Rattle.gv_types.specs.declared.mapping.Mapping.{Mapping}
use Rattle.gv_ranges.specs.List.{IsLaidOut, IsLaidOutFrom, run}
use Rattle.gv_ranges.specs.Edit.{clipped}
use Rattle.gv_ranges.proofs.ClipLemmas.{clip_none}
use Rattle.gv_ranges.proofs.LookupLemmas.{first_above}
use Rattle.gv_ranges.proofs.ReplacedLemmas.{LiesOutside, clipped_none}

-- an order from a later page is one from an earlier page
pub laid_out_lower : (ms : List Mapping) (low low' : ℕ) → low' ≤ low → IsLaidOutFrom low ms → IsLaidOutFrom low' ms
laid_out_lower [] low low' less laid = tt
laid_out_lower (m ∷ ms) low low' less laid = (omega arith, laid.1, laid.2)

pub laid_out-drop : (ms : List Mapping) (low n : ℕ) → IsLaidOutFrom low ms → IsLaidOutFrom low (drop n ms)
laid_out-drop ms low zero laid = laid
laid_out-drop [] low (suc n) laid = tt
laid_out-drop (m ∷ ms) low (suc n) laid = laid_out_lower (drop n ms) (end_of m.range) low (omega arith) (laid_out-drop ms (end_of m.range) n laid.2)

pub laid_out-take : (ms : List Mapping) (low n : ℕ) → IsLaidOutFrom low ms → IsLaidOutFrom low (take n ms)
laid_out-take ms low zero laid = tt
laid_out-take [] low (suc n) laid = tt
laid_out-take (m ∷ ms) low (suc n) laid = (laid.0, laid.1, laid_out-take ms (end_of m.range) n laid.2)

cons_option-nil : (o : Option Mapping) → cons_option o [] ≡ option_to_list o
cons_option-nil None = refl
cons_option-nil (Some m) = refl

-- below a page, only the first mapping of a run can stick out that ends past it
pub clipped_first : (m : Mapping) (ms : List Mapping) (low bound : ℕ) → IsLaidOutFrom low (m ∷ ms) → bound ≤ end_of m.range →
    clipped 0 bound (m ∷ ms) ≡ option_to_list (clip 0 bound m)
clipped_first m ms low bound laid past =
    let out : All (LiesOutside 0 bound) ms =
    λ k d below. inr (let h : end_of m.range ≤ (get_or ms k d).range.first = first_above ms (end_of m.range) k d laid.2 below in omega arith) in
    rw (clipped_none 0 bound ms out) (cons_option-nil (clip 0 bound m))

clipped_at_first : (ms : List Mapping) (bound : ℕ) (d : Mapping) → 0 < length ms → IsLaidOut ms → bound ≤ end_of (get_or ms 0 d).range →
    clipped 0 bound ms ≡ option_to_list (clip 0 bound (get_or ms 0 d))
clipped_at_first [] bound d some laid past = absurd (omega arith)
clipped_at_first (m ∷ ms) bound d some laid past = clipped_first m ms 0 bound laid past

-- from a page on, only the last mapping of a run can stick out that begins before it
pub clipped_last : (ms : List Mapping) (low bound top : ℕ) (d : Mapping) → IsLaidOutFrom low ms → 0 < length ms →
    (get_or ms (length ms - 1) d).range.first ≤ bound →
    clipped bound top ms ≡ option_to_list (clip bound top (get_or ms (length ms - 1) d))
clipped_last [] low bound top d laid some before = absurd (omega arith)
clipped_last (m ∷ []) low bound top d laid some before = cons_option-nil (clip bound top m)
clipped_last (m ∷ (n ∷ ns)) low bound top d laid some before =
    let index : length (m ∷ (n ∷ ns)) - 1 ≡ suc (length ns) = omega arith in
    let last : length (n ∷ ns) - 1 ≡ length ns = omega arith in
    let before' : (get_or (n ∷ ns) (length ns) d).range.first ≤ bound = rw index at before in
    let ends : end_of m.range ≤ (get_or (n ∷ ns) (length ns) d).range.first = first_above (n ∷ ns) (end_of m.range) (length ns) d laid.2 (omega arith) in
    let rest : clipped bound top (n ∷ ns) ≡ option_to_list (clip bound top (get_or (n ∷ ns) (length (n ∷ ns) - 1) d)) =
    clipped_last (n ∷ ns) (end_of m.range) bound top d laid.2 (omega arith) (rw last before') in
    rw (index, clip_none bound top m (inl (omega arith))) (rest ∙ rw last refl)

-- a run that has a last mapping has one
pub some_of_last : (ms : List Mapping) (m : Mapping) → Some m ≡ slice_get ms (length ms - 1) → 0 < length ms
some_of_last [] m is = absurd cc
some_of_last (n ∷ ms) m is = omega arith

-- the mapping at an index of a run is the list's
pub at_run : (ms : List Mapping) (index count k : ℕ) (d : Mapping) → k < count → get_or (run ms index count) k d ≡ get_or ms (index + k) d
at_run ms index count k d less = get_or-take count (drop index ms) k d less ∙ get_or-drop index ms k d

pub length_of_run : (ms : List Mapping) (index count : ℕ) → index + count ≤ length ms → length (run ms index count) ≡ count
length_of_run ms index count within = rw (length-take count (drop index ms), length-drop index ms) (omega arith)

pub run_is_laid_out : (ms : List Mapping) (index count : ℕ) → IsLaidOut ms → IsLaidOut (run ms index count)
run_is_laid_out ms index count laid = laid_out-take (drop index ms) 0 count (laid_out-drop ms 0 index laid)

-- of mappings that end past a page, the first one's rest lies below it
pub rest_of_first : (ms : List Mapping) (page : ℕ) (m : Mapping) → 0 < length ms → IsLaidOut ms → All (λ n. page < end_of n.range) ms →
    m ≡ get_or ms 0 m → clipped 0 page ms ≡ option_to_list (clip 0 page m)
rest_of_first ms page m some laid past is =
    let ends : page < end_of (get_or ms 0 m).range = All-get_or (λ (n : Mapping). page < end_of n.range) ms 0 m some past in
    clipped_at_first ms page m some laid (omega arith) ∙ ap (λ (n : Mapping). option_to_list (clip 0 page n)) (sym is)

-- of mappings that begin before a page, the last one's rest lies behind it
pub rest_of_last : (ms : List Mapping) (page top : ℕ) (m : Mapping) → 0 < length ms → IsLaidOut ms → All (λ n. n.range.first < page) ms →
    m ≡ get_or ms (length ms - 1) m → clipped page top ms ≡ option_to_list (clip page top m)
rest_of_last ms page top m some laid before is =
    let begins : (get_or ms (length ms - 1) m).range.first < page =
    All-get_or (λ (n : Mapping). n.range.first < page) ms (length ms - 1) m (omega arith) before in
    clipped_last ms 0 page top m laid some (omega arith) ∙ ap (λ (n : Mapping). option_to_list (clip page top n)) (sym is)
