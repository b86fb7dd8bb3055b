-- What a list in order says of a range of pages.
use Rattle.std.proofs.Common.{◌≡◌, ℕ, zero, suc, ◌+◌, ◌-◌, ◌<◌, ◌≤◌, ◌⊎◌, inl, inr, Bool, true, false, ◌||◌, List, [], ◌∷◌, length, get_or, Some, None, refl, arith, sym, ap, ◌∙◌, subst}
use Rattle.gv_types.specs.PageRange.{PageRangeState, span, end_of, meets, lies_in}
use Rattle.std.proofs.lemmas.List.Elements.{All-head, All-tail}
use Rattle.gv_table.specs.BufferNames.{IsEncodable, AreEncodable}
use Rattle.gv_types.specs.Mapping.{part, advanced, HasSmallPages}
use Rattle.gv_types.specs.declared.mapping.Backing.{Backing}
use Rattle.gv_types.specs.declared.mapping.Backing.TheVariants.{Buffer, Zero}
use Rattle.gv_types.specs.declared.mapping.Entry.{Entry}
use Rattle.gv_types.specs.declared.mapping.Mapping.{Mapping}
use Rattle.gv_ranges.specs.List.{at, IsLaidOutFrom}
use Rattle.gv_ranges.proofs.LookupLemmas.{first_above}
use Rattle.gv_ranges.proofs.ClipLemmas.{advanced-advanced}
use Rattle.gv_table.specs.Reads.{any_meets, covering, IsReadBy}
use Rattle.gv_types.specs.Mapping.{entry_advanced}
use Rattle.gv_table.proofs.RangesMeet.{meets-bounds, meets-after, meets-before, apart-cases, lies-bounds, lies-from, lies-not-low, lies-not-high, covers-lies}

pub true-or-false : (b : Bool) → (b ≡ true) ⊎ (b ≡ false)
true-or-false true = inl refl
true-or-false false = inr refl

or-parts : (a b : Bool) → (a || b) ≡ false → (a ≡ false) × (b ≡ false)
or-parts false b e = (refl, e)
or-parts true b e = cc

or-true : (b : Bool) → (b || true) ≡ true
or-true true = refl
or-true false = refl

-- no mapping meets a part of a range that none meets
pub any_meets-part : (ms : List Mapping) (s t : PageRangeState) → any_meets ms s ≡ false → s.first ≤ t.first → end_of t ≤ end_of s → any_meets ms t ≡ false
any_meets-part [] s t none low high = refl
any_meets-part (m ∷ ms) s t none low high =
    let parts = or-parts (meets m.range s) (any_meets ms s) none in
    let here : meets m.range t ≡ false = elim (apart-cases m.range s parts.0) [
      | inl after ↦ meets-after m.range t (omega (arith, after))
      | inr before ↦ meets-before m.range t (omega (arith, before))
    ] in
    rw here (any_meets-part ms s t parts.1 low high)

-- nothing lies below the first page of a list
pub covering-below : (ms : List Mapping) (low : ℕ) (s : PageRangeState) → IsLaidOutFrom low ms → s.first < low → covering ms s ≡ None
covering-below [] low s laid below = refl
covering-below (m ∷ ms) low s laid below =
    let here : lies_in s m.range ≡ false = lies-not-low s m.range (omega arith) in
    rw here (covering-below ms (end_of m.range) s laid.2 (omega arith))

pub covering-above : (ms : List Mapping) (low : ℕ) (s : PageRangeState) (entry : Entry) → IsLaidOutFrom low ms → covering ms s ≡ Some entry → low ≤ s.first
covering-above [] low s entry laid found = cc
covering-above (m ∷ ms) low s entry laid found =
    elim (true-or-false (lies_in s m.range)) [
      | inl whole ↦ (let h = lies-bounds s m.range whole in omega (arith, h, laid.0))
      | inr other ↦ (let found' : covering ms s ≡ Some entry = rw other at found in
          let h = covering-above ms (end_of m.range) s entry laid.2 found' in omega (arith, h, laid.0))
    ]

-- a part of a range that one mapping covers is covered too, and holds what lies so far on
pub covering-part : (ms : List Mapping) (low : ℕ) (s t : PageRangeState) (entry : Entry) → IsLaidOutFrom low ms → covering ms s ≡ Some entry →
    s.first ≤ t.first → 0 < t.count → end_of t ≤ end_of s → covering ms t ≡ Some (entry_advanced entry (t.first - s.first))
covering-part [] low s t entry laid found up some down = cc
covering-part (m ∷ ms) low s t entry laid found up some down =
    elim (true-or-false (lies_in s m.range)) [
      | inl whole ↦ (let found' : Some (part m s.first) ≡ Some entry = rw whole at found in
          let h = lies-bounds s m.range whole in
          let here : lies_in t m.range ≡ true = lies-from t m.range (omega (arith, h)) (omega (arith, h)) in
          let same : part m s.first ≡ entry = cc in
          let made : Backing → Entry = λ b. record { backing = b; flags = m.flags } in
          let further : entry_advanced (part m s.first) (t.first - s.first) ≡ part m t.first =
          ap made (advanced-advanced m.backing (s.first - m.range.first) (t.first - s.first) (t.first - m.range.first) (omega (arith, h))) in
          rw here (ap (λ (e : Entry). Some e) (sym further ∙ ap (λ (e : Entry). entry_advanced e (t.first - s.first)) same)))
      | inr other ↦ (let found' : covering ms s ≡ Some entry = rw other at found in
          let above = covering-above ms (end_of m.range) s entry laid.2 found' in
          let here : lies_in t m.range ≡ false = lies-not-high t m.range (omega (arith, above)) in
          rw here (covering-part ms (end_of m.range) s t entry laid.2 found' up some down))
    ]

pub small-advanced : (b : Backing) (i n count : ℕ) → HasSmallPages b count → i + n ≤ count → HasSmallPages (advanced b i) n
small-advanced (Buffer id page) i n count small within = omega arith
small-advanced Zero i n count small within = tt

pub small-less : (b : Backing) (n count : ℕ) → HasSmallPages b count → n ≤ count → HasSmallPages b n
small-less (Buffer id page) n count small within = omega arith
small-less Zero n count small within = tt

-- what covers a range has small page numbers
pub covering-small : (ms : List Mapping) (low : ℕ) (s : PageRangeState) (entry : Entry) → IsLaidOutFrom low ms → covering ms s ≡ Some entry →
    HasSmallPages entry.backing s.count
covering-small [] low s entry laid found = cc
covering-small (m ∷ ms) low s entry laid found =
    elim (true-or-false (lies_in s m.range)) [
      | inl whole ↦ (let found' : Some (part m s.first) ≡ Some entry = rw whole at found in
          let h = lies-bounds s m.range whole in
          let same : part m s.first ≡ entry = cc in
          let P : Entry → Type 0 = λ e. HasSmallPages e.backing s.count in
          subst P same (small-advanced m.backing (s.first - m.range.first) s.count m.range.count laid.1.1 (omega (arith, h))))
      | inr other ↦ (let found' : covering ms s ≡ Some entry = rw other at found in
          covering-small ms (end_of m.range) s entry laid.2 found')
    ]

pub encoded-advanced : (b : Backing) (i n count : ℕ) → IsEncodable b count → i + n ≤ count → IsEncodable (advanced b i) n
encoded-advanced (Buffer id page) i n count encoded within = (encoded.0, encoded.1, omega (arith, encoded.2))
encoded-advanced Zero i n count encoded within = tt

pub encoded-less : (b : Backing) (n count : ℕ) → IsEncodable b count → n ≤ count → IsEncodable b n
encoded-less (Buffer id page) n count encoded within = (encoded.0, encoded.1, omega (arith, encoded.2))
encoded-less Zero n count encoded within = tt

-- what covers a range can be encoded where the list can
pub covering-encoded : (ms : List Mapping) (low : ℕ) (s : PageRangeState) (entry : Entry) → IsLaidOutFrom low ms → AreEncodable ms → covering ms s ≡ Some entry →
    IsEncodable entry.backing s.count
covering-encoded [] low s entry laid encoded found = cc
covering-encoded (m ∷ ms) low s entry laid encoded found =
    elim (true-or-false (lies_in s m.range)) [
      | inl whole ↦ (let found' : Some (part m s.first) ≡ Some entry = rw whole at found in
          let h = lies-bounds s m.range whole in
          let same : part m s.first ≡ entry = cc in
          let P : Entry → Type 0 = λ e. IsEncodable e.backing s.count in
          subst P same (encoded-advanced m.backing (s.first - m.range.first) s.count m.range.count (All-head (λ n. IsEncodable n.backing n.range.count) m ms encoded) (omega (arith, h))))
      | inr other ↦ (let found' : covering ms s ≡ Some entry = rw other at found in
          covering-encoded ms (end_of m.range) s entry laid.2 (All-tail (λ n. IsEncodable n.backing n.range.count) m ms encoded) found')
    ]

pub at-covering : (ms : List Mapping) (page : ℕ) → at ms page ≡ covering ms (span page 1)
at-covering [] page = refl
at-covering (m ∷ ms) page = let rest = at-covering ms page in rw (covers-lies m.range page, rest) refl

pub covering-none : (ms : List Mapping) (s : PageRangeState) → 0 < s.count → any_meets ms s ≡ false → covering ms s ≡ None
covering-none [] s some none = refl
covering-none (m ∷ ms) s some none =
    let parts = or-parts (meets m.range s) (any_meets ms s) none in
    let here : lies_in s m.range ≡ false = elim (apart-cases m.range s parts.0) [
      | inl after ↦ lies-not-low s m.range (omega (arith, after, some))
      | inr before ↦ lies-not-high s m.range (omega (arith, before, some))
    ] in
    rw here (covering-none ms s some parts.1)

-- what one mapping covers, it meets
pub covering-meets : (ms : List Mapping) (s : PageRangeState) (entry : Entry) → 0 < s.count → covering ms s ≡ Some entry → any_meets ms s ≡ true
covering-meets ms s entry some found =
    elim (true-or-false (any_meets ms s)) [
      | inl met ↦ met
      | inr other ↦ (let none = covering-none ms s some other in cc)
    ]

-- a page that is met is covered
pub page-covered : (ms : List Mapping) (page : ℕ) → any_meets ms (span page 1) ≡ true → covering ms (span page 1) ≡ None → ⊥
page-covered [] page met none = cc
page-covered (m ∷ ms) page met none =
    elim (true-or-false (lies_in (span page 1) m.range)) [
      | inl whole ↦ (let none' : Some (part m page) ≡ None = rw whole at none in cc)
      | inr other ↦ (
          let here : meets m.range (span page 1) ≡ false = elim (true-or-false (meets m.range (span page 1))) [
            | inl meeting ↦ (let h = meets-bounds m.range (span page 1) meeting in
                let bad = lies-from (span page 1) m.range (omega (arith, h)) (omega (arith, h)) in cc)
            | inr apart ↦ apart
          ] in
          let none' : covering ms (span page 1) ≡ None = rw other at none in
          let met' : any_meets ms (span page 1) ≡ true = rw here at met in
          page-covered ms page met' none')
    ]

-- a mapping that meets a range decides what the list says of it
pub met-at : (ms : List Mapping) (low j : ℕ) (d : Mapping) (t : PageRangeState) → IsLaidOutFrom low ms → j < length ms → 0 < t.count →
    meets (get_or ms j d).range t ≡ true → IsReadBy ms t (Some (get_or ms j d))
met-at [] low j d t laid within some met = absurd (omega arith)
met-at (m ∷ ms) low zero d t laid within some met =
    let h = meets-bounds m.range t met in
    let rest = covering-below ms (end_of m.range) t laid.2 h.1 in
    (rw met refl, rw rest refl, laid.1)
met-at (m ∷ ms) low (suc j) d t laid within some met =
    let rest = met-at ms (end_of m.range) j d t laid.2 (omega arith) some met in
    let above : end_of m.range ≤ (get_or ms j d).range.first = first_above ms (end_of m.range) j d laid.2 (omega arith) in
    let h = meets-bounds (get_or ms j d).range t met in
    let here : lies_in t m.range ≡ false = lies-not-high t m.range (omega (arith, h, above)) in
    (rw rest.0 (or-true (meets m.range t)), rw here rest.1, rest.2)

pub met-none : (ms : List Mapping) (t : PageRangeState) → ((j : ℕ) (d : Mapping) → j < length ms → meets (get_or ms j d).range t ≡ false) →
    any_meets ms t ≡ false
met-none [] t none = refl
met-none (m ∷ ms) t none =
    let here : meets m.range t ≡ false = none 0 m (omega arith) in
    rw here (met-none ms t (λ j d below. none (suc j) d (omega arith)))
