-- What is left of a mapping between two pages, and of a list.
use Rattle.std.proofs.Common.{◌≡◌, ℕ, ◌+◌, ◌-◌, ◌≤◌, ◌<◌, max, min, ◌++◌, List, [], ◌∷◌, true, false, cond, arith, refl, sym, ◌∙◌, ap, leb, ltb, ⊎_elim, ◌⊎◌, Some, None}
use Rattle.std.proofs.lemmas.Bool.{lt-leb, le-leb, lt-ltb, le-ltb, cases_lt}
use Rattle.gv_types.specs.PageRange.{PageRangeState, span, end_of, covers, IsInSpace}
use Rattle.gv_types.specs.Mapping.{part, piece, clip, advanced}
use Rattle.gv_types.specs.declared.mapping.Backing.{Backing}
use Rattle.gv_types.specs.declared.mapping.Backing.TheVariants.{Buffer, Zero}
use Rattle.gv_types.specs.declared.mapping.Mapping.{Mapping}
use Rattle.gv_types.specs.declared.mapping.Entry.{Entry}
use Rattle.gv_ranges.specs.List.{at}
use Rattle.gv_ranges.specs.Edit.{clipped}

-- to advance twice is to advance by the sum
pub advanced-advanced : (b : Backing) (i j n : ℕ) → i + j ≡ n → advanced (advanced b i) j ≡ advanced b n
advanced-advanced (Buffer id page) i j n is = ap (λ p. Buffer id p) (omega arith)
advanced-advanced Zero i j n is = refl

pub advanced-zero : (b : Backing) (n : ℕ) → n ≡ 0 → advanced b n ≡ b
advanced-zero (Buffer id page) n is = ap (λ p. Buffer id p) (omega arith)
advanced-zero Zero n is = refl

-- a piece says of its pages what the mapping says of them
pub part-piece : (m : Mapping) (first count page : ℕ) → m.range.first ≤ first → first ≤ page → part (piece m first count) page ≡ part m page
part-piece m first count page low up =
    ap (λ (b : Backing). let e : Entry = record { backing = b; flags = m.flags } in e)
    (advanced-advanced m.backing (first - m.range.first) (page - first) (page - m.range.first) (omega arith))

-- a mapping that lies between the two pages stays whole
pub clip_whole : (low high : ℕ) (m : Mapping) → IsInSpace m.range → low ≤ m.range.first → end_of m.range ≤ high → clip low high m ≡ Some m
clip_whole low high m some below above =
    let first : max low m.range.first ≡ m.range.first = omega arith in
    let end : min high (end_of m.range) ≡ end_of m.range = omega arith in
    let less : ltb m.range.first (end_of m.range) ≡ true = lt-ltb _ _ (omega arith) in
    let count : end_of m.range - m.range.first ≡ m.range.count = omega arith in
    let same : advanced m.backing (m.range.first - m.range.first) ≡ m.backing = advanced-zero m.backing _ (omega arith) in
    rw (first, end, less, count, same) refl

-- a mapping that lies outside goes
pub clip_none : (low high : ℕ) (m : Mapping) → (end_of m.range ≤ low) ⊎ (high ≤ m.range.first) → clip low high m ≡ None
clip_none low high m outside =
    let none : ltb (max low m.range.first) (min high (end_of m.range)) ≡ false =
    le-ltb _ _ (⊎_elim (λ (h : end_of m.range ≤ low). omega arith) (λ (h : high ≤ m.range.first). omega arith) outside) in
    rw none refl

-- two tests of facts that follow from one another
pub leb_iff : (a b c d : ℕ) → (a ≤ b → c ≤ d) → (c ≤ d → a ≤ b) → leb a b ≡ leb c d
leb_iff a b c d there back =
    ⊎_elim
    (λ (more : b < a). ⊎_elim
    (λ (more' : d < c). lt-leb _ _ more ∙ sym (lt-leb _ _ more'))
    (λ (less' : c ≤ d). let less : a ≤ b = back less' in absurd (omega arith))
    (cases_lt d c))
    (λ (less : a ≤ b). le-leb _ _ less ∙ sym (le-leb _ _ (there less)))
    (cases_lt b a)

-- between the two pages a piece covers what the mapping covers
pub covers-clip : (low high page : ℕ) (s : PageRangeState) → low ≤ page → page < high → max low s.first < min high (end_of s) →
    covers (span (max low s.first) (min high (end_of s) - max low s.first)) page ≡ covers s page
covers-clip low high page s up down some =
    let a : leb (max low s.first) page ≡ leb s.first page = leb_iff _ _ _ _ (λ h. omega arith) (λ h. omega arith) in
    let b : ltb page (max low s.first + (min high (end_of s) - max low s.first)) ≡ ltb page (end_of s) = leb_iff _ _ _ _ (λ h. omega arith) (λ h. omega arith) in
    rw (a, b) refl

-- where nothing is left of a mapping, it covers no page between the two
pub uncovered-clip : (low high page : ℕ) (s : PageRangeState) → low ≤ page → page < high → min high (end_of s) ≤ max low s.first → covers s page ≡ false
uncovered-clip low high page s up down none =
    ⊎_elim
    (λ (before : page < s.first). rw (lt-leb _ _ before) refl)
    (λ (h : s.first ≤ page). let past : ltb page (end_of s) ≡ false = le-ltb _ _ (omega arith) in rw (le-leb _ _ h, past) refl)
    (cases_lt page s.first)

-- between the two pages a clipped list says what the list says
pub at-clipped : (low high : ℕ) (ms : List Mapping) (page : ℕ) → low ≤ page → page < high → at (clipped low high ms) page ≡ at ms page
at-clipped low high [] page up down = refl
at-clipped low high (m ∷ ms) page up down =
    let rest : at (clipped low high ms) page ≡ at ms page = at-clipped low high ms page up down in
    let first : ℕ = max low m.range.first in
    let end : ℕ = min high (end_of m.range) in
    ⊎_elim
    (λ (some : max low m.range.first < min high (end_of m.range)).
    let left : ltb (max low m.range.first) (min high (end_of m.range)) ≡ true = lt-ltb _ _ some in
    rw (left, covers-clip low high page m.range up down some)
    (⊎_elim
    (λ (out : page < m.range.first). rw (lt-leb _ _ out) rest)
    (λ (h : m.range.first ≤ page).
    rw (part-piece m (max low m.range.first) (min high (end_of m.range) - max low m.range.first) page (omega arith) (omega arith), rest) refl)
    (cases_lt page m.range.first)))
    (λ (none : min high (end_of m.range) ≤ max low m.range.first).
    let gone : ltb (max low m.range.first) (min high (end_of m.range)) ≡ false = le-ltb _ _ none in
    rw (gone, uncovered-clip low high page m.range up down none) rest)
    (cases_lt (max low m.range.first) (min high (end_of m.range)))

-- outside of them it says nothing
pub at-clipped_out : (low high : ℕ) (ms : List Mapping) (page : ℕ) → (page < low) ⊎ (high ≤ page) → at (clipped low high ms) page ≡ None
at-clipped_out low high [] page out = refl
at-clipped_out low high (m ∷ ms) page out =
    let rest : at (clipped low high ms) page ≡ None = at-clipped_out low high ms page out in
    ⊎_elim
    (λ (some : max low m.range.first < min high (end_of m.range)).
    let left : ltb (max low m.range.first) (min high (end_of m.range)) ≡ true = lt-ltb _ _ some in
    rw left
    (⊎_elim
    (λ (below : page < low). let a : leb (max low m.range.first) page ≡ false = lt-leb _ _ (omega arith) in rw a rest)
    (λ (above : high ≤ page).
    let b : ltb page (max low m.range.first + (min high (end_of m.range) - max low m.range.first)) ≡ false = le-ltb _ _ (omega arith) in
    let a : leb (max low m.range.first) page ≡ true = le-leb _ _ (omega arith) in
    rw (a, b) rest)
    out))
    (λ (none : min high (end_of m.range) ≤ max low m.range.first).
    let gone : ltb (max low m.range.first) (min high (end_of m.range)) ≡ false = le-ltb _ _ none in rw gone rest)
    (cases_lt (max low m.range.first) (min high (end_of m.range)))

-- a list joined to another says what the one says, or else what the other says
pub at-append_none : (xs ys : List Mapping) (page : ℕ) → at xs page ≡ None → at (xs ++ ys) page ≡ at ys page
at-append_none [] ys page none = refl
at-append_none (m ∷ ms) ys page none =
    (elim (covers m.range page) as (λ b. cond b (Some (part m page)) (at ms page) ≡ None → cond b (Some (part m page)) (at (ms ++ ys) page) ≡ at ys page)
    [ true ↦ λ h. cc | false ↦ λ h. at-append_none ms ys page h ]) none

pub at-append_left : (xs ys : List Mapping) (page : ℕ) → at ys page ≡ None → at (xs ++ ys) page ≡ at xs page
at-append_left [] ys page none = none
at-append_left (m ∷ ms) ys page none =
    let rest : at (ms ++ ys) page ≡ at ms page = at-append_left ms ys page none in rw rest refl
