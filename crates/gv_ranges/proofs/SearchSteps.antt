-- Steps of the search for a page: what is left to look at after each.
use Rattle.std.proofs.Common.{◌≡◌, ℕ, [], ◌∷◌, None, Bool, true, false, leb, refl, ◌+◌, ◌-◌, ◌/◌, ◌^◌, ◌%◌, ◌*◌, ◌∙◌, ◌≤◌, ◌<◌, ◌⊎◌, inl, inr, length, get_or, take, drop, List, arith, sym, subst}
use Rattle.std.specs.Prelude.{if◌then◌else◌}
use Rattle.std.proofs.lemmas.Bool.{leb-true, leb-false, lt-leb, le-leb, cases_lt}
use Rattle.std.proofs.lemmas.List.{length-drop, get_or_default, take_all}
use Rattle.std.specs.List.{All}
use Rattle.gv_types.specs.PageRange.{PageRangeState, end_of, IsInSpace}
use Rattle.gv_types.specs.declared.mapping.Mapping.{Mapping}
use Rattle.gv_ranges.specs.List.{at, IsLaidOut, AreEnded, IsIndexOfPage, IsOverlappingRun}
use Rattle.gv_ranges.proofs.LookupLemmas.{firsts_rise, ends_rise, end_before_first, at_gap, at_none, ended_before_begun, run_meets}
use Rattle.gv_ranges.proofs.TakeDropLemmas.{All-take_within, All-drop_within, All-take_at, All-drop_at}

split : (i n : ℕ) → i < n + 1 → (i < n) ⊎ (i ≡ n)
split i n below = grind arith

-- nothing remains of a list from its end on
pub All-past : (P : Mapping → Type 0) (ms : List Mapping) (index : ℕ) → length ms ≤ index → All P (drop index ms)
All-past P ms index end k d below = absurd (omega (arith, length-drop index ms))

module _ (ms : List Mapping) (page i : ℕ) (laid : IsLaidOut ms) (within : i < length ms) where
  -- the mappings up to one that ends at the page or before it do so
  pub ended-up-to : (index : ℕ) → index ≡ i + 1 → ((d : Mapping) → end_of (get_or ms i d).range ≤ page) → AreEnded ms page index
  ended-up-to index is here = record {
    within = omega arith;
    ended = All-take_within (λ (m : Mapping). end_of m.range ≤ page) ms index (omega arith)
        (λ k d low high.
        let h = here d in
        let up = ends_rise ms 0 laid k i d (omega arith) within in
        omega (arith, h, up));
  }

  -- the mappings from one on that ends past the page do so
  pub past-from : (index : ℕ) → i ≤ index → index ≤ length ms → ((d : Mapping) → page < end_of (get_or ms i d).range) →
      All (λ m. page < end_of m.range) (drop index ms)
  past-from index from few here =
      All-drop_within (λ (m : Mapping). page < end_of m.range) ms index few
      (λ k d low high.
      let h = here d in
      let up = ends_rise ms 0 laid i k d (omega arith) high in
      omega (arith, h, up))

  -- the mappings before one that begins at the page or before it end there or before it
  pub ended-before : ((d : Mapping) → (get_or ms i d).range.first ≤ page) → AreEnded ms page i
  ended-before here = record {
    within = omega arith;
    ended = All-take_within (λ (m : Mapping). end_of m.range ≤ page) ms i (omega arith)
        (λ k d low high.
        let h = here d in
        let up = end_before_first ms 0 k i d laid high within in
        omega (arith, h, up));
  }

  -- the mappings from one on that begins past the page do so
  pub begun-from : (index : ℕ) → i ≤ index → index ≤ length ms → ((d : Mapping) → page < (get_or ms i d).range.first) →
      All (λ m. page < m.range.first) (drop index ms)
  begun-from index from few here =
      All-drop_within (λ (m : Mapping). page < m.range.first) ms index few
      (λ k d low high.
      let h = here d in
      let up = firsts_rise ms 0 laid i k d (omega arith) high in
      omega (arith, h, up))

  -- one mapping more that begins before the page
  pub begun-more : All (λ m. m.range.first < page) (take i ms) → ((d : Mapping) → (get_or ms i d).range.first < page) →
      All (λ m. m.range.first < page) (take (i + 1) ms)
  begun-more before here =
      All-take_within (λ (m : Mapping). m.range.first < page) ms (i + 1) (omega arith)
      (λ k d low high. elim (split k i high) [
        | inl less ↦ All-take_at (λ (m : Mapping). m.range.first < page) ms i k d (omega arith) before less
        | inr same ↦ subst (λ (j : ℕ). (get_or ms j d).range.first < page) (sym same) (here d)
      ])

  -- the mappings from one on that begins at the page or past it do so
  pub not_begun-from : ((d : Mapping) → page ≤ (get_or ms i d).range.first) → All (λ m. page ≤ m.range.first) (drop i ms)
  not_begun-from here =
      All-drop_within (λ (m : Mapping). page ≤ m.range.first) ms i (omega arith)
      (λ k d low high.
      let h = here d in
      let up = firsts_rise ms 0 laid i k d low high in
      omega (arith, h, up))

true-or-false : (b : Bool) → (b ≡ true) ⊎ (b ≡ false)
true-or-false true = inl refl
true-or-false false = inr refl

pub chosen : (b : Bool) (next index half step : ℕ) → step ≡ (if b then half else 0) → next ≡ index + step →
    ((b ≡ true) × (next ≡ index + half)) ⊎ ((b ≡ false) × (next ≡ index))
chosen true next index half step is sum = inl (refl, omega arith)
chosen false next index half step is sum = inr (refl, omega arith)

-- a step of a search: what remains is halved by a look at the mapping in the middle
pub halved : (ms : List Mapping) (page index remaining half next first step : ℕ) (m : Mapping) → IsLaidOut ms → index + remaining ≤ length ms → 1 < remaining →
    half ≡ remaining / 2 → AreEnded ms page index → All (λ m. page < m.range.first) (drop (index + remaining) ms) →
    m ≡ get_or ms (index + half) m → first ≡ m.range.first → step ≡ (if leb first page then half else 0) → next ≡ index + step →
    (next + (remaining - half) ≤ length ms) × AreEnded ms page next × All (λ m. page < m.range.first) (drop (next + (remaining - half)) ms)
halved ms page index remaining half next first step m laid within some middle ended past here first_is step_is is =
    let inside : index + half < length ms = omega arith in
    let same : (d : Mapping) → get_or ms (index + half) d ≡ m = λ d. get_or_default ms (index + half) d m inside ∙ sym here in
    elim (chosen (leb first page) next index half step step_is is) [
      | inl low ↦ (
          let h : first ≤ page = leb-true first page low.0 in
          let h' : m.range.first ≤ page = omega arith in
          let rest : next + (remaining - half) ≡ index + remaining = omega (arith, low.1) in
          let at' : next ≡ index + half = low.1 in (
            omega (arith, rest),
            subst (λ (n : ℕ). AreEnded ms page n) (sym at') (ended-before ms page (index + half) laid inside (λ d. rw (same d) h')),
            rw rest past,
          ))
      | inr high ↦ (
          let h : page < first = leb-false first page high.0 in
          let h' : page < m.range.first = omega arith in (
            omega (arith, high.1),
            subst (λ (n : ℕ). AreEnded ms page n) (sym high.1) ended,
            begun-from ms page (index + half) laid inside (next + (remaining - half)) (omega (arith, high.1)) (omega (arith, high.1)) (λ d. rw (same d) h'),
          ))
    ]

-- where a mapping that was looked at begins
first_at : (ms : List Mapping) (i first : ℕ) (m : Mapping) → i < length ms → m ≡ get_or ms i m → first ≡ m.range.first →
    (d : Mapping) → (get_or ms i d).range.first ≡ first
first_at ms i first m inside here first_is d = rw (get_or_default ms i d m inside ∙ sym here) (sym first_is)

-- three looks at firsts that rise: how many of them are at most the page
pub counted : (page index next quarter f1 f2 f3 s1 s2 s3 : ℕ) → f1 ≤ f2 → f2 ≤ f3 → s1 ≡ (if leb f1 page then quarter else 0) →
    s2 ≡ (if leb f2 page then quarter else 0) → s3 ≡ (if leb f3 page then quarter else 0) → next ≡ index + (s1 + s2 + s3) →
    ((f3 ≤ page) × (next ≡ index + 3 * quarter)) ⊎ (((f2 ≤ page) × (page < f3) × (next ≡ index + 2 * quarter)) ⊎
    (((f1 ≤ page) × (page < f2) × (next ≡ index + quarter)) ⊎ ((page < f1) × (next ≡ index))))
counted page index next quarter f1 f2 f3 s1 s2 s3 up up' s1_is s2_is s3_is is =
    elim (cases_lt page f3) [
      | inr low ↦ (
          let e1 = rw (le-leb f1 page (omega arith)) at s1_is in
          let e2 = rw (le-leb f2 page (omega arith)) at s2_is in
          let e3 = rw (le-leb f3 page low) at s3_is in
          inl (low, omega arith))
      | inl high ↦ inr (
          let e3 = rw (lt-leb f3 page high) at s3_is in
          elim (cases_lt page f2) [
            | inr low ↦ (
                let e1 = rw (le-leb f1 page (omega arith)) at s1_is in
                let e2 = rw (le-leb f2 page low) at s2_is in
                inl (low, high, omega arith))
            | inl high' ↦ inr (
                let e2 = rw (lt-leb f2 page high') at s2_is in
                elim (cases_lt page f1) [
                  | inr low ↦ (let e1 = rw (le-leb f1 page low) at s1_is in inl (low, high', omega arith))
                  | inl high'' ↦ (let e1 = rw (lt-leb f1 page high'') at s1_is in inr (high'', omega arith))
                ])
          ])
    ]

-- a step of a search: a quarter remains by looks at three mappings
pub quartered : (ms : List Mapping) (page index remaining quarter next f1 f2 f3 s1 s2 s3 : ℕ) (m1 m2 m3 : Mapping) → IsLaidOut ms → index + remaining ≤ length ms →
    3 < remaining → quarter ≡ remaining / 4 → AreEnded ms page index → All (λ m. page < m.range.first) (drop (index + remaining) ms) →
    m1 ≡ get_or ms (index + quarter) m1 → m2 ≡ get_or ms (index + 2 * quarter) m2 → m3 ≡ get_or ms (index + 3 * quarter) m3 →
    f1 ≡ m1.range.first → f2 ≡ m2.range.first → f3 ≡ m3.range.first → s1 ≡ (if leb f1 page then quarter else 0) →
    s2 ≡ (if leb f2 page then quarter else 0) → s3 ≡ (if leb f3 page then quarter else 0) → next ≡ index + (s1 + s2 + s3) →
    (next + (remaining - 3 * quarter) ≤ length ms) × AreEnded ms page next × All (λ m. page < m.range.first) (drop (next + (remaining - 3 * quarter)) ms)
quartered ms page index remaining quarter next f1 f2 f3 s1 s2 s3 m1 m2 m3 laid within some quarter_is ended past here1 here2 here3 f1_is f2_is f3_is s1_is s2_is s3_is is =
    let i1 : index + quarter < length ms = omega arith in
    let i2 : index + 2 * quarter < length ms = omega arith in
    let i3 : index + 3 * quarter < length ms = omega arith in
    let at1 : (d : Mapping) → (get_or ms (index + quarter) d).range.first ≡ f1 = first_at ms (index + quarter) f1 m1 i1 here1 f1_is in
    let at2 : (d : Mapping) → (get_or ms (index + 2 * quarter) d).range.first ≡ f2 = first_at ms (index + 2 * quarter) f2 m2 i2 here2 f2_is in
    let at3 : (d : Mapping) → (get_or ms (index + 3 * quarter) d).range.first ≡ f3 = first_at ms (index + 3 * quarter) f3 m3 i3 here3 f3_is in
    let up : f1 ≤ f2 = omega (arith, at1 m1, at2 m1, firsts_rise ms 0 laid (index + quarter) (index + 2 * quarter) m1 (omega arith) i2) in
    let up' : f2 ≤ f3 = omega (arith, at2 m1, at3 m1, firsts_rise ms 0 laid (index + 2 * quarter) (index + 3 * quarter) m1 (omega arith) i3) in
    elim (counted page index next quarter f1 f2 f3 s1 s2 s3 up up' s1_is s2_is s3_is is) [
      | inl all ↦ (
          let rest : next + (remaining - 3 * quarter) ≡ index + remaining = omega (arith, all.1) in (
            omega (arith, rest),
            subst (λ (n : ℕ). AreEnded ms page n) (sym all.1) (ended-before ms page (index + 3 * quarter) laid i3 (λ d. rw (at3 d) all.0)),
            rw rest past,
          ))
      | inr fewer ↦ elim fewer [
        | inl two ↦ (
          omega (arith, two.2),
          subst (λ (n : ℕ). AreEnded ms page n) (sym two.2) (ended-before ms page (index + 2 * quarter) laid i2 (λ d. rw (at2 d) two.0)),
          begun-from ms page (index + 3 * quarter) laid i3 (next + (remaining - 3 * quarter)) (omega (arith, two.2)) (omega (arith, two.2)) (λ d. rw (at3 d) two.1),
        )
        | inr fewer' ↦ elim fewer' [
          | inl one ↦ (
            omega (arith, one.2),
            subst (λ (n : ℕ). AreEnded ms page n) (sym one.2) (ended-before ms page (index + quarter) laid i1 (λ d. rw (at1 d) one.0)),
            begun-from ms page (index + 2 * quarter) laid i2 (next + (remaining - 3 * quarter)) (omega (arith, one.2)) (omega (arith, one.2)) (λ d. rw (at2 d) one.1),
          )
          | inr none ↦ (
            omega (arith, none.1),
            subst (λ (n : ℕ). AreEnded ms page n) (sym none.1) ended,
            begun-from ms page (index + quarter) laid i1 (next + (remaining - 3 * quarter)) (omega (arith, none.1)) (omega (arith, none.1)) (λ d. rw (at1 d) none.0),
          )
        ]
      ]
    ]

-- where the last mapping that begins at the page or before it ends past the page, it is the first that does; else the next one is
pub indexed-here : (ms : List Mapping) (page i : ℕ) → IsLaidOut ms → i < length ms → AreEnded ms page i → ((d : Mapping) → page < end_of (get_or ms i d).range) →
    IsIndexOfPage ms page i
indexed-here ms page i laid inside ended here = record {
  within = ended.within;
  ended = ended.ended;
  not_ended = past-from ms page i laid inside i (omega arith) (omega arith) here;
}

pub indexed-next : (ms : List Mapping) (page i : ℕ) → IsLaidOut ms → i < length ms → All (λ m. page < m.range.first) (drop (i + 1) ms) →
    ((d : Mapping) → end_of (get_or ms i d).range ≤ page) → IsIndexOfPage ms page (i + 1)
indexed-next ms page i laid inside later here =
    let ended = ended-up-to ms page i laid inside (i + 1) refl here in
    record {
      within = ended.within;
      ended = ended.ended;
      not_ended = λ k d below. let h = later k d below in omega (arith, h);
    }

-- all mappings end at the page or before it where the last one does
pub indexed-last : (ms : List Mapping) (page : ℕ) → IsLaidOut ms → 0 < length ms → ((d : Mapping) → end_of (get_or ms (length ms - 1) d).range ≤ page) →
    IsIndexOfPage ms page (length ms)
indexed-last ms page laid some here =
    let ended = ended-up-to ms page (length ms - 1) laid (omega arith) (length ms) (omega arith) here in
    record {
      within = ended.within;
      ended = ended.ended;
      not_ended = All-past (λ m. page < end_of m.range) ms (length ms) (omega arith);
    }

-- nothing is at a page where the last mapping that begins at it or before it ends there or before it
pub at-nothing : (ms : List Mapping) (page i : ℕ) → IsLaidOut ms → i < length ms → All (λ m. page < m.range.first) (drop (i + 1) ms) →
    ((d : Mapping) → end_of (get_or ms i d).range ≤ page) → at ms page ≡ None
at-nothing [] page i laid inside later here = refl
at-nothing (n ∷ ns) page i laid inside later here =
    let is = indexed-next (n ∷ ns) page i laid inside later here in
    elim (cases_lt (i + 1) (length (n ∷ ns))) [
      | inl more ↦ at_gap (n ∷ ns) 0 page (i + 1) n laid more
          (λ k less. All-take_at (λ (m : Mapping). end_of m.range ≤ page) (n ∷ ns) (i + 1) k n is.within is.ended less)
          (All-drop_at (λ (m : Mapping). page < m.range.first) (n ∷ ns) (i + 1) n more later)
      | inr end ↦ (
          let whole : take (i + 1) (n ∷ ns) ≡ n ∷ ns = take_all (i + 1) (n ∷ ns) end in
          at_none (n ∷ ns) page (rw whole at is.ended))
    ]

pub at-empty : (ms : List Mapping) (page : ℕ) → length ms ≡ 0 → at ms page ≡ None
at-empty [] page none = refl
at-empty (m ∷ ms) page none = absurd (omega arith)

-- the upper bits of a difference
bits-none : (end page : ℕ) → end ≤ page → page ≤ 2 ^ 45 → (page + (2 ^ 64 - end)) % 2 ^ 64 / 2 ^ 58 ≡ 0
bits-none end page low few = omega arith

bits-all : (end page : ℕ) → page < end → end ≤ 2 ^ 45 → (page + (2 ^ 64 - end)) % 2 ^ 64 / 2 ^ 58 ≡ 63
bits-all end page high few = omega arith

shifted-out : (step : ℕ) → step < 2 ^ 63 → step / 2 ^ 63 ≡ 0
shifted-out step fits = omega arith

unshifted : (step : ℕ) → step / 2 ^ 0 ≡ step
unshifted step = omega arith

-- a step shifted by the upper bits of a difference
pub stepped : (step first page bits : ℕ) → step < 2 ^ 63 → first ≤ 2 ^ 45 → page ≤ 2 ^ 45 → bits ≡ (page + (2 ^ 64 - first)) % 2 ^ 64 / 2 ^ 58 →
    step / 2 ^ bits ≡ (if leb first page then step else 0)
stepped step first page bits fits few few' is =
    elim (cases_lt page first) [
      | inl high ↦ (
          let all : bits ≡ 63 = is ∙ bits-all first page high few in
          rw (lt-leb _ _ high, all) (shifted-out step fits))
      | inr low ↦ (
          let none : bits ≡ 0 = is ∙ bits-none first page low few' in
          rw (le-leb _ _ low, none) (unshifted step))
    ]

-- the mappings that meet a range, by how many end before it and how many begin before its end
module _ (ms : List Mapping) (range : PageRangeState) (index behind : ℕ) (laid : IsLaidOut ms) (some : IsInSpace range) (indexed : IsIndexOfPage ms range.first index)
    (within : behind ≤ length ms) (not_begun : All (λ m. end_of range ≤ m.range.first) (drop behind ms)) where
  pub indices_rise : index ≤ behind
  indices_rise = ended_before_begun ms 0 range index behind laid some indexed.within within indexed.ended not_begun

  pub run_between : All (λ m. m.range.first < end_of range) (take behind ms) → IsOverlappingRun ms range index (behind - index)
  run_between begun =
      let end : index + (behind - index) ≡ behind = (let up = indices_rise in omega (arith, up)) in
      record {
        within = rw end within;
        before = indexed.ended;
        meeting = run_meets ms range index behind indices_rise within indexed.not_ended begun;
        beyond = rw end not_begun;
      }
