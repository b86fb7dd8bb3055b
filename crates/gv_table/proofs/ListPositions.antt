-- The position from which a list is read for a slot.
use Rattle.std.proofs.Common.{◌≡◌, ℕ, ◌+◌, ◌-◌, ◌<◌, ◌≤◌, ◌⊎◌, inl, inr, true, false, max, List, Some, length, get_or, arith, sym, subst}
use Rattle.std.proofs.lemmas.Bool.{cases_lt}
use Rattle.gv_types.specs.PageRange.{PageRangeState, end_of, meets}
use Rattle.gv_types.specs.declared.mapping.Mapping.{Mapping}
use Rattle.gv_ranges.specs.List.{IsLaidOut, AreEnded, IsIndexOfPage}
use Rattle.gv_ranges.proofs.LookupLemmas.{is_mapping, firsts_rise, ends_rise}
use Rattle.gv_ranges.proofs.TakeDropLemmas.{All-take_at, All-drop_at, All-take_within, All-drop_within}
use Rattle.gv_table.specs.Reads.{any_meets, IsReadBy, EndsBefore, IsNeighbour}
use Rattle.gv_table.proofs.RangesMeet.{meets-bounds, meets-from, meets-after, meets-before}
use Rattle.gv_table.proofs.CoveringMappings.{met-none, met-at}

split : (i n : ℕ) → i < n + 1 → (i < n) ⊎ (i ≡ n)
split i n below = grind arith

-- what ends at a page ends at a later one or before it
pub ended-later : (ms : List Mapping) (page later position : ℕ) → page ≤ later → AreEnded ms page position → AreEnded ms later position
ended-later ms page later position up is = record { within = is.within; ended = λ k d below. let h = is.ended k d below in omega (arith, h, up) }

pub position-ended : (ms : List Mapping) (page later position : ℕ) → page ≤ later → IsIndexOfPage ms page position → AreEnded ms later position
position-ended ms page later position up is = record { within = is.within; ended = λ k d below. let h = is.ended k d below in omega (arith, h, up) }

-- one mapping more
pub ended-more : (ms : List Mapping) (page position : ℕ) → AreEnded ms page position → position < length ms →
    ((d : Mapping) → end_of (get_or ms position d).range ≤ page) → AreEnded ms page (position + 1)
ended-more ms page position is within here = record {
  within = omega arith;
  ended = All-take_within (λ (m : Mapping). end_of m.range ≤ page) ms (position + 1) (omega arith)
      (λ k d low high. elim (split k position high) [
        | inl less ↦ All-take_at (λ (m : Mapping). end_of m.range ≤ page) ms position k d is.within is.ended less
        | inr same ↦ subst (λ (j : ℕ). end_of (get_or ms j d).range ≤ page) (sym same) (here d)
      ]);
}

-- the first mapping that ends past the page
pub position-found : (ms : List Mapping) (page position : ℕ) → IsLaidOut ms → AreEnded ms page position →
    (position < length ms → (d : Mapping) → page < end_of (get_or ms position d).range) → IsIndexOfPage ms page position
position-found ms page position laid is past = record {
  within = is.within;
  ended = is.ended;
  not_ended = All-drop_within (λ (m : Mapping). page < end_of m.range) ms position is.within
      (λ k d low high.
      let h = past (omega arith) d in
      let up = ends_rise ms 0 laid position k d low high in
      omega (arith, h, up));
}

module _ (ms : List Mapping) (range t : PageRangeState) (position : ℕ) (laid : IsLaidOut ms) (is : IsIndexOfPage ms (max t.first range.first) position) where
  -- no mapping meets a slot that the neighbour doesn't reach and before which the next one doesn't begin
  pub none-met : EndsBefore ms range position t.first → (position < length ms → (d : Mapping) → end_of t ≤ (get_or ms position d).range.first) →
      any_meets ms t ≡ false
  none-met before later = met-none ms t (λ j d inside.
      elim (cases_lt j position) [
        | inl below ↦ meets-before (get_or ms j d).range t (elim (cases_lt t.first range.first) [
          | inl outside ↦ (
              let h = before outside (omega arith) d in
              let within = is.within in
              let up = ends_rise ms 0 laid j (position - 1) d (omega arith) (omega (arith, within)) in
              omega (arith, h, up))
          | inr from ↦ (
              let h = All-take_at (λ (m : Mapping). end_of m.range ≤ max t.first range.first) ms position j d is.within is.ended below in
              omega (arith, h))
        ])
        | inr from ↦ (
            let h = later (omega arith) d in
            let up = firsts_rise ms 0 laid position j d from inside in
            meets-after (get_or ms j d).range t (omega (arith, h, up)))
      ])

  -- the neighbour decides where it reaches into the slot
  pub neighbour-read : (m : Mapping) → 0 < t.count → meets t range ≡ true → IsNeighbour ms range position t.first m → IsReadBy ms t (Some m)
  neighbour-read m some met near =
      let within = is.within in
      let inside : position - 1 < length ms = omega (arith, within, near.some) in
      let mapping = is_mapping ms 0 (position - 1) m laid inside in
      let ends = All-take_at (λ (n : Mapping). end_of n.range ≤ max t.first range.first) ms position (position - 1) m is.within is.ended (omega (arith, near.some)) in
      let met' = meets-bounds t range met in
      let past : t.first < end_of (get_or ms (position - 1) m).range = rw (← near.here) near.past in
      rw (← near.here) at (met-at ms 0 (position - 1) m t laid inside some
      (meets-from (get_or ms (position - 1) m).range t (omega (arith, mapping.0, ends, met', near.before)) past))

  -- and the next one where it begins before the slot's end
  pub next-read : (m : Mapping) → 0 < t.count → position < length ms → m ≡ get_or ms position m → m.range.first < end_of t → IsReadBy ms t (Some m)
  next-read m some inside here begun =
      let ends = All-drop_at (λ (n : Mapping). max t.first range.first < end_of n.range) ms position m inside is.not_ended in
      let begun' : (get_or ms position m).range.first < end_of t = rw (← here) begun in
      rw (← here) at (met-at ms 0 position m t laid inside some (meets-from (get_or ms position m).range t begun' (omega (arith, ends))))
