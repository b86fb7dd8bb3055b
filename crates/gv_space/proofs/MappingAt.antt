-- Where one of a list's mappings lies once a run of it gave way to pieces.
use Rattle.std.proofs.Common.{◌≡◌, ℕ, ◌+◌, ◌-◌, ◌<◌, ◌≤◌, List, [], ◌∷◌, ◌++◌, length, take, drop, get_or, arith, ap, ◌∙◌}
use Rattle.std.proofs.lemmas.List.{get_or-append_right, get_or_append_left, get_or_default, get_or-take, get_or-drop, length-take-le, length-append, length-drop}
use Rattle.std.specs.List.{splice}
use Rattle.gv_types.specs.declared.mapping.Mapping.{Mapping}
use Rattle.gv_table.specs.Patch.{HasMappingAt}

module _ (ms pieces : List Mapping) (index count : ℕ) (within : index + count ≤ length ms) where
  long : length (splice ms index (index + count) pieces) ≡ index + (length pieces + (length ms - (index + count)))
  long =
      length-append (take index ms) (pieces ++ drop (index + count) ms) ∙
      (let front = length-take-le index ms (omega (arith, within)) in
      let rest = length-append pieces (drop (index + count) ms) in
      let behind = length-drop (index + count) ms in
      omega (arith, front, rest, behind))

  -- the first of the pieces
  pub held_piece : (d : Mapping) → 0 < length pieces → HasMappingAt (splice ms index (index + count) pieces) (get_or pieces 0 d).range
  held_piece d some = record {
    index = index;
    within = omega (arith, long, some);
    here = λ e.
        let front = length-take-le index ms (omega (arith, within)) in
        let none : index - index ≡ 0 = omega arith in
        let at : get_or (splice ms index (index + count) pieces) index e ≡ get_or pieces 0 d =
        get_or-append_right (take index ms) (pieces ++ drop (index + count) ms) index index e front (omega arith) ∙
        ap (λ (n : ℕ). get_or (pieces ++ drop (index + count) ms) n e) none ∙
        get_or_append_left pieces (drop (index + count) ms) e 0 some ∙ get_or_default pieces 0 e d some in
        ap (λ (m : Mapping). m.range) at;
  }

  -- the one before them
  pub held_before : (d : Mapping) → 0 < index → HasMappingAt (splice ms index (index + count) pieces) (get_or ms (index - 1) d).range
  held_before d some = record {
    index = index - 1;
    within = omega (arith, long, some);
    here = λ e.
        let front = length-take-le index ms (omega (arith, within)) in
        let at : get_or (splice ms index (index + count) pieces) (index - 1) e ≡ get_or ms (index - 1) d =
        get_or_append_left (take index ms) (pieces ++ drop (index + count) ms) e (index - 1) (omega (arith, front, some)) ∙
        get_or-take index ms (index - 1) e (omega (arith, some)) ∙ get_or_default ms (index - 1) e d (omega (arith, within, some)) in
        ap (λ (m : Mapping). m.range) at;
  }

-- the one behind a run at the list's begin that nothing comes in for
pub held_behind : (ms pieces : List Mapping) (count : ℕ) (d : Mapping) → length pieces ≡ 0 → count < length ms → HasMappingAt (splice ms 0 (0 + count) pieces) (get_or ms count d).range
held_behind ms (p ∷ ps) count d none some = absurd (omega arith)
held_behind ms [] count d none some = record {
  index = 0;
  within =
      let all = long ms [] 0 count (omega (arith, some)) in
      omega (arith, all, some);
  here = λ e.
      let zero : 0 + count + 0 ≡ count = omega arith in
      let at : get_or (splice ms 0 (0 + count) []) 0 e ≡ get_or ms count d =
      get_or-drop (0 + count) ms 0 e ∙ ap (λ (n : ℕ). get_or ms n e) zero ∙ get_or_default ms count e d some in
      ap (λ (m : Mapping). m.range) at;
}
