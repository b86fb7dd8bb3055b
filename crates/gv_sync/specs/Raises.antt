-- What a list of raises makes of timelines that are 0 at first.
use Rattle.std.specs.Prelude.{◌≡◌, ◌==◌, ℕ, ◌<◌, ◌≤◌, List, [], ◌∷◌, filter, length, map, max, slice_index, slice_set}
use Rattle.gv_types.specs.declared.request.Point.{Point}

-- a timeline after these raises: the greatest of them, or 0
abbrev pub raised : List ℕ → ℕ
raised [] = 0
raised (value ∷ values) = max value (raised values)

-- the values to which these points raise one timeline, in order
abbrev pub values_on : ℕ → List Point → List ℕ
values_on timeline points = map (λ p. p.value) (filter (λ p. p.timeline == timeline) points)

-- each number is that of its raises
abbrev pub IsAfter : List Point → List ℕ → Type 0
IsAfter raises numbers =
    (timeline : ℕ) → timeline < length numbers
    → slice_index numbers timeline ≡ raised (values_on timeline raises)

-- the numbers, with the point's timeline raised to its value where it is lower
abbrev pub with_raise : List ℕ → Point → List ℕ
with_raise numbers point =
    slice_set numbers point.timeline (max (slice_index numbers point.timeline) point.value)

-- the point's timeline has at least its value
abbrev pub IsReached : List ℕ → Point → Type 0
IsReached numbers point = point.value ≤ slice_index numbers point.timeline
