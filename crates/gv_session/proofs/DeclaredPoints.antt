-- The points of a request are on timelines that are declared.
use Rattle.std.proofs.Common.{◌≡◌, ℕ, Bool, ◌<◌, List, [], ◌∷◌, length, Option, Some, None, refl}
use Rattle.std.specs.Prelude.{position, bytes_eq, option_map}
use Rattle.std.specs.Prelude.{IfSome}
use Rattle.std.specs.List.{All}
use Rattle.std.proofs.lemmas.List.Elements.{All-nil, All-cons}
use Rattle.std.proofs.lemmas.List.Quantifiers.{position-Some}
use Rattle.gv_types.specs.declared.request.Point.{Point}
use Rattle.gv_lines.specs.OptionSteps.{◌>>=◌, all_read}
use Rattle.gv_lines.specs.declared.point.NamedPoint.{NamedPoint}
use Rattle.gv_session.specs.Requests.{point_named, point_on}

-- the timeline of a point is below this count
abbrev pub IsBelow : ℕ → Point → Type 0
IsBelow count p = p.timeline < count

place_below : (test : List ℕ → Bool) (names : List (List ℕ)) → IfSome (position test names) (λ index. index < length names)
place_below test names =
    (elim (position test names) as (λ (o : Option ℕ). position test names ≡ o → IfSome o (λ index. index < length names)) [
      | Some index ↦ λ is. (position-Some test names index [] is).0
      | None ↦ λ is. tt
    ]) refl

on_below : (count value : ℕ) (o : Option ℕ) → IfSome o (λ index. index < count) → IfSome (option_map (point_on value) o) (IsBelow count)
on_below count value (Some index) below = below
on_below count value None below = tt

point_below : (names : List (List ℕ)) (point : NamedPoint) → IfSome (point_named names point) (IsBelow (length names))
point_below names point = on_below (length names) point.value (position (bytes_eq point.timeline) names) (place_below (bytes_eq point.timeline) names)

each_below : (count : ℕ) (o : Option Point) (rest : Option (List Point)) → IfSome o (IsBelow count) → IfSome rest (All (IsBelow count)) →
    IfSome (o >>= (λ x. rest >>= (λ xs. Some (x ∷ xs)))) (All (IsBelow count))
each_below count None rest first more = tt
each_below count (Some x) None first more = tt
each_below count (Some x) (Some xs) first more = All-cons (IsBelow count) x xs first more

points_below : (names : List (List ℕ)) (points : List NamedPoint) → IfSome (all_read (point_named names) points) (All (IsBelow (length names)))
points_below names [] = All-nil (IsBelow (length names))
points_below names (first ∷ more) =
    each_below (length names) (point_named names first) (all_read (point_named names) more) (point_below names first) (points_below names more)

-- points that were read are on declared timelines
pub read_below : (names : List (List ℕ)) (points : List NamedPoint) (read : List Point) → all_read (point_named names) points ≡ Some read →
    All (IsBelow (length names)) read
read_below names points read is = rw is at (points_below names points)
