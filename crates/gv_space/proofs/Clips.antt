-- What is left of a list between two pages, one mapping after another, and how many mappings it is.
use Rattle.std.proofs.Common.{◌≡◌, ℕ, ◌+◌, ◌-◌, ◌<◌, drop, ap, ◌∙◌, ◌++◌, List, [], ◌∷◌, take, length, get_or, suc, Option, Some, None, refl, sym, arith, subst}
use Rattle.std.proofs.Math.Seq.{take-suc}
use Rattle.std.proofs.lemmas.List.{append-nil, take_all, take-append-le, length-append}
use Rattle.std.proofs.lemmas.List.Elements.{filter_map-append}
use Rattle.std.specs.List.{filter_map}
use Rattle.std.specs.Option.{option_to_list}
use Rattle.gv_types.specs.Mapping.{clip}
use Rattle.gv_types.specs.declared.mapping.Mapping.{Mapping}
use Rattle.gv_ranges.specs.Edit.{clipped}

one : (low high : ℕ) (m : Mapping) → clipped low high (m ∷ []) ≡ option_to_list (clip low high m)
one low high m = elim (clip low high m) as (λ (o : Option Mapping). filter_map (λ _. o) (m ∷ []) ≡ option_to_list o) [ Some n ↦ refl | None ↦ refl ]

-- one mapping more
pub clipped-next : (low high : ℕ) (ms : List Mapping) (k : ℕ) (d : Mapping) → k < length ms →
    clipped low high (take (k + 1) ms) ≡ clipped low high (take k ms) ++ option_to_list (clip low high (get_or ms k d))
clipped-next low high ms k d below =
    let next : take (suc k) ms ≡ take k ms ++ (get_or ms k d ∷ []) = take-suc ms k d below in
    let more : k + 1 ≡ suc k = omega arith in
    rw (more, next, filter_map-append (clip low high) (take k ms) (get_or ms k d ∷ []), one low high (get_or ms k d)) refl

module _ (low high : ℕ) (ms old : List Mapping) (k : ℕ) (m : Mapping) (below : k < length ms) (is : m ≡ get_or ms k m) (so_far : old ≡ clipped low high (take k ms)) where
  grown : (given : Option Mapping) → given ≡ clip low high m → clipped low high (take (k + 1) ms) ≡ old ++ option_to_list given
  grown given given_is =
      clipped-next low high ms k m below ∙
      subst (λ (n : Mapping). clipped low high (take k ms) ++ option_to_list (clip low high n) ≡ old ++ option_to_list given) is (rw (given_is, so_far) refl)

  -- the mapping has nothing between the pages
  pub grown_by_none : None ≡ clip low high m → old ≡ clipped low high (take (k + 1) ms)
  grown_by_none none = sym (grown None none ∙ append-nil old)

  -- the mapping has a piece between the pages
  pub grown_by_piece : (piece : Mapping) → Some piece ≡ clip low high m → old ++ piece ∷ [] ≡ clipped low high (take (k + 1) ms)
  grown_by_piece piece some = sym (grown (Some piece) some)

-- what lies between two rests
pub between : (one other : Option Mapping) (inside pieces : List Mapping) (n : ℕ) → pieces ≡ option_to_list one ++ inside ++ option_to_list other →
    n + length (option_to_list other) ≡ length pieces → take (n - length (option_to_list one)) (drop (length (option_to_list one)) pieces) ≡ inside
between None None inside pieces n is long = rw (is, append-nil inside) (take_all _ inside (omega (arith, long, ap (λ (l : List Mapping). length l) is, length-append inside [])))
between None (Some m) inside pieces n is long =
    rw is (take-append-le (n - 0) inside (m ∷ []) (omega (arith, long, ap (λ (l : List Mapping). length l) is, length-append inside (m ∷ [])))
    ∙ take_all _ inside (omega (arith, long, ap (λ (l : List Mapping). length l) is, length-append inside (m ∷ []))))
between (Some m) None inside pieces n is long =
    rw (is, append-nil inside) (take_all _ inside (omega (arith, long, ap (λ (l : List Mapping). length l) is, length-append inside [])))
between (Some m) (Some o) inside pieces n is long =
    rw is (take-append-le (n - 1) inside (o ∷ []) (omega (arith, long, ap (λ (l : List Mapping). length l) is, length-append inside (o ∷ [])))
    ∙ take_all _ inside (omega (arith, long, ap (λ (l : List Mapping). length l) is, length-append inside (o ∷ []))))
