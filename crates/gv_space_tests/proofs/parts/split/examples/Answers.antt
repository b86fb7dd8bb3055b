use Rattle.std.proofs.Common.{◌≡◌, [], ◌∷◌, false, arith, refl}
use Rattle.std.proofs.lemmas.Bool.{true≢false}
use Rattle.std.proofs.lemmas.List.Elements.{All-nil, All-cons}
use Rattle.std.specs.List.{All}
use Rattle.gv_types.specs.PageRange.{span, meets}
use Rattle.gv_types.specs.declared.mapping.Mapping.{Mapping}
use Rattle.gv_ranges.specs.Examples.{a, of}
use Rattle.gv_space_tests.proofs.parts.split.examples.Goals as goal

pub returns-clause-free : goal.returns-clause-free
returns-clause-free c =
    let free : All (λ (m : Mapping). meets m.range (span 2 2) ≡ false) (of 0 2 (a 0) ∷ []) =
    All-cons (λ (m : Mapping). meets m.range (span 2 2) ≡ false) (of 0 2 (a 0)) [] refl (All-nil (λ (m : Mapping). meets m.range (span 2 2) ≡ false)) in
    (((1, omega arith, refl), (free, tt)), λ present. true≢false (present.0 1 (of 0 2 (a 0)) (omega arith)))
