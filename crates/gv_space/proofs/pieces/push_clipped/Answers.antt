use Rattle.std.proofs.Common.{◌≡◌, ◌∙◌, ◌++◌, ◌∷◌, [], List, take, ap, refl, sym, Some, None}
use Rattle.std.proofs.lemmas.List.{append_assoc}
use Rattle.gv_types.specs.declared.mapping.Mapping.{Mapping}
use Rattle.gv_ranges.specs.Edit.{clipped}
use Rattle.gv_types.specs.Mapping.{clip}
use Rattle.gv_types.specs.PageRange.{end_of}
use Rattle.gv_space.proofs.Clips.{grown_by_none, grown_by_piece}
use Rattle.gv_space.proofs.pieces.push_clipped.Goals as goal

pub loop-mapping-preserved-in-None : goal.loop-mapping-preserved-in-None
loop-mapping-preserved-in-None c =
    let none : None ≡ clip c.args.range.first (end_of c.args.range) c.mapping-item.result =
    rw (← c.end.ensures.value, ← c.first.ensures.value) (sym c.in-None.is ∙ c.clip.ensures) in
    c.loop-mapping.invariant ∙
    ap (λ (l : List Mapping). c.args.pieces.now.items ++ l) (grown_by_none c.args.range.first (end_of c.args.range) c.args.saved.now _ c.loop-mapping.mapping-index c.mapping-item.result
    c.loop-mapping-test.true c.mapping-item.is refl none)

pub loop-mapping-preserved : goal.loop-mapping-preserved
loop-mapping-preserved c =
    let some : Some c.in-Some.piece ≡ clip c.args.range.first (end_of c.args.range) c.mapping-item.result =
    rw (← c.end.ensures.value, ← c.first.ensures.value) (sym c.in-Some.is ∙ c.clip.ensures) in
    let so_far : List Mapping = clipped c.args.range.first (end_of c.args.range) (take c.loop-mapping.mapping-index c.args.saved.now) in
    c.in_ok-push-in-Some.ensures.ok ∙
    ap (λ (l : List Mapping). l ++ c.in-Some.piece ∷ []) c.loop-mapping.invariant ∙
    append_assoc c.args.pieces.now.items so_far (c.in-Some.piece ∷ []) ∙
    ap (λ (l : List Mapping). c.args.pieces.now.items ++ l) (grown_by_piece c.args.range.first (end_of c.args.range) c.args.saved.now so_far c.loop-mapping.mapping-index c.mapping-item.result
    c.loop-mapping-test.true c.mapping-item.is refl c.in-Some.piece some)
