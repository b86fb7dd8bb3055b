use Rattle.std.proofs.Common.{◌≡◌, ◌<◌, ◌+◌, ◌++◌, map, length, List, ◌∙◌, refl, subst, sym}
use Rattle.std.specs.Prelude.{OnErr}
use Rattle.std.proofs.lemmas.Result.{IfOk-weaker}
use Rattle.std.proofs.lemmas.List.Elements.{All-take, All-drop}
use Rattle.std.specs.List.{filter}
use Rattle.gv_types.specs.Mapping.{IsMapping}
use Rattle.gv_types.specs.PageRange.{meets}
use Rattle.gv_types.specs.Operation.{range_of, own_mapping}
use Rattle.gv_types.specs.declared.mapping.Mapping.{Mapping}
use Rattle.gv_ranges.specs.List.{IsOverlappingRun}
use Rattle.gv_ranges.proofs.ReplacedLemmas.{all_mappings}
use Rattle.gv_ranges.proofs.OverlapLemmas.{filter_meets}
use Rattle.gv_split.specs.Steps.{step_in}
use Rattle.gv_split.specs.declared.step.Step.TheVariants.{Map}
use Rattle.gv_split.proofs.step.plan_range.Goals as goal

pub steps_of_run-requires-clause-mappings : goal.steps_of_run-requires-clause-mappings
steps_of_run-requires-clause-mappings c =
    rw c.run.ensures
    (All-take IsMapping _ _ (All-drop IsMapping c.overlapping-index.result.0 _ (all_mappings c.args.list.now.mappings 0 c.len-len.ensures.laid_out)))

pub returns-clause-ok : goal.returns-clause-ok
returns-clause-ok c =
    let is : IsOverlappingRun c.args.list.now.mappings (range_of c.args.op.now) c.overlapping-index.result.0 c.overlapping-index.result.1 =
    rw c.range.ensures at c.overlapping-index.ensures in
    let met : c.run.result ≡ filter (λ (m : Mapping). meets m.range (range_of c.args.op.now)) c.args.list.now.mappings =
    c.run.ensures ∙ sym (filter_meets _ _ _ _ is) in
    let same : map (step_in c.args.op.now) c.run.result ++ map Map (own_mapping c.args.op.now) ≡ map (step_in c.args.op.now) (filter (λ (m : Mapping). meets m.range (range_of c.args.op.now)) c.args.list.now.mappings) ++ map Map (own_mapping c.args.op.now) =
    rw met refl in
    IfOk-weaker c.steps_of_run.result _ _ (λ answer is'. is' ∙ same) c.steps_of_run.ensures.ok

pub returns-clause-some : goal.returns-clause-some
returns-clause-some c =
    let is : IsOverlappingRun c.args.list.now.mappings (range_of c.args.op.now) c.overlapping-index.result.0 c.overlapping-index.result.1 =
    rw c.range.ensures at c.overlapping-index.ensures in
    let met : c.run.result ≡ filter (λ (m : Mapping). meets m.range (range_of c.args.op.now)) c.args.list.now.mappings =
    c.run.ensures ∙ sym (filter_meets _ _ _ _ is) in
    subst (λ (xs : List Mapping). OnErr c.steps_of_run.result (0 < length xs + length (own_mapping c.args.op.now))) met c.steps_of_run.ensures.some
