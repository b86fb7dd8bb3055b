use Rattle.std.proofs.Common.{◌≡◌, ℕ, ◌+◌, ◌<◌, List, ◌++◌, length, map, filter, false, refl, sym, ap, ◌∙◌, subst, ⊎_elim}
use Rattle.std.specs.Prelude.{OnErr}
use Rattle.std.proofs.lemmas.Result.{IfOk-weaker}
use Rattle.std.proofs.lemmas.List.{append-nil, length-append, length-map}
use Rattle.gv_types.specs.Mapping.{is_of}
use Rattle.gv_types.specs.PageRange.{meets}
use Rattle.gv_types.specs.Operation.{range_of, own_mapping}
use Rattle.gv_types.specs.declared.mapping.BufferId.{BufferId}
use Rattle.gv_types.specs.declared.mapping.Mapping.{Mapping}
use Rattle.gv_types.specs.declared.operation.PageOp.{PageOp}
use Rattle.gv_types.specs.declared.operation.PageOp.TheVariants.{UnmapBuffer}
use Rattle.gv_ranges.specs.List.{IsLaidOut}
use Rattle.gv_split.specs.declared.step.Step.{Step}
use Rattle.gv_split.specs.declared.step.Step.TheVariants.{Unmap, Map}
use Rattle.gv_split.specs.Steps.{step_in, steps}
use Rattle.gv_split.proofs.CarriedOutLemmas.{plan_makes_the_list, plan_is_present}
use Rattle.gv_split.proofs.step.plan.Goals as goal

-- the steps of an unmap of a whole buffer
steps-buffer : (answer : List Step) (ms mappings : List Mapping) (op : PageOp) (buffer : BufferId) → op ≡ UnmapBuffer buffer → mappings ≡ ms →
    answer ≡ map (λ m. Unmap m false) (filter (λ m. is_of buffer m.backing) mappings) → answer ≡ steps ms op
steps-buffer answer ms mappings op buffer is same are =
    rw (is, ← same) (are ∙ sym (append-nil (map (λ m. Unmap m false) (filter (λ m. is_of buffer m.backing) mappings))))

pub returns-in-UnmapBuffer-clause-carried_out : goal.returns-in-UnmapBuffer-clause-carried_out
returns-in-UnmapBuffer-clause-carried_out c =
    IfOk-weaker c.steps_of_buffer.result _ _ (λ answer are. plan_makes_the_list answer.items _ _
    (steps-buffer answer.items _ _ _ c.in-UnmapBuffer.buffer c.in-UnmapBuffer.is refl are) c.len-len.ensures.laid_out c.requires)
    c.steps_of_buffer.ensures.ok

pub returns-in-UnmapBuffer-clause-present : goal.returns-in-UnmapBuffer-clause-present
returns-in-UnmapBuffer-clause-present c =
    IfOk-weaker c.steps_of_buffer.result _ _ (λ answer are. plan_is_present answer.items _ _
    (steps-buffer answer.items _ _ _ c.in-UnmapBuffer.buffer c.in-UnmapBuffer.is refl are) c.len-len.ensures.laid_out c.requires)
    c.steps_of_buffer.ensures.ok

-- how many steps there are
length-steps : (f : Mapping → Step) (ms own : List Mapping) → length ms + length own ≡ length (map f ms ++ map Map own)
length-steps f ms own =
    let sum : length (map f ms ++ map Map own) ≡ length (map f ms) + length (map Map own) = length-append (map f ms) (map Map own) in
    sym (sum ∙ rw (length-map ms f, length-map own Map) refl)

pub returns-in-Map : goal.returns-in-Map
returns-in-Map c =
    let ms : List Mapping = c.args.list.now.mappings in
    let op : PageOp = c.args.op.now in
    let same : steps ms op ≡ map (step_in op) (filter (λ m. meets m.range (range_of op)) ms) ++ map Map (own_mapping op) =
    ⊎_elim (λ is. rw is.3 refl) (λ is. rw is.1 refl) c.in-Map.is in
    let count : length (filter (λ m. meets m.range (range_of op)) ms) + length (own_mapping op) ≡ length (steps ms op) =
    length-steps (step_in op) (filter (λ m. meets m.range (range_of op)) ms) (own_mapping op) ∙ ap length (sym same) in
    let laid : IsLaidOut ms = c.len-len.ensures.laid_out in
    record {
      ok = IfOk-weaker c.plan_range.result _ _ (λ answer are. are ∙ sym same) c.plan_range.ensures.ok;
      carried_out = IfOk-weaker c.plan_range.result _ _ (λ answer are. plan_makes_the_list answer.items ms op (are ∙ sym same) laid c.requires) c.plan_range.ensures.ok;
      present = IfOk-weaker c.plan_range.result _ _ (λ answer are. plan_is_present answer.items ms op (are ∙ sym same) laid c.requires) c.plan_range.ensures.ok;
      err = c.plan_range.ensures.err;
      some = subst (λ (n : ℕ). OnErr c.plan_range.result (0 < n)) count c.plan_range.ensures.some;
    }
