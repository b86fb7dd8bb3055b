use Rattle.std.proofs.Common.{◌≡◌, ◌++◌, ◌∷◌, [], take, string_bytes}
use Rattle.std.specs.List.{flat_map}
use Rattle.gv_session.specs.State.{names_alone}
use Rattle.gv_session.specs.Texts.{step_text, reply}
use Rattle.gv_session.proofs.space_text.write_steps.Given as goal

abbrev pub invariant-loop-step : goal.invariant-loop-step
invariant-loop-step l =
    string_bytes l.out ≡ string_bytes l.initial.out ++ flat_map (λ m. reply (step_text (names_alone l.names.entries) m ∷ [])) (take l.step-index l.steps)
