-- A request fits if every timeline that it names is below the count.
use Rattle.std.specs.Prelude.{ℕ, ◌<◌}
use Rattle.std.specs.List.{All}
use Rattle.gv_types.specs.declared.request.Request.{Request}

abbrev pub Fits : ℕ → Request → Type 0
Fits timelines request =
    All (λ p. p.timeline < timelines) request.waits.items × All (λ p. p.timeline < timelines) request.signals.items
