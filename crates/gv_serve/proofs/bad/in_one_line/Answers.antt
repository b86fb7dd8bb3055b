use Rattle.std.proofs.Common.{◌≡◌, ◌==◌, ℕ, sym, ◌∙◌, rules, tests}
use Rattle.std.specs.List.{list_any}
use Rattle.std.proofs.lemmas.Iterator.{YieldsList-from_slice}
use Rattle.std.proofs.lemmas.Iterator.Search.{any_from_yields_List}
use Rattle.gv_serve.proofs.bad.in_one_line.Goals as goal

pub returns : goal.returns
returns c =
    let text = c.args.text.now in
    let found : c.any.result ≡ list_any {X = ℕ} (λ b. b == 10) text = any_from_yields_List (λ b. b == 10) _ _ c.any.result c.any.ensures.ran (YieldsList-from_slice text cc) (λ x b q k. search (rules, tests)) in
    sym found ∙ c.if-any.false
