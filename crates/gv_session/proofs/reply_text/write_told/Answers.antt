use Rattle.std.proofs.Common.{◌≡◌, ◌∙◌, List, ℕ, ◌+◌, ◌++◌, ap, sym, append_assoc, string_bytes, take, get_or}
use Rattle.gv_vm.specs.declared.outcome.Outcome.{Outcome}
use Rattle.gv_vm.specs.declared.outcome.Outcome.TheVariants.{Accepted}
use Rattle.gv_session.specs.Texts.{numbered_lines, outcome_line}
use Rattle.gv_session.proofs.NumberedLemmas.{numbered_lines-from}
use Rattle.gv_session.proofs.reply_text.write_told.Goals as goal

pub loop-index-preserved : goal.loop-index-preserved
loop-index-preserved c =
    let line : ℕ → Outcome → List ℕ = outcome_line c.args.timelines.now.names in
    let n : ℕ = c.loop-index.index in
    let first : ℕ = c.args.first in
    let before : List ℕ = string_bytes c.args.out.now in
    let lines : List ℕ = numbered_lines line first (take n c.args.outcomes.now) in
    let here : List ℕ = line (first + n) (get_or c.args.outcomes.now n (Accepted 0)) in
    let wrote : string_bytes c.write_numbered.new.out ≡ string_bytes c.loop-index.out ++ here = c.in_ok-write_numbered.ensures in
    wrote ∙ ap (λ (bytes : List ℕ). bytes ++ here) c.loop-index.invariant ∙ append_assoc before lines here
    ∙ ap (λ (bytes : List ℕ). before ++ bytes) (sym (numbered_lines-from line first n c.args.outcomes.now (Accepted 0) c.loop-index-test.true))
