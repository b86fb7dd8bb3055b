use Rattle.std.proofs.Common.{◌≡◌, ℕ, suc, ◌+◌, ◌<◌, List, Bool, true, false, ◌||◌, length, get_or, drop, drop-cons, add-one, refl, sym, ap, ◌∙◌}
use Rattle.clap.specs.Simple.{App, with_rule}
use Rattle.clap.specs.Words.{app_of}
use Rattle.clap.specs.declared.builder.command.Command.TheViews.{out-Command}
use Rattle.gv_program.specs.Rows.{rule_of_row, with_rows}
use Rattle.gv_program.specs.declared.args.Argument.{Argument}
use Rattle.gv_program.proofs.commands.with_rows.Goals as goal

or_false : (b : Bool) → (b || false) ≡ b
or_false true = refl
or_false false = refl

-- a row is added, and is no longer among those that are left
one_row : (old new : App) (rows : List Argument) (i : ℕ) (d : Argument) → i < length rows
    → new ≡ with_rule old (rule_of_row (get_or rows i d))
    → with_rows new (drop (i + 1) rows) ≡ with_rows old (drop i rows)
one_row old new rows i d less is =
    rw add-one (ap (λ (a : App). with_rows a (drop (suc i) rows)) is ∙ ap (with_rows old) (sym (drop-cons rows i d less)))

pub loop-row-preserved : goal.loop-row-preserved
loop-row-preserved c =
    let at = c.loop-row in
    let adds = c.in_ok-command.ensures in (
      one_row (app_of at.command) (app_of c.in_ok-command.command) c.args.rows.now at.row-index _ c.loop-row-test.true
          (adds.shape c.arg_of.ensures.one ∙ ap (with_rule (app_of at.command)) c.arg_of.ensures.rule)
          ∙ at.invariant.0,
      adds.globals ∙ ap (λ (b : Bool). (out-Command at.command).has_globals || b) c.arg_of.ensures.one ∙ or_false _ ∙ at.invariant.1,
    )
