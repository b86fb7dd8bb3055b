use Rattle.std.proofs.Common.{◌≡◌, ℕ, ◌+◌, ◌-◌, ◌<◌, ◌≤◌, Option, drop, subst, sym, ap, ◌∙◌, arith}
use Rattle.gv_types.specs.Page.{PAGES}
use Rattle.gv_types.specs.declared.mapping.Entry.{Entry}
use Rattle.gv_journal.specs.History.{base}
use Rattle.gv_journal.specs.Items.{JournalState, entries, next, is_withdrawn}
use Rattle.gv_journal.proofs.BaseOfPage.{IsQuiet, Goes, one_goes, none_older, all_quiet, base_past}
use Rattle.gv_journal.proofs.journal.Journal.base_at.Goals as goal

pub returns-then-page-ge-SPACE_PAGES : goal.returns-then-page-ge-SPACE_PAGES
returns-then-page-ge-SPACE_PAGES c =
    let past : PAGES ≤ c.args.page = omega arith in
    sym (base_past c.args.space.now c.args.self.now c.args.page c.list-list.ensures.space.laid_out c.requires past)

pub loop-number-init : goal.loop-number-init
loop-number-init c =
    let j = c.args.self.now in
    let first_is : c.self.inside.first ≡ j.first = ap (λ (x : JournalState). x.first) c.self.view_is in
    record {
      held = omega (arith, first_is);
      within = omega (arith, first_is);
      quiet = subst (λ (n : ℕ). IsQuiet (is_withdrawn (entries j)) c.args.page (drop (next j - n) (entries j))) (sym first_is) (none_older j c.args.page);
    }

pub returns-in-Some : goal.returns-in-Some
returns-in-Some c =
    let j = c.args.self.now in
    let high : c.loop-number.number < next j = omega arith in
    subst (λ (o : Option (Option Entry)). Goes (is_withdrawn (entries j)) c.args.page (drop (next j - (c.loop-number.number + 1)) (entries j)) (base c.args.space.now.mappings j.items) o) (sym (sym c.in-Some.is ∙ c.taken_by.ensures))
    (one_goes c.args.space.now j c.args.page c.loop-number.number (omega arith) c.requires c.loop-number.invariant.held high c.loop-number.invariant.quiet)

pub loop-number-preserved : goal.loop-number-preserved
loop-number-preserved c =
    let j = c.args.self.now in
    let high : c.loop-number.number < next j = omega arith in
    record {
      held = omega (arith, c.loop-number.invariant.held);
      within = omega (arith, high);
      quiet = subst (λ (o : Option (Option Entry)). Goes (is_withdrawn (entries j)) c.args.page (drop (next j - (c.loop-number.number + 1)) (entries j)) (base c.args.space.now.mappings j.items) o) (sym (sym c.in-None.is ∙ c.taken_by.ensures))
          (one_goes c.args.space.now j c.args.page c.loop-number.number (omega arith) c.requires c.loop-number.invariant.held high c.loop-number.invariant.quiet);
    }

pub returns : goal.returns
returns c =
    let j = c.args.self.now in
    let end : c.loop-number.number ≡ next j = omega (arith, c.loop-number.invariant.within) in
    c.find.ensures ∙ all_quiet c.args.space.now j c.args.page c.loop-number.number (omega arith) c.requires end c.loop-number.invariant.quiet
