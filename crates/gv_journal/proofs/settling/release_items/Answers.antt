use Rattle.std.proofs.Common.{◌≡◌, ◌<◌, ℕ, List, length-set, reverse, take, arith, sym, ◌∙◌, ap, subst, ◌++◌}
use Rattle.gv_types.specs.declared.mapping.Mapping.{Mapping}
use Rattle.gv_space.specs.State.{AreKept}
use Rattle.gv_space.specs.Undo.{released}
use Rattle.gv_journal.specs.Undoing.{taken_by}
use Rattle.gv_journal.specs.History.{kept_by, undos_of}
use Rattle.gv_journal.specs.ItemStore.{IsSpent}
use Rattle.gv_journal.specs.declared.item.Item.{Item}
use Rattle.gv_space.proofs.ReleasedLemmas.{released-none}
use Rattle.gv_journal.proofs.KeptMappings.{released_without}
use Rattle.gv_journal.proofs.Spending.{ahead_of, spent_behind, last_of, others_stay}
use Rattle.gv_journal.proofs.settling.release_items.Goals as goal

pub loop-remaining-preserved : goal.loop-remaining-preserved
loop-remaining-preserved c =
    let now = c.loop-remaining.items in
    let all = c.args.items.now in
    let remaining = c.loop-remaining.remaining in
    let item = c.index-items-remaining.result in
    let some : 0 < remaining = omega arith in
    let within = c.loop-remaining.invariant.within in
    let ahead = c.loop-remaining.invariant.ahead in
    let same : c.replace-undos.result ≡ item = c.replace-undos.ensures.value ∙ sym c.index-items-remaining.is in
    let empty : IsSpent c.replace-undos.new.dest = ap (λ (x : Item). x.undos.items) c.replace-undos.ensures.after ∙ c.blank.ensures in
    let last = last_of now all remaining item some within ahead c.index-items-remaining.is in
    record {
      within = simp length-set (omega arith);
      ahead = ahead_of now all remaining item some within ahead c.index-items-remaining.is _;
      spent = spent_behind now all remaining item some within ahead c.index-items-remaining.is _ empty c.loop-remaining.invariant.spent;
      kept = λ others kept. others_stay c.loop-remaining.space c.release_all.new.space _ item _ others last (subst (λ (x : Item). (xs : List Mapping) → AreKept c.loop-remaining.space (taken_by (undos_of x) ++ xs) → AreKept c.release_all.new.space xs) same c.release_all.ensures.kept) (c.loop-remaining.invariant.kept others kept);
      rest = released_without c.loop-remaining.space c.release_all.new.space _ item _ last (subst (λ (x : Item). c.release_all.new.space ≡ released c.loop-remaining.space (taken_by (undos_of x))) same c.release_all.ensures.state) ∙ c.loop-remaining.invariant.rest;
    }

pub returns-clause-state : goal.returns-clause-state
returns-clause-state c =
    let none : c.loop-remaining.remaining ≡ 0 = omega arith in
    sym (released-none c.loop-remaining.space)
    ∙ ap (λ (n : ℕ). released c.loop-remaining.space (kept_by (reverse (take n c.args.items.now)))) (sym none)
    ∙ c.loop-remaining.invariant.rest
