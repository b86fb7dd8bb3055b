use Rattle.std.proofs.Common.{◌≡◌, ◌≤◌, ◌-◌, ◌+◌, ℕ, Option, List, take, Some, None, arith, sym, ◌∙◌, ap, subst}
use Rattle.gv_journal.specs.Items.{JournalState, entries, next}
use Rattle.gv_journal.specs.Inside.{NameOnce}
use Rattle.gv_journal.specs.Notes.{notes_of}
use Rattle.gv_journal.proofs.Settlings.{settle_fault_is}
use Rattle.gv_journal.proofs.Crossings.{crossing_is, none_is}
use Rattle.gv_journal.proofs.journal.Journal.count_below.Goals as goal

pub returns-in-Some-clause-refused : goal.returns-in-Some-clause-refused
returns-in-Some-clause-refused c =
    let j = c.args.self.now in
    let first_is : c.self.inside.first ≡ j.first = ap (λ (k : JournalState). k.first) c.self.view_is in
    let low : c.self.inside.first ≤ c.args.to = omega arith in
    let high : c.args.to ≤ next j = omega arith in
    let number : j.first + (c.args.to - c.self.inside.first) ≡ c.args.to = omega arith in
    let once : NameOnce j.first (entries j) = subst (λ (k : JournalState). NameOnce k.first (entries k)) c.self.view_is c.self.invariant.name_once in
    let front : take (c.args.to - c.self.inside.first) c.notes.result.now ≡ take (c.args.to - c.self.inside.first) (notes_of (entries j)) =
    ap (λ (ms : List (Option ℕ)). take (c.args.to - c.self.inside.first) ms) (c.notes.ensures.value ∙ c.self.invariant.notes ∙ ap (λ (k : JournalState). notes_of (entries k)) c.self.view_is) in
    settle_fault_is c.args.self.now c.args.to (omega arith) high (Some c.in-Some.by)
    (crossing_is c.args.self.now c.args.to (c.args.to - c.self.inside.first) (take (c.args.to - c.self.inside.first) c.notes.result.now) number high once front ∙ sym c.first_crossing.ensures ∙ c.in-Some.is)

pub returns-in-None-clause-none : goal.returns-in-None-clause-none
returns-in-None-clause-none c =
    let j = c.args.self.now in
    let first_is : c.self.inside.first ≡ j.first = ap (λ (k : JournalState). k.first) c.self.view_is in
    let low : c.self.inside.first ≤ c.args.to = omega arith in
    let high : c.args.to ≤ next j = omega arith in
    let number : j.first + (c.args.to - c.self.inside.first) ≡ c.args.to = omega arith in
    let once : NameOnce j.first (entries j) = subst (λ (k : JournalState). NameOnce k.first (entries k)) c.self.view_is c.self.invariant.name_once in
    let front : take (c.args.to - c.self.inside.first) c.notes.result.now ≡ take (c.args.to - c.self.inside.first) (notes_of (entries j)) =
    ap (λ (ms : List (Option ℕ)). take (c.args.to - c.self.inside.first) ms) (c.notes.ensures.value ∙ c.self.invariant.notes ∙ ap (λ (k : JournalState). notes_of (entries k)) c.self.view_is) in
    none_is c.args.self.now c.args.to (c.args.to - c.self.inside.first) (take (c.args.to - c.self.inside.first) c.notes.result.now) number high once front (sym c.first_crossing.ensures ∙ c.in-None.is)

pub returns-in-None-clause-accepted : goal.returns-in-None-clause-accepted
returns-in-None-clause-accepted c =
    let j = c.args.self.now in
    let first_is : c.self.inside.first ≡ j.first = ap (λ (k : JournalState). k.first) c.self.view_is in
    let low : c.self.inside.first ≤ c.args.to = omega arith in
    let high : c.args.to ≤ next j = omega arith in
    let number : j.first + (c.args.to - c.self.inside.first) ≡ c.args.to = omega arith in
    let once : NameOnce j.first (entries j) = subst (λ (k : JournalState). NameOnce k.first (entries k)) c.self.view_is c.self.invariant.name_once in
    let front : take (c.args.to - c.self.inside.first) c.notes.result.now ≡ take (c.args.to - c.self.inside.first) (notes_of (entries j)) =
    ap (λ (ms : List (Option ℕ)). take (c.args.to - c.self.inside.first) ms) (c.notes.ensures.value ∙ c.self.invariant.notes ∙ ap (λ (k : JournalState). notes_of (entries k)) c.self.view_is) in
    settle_fault_is c.args.self.now c.args.to (omega arith) high None
    (crossing_is c.args.self.now c.args.to (c.args.to - c.self.inside.first) (take (c.args.to - c.self.inside.first) c.notes.result.now) number high once front ∙ sym c.first_crossing.ensures ∙ c.in-None.is)
