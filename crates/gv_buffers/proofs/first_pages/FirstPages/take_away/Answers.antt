use Rattle.std.proofs.Common.{◌≡◌, ◌≤◌, List, ℕ, length, sym, ◌∙◌, subst}
use Rattle.std.proofs.lemmas.Bool.{eqb-true, eqb-false}
use Rattle.std.proofs.lemmas.List.Quantifiers.{all_pairs_remove}
use Rattle.gv_buffers.specs.FirstPages.{FirstPagesState, AreRising}
use Rattle.gv_buffers.proofs.FirstPagesRise.{IsPageAt, page_missed, page_found, displaced_at, displaced_unknown, displaced_missing}
use Rattle.gv_buffers.proofs.first_pages.FirstPages.take_away.Goals as goal
use Rattle.gv_buffers.proofs.first_pages.FirstPages.take_away.Goals.{in_default-via-in-Ok+else-are_known, in_default-via-in_default}

pub invariant_of-self : goal.invariant_of-self
invariant_of-self c =
    let pages : List ℕ = c.self.inside.pages.items in
    let at : IsPageAt pages c.args.page c.in-Ok.index =
    page_found _ pages c.args.page c.in-Ok.index c.as_slice.ensures c.self.invariant c.in-Ok.ensures.position in
    subst AreRising (sym c.remove-page.ensures.items)
    (all_pairs_remove (λ (a b : ℕ). a ≤ b) pages c.in-Ok.index at.within c.self.invariant)

pub returns-in-Ok-clause-pages : goal.returns-in-Ok-clause-pages
returns-in-Ok-clause-pages c =
    let inside = c.self.inside in
    let v : FirstPagesState = record { count = inside.count; pages = inside.pages.items; room = inside.pages.capacity } in
    let at : IsPageAt v.pages c.args.page c.in-Ok.index =
    page_found _ v.pages c.args.page c.in-Ok.index c.as_slice.ensures c.self.invariant c.in-Ok.ensures.position in
    let known : length v.pages ≡ v.count =
    subst (λ (p : FirstPagesState). length p.pages ≡ p.count) (sym c.self.view_is)
    (eqb-true _ _ (sym c.are_known.ensures ∙ c.if-are_known.true)) in
    c.remove-page.ensures.items ∙ rw (← c.self.view_is) (displaced_at c.args.page c.in-Ok.index v c.self.invariant known at)

pub returns-in_default-clause-pages : goal.returns-in_default-clause-pages
returns-in_default-clause-pages c =
    let inside = c.self.inside in
    let v : FirstPagesState = record { count = inside.count; pages = inside.pages.items; room = inside.pages.capacity } in
    c.clear.ensures.items ∙ (elim c.in_default.branch [
      | in_default-via-in-Ok+else-are_known w ↦
          displaced_unknown c.args.page c.args.self.now
          (eqb-false _ _ (sym w.are_known.ensures ∙ w.if-are_known.false))
      | in_default-via-in_default w ↦
          rw (← c.self.view_is) (displaced_missing c.args.page v
          (page_missed _ v.pages c.args.page w.in_default.field-0
          c.as_slice.ensures c.self.invariant w.in_default.ensures.position))
    ])
