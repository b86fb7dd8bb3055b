use Rattle.std.proofs.Common.{◌≡◌, List, ℕ, length, nat_lt, arith, rules, sym, ◌∙◌, subst}
use Rattle.std.proofs.lemmas.Bool.{eqb-true}
use Rattle.std.proofs.lemmas.Fn.{always_returns_same}
use Rattle.gv_buffers.specs.FirstPages.{FirstPagesState, AreRising}
use Rattle.gv_buffers.proofs.FirstPagesRise.{IsGap, HaveRoom, gap_found, rising_inserted, placed_in_gap, of_ok}
use Rattle.gv_buffers.proofs.first_pages.FirstPages.put_in.Goals as goal

pub invariant_of-self-2 : goal.invariant_of-self-2
invariant_of-self-2 c =
    let pages : List ℕ = c.self.inside.pages.items in
    let gap : IsGap pages c.args.page c.partition_point-index.result =
    gap_found c.as_slice.result.now pages c.args.page _ c.as_slice.ensures c.self.invariant c.partition_point-index.ensures.bound
    (c.partition_point-index.ensures.partitioned (λ (y : ℕ). nat_lt y c.args.page)
    (always_returns_same _ _ _ (λ a r f k. search rules))) in
    let made =
    of_ok _ _
    (c.insert-has_room.ensures.succeeds
    (omega (arith, c.len.ensures.fits, c.len.ensures.value, c.capacity.ensures.value, c.if-len-capacity.false)))
    c.insert-has_room.ensures.ok in
    subst AreRising (sym made) (rising_inserted pages c.args.page _ c.self.invariant gap)

pub returns-clause-pages : goal.returns-clause-pages
returns-clause-pages c =
    let inside = c.self.inside in
    let v : FirstPagesState = record { count = inside.count; pages = inside.pages.items; room = inside.pages.capacity } in
    let gap : IsGap v.pages c.args.page c.partition_point-index.result =
    gap_found c.as_slice.result.now v.pages c.args.page _ c.as_slice.ensures c.self.invariant c.partition_point-index.ensures.bound
    (c.partition_point-index.ensures.partitioned (λ (y : ℕ). nat_lt y c.args.page)
    (always_returns_same _ _ _ (λ a r f k. search rules))) in
    let made =
    of_ok _ _
    (c.insert-has_room.ensures.succeeds
    (omega (arith, c.len.ensures.fits, c.len.ensures.value, c.capacity.ensures.value, c.if-len-capacity.false)))
    c.insert-has_room.ensures.ok in
    let known : length v.pages ≡ v.count =
    subst (λ (p : FirstPagesState). length p.pages ≡ p.count) (sym c.self.view_is)
    (eqb-true _ _ (sym c.are_known.ensures ∙ c.if-not-are_known.false)) in
    let have : HaveRoom v = record {
      few = omega arith;
      known = known;
      room = omega (arith, known, c.len.ensures.fits, c.len.ensures.value, c.capacity.ensures.value, c.if-len-capacity.false);
    } in
    made ∙ rw (← c.self.view_is) (placed_in_gap c.args.page _ v have gap)
