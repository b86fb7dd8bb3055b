use Rattle.std.proofs.Common.{arith, ◌≡◌, ◌≤◌, ◌<◌, ◌+◌, ◌-◌, ◌*◌, ℕ, true, false, sym, ap, ◌∙◌, subst}
use Rattle.std.proofs.Math.Nat.{add-mul}
use Rattle.gv_types.specs.PageRange.{span, meets}
use Rattle.gv_table.specs.Kinds.{Kind, of}
use Rattle.gv_table.specs.Levels.{pages_of, slot_pages}
use Rattle.gv_table.specs.Tree.{child, is_table}
use Rattle.gv_table.specs.Counts.{needed, may_divide}
use Rattle.gv_table.proofs.TablesInSlots.{needed-same}
use Rattle.gv_table.proofs.KindLemmas.{of-each, none-is}
use Rattle.gv_table.proofs.Needs.{needed-zero, needed-none, needed-apart, may-met, needed-parts, missing-small, product-up, rest-bound}
use Rattle.gv_table.proofs.PagesOf.{pages_of-some, pages_of-below, pages_of-bound, one-more-part}
use Rattle.gv_table.proofs.ListPositions.{ended-later, position-ended}
use Rattle.gv_table.proofs.RangesMeet.{meets-before, meets-after}
use Rattle.gv_table.proofs.Sums.{sum_below-zeros, sum_below-more, sum_below-rest}
use Rattle.gv_table.proofs.needed_tables.+needed_tables.Goals as goal
use Rattle.gv_table.proofs.needed_tables.+needed_tables.Goals.{needed_in-then-needs_none-via-then-needs_none, needed_in-then-needs_none-via-else-needs_none+then-not-may_be_table}

pub needed_in-returns-then-needs_none-clause-count : goal.needed_in-returns-then-needs_none-clause-count
needed_in-returns-then-needs_none-clause-count t c =
    elim c.then-needs_none.branch [
      | needed_in-then-needs_none-via-then-needs_none w ↦
          λ kind. none-is kind ∙ sym (c.needs_none.ensures.none w.if-needs_none.true kind c.args.excerpt.now.mappings.now c.args.excerpt.now.range c.args.slot_at.first)
      | needed_in-then-needs_none-via-else-needs_none+then-not-may_be_table w ↦
          λ kind. none-is kind ∙ sym (needed-none kind c.args.excerpt.now.mappings.now c.args.excerpt.now.range c.args.slot_at.level c.args.slot_at.first c.args.slot.now (sym w.may_be_table.ensures ∙ w.if-not-may_be_table.true))
    ]

pub needed_in-returns-then-needs_none-clause-bound : goal.needed_in-returns-then-needs_none-clause-bound
needed_in-returns-then-needs_none-clause-bound t c = of-each _ (pages_of-some c.args.slot_at.level) (pages_of-some c.args.slot_at.level)

pub needed_in-returns-then-level-eq1-clause-count : goal.needed_in-returns-then-level-eq1-clause-count
needed_in-returns-then-level-eq1-clause-count t c = λ kind.
    let f = λ (k : ℕ). needed kind c.args.excerpt.now.mappings.now c.args.excerpt.now.range (c.args.slot_at.level - 1) (c.args.slot_at.first + k * pages_of (c.args.slot_at.level - 1)) (child c.args.slot.now k) in
    let low : c.args.slot_at.level - 1 ≡ 0 = omega arith in
    let may : may_divide c.args.excerpt.now.mappings.now c.args.excerpt.now.range c.args.slot_at.level c.args.slot_at.first ≡ true = sym c.may_be_table.ensures ∙ c.if-not-may_be_table.false in
    let whole = needed-parts kind c.args.excerpt.now.mappings.now c.args.excerpt.now.range c.args.slot_at.level c.args.slot_at.first c.args.slot.now (omega arith) may in
    let none = sum_below-zeros 512 f (λ k below.
    ap (λ (n : ℕ). needed kind c.args.excerpt.now.mappings.now c.args.excerpt.now.range n (c.args.slot_at.first + k * pages_of (c.args.slot_at.level - 1)) (child c.args.slot.now k)) low ∙
    needed-zero kind c.args.excerpt.now.mappings.now c.args.excerpt.now.range (c.args.slot_at.first + k * pages_of (c.args.slot_at.level - 1)) (child c.args.slot.now k)) in
    omega (arith, whole, none, c.missing-one.ensures kind)

pub needed_in-returns-then-level-eq1-clause-bound : goal.needed_in-returns-then-level-eq1-clause-bound
needed_in-returns-then-level-eq1-clause-bound t c = λ kind.
    let small = missing-small kind (c.args.slot_at.level - 1) (is_table c.args.slot.now) in
    let below-of = pages_of-below c.args.slot_at.level (omega arith) in
    let some = pages_of-some (c.args.slot_at.level - 1) in
    omega (arith, small, below-of, some, c.missing-one.ensures kind)

pub needed_in-needed_below-requires : goal.needed_in-needed_below-requires
needed_in-needed_below-requires t c =
    let below-of = pages_of-below c.args.slot_at.level (omega arith) in
    let may : may_divide c.args.excerpt.now.mappings.now c.args.excerpt.now.range c.args.slot_at.level c.args.slot_at.first ≡ true = sym c.may_be_table.ensures ∙ c.if-not-may_be_table.false in (
      omega arith,
      (
        omega (arith, c.requires.known),
        (
          omega (arith, below-of, c.requires.in_space),
          (
            c.requires.laid_out,
            (
              position-ended c.args.excerpt.now.mappings.now _ _ c.args.excerpt.now.position (omega arith) c.requires.position,
              subst (λ (n : ℕ). meets (span c.args.slot_at.first n) c.args.excerpt.now.range ≡ true) below-of (may-met c.args.excerpt.now.mappings.now c.args.excerpt.now.range c.args.slot_at.level c.args.slot_at.first may),
            ),
          ),
        ),
      ),
    )

pub needed_in-with-requires : goal.needed_in-with-requires
needed_in-with-requires t c = λ kind.
    let small = missing-small kind (c.args.slot_at.level - 1) (is_table c.args.slot.now) in
    let below-of = pages_of-below c.args.slot_at.level (omega arith) in
    let all = pages_of-bound c.args.slot_at.level c.requires.known in
    omega (arith, small, below-of, all, c.missing-one.ensures kind, c.needed_below.ensures.bound kind)

pub needed_in-returns-clause-count : goal.needed_in-returns-clause-count
needed_in-returns-clause-count t c = λ kind.
    let may : may_divide c.args.excerpt.now.mappings.now c.args.excerpt.now.range c.args.slot_at.level c.args.slot_at.first ≡ true = sym c.may_be_table.ensures ∙ c.if-not-may_be_table.false in
    let whole = needed-parts kind c.args.excerpt.now.mappings.now c.args.excerpt.now.range c.args.slot_at.level c.args.slot_at.first c.args.slot.now (omega arith) may in
    omega (arith, whole, c.missing-one.ensures kind, c.needed_below.ensures.count kind)

pub needed_in-returns-clause-bound : goal.needed_in-returns-clause-bound
needed_in-returns-clause-bound t c = λ kind.
    let small = missing-small kind (c.args.slot_at.level - 1) (is_table c.args.slot.now) in
    let below-of = pages_of-below c.args.slot_at.level (omega arith) in
    omega (arith, small, below-of, c.missing-one.ensures kind, c.needed_below.ensures.bound kind)

pub needed_below-loop-index-init : goal.needed_below-loop-index-init
needed_below-loop-index-init t c =
    let f = λ (kind : Kind) (k : ℕ). needed kind c.args.excerpt.now.mappings.now c.args.excerpt.now.range c.args.slot_at.level (c.args.slot_at.first + k * pages_of c.args.slot_at.level) (child c.args.slot.now k) in
    let z = λ (kind : Kind). sum_below-zeros c.slots_met-low.result.0 (f kind) (λ k below.
    needed-apart kind c.args.excerpt.now.mappings.now c.args.excerpt.now.range c.args.slot_at.level (c.args.slot_at.first + k * pages_of c.args.slot_at.level) (child c.args.slot.now k)
    (meets-before (slot_pages c.args.slot_at.level (c.args.slot_at.first + k * pages_of c.args.slot_at.level)) c.args.excerpt.now.range (c.slots_met-low.ensures.before k below))) in
    let up = product-up c.slots_met-low.result.0 (pages_of c.args.slot_at.level) (pages_of-some c.args.slot_at.level) in
    record {
      position = ended-later c.args.excerpt.now.mappings.now _ _ c.args.excerpt.now.position (omega arith) c.requires.position;
      counted = λ kind. let z = z kind in let none = none-is kind in omega (arith, z, none);
      bound = λ kind. let none = none-is kind in omega (arith, up, none);
      last = c.slots_met-low.ensures.ordered;
    }

pub needed_below-loop-index-preserved-then-undivided-eq0 : goal.needed_below-loop-index-preserved-then-undivided-eq0
needed_below-loop-index-preserved-then-undivided-eq0 t c =
    let f = λ (kind : Kind) (k : ℕ). needed kind c.args.excerpt.now.mappings.now c.args.excerpt.now.range c.args.slot_at.level (c.args.slot_at.first + k * pages_of c.args.slot_at.level) (child c.args.slot.now k) in
    let more = λ (kind : Kind). sum_below-more c.loop-index.index (f kind) in
    let start : c.args.slot_at.first + c.loop-index.index * c.pages_of-pages.result ≡ c.args.slot_at.first + c.loop-index.index * pages_of c.args.slot_at.level =
    ap (λ (n : ℕ). c.args.slot_at.first + c.loop-index.index * n) c.pages_of-pages.ensures.pages in
    let here : (kind : Kind) → of kind c.needed_in.result ≡ f kind c.loop-index.index = λ kind.
    c.needed_in.ensures.count kind ∙
    ap (λ (n : ℕ). needed kind c.args.excerpt.now.mappings.now c.args.excerpt.now.range c.args.slot_at.level n c.child_of-part.result.now) start ∙
    sym (needed-same kind c.args.excerpt.now.mappings.now c.args.excerpt.now.range c.args.slot_at.level (c.args.slot_at.first + c.loop-index.index * pages_of c.args.slot_at.level) _ _ c.child_of-part.ensures) in
    let product = one-more-part c.loop-index.index (pages_of c.args.slot_at.level) in
    record {
      position = position-ended c.args.excerpt.now.mappings.now c.max.result _ c.advance-position.result (omega (arith, start, product)) c.advance-position.ensures;
      counted = λ kind. let more = more kind in let here = here kind in omega (arith, more, here, c.with-total.ensures kind, c.loop-index.invariant.counted kind);
      bound = λ kind. omega (arith, product, c.with-total.ensures kind, c.loop-index.invariant.bound kind, c.needed_in.ensures.bound kind);
      last = omega (arith, c.loop-index-test.true);
    }

-- the slots of a run need nothing
pub needed_below-loop-index-preserved : goal.needed_below-loop-index-preserved
needed_below-loop-index-preserved t c =
    let ms = c.args.excerpt.now.mappings.now in
    let range = c.args.excerpt.now.range in
    let p : ℕ = pages_of c.args.slot_at.level in
    let i : ℕ = c.loop-index.index in
    let n : ℕ = c.min-undivided.result in
    let f = λ (kind : Kind) (k : ℕ). needed kind ms range c.args.slot_at.level (c.args.slot_at.first + k * pages_of c.args.slot_at.level) (child c.args.slot.now k) in
    let start : c.args.slot_at.first + c.loop-index.index * c.pages_of-pages.result ≡ c.args.slot_at.first + c.loop-index.index * pages_of c.args.slot_at.level =
    ap (λ (n : ℕ). c.args.slot_at.first + c.loop-index.index * n) c.pages_of-pages.ensures.pages in
    let none : (kind : Kind) (k : ℕ) → i ≤ k → k < i + n → f kind k ≡ 0 = λ kind k from below.
    let far : ℕ = k - c.loop-index.index in
    let whole : c.loop-index.index + far ≡ k = omega (arith, from) in
    let product = add-mul c.loop-index.index far p in
    let all : (c.loop-index.index + far) * p ≡ k * p = ap (λ (m : ℕ). m * p) whole in
    let there : c.args.slot_at.first + c.loop-index.index * c.pages_of-pages.result + far * p ≡ c.args.slot_at.first + k * p = omega (arith, start, product, all) in
    needed-none kind ms range c.args.slot_at.level (c.args.slot_at.first + k * pages_of c.args.slot_at.level) (child c.args.slot.now k)
    (subst (λ (m : ℕ). may_divide ms range c.args.slot_at.level m ≡ false) there (c.undivided_from.ensures far (omega (arith, from, below, c.min-undivided.ensures)))) in
    let rest = λ (kind : Kind). sum_below-rest (i + n) (f kind) i (omega arith) (none kind) in
    let product = add-mul c.loop-index.index c.min-undivided.result p in
    let up = product-up n p (pages_of-some c.args.slot_at.level) in
    record {
      position = position-ended ms c.max.result _ c.advance-position.result (omega (arith, start, product)) c.advance-position.ensures;
      counted = λ kind. let rest = rest kind in omega (arith, rest, c.loop-index.invariant.counted kind);
      bound = λ kind. omega (arith, product, up, c.loop-index.invariant.bound kind);
      last = omega (arith, c.loop-index-test.true, c.min-undivided.ensures);
    }

pub needed_below-returns-clause-count : goal.needed_below-returns-clause-count
needed_below-returns-clause-count t c = λ kind.
    let f = λ (k : ℕ). needed kind c.args.excerpt.now.mappings.now c.args.excerpt.now.range c.args.slot_at.level (c.args.slot_at.first + k * pages_of c.args.slot_at.level) (child c.args.slot.now k) in
    let last : c.loop-index.index ≤ c.slots_met-low.result.1 = c.loop-index.invariant.last in
    let rest = sum_below-rest 512 f c.loop-index.index (omega (arith, last, c.slots_met-low.ensures.within)) (λ k from below.
    needed-apart kind c.args.excerpt.now.mappings.now c.args.excerpt.now.range c.args.slot_at.level (c.args.slot_at.first + k * pages_of c.args.slot_at.level) (child c.args.slot.now k)
    (meets-after (slot_pages c.args.slot_at.level (c.args.slot_at.first + k * pages_of c.args.slot_at.level)) c.args.excerpt.now.range
    (c.slots_met-low.ensures.beyond k (omega (arith, c.loop-index-test.false)) below))) in
    omega (arith, rest, c.loop-index.invariant.counted kind)

pub needed_below-returns-clause-bound : goal.needed_below-returns-clause-bound
needed_below-returns-clause-bound t c = λ kind.
    let last : c.loop-index.index ≤ c.slots_met-low.result.1 = c.loop-index.invariant.last in
    rest-bound (of kind c.loop-index.total) c.loop-index.index (pages_of c.args.slot_at.level) (c.loop-index.invariant.bound kind) (omega (arith, last, c.slots_met-low.ensures.within)) (pages_of-some c.args.slot_at.level)
