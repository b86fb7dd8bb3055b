-- Operations whose pages from the least to the greatest don't meet, or that have no region in common, touch nowhere.
use Rattle.std.proofs.Common.{◌≡◌, ◌≤◌, Bool, true, false, not, ◌&&◌, inl, inr, List, [], ◌∷◌, Option, Some, None, refl, ap, sym, ◌∙◌, arith}
use Rattle.std.specs.List.{list_any}
use Rattle.std.proofs.lemmas.Bool.Decides.{nat_tests}
use Rattle.gv_types.specs.PageRange.{PageRangeState, span, end_of, meets}
use Rattle.gv_types.specs.Operation.{range_of}
use Rattle.gv_types.specs.declared.operation.PageOp.{PageOp}
use Rattle.gv_types.specs.declared.operation.PageOp.TheVariants.{Map, Unmap, UnmapBuffer}
use Rattle.gv_journal.specs.Restoring.{pages_named}
use Rattle.std.specs.Prelude.{ℕ, ◌⊎◌, bit_and, nat_eq, nat_lt}
use Rattle.gv_journal.specs.Reach.{extents_joined, extent_from, extent_of, regions_of, least_page, past_page, reaches, IsReachOf}
use Rattle.gv_journal.specs.declared.reach.Reach.{Reach}
use Rattle.gv_journal.proofs.Regions.{AreMarked, AllMarked, all_marked, no_region_met}
use Rattle.gv_journal.specs.Withdrawing.{touch}
use Rattle.gv_journal.proofs.Touches.{nothing_met}

-- pages that lie in others
abbrev pub LieIn : Option PageRangeState → Option PageRangeState → Type 0
LieIn None extent = Unit {0}
LieIn (Some r) None = ⊥
LieIn (Some r) (Some extent) = (extent.first ≤ r.first) × (end_of r ≤ end_of extent)

lie_in_both : (a b c : Option PageRangeState) → LieIn a b → LieIn b c → LieIn a c
lie_in_both None b c h k = tt
lie_in_both (Some r) None c h k = absurd h
lie_in_both (Some r) (Some s) None h k = absurd k
lie_in_both (Some r) (Some s) (Some t) h k = (omega (arith, h.0, k.0), omega (arith, h.1, k.1))

in_itself : (a : Option PageRangeState) → LieIn a a
in_itself None = tt
in_itself (Some r) = (omega arith, omega arith)

in_joined : (a b : Option PageRangeState) → LieIn a (extents_joined a b)
in_joined None b = tt
in_joined (Some r) None = (omega arith, omega arith)
in_joined (Some r) (Some s) = (omega arith, omega arith)

in_other_joined : (a b : Option PageRangeState) → LieIn b (extents_joined a b)
in_other_joined None b = in_itself b
in_other_joined (Some r) None = tt
in_other_joined (Some r) (Some s) = (omega arith, omega arith)

start_in : (extent : Option PageRangeState) (ops : List PageOp) → LieIn extent (extent_from extent ops)
start_in extent [] = in_itself extent
start_in extent (op ∷ ops) =
    lie_in_both extent (extents_joined extent (pages_named op)) (extent_from (extents_joined extent (pages_named op)) ops) (in_joined extent (pages_named op)) (start_in (extents_joined extent (pages_named op)) ops)

-- all operations lie in these pages
abbrev pub AllLieIn : Option PageRangeState → List PageOp → Type 0
AllLieIn extent [] = Unit {0}
AllLieIn extent (op ∷ ops) = LieIn (pages_named op) extent × AllLieIn extent ops

pub all_in : (extent : Option PageRangeState) (ops : List PageOp) → AllLieIn (extent_from extent ops) ops
all_in extent [] = tt
all_in extent (op ∷ ops) = (
  lie_in_both (pages_named op) (extents_joined extent (pages_named op)) (extent_from (extents_joined extent (pages_named op)) ops) (in_other_joined extent (pages_named op)) (start_in (extents_joined extent (pages_named op)) ops),
  all_in (extents_joined extent (pages_named op)) ops,
)

-- pages that lie in what is reached: from the least to the greatest, in regions with these bits
abbrev LiesWithin : Option PageRangeState → Option PageRangeState → ℕ → Type 0
LiesWithin pages extent bits = LieIn pages extent × AreMarked bits pages

abbrev AllWithin : List PageOp → Option PageRangeState → ℕ → Type 0
AllWithin ops extent bits = AllLieIn extent ops × AllMarked bits ops

-- no page is in both, as extents or bits tell
abbrev pub IsFar : Option PageRangeState → ℕ → Option PageRangeState → ℕ → Type 0
IsFar extent bits other others = ((past_page extent ≤ least_page other) ⊎ (past_page other ≤ least_page extent)) ⊎ (bit_and bits others ≡ 0)

no_extent_met : (r s : PageRangeState) (extent other : Option PageRangeState) → LieIn (Some r) extent → LieIn (Some s) other →
    (past_page extent ≤ least_page other) ⊎ (past_page other ≤ least_page extent) → meets r s ≡ false
no_extent_met r s None other h k far = absurd h
no_extent_met r s (Some t) None h k far = absurd k
no_extent_met r s (Some t) (Some u) h k (inl far) =
    let low : end_of r ≤ end_of t = h.1 in
    let high : u.first ≤ s.first = k.0 in
    grind (arith, nat_tests)
no_extent_met r s (Some t) (Some u) h k (inr far) =
    let low : t.first ≤ r.first = h.0 in
    let high : end_of s ≤ end_of u = k.1 in
    grind (arith, nat_tests)

module _ (extent other : Option PageRangeState) (bits others : ℕ) (far : IsFar extent bits other others) where
  apart : (r s : PageRangeState) → LiesWithin (Some r) extent bits → LiesWithin (Some s) other others → meets r s ≡ false
  apart r s h k = by_cases far
    where
      by_cases : IsFar extent bits other others → meets r s ≡ false
      by_cases (inl unmet) = no_extent_met r s extent other h.0 k.0 unmet
      by_cases (inr unset) = no_region_met r s bits others h.1 k.1 unset

  meets_nothing : (s : PageRangeState) → meets s (span 0 0) ≡ false
  meets_nothing s = grind (arith, nat_tests)

  misses : (op second : PageOp) → LiesWithin (pages_named op) extent bits → LiesWithin (pages_named second) other others → meets (range_of op) (range_of second) ≡ false
  misses (UnmapBuffer buffer) second h k = nothing_met (range_of second)
  misses (Map r backing flags) (UnmapBuffer buffer) h k = meets_nothing r
  misses (Unmap r) (UnmapBuffer buffer) h k = meets_nothing r
  misses (Map r backing flags) (Map s b f) h k = apart r s h k
  misses (Map r backing flags) (Unmap s) h k = apart r s h k
  misses (Unmap r) (Map s b f) h k = apart r s h k
  misses (Unmap r) (Unmap s) h k = apart r s h k

  one_misses : (op : PageOp) (seconds : List PageOp) → LiesWithin (pages_named op) extent bits → AllWithin seconds other others →
      list_any (λ second. meets (range_of op) (range_of second)) seconds ≡ false
  one_misses op [] h all = refl
  one_misses op (second ∷ seconds) h all =
      rw (misses op second h (all.0.0, all.1.0), one_misses op seconds h (all.0.1, all.1.1)) refl

  pub all_miss : (ops seconds : List PageOp) → AllWithin ops extent bits → AllWithin seconds other others → touch ops seconds ≡ false
  all_miss [] seconds all second_all = refl
  all_miss (op ∷ ops) seconds all second_all =
      rw (one_misses op seconds (all.0.0, all.1.0) second_all, all_miss ops seconds (all.0.1, all.1.1) second_all) refl

pub out_of_reach : (ops others : List PageOp) → IsFar (extent_of ops) (regions_of ops) (extent_of others) (regions_of others) → touch ops others ≡ false
out_of_reach ops others far =
    all_miss (extent_of ops) (extent_of others) (regions_of ops) (regions_of others) far ops others (all_in None ops, all_marked 0 ops) (all_in None others, all_marked 0 others)

-- what reaches no page of another's
module _ (own reach : Reach) (ops others : List PageOp) (is : IsReachOf own ops) (other_is : IsReachOf reach others) where
  no_page_reached : (own.past ≤ reach.first) ⊎ (reach.past ≤ own.first) → touch ops others ≡ false
  no_page_reached (inl le) = out_of_reach ops others (inl (inl (omega (arith, le, is.past, other_is.first))))
  no_page_reached (inr le) = out_of_reach ops others (inl (inr (omega (arith, le, is.first, other_is.past))))

  no_region_reached : bit_and own.regions reach.regions ≡ 0 → touch ops others ≡ false
  no_region_reached none =
      out_of_reach ops others (inr (ap (λ (x : ℕ). bit_and x (regions_of others)) (sym is.regions) ∙ ap (λ (x : ℕ). bit_and own.regions x) (sym other_is.regions) ∙ none))

  pub not_reached : reaches own reach ≡ false → touch ops others ≡ false
  not_reached none = by_tests (nat_lt own.first reach.past) (nat_lt reach.first own.past) (nat_eq (bit_and own.regions reach.regions) 0) refl refl refl none
    where
      by_tests : (a b c : Bool) → nat_lt own.first reach.past ≡ a → nat_lt reach.first own.past ≡ b → nat_eq (bit_and own.regions reach.regions) 0 ≡ c →
          (a && b && not c) ≡ false → touch ops others ≡ false
      by_tests false b c low high unset h = no_page_reached (inr (grind (arith, nat_tests)))
      by_tests true false c low high unset h = no_page_reached (inl (grind (arith, nat_tests)))
      by_tests true true true low high unset h = no_region_reached (grind (arith, nat_tests))
      by_tests true true false low high unset h = cc
