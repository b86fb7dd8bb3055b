-- A slot that has its tables where the list wants them gains none and loses none.
use Rattle.std.proofs.Common.{◌≡◌, ℕ, zero, suc, ◌+◌, ◌-◌, ◌*◌, ◌<◌, ◌≤◌, inl, inr, Bool, true, false, List, refl, arith, sym, ap, ◌∙◌, subst, if◌then◌else◌}
use Rattle.gv_types.specs.Page.{PAGES}
use Rattle.gv_types.specs.PageRange.{PageRangeState, end_of, meets}
use Rattle.gv_types.specs.declared.mapping.Mapping.{Mapping}
use Rattle.gv_ranges.specs.List.{IsLaidOut}
use Rattle.gv_table.specs.Kinds.{Kind, one_of, unless}
use Rattle.gv_table.specs.declared.wanted.Wanted.{Wanted}
use Rattle.gv_table.specs.declared.wanted.Wanted.TheVariants as variant
use Rattle.gv_table.specs.declared.slot.Slot.{Slot}
use Rattle.gv_table.specs.declared.slot.Slot.TheVariants.{Empty}
use Rattle.gv_table.specs.Levels.{pages_of, slot_pages}
use Rattle.gv_table.specs.Reads.{AreAlikeOutside}
use Rattle.gv_table.specs.Wanted.{wanted, is_divided}
use Rattle.gv_table.specs.Tree.{is_table, child, HoldsWanted, IsTreeOf}
use Rattle.gv_table.specs.Counts.{tables_in, gained, lost}
use Rattle.gv_table.proofs.Sums.{sum_below-same, sum_below-zeros}
use Rattle.gv_table.proofs.PagesOf.{pages_of-more, pages_of-some, part-within}
use Rattle.gv_table.proofs.Slots.{is_table-Empty, is_table-leaf, child-Empty, child-other}
use Rattle.gv_table.proofs.CoveringMappings.{true-or-false}
use Rattle.gv_table.proofs.AlikeLists.{alike-outside}
use Rattle.gv_table.proofs.Wants.{undivided-part, wanted-alike}
use Rattle.gv_table.proofs.Trees.{opened, read-parts, apart-part}

-- a slot is a table where the list wants one, and so are its parts, all the way down
unfoldable pub TablesMatch : List Mapping → ℕ → ℕ → Slot → Type 0
TablesMatch ms zero first slot = Unit {0}
TablesMatch ms (suc level) first slot =
    (is_table slot ≡ is_divided (wanted ms (suc level) first)) ×
    ((k : ℕ) → k < 512 → TablesMatch ms level (first + k * pages_of level) (child slot k))

pub whole-match : (ms : List Mapping) (level first : ℕ) (slot : Slot) →
    (is_table slot ≡ is_divided (wanted ms (suc level) first)) × ((k : ℕ) → k < 512 → TablesMatch ms level (first + k * pages_of level) (child slot k)) →
    TablesMatch ms (suc level) first slot
unfolding TablesMatch
whole-match ms level first slot match = match

-- below a position where no table is wanted, none is
match-empty : (ms : List Mapping) (level first : ℕ) → IsLaidOut ms → is_divided (wanted ms level first) ≡ false → TablesMatch ms level first Empty
unfolding TablesMatch
match-empty ms zero first laid whole = tt
match-empty ms (suc level) first laid whole = (
  is_table-Empty ∙ sym whole,
  λ k below. subst (λ (s : Slot). TablesMatch ms level (first + k * pages_of level) s) (sym (child-Empty k))
      (match-empty ms level (first + k * pages_of level) laid (undivided-part ms level first k laid below whole)),
)

pub match-by : (w : Wanted) (slot : Slot) (Parts : Type 0) → HoldsWanted w slot Parts → is_table slot ≡ is_divided w
match-by variant.Nothing slot Parts holds = ap is_table holds ∙ is_table-Empty
match-by (variant.Entry entry) slot Parts holds = ap is_table holds ∙ is_table-leaf entry
match-by variant.Table slot Parts holds = holds.0

pub tree-match : (ms : List Mapping) (level first : ℕ) (slot : Slot) → IsLaidOut ms → IsTreeOf ms level first slot → TablesMatch ms level first slot
unfolding TablesMatch
tree-match ms zero first slot laid tree = tt
tree-match ms (suc level) first slot laid tree =
    let here = match-by (wanted ms (suc level) first) slot _ (opened ms level first slot tree) in (
      here,
      λ k below. elim (true-or-false (is_table slot)) [
        | inl table ↦ (let lower : suc level - 1 ≡ level = omega arith in
            let part = read-parts ms (suc level) first slot (omega arith) tree table k below in
            tree-match ms level (first + k * pages_of level) (child slot k) laid (rw lower at part))
        | inr other ↦ subst (λ (s : Slot). TablesMatch ms level (first + k * pages_of level) s) (sym (child-other slot k other))
            (match-empty ms level (first + k * pages_of level) laid (undivided-part ms level first k laid below (sym here ∙ other)))
      ],
    )

-- the tables of a slot apart from a range match each list that is alike outside it
pub match-alike : (range : PageRangeState) (one other : List Mapping) (level first : ℕ) (slot : Slot) → AreAlikeOutside range one other → IsLaidOut one → IsLaidOut other →
    end_of (slot_pages level first) ≤ PAGES → meets (slot_pages level first) range ≡ false → TablesMatch one level first slot → TablesMatch other level first slot
unfolding TablesMatch
match-alike range one other zero first slot alike laid laid' within apart match = tt
match-alike range one other (suc level) first slot alike laid laid' within apart match =
    let same = wanted-alike one other (suc level) first
    (alike-outside range one other (slot_pages (suc level) first) alike laid laid' (pages_of-some (suc level)) within apart) in (
      match.0 ∙ ap is_divided same,
      λ k below.
          let w = part-within k (pages_of (suc level)) (pages_of level) below (pages_of-more level) in
          match-alike range one other level (first + k * pages_of level) (child slot k) alike laid laid' (omega (arith, w))
          (apart-part range first (pages_of (suc level)) k (pages_of level) apart below (pages_of-more level)) (match.1 k below),
    )

none-by : (b : Bool) (one n : ℕ) → n ≡ 0 → (if b then unless b one + n else 0) ≡ 0
none-by true one n e = omega (arith, e)
none-by false one n e = refl

pub gained-match : (kind : Kind) (ms : List Mapping) (level first : ℕ) (slot : Slot) → TablesMatch ms level first slot → gained kind ms level first slot ≡ 0
unfolding gained TablesMatch
gained-match kind ms zero first slot match = refl
gained-match kind ms (suc level) first slot match =
    let z = sum_below-zeros 512 (λ k. gained kind ms level (first + k * pages_of level) (child slot k))
    (λ k below. gained-match kind ms level (first + k * pages_of level) (child slot k) (match.1 k below)) in
    rw match.0 (none-by (is_divided (wanted ms (suc level) first)) (one_of kind level) _ z)

pub lost-match : (kind : Kind) (ms : List Mapping) (level first : ℕ) (slot : Slot) → TablesMatch ms level first slot → lost kind ms level first slot ≡ 0
unfolding lost TablesMatch
lost-match kind ms zero first slot match = refl
lost-match kind ms (suc level) first slot match =
    let z = sum_below-zeros 512 (λ k. lost kind ms level (first + k * pages_of level) (child slot k))
    (λ k below. lost-match kind ms level (first + k * pages_of level) (child slot k) (match.1 k below)) in
    rw match.0 (none-by (is_divided (wanted ms (suc level) first)) (one_of kind level) _ z)

-- what one tree has and another has not is lost on the way there, and gained on the way back
pub gained-lost : (kind : Kind) (ms other : List Mapping) (level first : ℕ) (old new : Slot) → TablesMatch ms level first old → TablesMatch other level first new →
    gained kind ms level first new ≡ lost kind other level first old
unfolding gained lost TablesMatch
gained-lost kind ms other zero first old new match match' = refl
gained-lost kind ms other (suc level) first old new match match' =
    let parts = sum_below-same 512 (λ k. gained kind ms level (first + k * pages_of level) (child new k)) (λ k. lost kind other level (first + k * pages_of level) (child old k))
    (λ k below. gained-lost kind ms other level (first + k * pages_of level) (child old k) (child new k) (match.1 k below) (match'.1 k below)) in
    rw (match.0, match'.0, parts) refl

lost-by : (b : Bool) (one n m : ℕ) → n ≡ m → (if b then one + n else 0) ≡ (if b then one + m else 0)
lost-by true one n m e = omega (arith, e)
lost-by false one n m e = refl

-- all tables of a slot are lost where none is wanted
pub lost-whole : (kind : Kind) (ms : List Mapping) (level first : ℕ) (slot : Slot) → IsLaidOut ms → is_divided (wanted ms level first) ≡ false →
    lost kind ms level first slot ≡ tables_in kind level slot
unfolding lost tables_in
lost-whole kind ms zero first slot laid whole = refl
lost-whole kind ms (suc level) first slot laid whole =
    let parts = sum_below-same 512 (λ k. lost kind ms level (first + k * pages_of level) (child slot k)) (λ k. tables_in kind level (child slot k))
    (λ k below. lost-whole kind ms level (first + k * pages_of level) (child slot k) laid (undivided-part ms level first k laid below whole)) in
    rw whole (lost-by (is_table slot) (one_of kind level) _ _ parts)

pub gained-none : (kind : Kind) (ms : List Mapping) (level first : ℕ) (slot : Slot) → is_divided (wanted ms level first) ≡ false → gained kind ms level first slot ≡ 0
unfolding gained
gained-none kind ms zero first slot whole = refl
gained-none kind ms (suc level) first slot whole = rw whole refl
