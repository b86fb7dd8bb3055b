-- What is wanted of a slot, by what the list says of its pages.
use Rattle.std.proofs.Common.{◌≡◌, ℕ, zero, suc, ◌+◌, ◌-◌, ◌*◌, ◌<◌, ◌≤◌, inl, inr, Bool, true, false, List, length, get_or, Option, Some, None, nat_le, refl, arith, sym, ap, ◌∙◌, if◌then◌else◌}
use Rattle.std.proofs.lemmas.Bool.{lt-leb, le-leb, cases_lt}
use Rattle.gv_types.specs.PageRange.{span, end_of, lies_in}
use Rattle.gv_types.specs.Mapping.{part}
use Rattle.gv_types.specs.declared.mapping.Entry.{Entry}
use Rattle.gv_types.specs.declared.mapping.Mapping.{Mapping}
use Rattle.gv_ranges.specs.List.{IsLaidOut}
use Rattle.gv_table.specs.declared.wanted.Wanted.{Wanted}
use Rattle.gv_table.specs.declared.wanted.Wanted.TheVariants as variant
use Rattle.gv_table.specs.Levels.{pages_of, slot_pages}
use Rattle.gv_table.specs.Reads.{any_meets, covering, IsReadBy}
use Rattle.gv_types.specs.Mapping.{entry_advanced}
use Rattle.gv_table.specs.Wanted.{wanted, leaf_or_table, is_divided}
use Rattle.gv_table.proofs.RangesMeet.{le-true, lies-bounds, meets-from}
use Rattle.gv_table.proofs.AlikeLists.{SayAlike}
use Rattle.gv_table.proofs.CoveringMappings.{true-or-false, any_meets-part, covering-part, covering-meets, page-covered, met-at}
use Rattle.gv_table.proofs.PagesOf.{pages_of-zero, pages_of-some, pages_of-more, part-within}

pub wanted-nothing : (ms : List Mapping) (level first : ℕ) → any_meets ms (slot_pages level first) ≡ false → wanted ms level first ≡ variant.Nothing
unfolding wanted
wanted-nothing ms level first none = rw none refl

pub wanted-covered : (ms : List Mapping) (level first : ℕ) (entry : Entry) → any_meets ms (slot_pages level first) ≡ true → level ≤ 2 →
    covering ms (slot_pages level first) ≡ Some entry → wanted ms level first ≡ variant.Entry entry
unfolding wanted
wanted-covered ms level first entry met low covered = rw (met, le-leb _ _ low, covered) refl

uncovered : (low : Bool) → leaf_or_table low None ≡ variant.Table
uncovered true = refl
uncovered false = refl

wanted-uncovered : (ms : List Mapping) (level first : ℕ) → any_meets ms (slot_pages level first) ≡ true →
    covering ms (slot_pages level first) ≡ None → wanted ms level first ≡ variant.Table
unfolding wanted
wanted-uncovered ms level first met none = rw (met, none) (uncovered (nat_le level 2))

-- a leaf by the mapping that decides
pub wanted-leaf : (ms : List Mapping) (level first : ℕ) (m : Mapping) → IsReadBy ms (slot_pages level first) (Some m) → level ≤ 2 →
    lies_in (slot_pages level first) m.range ≡ true → wanted ms level first ≡ variant.Entry (part m first)
wanted-leaf ms level first m read low whole =
    let covered : covering ms (slot_pages level first) ≡ Some (part m first) = rw whole at read.1 in
    wanted-covered ms level first (part m first) read.0 low covered

-- the mapping at a position that holds a slot whole
pub held-leaf : (ms : List Mapping) (level first position : ℕ) (d : Mapping) → IsLaidOut ms → position < length ms → level ≤ 2 →
    lies_in (slot_pages level first) (get_or ms position d).range ≡ true → wanted ms level first ≡ variant.Entry (part (get_or ms position d) first)
held-leaf ms level first position d laid inside low whole =
    let some = pages_of-some level in
    let bounds = lies-bounds (slot_pages level first) (get_or ms position d).range whole in
    let met = meets-from (get_or ms position d).range (slot_pages level first) (omega (arith, bounds, some)) (omega (arith, bounds, some)) in
    wanted-leaf ms level first (get_or ms position d) (met-at ms 0 position d (slot_pages level first) laid inside some met) low whole

pub wanted-high : (ms : List Mapping) (level first : ℕ) → any_meets ms (slot_pages level first) ≡ true → 2 < level → wanted ms level first ≡ variant.Table
unfolding wanted
wanted-high ms level first met high = rw (met, lt-leb _ _ high) refl

pub wanted-table : (ms : List Mapping) (level first : ℕ) (m : Mapping) → IsReadBy ms (slot_pages level first) (Some m) →
    lies_in (slot_pages level first) m.range ≡ false → wanted ms level first ≡ variant.Table
wanted-table ms level first m read other =
    let none : covering ms (slot_pages level first) ≡ None = rw other at read.1 in
    wanted-uncovered ms level first read.0 none

never-nothing : (low : Bool) (covered : Option Entry) → leaf_or_table low covered ≡ variant.Nothing → ⊥
never-nothing true (Some entry) e = cc
never-nothing true None e = cc
never-nothing false covered e = cc

nothing-by : (b low : Bool) (covered : Option Entry) → (if b then leaf_or_table low covered else variant.Nothing) ≡ variant.Nothing → b ≡ false
nothing-by true low covered e = absurd (never-nothing low covered e)
nothing-by false low covered e = refl

-- no mapping meets a slot of which nothing is wanted
pub nothing-meets : (ms : List Mapping) (level first : ℕ) → wanted ms level first ≡ variant.Nothing → any_meets ms (slot_pages level first) ≡ false
unfolding wanted
nothing-meets ms level first e =
    nothing-by (any_meets ms (slot_pages level first)) (nat_le level 2) (covering ms (slot_pages level first)) e

entry-of : (low : Bool) (covered : Option Entry) (entry : Entry) → leaf_or_table low covered ≡ variant.Entry entry → (low ≡ true) × (covered ≡ Some entry)
entry-of true (Some found) entry e = (refl, cc)
entry-of true None entry e = cc
entry-of false covered entry e = cc

entry-by : (b low : Bool) (covered : Option Entry) (entry : Entry) → (if b then leaf_or_table low covered else variant.Nothing) ≡ variant.Entry entry →
    (low ≡ true) × (covered ≡ Some entry)
entry-by true low covered entry e = entry-of low covered entry e
entry-by false low covered entry e = cc

-- a mapping covers a slot of which a leaf is wanted, at a level that allows it
pub entry-covers : (ms : List Mapping) (level first : ℕ) (entry : Entry) → wanted ms level first ≡ variant.Entry entry →
    (level ≤ 2) × (covering ms (slot_pages level first) ≡ Some entry)
unfolding wanted
entry-covers ms level first entry e =
    let h = entry-by (any_meets ms (slot_pages level first)) (nat_le level 2) (covering ms (slot_pages level first)) entry e in
    (le-true _ _ h.0, h.1)

table-by : (b : Bool) (covered : Option Entry) → (if b then leaf_or_table true covered else variant.Nothing) ≡ variant.Table → (b ≡ true) × (covered ≡ None)
table-by true (Some entry) e = cc
table-by true None e = (refl, refl)
table-by false covered e = cc

-- no table is wanted for a page
pub page-no-table : (ms : List Mapping) (first : ℕ) → wanted ms 0 first ≡ variant.Table → ⊥
unfolding wanted
page-no-table ms first e =
    let h = table-by (any_meets ms (slot_pages 0 first)) (covering ms (slot_pages 0 first)) e in
    let met : any_meets ms (span first 1) ≡ true = rw pages_of-zero at h.0 in
    let none : covering ms (span first 1) ≡ None = rw pages_of-zero at h.1 in
    page-covered ms first met none

pub wanted-alike : (one other : List Mapping) (level first : ℕ) → SayAlike one other (slot_pages level first) → wanted one level first ≡ wanted other level first
unfolding wanted
wanted-alike one other level first alike = rw (alike.0, alike.1) refl

-- the parts of a slot of which nothing is wanted
pub nothing-part : (ms : List Mapping) (level first k : ℕ) → k < 512 → wanted ms (suc level) first ≡ variant.Nothing →
    wanted ms level (first + k * pages_of level) ≡ variant.Nothing
nothing-part ms level first k below want =
    let within = part-within k (pages_of (suc level)) (pages_of level) below (pages_of-more level) in
    wanted-nothing ms level (first + k * pages_of level)
    (any_meets-part ms (slot_pages (suc level) first) (slot_pages level (first + k * pages_of level)) (nothing-meets ms (suc level) first want)
    (omega arith) (omega (arith, within)))

-- the parts of a leaf are leaves, each so far on
pub entry-part : (ms : List Mapping) (level first k : ℕ) (entry : Entry) → IsLaidOut ms → k < 512 → wanted ms (suc level) first ≡ variant.Entry entry →
    wanted ms level (first + k * pages_of level) ≡ variant.Entry (entry_advanced entry (k * pages_of level))
entry-part ms level first k entry laid below want =
    let within = part-within k (pages_of (suc level)) (pages_of level) below (pages_of-more level) in
    let some = pages_of-some level in
    let h = entry-covers ms (suc level) first entry want in
    let far : first + k * pages_of level - first ≡ k * pages_of level = omega arith in
    let covered : covering ms (slot_pages level (first + k * pages_of level)) ≡ Some (entry_advanced entry (k * pages_of level)) =
    rw far at (covering-part ms 0 (slot_pages (suc level) first) (slot_pages level (first + k * pages_of level)) entry laid h.1
    (omega arith) some (omega (arith, within))) in
    wanted-covered ms level (first + k * pages_of level) _
    (covering-meets ms (slot_pages level (first + k * pages_of level)) _ some covered) (omega (arith, h.0)) covered

undivided-by : (ms : List Mapping) (level first k : ℕ) (w : Wanted) → IsLaidOut ms → k < 512 → wanted ms (suc level) first ≡ w → is_divided w ≡ false →
    is_divided (wanted ms level (first + k * pages_of level)) ≡ false
undivided-by ms level first k variant.Nothing laid below want whole = ap is_divided (nothing-part ms level first k below want)
undivided-by ms level first k (variant.Entry entry) laid below want whole = ap is_divided (entry-part ms level first k entry laid below want)
undivided-by ms level first k variant.Table laid below want whole = cc

-- the parts of a slot that is not to be a table are none either
pub undivided-part : (ms : List Mapping) (level first k : ℕ) → IsLaidOut ms → k < 512 → is_divided (wanted ms (suc level) first) ≡ false →
    is_divided (wanted ms level (first + k * pages_of level)) ≡ false
undivided-part ms level first k laid below whole = undivided-by ms level first k (wanted ms (suc level) first) laid below refl whole

-- a table is wanted above level 0 alone
pub table-above : (ms : List Mapping) (level first : ℕ) → wanted ms level first ≡ variant.Table → 0 < level
table-above ms zero first want = absurd (page-no-table ms first want)
table-above ms (suc level) first want = omega arith

divided-by : (w : Wanted) → (is_divided w ≡ false → ⊥) → w ≡ variant.Table
divided-by variant.Nothing divided = absurd (divided refl)
divided-by (variant.Entry entry) divided = absurd (divided refl)
divided-by variant.Table divided = refl

-- so a slot with a part that is to be a table is to be one
pub table-around : (ms : List Mapping) (level first k : ℕ) → IsLaidOut ms → k < 512 → wanted ms level (first + k * pages_of level) ≡ variant.Table →
    wanted ms (level + 1) first ≡ variant.Table
table-around ms level first k laid below want =
    let more : level + 1 ≡ suc level = omega arith in
    rw more (divided-by (wanted ms (suc level) first) (λ whole.
    let bad : true ≡ false = sym (ap is_divided want) ∙ undivided-part ms level first k laid below whole in cc))

-- a mapping that meets a slot which is to be no table holds it whole
pub held-whole : (ms : List Mapping) (level first position : ℕ) (d : Mapping) → IsLaidOut ms → position < length ms → is_divided (wanted ms level first) ≡ false →
    (get_or ms position d).range.first < first + pages_of level → first < end_of (get_or ms position d).range →
    (level ≤ 2) × ((get_or ms position d).range.first ≤ first) × (first + pages_of level ≤ end_of (get_or ms position d).range)
held-whole ms level first position d laid inside whole begun past =
    let read = met-at ms 0 position d (slot_pages level first) laid inside (pages_of-some level) (meets-from (get_or ms position d).range (slot_pages level first) begun past) in
    elim (true-or-false (lies_in (slot_pages level first) (get_or ms position d).range)) [
      | inl all ↦ (
          let bounds = lies-bounds (slot_pages level first) (get_or ms position d).range all in
          elim (cases_lt 2 level) [
            | inl high ↦ (let bad : true ≡ false = sym (ap is_divided (wanted-high ms level first read.0 high)) ∙ whole in cc)
            | inr low ↦ (low, bounds.0, bounds.1)
          ])
      | inr other ↦ (
          let bad : true ≡ false = sym (ap is_divided (wanted-table ms level first (get_or ms position d) read other)) ∙ whole in cc)
    ]
