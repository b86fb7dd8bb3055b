-- Which pages an item reaches, so that it can be passed over unread. No public clause cites this module.
use Rattle.std.specs.Prelude.{◌≡◌, ℕ, ◌-◌, ◌/◌, ◌%◌, ◌^◌, ◌<◌, ◌≤◌, ◌⊎◌, Bool, false, ◌&&◌, not, nat_eq, nat_lt, nat_le, bit_and, bit_or, List, [], ◌∷◌, map, length, slice_index_or, min, max, Option, Some, None}
use Rattle.std.specs.Int.{w128, rotate_left}
use Rattle.gv_types.specs.PageRange.{PageRangeState, span, end_of}
use Rattle.gv_types.specs.declared.operation.PageOp.{PageOp}
use Rattle.gv_journal.specs.Items.{done_by}
use Rattle.gv_journal.specs.Restoring.{pages_named}
use Rattle.gv_journal.specs.declared.item.Item.{Item}
use Rattle.gv_journal.specs.declared.reach.Reach.{Reach}

-- the pages from the least to the greatest of both
abbrev pub extents_joined : Option PageRangeState → Option PageRangeState → Option PageRangeState
extents_joined None other = other
extents_joined (Some s) None = Some s
extents_joined (Some s) (Some t) = Some (span (min s.first t.first) (max (end_of s) (end_of t) - min s.first t.first))

-- and of those of operations
abbrev pub extent_from : Option PageRangeState → List PageOp → Option PageRangeState
extent_from extent [] = extent
extent_from extent (op ∷ ops) = extent_from (extents_joined extent (pages_named op)) ops

abbrev pub extent_of : List PageOp → Option PageRangeState
extent_of ops = extent_from None ops

-- A region is the 512 pages of one table. Its number modulo 128 is the place of its bit.
abbrev pub region_of : ℕ → ℕ
region_of page = page / 512

-- the bits of the regions from one to another: as many ones as there are regions, and at most 128, turned to the place of the first
abbrev pub regions_between : ℕ → ℕ → ℕ
regions_between low high = rotate_left w128 ((2 ^ 128 - 1) / 2 ^ (127 - (high - low))) (low % 128)

-- and of those with pages that an operation names
abbrev pub regions_named : Option PageRangeState → ℕ
regions_named None = 0
regions_named (Some s) = regions_between (region_of s.first) (region_of (end_of s - 1))

abbrev pub regions_from : ℕ → List PageOp → ℕ
regions_from regions [] = regions
regions_from regions (op ∷ ops) = regions_from (bit_or regions (regions_named (pages_named op))) ops

abbrev pub regions_of : List PageOp → ℕ
regions_of ops = regions_from 0 ops

-- the least page, and the one past the greatest: 0 where there is none
abbrev pub least_page : Option PageRangeState → ℕ
least_page None = 0
least_page (Some s) = s.first

abbrev pub past_page : Option PageRangeState → ℕ
past_page None = 0
past_page (Some s) = end_of s

pub record IsReachOf (reach : Reach) (ops : List PageOp) : Type 0 where
  pub first : reach.first ≡ least_page (extent_of ops)
  pub past : reach.past ≡ past_page (extent_of ops)
  pub regions : reach.regions ≡ regions_of ops

-- some region may be, as far as these bits tell
abbrev pub regions_meet : ℕ → ℕ → Bool
regions_meet a b = not (nat_eq (bit_and a b) 0)

-- some page may be in both
abbrev pub reaches : Reach → Reach → Bool
reaches a b = nat_lt a.first b.past && nat_lt b.first a.past && regions_meet a.regions b.regions

-- what an item reaches
abbrev pub item_first : Item → ℕ
item_first item = least_page (extent_of (done_by item.kind))

abbrev pub item_past : Item → ℕ
item_past item = past_page (extent_of (done_by item.kind))

abbrev pub item_regions : Item → ℕ
item_regions item = regions_of (done_by item.kind)

-- a page lies between the least and the greatest that it covers
abbrev pub item_covers : Item → ℕ → Bool
item_covers item page = nat_le (item_first item) page && nat_lt page (item_past item)

-- an item, where there is one, doesn't reach the page
abbrev pub IsSilent : Option Item → ℕ → Type 0
IsSilent None page = Unit {0}
IsSilent (Some item) page = item_covers item page ≡ false

-- three columns hold what items reach
pub record AreReaches (fs ps rs : List ℕ) (items : List Item) : Type 0 where
  pub firsts : fs ≡ map item_first items
  pub pasts : ps ≡ map item_past items
  pub regions : rs ≡ map item_regions items

-- none of the pages from each of these on, up to the one beside it, is among those from one up to another
abbrev pub AllApart : ℕ → ℕ → List ℕ → List ℕ → Type 0
AllApart first past fs ps = (k : ℕ) → k < length fs → (past ≤ slice_index_or fs k 0) ⊎ (slice_index_or ps k 0 ≤ first)
