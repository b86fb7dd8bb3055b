-- Where the mappings of one buffer begin, as far as it is known.
use Rattle.std.specs.Prelude.{◌≡◌, ◌≢◌, ℕ, ◌+◌, ◌-◌, ◌<◌, ◌≤◌, ◌==◌, ◌&&◌, min, nat_lt, Bool, true, if◌then◌else◌, List, [], length, filter, insert, slice_index_or}
use Rattle.std.specs.List.{AllPairs, list_any, remove}

-- what contracts see of `FirstPages`: how many mappings there are, the first page of each, or none where they aren't known, and how many
-- pages there is room for
pub record FirstPagesState : Type 0 where
  pub count : ℕ
  pub pages : List ℕ
  pub room : ℕ

-- no page is above one behind it
abbrev pub AreRising : List ℕ → Type 0
AreRising = AllPairs (λ a b. a ≤ b)

-- of a buffer with more mappings no page is known
abbrev pub most_first_pages : ℕ
most_first_pages = 64

-- those of a buffer without a mapping, with room in the value itself
abbrev pub no_first_pages : FirstPagesState
no_first_pages = record { count = 0; pages = []; room = 4 }

abbrev pub are_known : FirstPagesState → Bool
are_known first_pages = length first_pages.pages == first_pages.count

abbrev pub is_among : ℕ → List ℕ → Bool
is_among page pages = list_any (λ other. other == page) pages

-- how many of the pages are lower
abbrev pub count_lower : ℕ → List ℕ → ℕ
count_lower page pages = length (filter (λ other. nat_lt other page) pages)

-- the pages are known, and there is room for one more
abbrev pub can_add_page : FirstPagesState → Bool
can_add_page first_pages = nat_lt first_pages.count most_first_pages && are_known first_pages && nat_lt first_pages.count first_pages.room

-- once a mapping that begins at a page has come
abbrev pub page_added : ℕ → FirstPagesState → FirstPagesState
page_added page first_pages = record first_pages {
  count = first_pages.count + 1;
  pages = if can_add_page first_pages then insert first_pages.pages (count_lower page first_pages.pages) page else [];
}

-- once a mapping, which began at a page, has left
abbrev pub page_removed : ℕ → FirstPagesState → FirstPagesState
page_removed page first_pages = record first_pages {
  count = first_pages.count - 1;
  pages = if are_known first_pages && is_among page first_pages.pages then remove first_pages.pages (count_lower page first_pages.pages) else [];
}

-- those at an index: of no mapping, where the table has no row for it
abbrev pub first_pages_at : List FirstPagesState → ℕ → FirstPagesState
first_pages_at rows index = slice_index_or rows index no_first_pages

-- those at each other index are the same
abbrev pub AreSameElsewhere : ℕ → List FirstPagesState → List FirstPagesState → Type 0
AreSameElsewhere index old new = (other : ℕ) → other ≢ index → first_pages_at new other ≡ first_pages_at old other

-- where the pages are known, and are to be kept, there is room for more of them
abbrev pub HasRoomFor : ℕ → FirstPagesState → FirstPagesState → Type 0
HasRoomFor more old new = old.count < most_first_pages → are_known old ≡ true → old.count + min more (most_first_pages - old.count) ≤ new.room

-- those of each index are the same, but for the room
pub record HaveSameFirstPages (old new : List FirstPagesState) : Type 0 where
  pub count : (index : ℕ) → (first_pages_at new index).count ≡ (first_pages_at old index).count
  pub pages : (index : ℕ) → (first_pages_at new index).pages ≡ (first_pages_at old index).pages

-- these are where the mappings begin: as many are counted, and where as many pages are known as are counted, they are these
pub record IsRowOf (firsts : List ℕ) (first_pages : FirstPagesState) : Type 0 where
  pub count : first_pages.count ≡ length firsts
  pub pages : length first_pages.pages ≡ first_pages.count → first_pages.pages ≡ firsts
