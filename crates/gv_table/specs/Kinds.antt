-- The two kinds of tables: of single pages, and of other slots.
use Rattle.std.specs.Prelude.{ℕ, zero, suc, ◌≤◌, Bool, true, false}
use Rattle.gv_table.specs.declared.kind_counts.KindCounts.{KindCounts}

pub data Kind : Type 0 where
  pages : Kind
  slots : Kind

-- one for a table of the kind, whose slots are at a level
abbrev pub one_of : Kind → ℕ → ℕ
one_of pages zero = 1
one_of pages (suc level) = 0
one_of slots zero = 0
one_of slots (suc level) = 1

-- the number, unless that is true
abbrev pub unless : Bool → ℕ → ℕ
unless true n = 0
unless false n = n

-- how many there are of a kind
abbrev pub of : Kind → KindCounts → ℕ
of pages tables = tables.pages
of slots tables = tables.slots

-- so many of each kind
abbrev pub each : (Kind → ℕ) → KindCounts
each number = record { pages = number pages; slots = number slots }

-- none of each kind
abbrev pub none : KindCounts
none = each (λ kind. 0)

-- of each kind as many as needed, or more
abbrev pub AreEnough : KindCounts → KindCounts → Type 0
AreEnough tables need = (kind : Kind) → of kind need ≤ of kind tables
