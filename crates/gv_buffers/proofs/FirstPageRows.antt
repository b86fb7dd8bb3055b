-- The rows of a table of first pages.
use Rattle.std.proofs.Common.{◌≡◌, ℕ, zero, suc, List, [], ◌∷◌, ◌++◌, refl}
use Rattle.gv_buffers.specs.FirstPages.{FirstPagesState, no_first_pages, first_pages_at}

-- a row of no mapping at the end changes those of no index
pub none_pushed : (rows : List FirstPagesState) (other : ℕ) → first_pages_at (rows ++ no_first_pages ∷ []) other ≡ first_pages_at rows other
none_pushed [] zero = refl
none_pushed [] (suc other) = refl
none_pushed (x ∷ rows) zero = refl
none_pushed (x ∷ rows) (suc other) = none_pushed rows other
