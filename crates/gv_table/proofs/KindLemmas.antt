-- The two kinds of tables, apart.
use Rattle.std.proofs.Common.{◌≡◌, ◌<◌, ℕ, zero, suc, refl, arith, ap, ◌∙◌}
use Rattle.gv_table.specs.declared.kind_counts.KindCounts.{KindCounts}
use Rattle.gv_table.specs.Kinds.{Kind, pages, slots, one_of, of, each, none, AreEnough}

-- what holds of either kind holds of each
pub of-each : (P : Kind → Type 0) → P pages → P slots → (kind : Kind) → P kind
of-each P a b pages = a
of-each P a b slots = b

-- a table whose slots are at level 0 is one of pages
pub one_of-low : (kind : Kind) (level : ℕ) → level ≡ 0 → one_of kind level ≡ one_of kind 0
one_of-low kind level low = ap (λ (n : ℕ). one_of kind n) low

-- and above it one of slots
pub one_of-high : (kind : Kind) (level : ℕ) → 0 < level → one_of kind level ≡ one_of kind 1
one_of-high kind zero high = absurd (omega arith)
one_of-high pages (suc level) high = refl
one_of-high slots (suc level) high = refl

pub none-is : (kind : Kind) → of kind none ≡ 0
none-is pages = refl
none-is slots = refl

-- as many as needed are enough
pub enough-same : {need tables : KindCounts} → need ≡ tables → AreEnough tables need
enough-same e kind = omega (arith, ap (of kind) e)

-- none is needed but where nothing is
pub sums-same : {one other : KindCounts} → ((kind : Kind) → of kind one ≡ of kind other) → one ≡ other
sums-same {one = one} {other = other} same =
    let with_pages : ℕ → KindCounts = λ n. record { pages = n; slots = one.slots } in
    let with_slots : ℕ → KindCounts = λ n. record { pages = other.pages; slots = n } in
    ap with_pages (same pages) ∙ ap with_slots (same slots)

pub each-of : (f : Kind → ℕ) (kind : Kind) → of kind (each f) ≡ f kind
each-of f pages = refl
each-of f slots = refl
