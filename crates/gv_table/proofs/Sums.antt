-- Laws of sums over the first few numbers.
use Rattle.std.proofs.Common.{◌≡◌, ◌≢◌, ℕ, zero, suc, ◌+◌, ◌*◌, ◌<◌, ◌≤◌, refl, arith, add-one, sym, ap, ◌⊎◌, inl, inr}
use Rattle.gv_table.specs.Sums.{sum_below}

pub sum_below-none : (f : ℕ → ℕ) → sum_below 0 f ≡ 0
unfolding sum_below
sum_below-none f = refl

pub sum_below-more : (n : ℕ) (f : ℕ → ℕ) → sum_below (n + 1) f ≡ sum_below n f + f n
unfolding sum_below
sum_below-more n f = rw add-one refl

pub sum_below-same : (n : ℕ) (f g : ℕ → ℕ) → ((k : ℕ) → k < n → f k ≡ g k) → sum_below n f ≡ sum_below n g
unfolding sum_below
sum_below-same zero f g same = refl
sum_below-same (suc n) f g same =
    let h : sum_below n f ≡ sum_below n g = sum_below-same n f g (λ k below. same k (omega arith)) in
    let e : f n ≡ g n = same n (omega arith) in
    omega (arith, h, e)

pub sum_below-zeros : (n : ℕ) (f : ℕ → ℕ) → ((k : ℕ) → k < n → f k ≡ 0) → sum_below n f ≡ 0
unfolding sum_below
sum_below-zeros zero f same = refl
sum_below-zeros (suc n) f same =
    let h : sum_below n f ≡ 0 = sum_below-zeros n f (λ k below. same k (omega arith)) in
    let e : f n ≡ 0 = same n (omega arith) in
    omega (arith, h, e)

split : (i n : ℕ) → i < suc n → (i < n) ⊎ (i ≡ n)
split i n below = grind arith

split' : (i n : ℕ) → i ≤ suc n → (i ≤ n) ⊎ (i ≡ suc n)
split' i n below = grind arith

-- the first few and one more are at most all
pub sum_below-part : (n : ℕ) (f : ℕ → ℕ) (i : ℕ) → i < n → sum_below i f + f i ≤ sum_below n f
unfolding sum_below
sum_below-part zero f i below = absurd (omega arith)
sum_below-part (suc n) f i below =
    elim (split i n below) [
      | inl less ↦ (let h = sum_below-part n f i less in omega (arith, h))
      | inr same ↦ (let e : sum_below i f + f i ≡ sum_below n f + f n = ap (λ (k : ℕ). sum_below k f + f k) same in omega (arith, e))
    ]

pub sum_below-le : (n : ℕ) (f g : ℕ → ℕ) → ((k : ℕ) → k < n → f k ≤ g k) → sum_below n f ≤ sum_below n g
unfolding sum_below
sum_below-le zero f g less = omega arith
sum_below-le (suc n) f g less =
    let h = sum_below-le n f g (λ k below. less k (omega arith)) in
    let e = less n (omega arith) in
    omega (arith, h, e)

pub sum_below-at : (n : ℕ) (f : ℕ → ℕ) (i : ℕ) → i < n → f i ≤ sum_below n f
sum_below-at n f i below = let h = sum_below-part n f i below in omega (arith, h)

-- two sums that differ at one position
pub sum_below-change :
    (n : ℕ) (f g : ℕ → ℕ) (i : ℕ) → i < n → ((k : ℕ) → k ≢ i → g k ≡ f k) → sum_below n g + f i ≡ sum_below n f + g i
unfolding sum_below
sum_below-change zero f g i below same = absurd (omega arith)
sum_below-change (suc n) f g i below same =
    elim (split i n below) [
      | inl less ↦ (let differ : n ≢ i = omega arith in
          let h = sum_below-change n f g i less same in
          let e = same n differ in
          omega (arith, h, e))
      | inr here ↦ (let h = sum_below-same n g f (λ k smaller. let differ : k ≢ i = omega arith in same k differ) in
          let a = ap f here in
          let b = ap g here in
          omega (arith, h, a, b))
    ]

-- the first few are all, where the rest are 0
pub sum_below-rest :
    (n : ℕ) (f : ℕ → ℕ) (i : ℕ) → i ≤ n → ((k : ℕ) → i ≤ k → k < n → f k ≡ 0) → sum_below n f ≡ sum_below i f
unfolding sum_below
sum_below-rest zero f i within rest = let e : i ≡ 0 = omega arith in ap (λ m. sum_below m f) (sym e)
sum_below-rest (suc n) f i within rest =
    elim (split' i n within) [
      | inl less ↦ (let h = sum_below-rest n f i less (λ k up down. rest k up (omega arith)) in
          let e = rest n less (omega arith) in
          omega (arith, h, e))
      | inr here ↦ ap (λ m. sum_below m f) (sym here)
    ]

product-next : (n p : ℕ) → suc n * p ≡ n * p + p
product-next n p = grind arith

-- a sum of numbers that are each below a bound
pub sum_below-few : (n : ℕ) (f : ℕ → ℕ) (p : ℕ) → ((k : ℕ) → k < n → f k + 1 ≤ p) → sum_below n f + n ≤ n * p
unfolding sum_below
sum_below-few zero f p few = omega arith
sum_below-few (suc n) f p few =
    let h = sum_below-few n f p (λ k below. few k (omega arith)) in
    let e = few n (omega arith) in
    let product = product-next n p in
    omega (arith, h, e, product)

-- the same with one of them raised to the bound
pub sum_below-few-but : (n : ℕ) (f : ℕ → ℕ) (p i : ℕ) → i < n → ((k : ℕ) → k < n → f k + 1 ≤ p) → sum_below n f + n + p ≤ n * p + 1 + f i
unfolding sum_below
sum_below-few-but zero f p i below few = absurd (omega arith)
sum_below-few-but (suc n) f p i below few =
    let product = product-next n p in
    elim (split i n below) [
      | inl less ↦ (let h = sum_below-few-but n f p i less (λ k smaller. few k (omega arith)) in
          let e = few n (omega arith) in
          omega (arith, h, e, product))
      | inr here ↦ (let h = sum_below-few n f p (λ k smaller. few k (omega arith)) in
          let a = ap f here in
          omega (arith, h, a, product))
    ]
