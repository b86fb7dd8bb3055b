-- For callers: the items by their numbers.
use Rattle.std.proofs.Common.{◌≡◌, ℕ, zero, suc, ◌+◌, ◌-◌, ◌<◌, ◌≤◌, Bool, false, cond, List, [], ◌∷◌, length, reverse, drop, get_or, Some, None, ap, ◌∙◌, arith}
use Rattle.std.specs.Prelude.{slice_get, nat_lt}
use Rattle.std.proofs.lemmas.Bool.Decides.{nat_tests}
use Rattle.std.proofs.lemmas.List.{length-reverse, get_or-reverse}
use Rattle.std.proofs.lemmas.Option.{slice_get-get_or}
use Rattle.gv_journal.specs.Items.{JournalState, numbered, entries, next}
use Rattle.gv_journal.specs.Withdrawing.{item_at}
use Rattle.gv_journal.specs.declared.item.Item.{Item}

not_below : (n low : ℕ) → low ≤ n → nat_lt n low ≡ false
not_below n low le = grind (arith, nat_tests)

-- an item that is held, by how many are newer
pub item_held : (j : JournalState) (n : ℕ) (d : Item) → j.first ≤ n → n < next j → item_at j n ≡ Some (get_or j.items (next j - 1 - n) d)
item_held j n d low high =
    let within : n - j.first < length j.items = omega arith in
    let index : length j.items - 1 - (n - j.first) ≡ next j - 1 - n = omega arith in
    ap (λ (b : Bool). cond b None (slice_get (reverse j.items) (n - j.first))) (not_below n j.first low)
    ∙ slice_get-get_or (reverse j.items) (n - j.first) d (omega (arith, within, length-reverse j.items))
    ∙ ap (λ (x : Item). Some x) (get_or-reverse j.items (n - j.first) d within)
    ∙ ap (λ (k : ℕ). Some (get_or j.items k d)) index

numbered_at : (first : ℕ) (items : List Item) (k : ℕ) (d : Item) → k < length items →
    drop k (numbered first items) ≡ record { number = first + (length items - 1 - k); item = get_or items k d } ∷ drop (suc k) (numbered first items)
numbered_at first [] k d below = absurd (omega arith)
numbered_at first (item ∷ items) zero d below =
    let number : first + length items ≡ first + (length (item ∷ items) - 1 - 0) = omega arith in
    ap (λ (n : ℕ). record { number = n; item = item } ∷ numbered first items) number
numbered_at first (item ∷ items) (suc k) d below =
    let number : first + (length items - 1 - k) ≡ first + (length (item ∷ items) - 1 - suc k) = omega arith in
    numbered_at first items k d (omega arith)
    ∙ ap (λ (n : ℕ). record { number = n; item = get_or items k d } ∷ drop (suc k) (numbered first items)) number

-- the items from one on to the oldest: that one, and then those older
pub entries_from : (j : JournalState) (n : ℕ) (d : Item) → j.first ≤ n → n < next j →
    drop (next j - (n + 1)) (entries j) ≡ record { number = n; item = get_or j.items (next j - 1 - n) d } ∷ drop (next j - n) (entries j)
entries_from j n d low high =
    let from : next j - (n + 1) ≡ next j - 1 - n = omega arith in
    let number : j.first + (length j.items - 1 - (next j - 1 - n)) ≡ n = omega arith in
    let past : suc (next j - 1 - n) ≡ next j - n = omega arith in
    ap (λ (k : ℕ). drop k (entries j)) from
    ∙ numbered_at j.first j.items (next j - 1 - n) d (omega arith)
    ∙ ap (λ (m : ℕ). record { number = m; item = get_or j.items (next j - 1 - n) d } ∷ drop (suc (next j - 1 - n)) (entries j)) number
    ∙ ap (λ (k : ℕ). record { number = n; item = get_or j.items (next j - 1 - n) d } ∷ drop k (entries j)) past
