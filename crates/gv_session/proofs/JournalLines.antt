-- The lines of a journal, the oldest item first.
use Rattle.std.proofs.Common.{◌≡◌, ℕ, ◌+◌, ◌<◌, ◌||◌, List, [], ◌∷◌, ◌++◌, Bool, true, false, length, take, get_or, reverse, refl, sym, ap, ◌∙◌, append_assoc, append-nil, add-zero, arith, suc, zero, replicate}
use Rattle.std.specs.List.{list_any, flat_map}
use Rattle.std.proofs.lemmas.List.{take_more, length-take-le, length-reverse, reverse-append}
use Rattle.std.proofs.lemmas.List.Folds.{list_any-append}
use Rattle.gv_journal.specs.Items.{JournalState, NumberedItem, numbered, entries, names, is_withdrawn}
use Rattle.gv_journal.specs.declared.item.Item.{Item}
use Rattle.gv_session.specs.Texts.{reply, kind_text, item_text, lines_reply, journal_reply}

-- the lines of items that stand the oldest one first, the first of which has this number
abbrev pub item_lines : (ℕ → Bool) → ℕ → List Item → List ℕ
item_lines gone n [] = []
item_lines gone n (item ∷ later) = reply (kind_text n item.kind (gone n) ∷ []) ++ item_lines gone (n + 1) later

item_lines-append : (gone : ℕ → Bool) (n : ℕ) (xs ys : List Item) → item_lines gone n (xs ++ ys) ≡ item_lines gone n xs ++ item_lines gone (n + length xs) ys
item_lines-append gone n [] ys = ap (λ (k : ℕ). item_lines gone k ys) (sym (add-zero n))
item_lines-append gone n (x ∷ xs) ys =
    let here : List ℕ = reply (kind_text n x.kind (gone n) ∷ []) in
    let count : n + 1 + length xs ≡ n + length (x ∷ xs) = omega arith in
    ap (λ (bytes : List ℕ). here ++ bytes) (item_lines-append gone (n + 1) xs ys)
    ∙ sym (append_assoc here (item_lines gone (n + 1) xs) (item_lines gone (n + 1 + length xs) ys))
    ∙ ap (λ (k : ℕ). (here ++ item_lines gone (n + 1) xs) ++ item_lines gone k ys) count

pub item_lines-more : (gone : ℕ → Bool) (n k : ℕ) (items : List Item) (d : Item) → k < length items →
    item_lines gone n (take (k + 1) items) ≡ item_lines gone n (take k items) ++ reply (kind_text (n + k) (get_or items k d).kind (gone (n + k)) ∷ [])
item_lines-more gone n k items d below =
    let taken : length (take k items) ≡ k = length-take-le k items (omega arith) in
    ap (item_lines gone n) (take_more items k d below)
    ∙ item_lines-append gone n (take k items) (get_or items k d ∷ [])
    ∙ ap (λ (m : ℕ). item_lines gone n (take k items) ++ item_lines gone (n + m) (get_or items k d ∷ [])) taken
    ∙ ap (λ (bytes : List ℕ). item_lines gone n (take k items) ++ bytes) (append-nil _)

pub or_false : (b : Bool) → (b || false) ≡ b
or_false true = refl
or_false false = refl

-- one item more was looked at
pub any_more : (p : Item → Bool) (items : List Item) (k : ℕ) (d : Item) → k < length items →
    list_any p (take (k + 1) items) ≡ (list_any p (take k items) || p (get_or items k d))
any_more p items k d below =
    ap (list_any p) (take_more items k d below) ∙ list_any-append p (take k items) (get_or items k d ∷ [])
    ∙ ap (λ (b : Bool). list_any p (take k items) || b) (or_false (p (get_or items k d)))

or_swap : (a b : Bool) → (a || (b || false)) ≡ (b || a)
or_swap true true = refl
or_swap true false = refl
or_swap false true = refl
or_swap false false = refl

-- in whatever order they stand
any_numbered : (n first : ℕ) (js : List Item) → list_any (λ (x : NumberedItem). names x.item.kind n) (numbered first js) ≡ list_any (λ (i : Item). names i.kind n) js
any_numbered n first [] = refl
any_numbered n first (j ∷ js) = ap (λ (b : Bool). names j.kind n || b) (any_numbered n first js)

any_reversed : (p : Item → Bool) (xs : List Item) → list_any p (reverse xs) ≡ list_any p xs
any_reversed p [] = refl
any_reversed p (x ∷ xs) =
    ap (list_any p) (reverse-append (x ∷ []) xs)
    ∙ list_any-append p (reverse xs) (x ∷ []) ∙ ap (λ (b : Bool). b || list_any p (x ∷ [])) (any_reversed p xs)
    ∙ or_swap (list_any p xs) (p x)

pub gone_is : (j : JournalState) (items : List Item) (n : ℕ) → items ≡ reverse j.items → list_any (λ (i : Item). names i.kind n) items ≡ is_withdrawn (entries j) n
gone_is j items n is = ap (list_any (λ (i : Item). names i.kind n)) is ∙ any_reversed (λ i. names i.kind n) j.items ∙ sym (any_numbered n j.first j.items)

-- the items with their numbers, the oldest one first
abbrev from_oldest : ℕ → List Item → List NumberedItem
from_oldest n [] = []
from_oldest n (item ∷ later) = record { number = n; item = item } ∷ from_oldest (n + 1) later

from_oldest-append : (n : ℕ) (xs ys : List Item) → from_oldest n (xs ++ ys) ≡ from_oldest n xs ++ from_oldest (n + length xs) ys
from_oldest-append n [] ys = ap (λ (k : ℕ). from_oldest k ys) (sym (add-zero n))
from_oldest-append n (x ∷ xs) ys =
    let here : NumberedItem = record { number = n; item = x } in
    let count : n + 1 + length xs ≡ n + length (x ∷ xs) = omega arith in
    ap (λ (rest : List NumberedItem). here ∷ rest) (from_oldest-append (n + 1) xs ys)
    ∙ ap (λ (k : ℕ). here ∷ (from_oldest (n + 1) xs ++ from_oldest k ys)) count

numbered_reversed : (first : ℕ) (js : List Item) → reverse (numbered first js) ≡ from_oldest first (reverse js)
numbered_reversed first [] = refl
numbered_reversed first (j ∷ js) =
    let x : NumberedItem = record { number = first + length js; item = j } in
    reverse-append (x ∷ []) (numbered first js)
    ∙ ap (λ (rest : List NumberedItem). rest ++ x ∷ []) (numbered_reversed first js)
    ∙ ap (λ (k : ℕ). let y : NumberedItem = record { number = first + k; item = j } in from_oldest first (reverse js) ++ y ∷ []) (sym (length-reverse js))
    ∙ sym (from_oldest-append first (reverse js) (j ∷ []))
    ∙ ap (from_oldest first) (sym (reverse-append (j ∷ []) js))

lines_of : (gone : ℕ → Bool) (n : ℕ) (items : List Item) →
    flat_map (λ (x : NumberedItem). reply (item_text gone x ∷ [])) (from_oldest n items) ≡ item_lines gone n items
lines_of gone n [] = refl
lines_of gone n (item ∷ later) = ap (λ (bytes : List ℕ). reply (kind_text n item.kind (gone n) ∷ []) ++ bytes) (lines_of gone (n + 1) later)

some_lines : (f : NumberedItem → List ℕ) (xs : List NumberedItem) → 0 < length xs → lines_reply f xs ≡ flat_map (λ (x : NumberedItem). reply (f x ∷ [])) xs
some_lines f [] some = absurd (omega arith)
some_lines f (x ∷ xs) some = refl

same_lines : (gone here : ℕ → Bool) (n : ℕ) (items : List Item) → ((k : ℕ) → gone k ≡ here k) → item_lines gone n items ≡ item_lines here n items
same_lines gone here n [] same = refl
same_lines gone here n (item ∷ later) same =
    ap (λ (b : Bool). reply (kind_text n item.kind b ∷ []) ++ item_lines gone (n + 1) later) (same n)
    ∙ ap (λ (bytes : List ℕ). reply (kind_text n item.kind (here n) ∷ []) ++ bytes) (same_lines gone here (n + 1) later same)

length-numbered : (first : ℕ) (js : List Item) → length (numbered first js) ≡ length js
length-numbered first [] = refl
length-numbered first (j ∷ js) = ap (λ (k : ℕ). suc k) (length-numbered first js)

-- the text of a journal that is not empty
pub journal_lines : (j : JournalState) (items : List Item) (first : ℕ) → items ≡ reverse j.items → first ≡ j.first → 0 < length items →
    item_lines (λ n. list_any (λ (i : Item). names i.kind n) items) first items ≡ journal_reply j
journal_lines j items first is from some =
    let gone : ℕ → Bool = is_withdrawn (entries j) in
    let count : length (reverse (entries j)) ≡ length items =
    length-reverse (entries j) ∙ length-numbered j.first j.items ∙ sym (length-reverse j.items) ∙ ap (λ (xs : List Item). length xs) (sym is) in
    same_lines (λ n. list_any (λ (i : Item). names i.kind n) items) gone first items (λ k. gone_is j items k is)
    ∙ ap (λ (xs : List Item). item_lines gone first xs) is ∙ ap (λ (n : ℕ). item_lines gone n (reverse j.items)) from
    ∙ sym (lines_of gone j.first (reverse j.items))
    ∙ ap (flat_map (λ (x : NumberedItem). reply (item_text gone x ∷ []))) (sym (numbered_reversed j.first j.items))
    ∙ sym (some_lines (item_text gone) (reverse (entries j)) (omega arith))

-- nothing is marked at first
pub unmarked : (n k : ℕ) → get_or (replicate n false) k false ≡ false
unmarked zero k = refl
unmarked (suc n) zero = refl
unmarked (suc n) (suc k) = unmarked n k

whole : (items : List Item) → take (length items) items ≡ items
whole [] = refl
whole (x ∷ items) = ap (λ (rest : List Item). x ∷ rest) (whole items)

-- all items were looked at
pub take_all : (items : List Item) (k : ℕ) → length items ≡ k → take k items ≡ items
take_all items k is = ap (λ (n : ℕ). take n items) (sym is) ∙ whole items

-- what stands in a list does not depend on what stands past its end
pub same_mark : (marks : List Bool) (k : ℕ) (a b : Bool) → k < length marks → get_or marks k a ≡ get_or marks k b
same_mark [] k a b below = absurd (omega arith)
same_mark (m ∷ marks) zero a b below = refl
same_mark (m ∷ marks) (suc k) a b below = same_mark marks k a b (omega arith)
