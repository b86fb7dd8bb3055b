-- Operations don't change the pages of operations that they don't touch.
use Rattle.std.proofs.Common.{◌≡◌, ℕ, ◌+◌, ◌<◌, Bool, true, false, not, cond, ◌||◌, ◌&&◌, List, [], ◌∷◌, ◌++◌, length, drop, get_or, reverse, Option, Some, None, refl, ap, sym, ◌∙◌, subst, arith, length-append}
use Rattle.std.specs.Prelude.{IsTrue}
use Rattle.std.specs.List.{list_any}
use Rattle.std.proofs.lemmas.List.{reverse-append, drop_more}
use Rattle.std.proofs.lemmas.Bool.Decides.{nat_tests}
use Rattle.std.proofs.lemmas.Bool.{or_parts}
use Rattle.gv_types.specs.Page.{IsPage}
use Rattle.gv_types.specs.PageRange.{PageRangeState, span, covers, meets}
use Rattle.gv_types.specs.Operation.{range_of, own_part, view as view_of_ops}
use Rattle.gv_types.specs.declared.mapping.Entry.{Entry}
use Rattle.gv_types.specs.declared.operation.PageOp.{PageOp}
use Rattle.gv_types.specs.declared.operation.PageOp.TheVariants.{Map, Unmap, UnmapBuffer}
use Rattle.gv_space.specs.Undo.{OpUndoState}
use Rattle.gv_journal.specs.Items.{numbered, done_by, ops_without}
use Rattle.gv_journal.specs.History.{Save}
use Rattle.gv_journal.specs.Restoring.{pages_named}
use Rattle.gv_journal.specs.Withdrawing.{touch, touched_from}
use Rattle.gv_journal.specs.declared.item.Item.{Item}
use Rattle.gv_journal.proofs.Views.{view-at}

-- some operation covers the page
abbrev pub covers_any : List PageOp → ℕ → Bool
covers_any ops page = list_any (λ op. covers (range_of op) page) ops

-- operations say nothing of a page that none of them covers
pub view-silent : (ops : List PageOp) (below : ℕ → Option Entry) (page : ℕ) → covers_any ops page ≡ false → view_of_ops ops below page ≡ below page
view-silent [] below page none = refl
view-silent (op ∷ ops) below page none =
    ap (λ (b : Bool). cond b (own_part op page) (view_of_ops ops below page)) (or_parts (covers (range_of op) page) (covers_any ops page) none).0
    ∙ view-silent ops below page (or_parts (covers (range_of op) page) (covers_any ops page) none).1

pub any-append : {A : Type 0} (p : A → Bool) (xs ys : List A) → list_any p (xs ++ ys) ≡ (list_any p xs || list_any p ys)
any-append p [] ys = refl
any-append p (x ∷ xs) ys = ap (λ (b : Bool). p x || b) (any-append p xs ys) ∙ assoc (p x) (list_any p xs) (list_any p ys)
  where
    assoc : (a b c : Bool) → (a || (b || c)) ≡ ((a || b) || c)
    assoc true b c = refl
    assoc false b c = refl

or_swap : (a b : Bool) → (a || b) ≡ (b || a)
or_swap true true = refl
or_swap true false = refl
or_swap false true = refl
or_swap false false = refl

or_none : (a : Bool) → (a || false) ≡ a
or_none true = refl
or_none false = refl

-- in whatever order they stand
pub any-reverse : {A : Type 0} (p : A → Bool) (xs : List A) → list_any p (reverse xs) ≡ list_any p xs
any-reverse p [] = refl
any-reverse p (x ∷ xs) =
    ap (list_any p) (reverse-append (x ∷ []) xs) ∙ any-append p (reverse xs) (x ∷ [])
    ∙ ap (λ (b : Bool). list_any p (reverse xs) || b) (or_none (p x))
    ∙ ap (λ (b : Bool). b || p x) (any-reverse p xs) ∙ or_swap (list_any p xs) (p x)

-- two ranges that don't meet share no page
apart : (r s : PageRangeState) (page : ℕ) → meets r s ≡ false → covers r page ≡ true → covers s page ≡ false
apart r s page none here = grind (arith, nat_tests)

apart_from_all : (r : PageRangeState) (others : List PageOp) (page : ℕ) → list_any (λ other. meets r (range_of other)) others ≡ false → covers r page ≡ true → covers_any others page ≡ false
apart_from_all r [] page none here = refl
apart_from_all r (other ∷ others) page none here =
    let first : covers (range_of other) page ≡ false = apart r (range_of other) page (or_parts (meets r (range_of other)) (list_any (λ (o : PageOp). meets r (range_of o)) others) none).0 here in
    rw (first, apart_from_all r others page (or_parts (meets r (range_of other)) (list_any (λ (o : PageOp). meets r (range_of o)) others) none).1 here) refl

-- no page is met by none
pub nothing_met : (s : PageRangeState) → meets (span 0 0) s ≡ false
nothing_met s = grind (arith, nat_tests)

-- an operation that names no pages meets none
pub nowhere_met : (op : PageOp) (others : List PageOp) → pages_named op ≡ None → list_any (λ other. meets (range_of op) (range_of other)) others ≡ false
nowhere_met op [] none = refl
nowhere_met (Map range backing flags) (other ∷ others) none = cc
nowhere_met (Unmap range) (other ∷ others) none = cc
nowhere_met (UnmapBuffer buffer) (other ∷ others) none = rw (nothing_met (range_of other), nowhere_met (UnmapBuffer buffer) others none) refl

-- operations that touch no others leave their pages alone
pub touch_none : (ops others : List PageOp) (page : ℕ) → touch ops others ≡ false → covers_any ops page ≡ true → covers_any others page ≡ false
touch_none [] others page none here = cc
touch_none (op ∷ ops) others page none here =
    by_cases (covers (range_of op) page) refl here (touch_none ops others page (or_parts (list_any (λ (o : PageOp). meets (range_of op) (range_of o)) others) (touch ops others) none).1)
  where
    by_cases : (b : Bool) → covers (range_of op) page ≡ b → (b || covers_any ops page) ≡ true → (covers_any ops page ≡ true → covers_any others page ≡ false) → covers_any others page ≡ false
    by_cases true is h later = apart_from_all (range_of op) others page (or_parts (list_any (λ (o : PageOp). meets (range_of op) (range_of o)) others) (touch ops others) none).0 is
    by_cases false is h later = later h

-- none of the items that aren't gone touches the operations; the oldest of them has the number `base`
abbrev pub NoneTouch : (ℕ → Bool) → List PageOp → ℕ → List Item → Type 0
NoneTouch gone ops base [] = Unit {0}
NoneTouch gone ops base (item ∷ older) = (gone (base + length older) ≡ false → touch ops (done_by item.kind) ≡ false) × NoneTouch gone ops base older

NoneTouch-last : (gone : ℕ → Bool) (ops : List PageOp) (n : ℕ) (newer : List Item) (item : Item) → NoneTouch gone ops (n + 1) newer → (gone n ≡ false → touch ops (done_by item.kind) ≡ false) →
    NoneTouch gone ops n (newer ++ item ∷ [])
NoneTouch-last gone ops n [] item none last =
    let number : n + 0 ≡ n = omega arith in
    (λ live. last (ap (λ (k : ℕ). gone k) (sym number) ∙ live), tt)
NoneTouch-last gone ops n (y ∷ newer) item none last =
    let number : n + 1 + length newer ≡ n + length (newer ++ item ∷ []) = omega (arith, length-append newer (item ∷ [])) in
    (λ live. none.0 (ap (λ (k : ℕ). gone k) number ∙ live), NoneTouch-last gone ops n newer item none.1 last)

and_false : (a b : Bool) (n : ℕ) (rest : Option ℕ) → cond (a && not b) (Some n) rest ≡ None → (b ≡ false → a ≡ false) × (rest ≡ None)
and_false true true n rest h = (λ e. cc, h)
and_false true false n rest h = cc
and_false false b n rest h = (λ _. refl, h)

-- no item was found that touches
pub none_touch : (gone : ℕ → Bool) (ops : List PageOp) (n : ℕ) (later : List Item) → touched_from gone ops n later ≡ None → NoneTouch gone ops n (reverse later)
none_touch gone ops n [] none = tt
none_touch gone ops n (item ∷ later) none =
    let here = and_false (touch ops (done_by item.kind)) (gone n) n (touched_from gone ops (n + 1) later) none in
    subst (λ (xs : List Item). NoneTouch gone ops n xs) (sym (reverse-append (item ∷ []) later))
    (NoneTouch-last gone ops n (reverse later) item (none_touch gone ops (n + 1) later here.1) here.0)

-- so the items that aren't gone leave its pages alone
pub newer_silent : (gone : ℕ → Bool) (ops : List PageOp) (base : ℕ) (newer : List Item) (page : ℕ) → NoneTouch gone ops base newer → covers_any ops page ≡ true →
    covers_any (ops_without gone (numbered base newer)) page ≡ false
newer_silent gone ops base [] page none here = refl
newer_silent gone ops base (item ∷ newer) page none here =
    any-append (λ (op : PageOp). covers (range_of op) page) (cond (gone (base + length newer)) [] (reverse (done_by item.kind))) (ops_without gone (numbered base newer))
    ∙ ap (λ (b : Bool). b || covers_any (ops_without gone (numbered base newer)) page) (own (gone (base + length newer)) refl)
    ∙ newer_silent gone ops base newer page none.1 here
  where
    own : (b : Bool) → gone (base + length newer) ≡ b → covers_any (cond b [] (reverse (done_by item.kind))) page ≡ false
    own true is = refl
    own false is = any-reverse (λ (op : PageOp). covers (range_of op) page) (done_by item.kind) ∙ touch_none ops (done_by item.kind) page (none.0 is) here

-- undo values save the same where the maps below agree at the pages of the operations
pub Save-where : (ops : List PageOp) (us : List OpUndoState) (below other : ℕ → Option Entry) → ((page : ℕ) → IsPage page → covers_any ops page ≡ true → below page ≡ other page) →
    Save ops us below → Save ops us other
Save-where [] [] below other same h = tt
Save-where (op ∷ ops) (u ∷ us) below other same h = (
  λ page is c. h.0 page is c ∙ view-at ops below other page (same page is (first page c)),
  Save-where ops us below other (λ page is c. same page is (later (covers (range_of op) page) (covers_any ops page) c)) h.1,
)
  where
    first : (page : ℕ) → IsTrue (covers (range_of op) page) → covers_any (op ∷ ops) page ≡ true
    first page c = ap (λ (b : Bool). b || covers_any ops page) c

    later : (a b : Bool) → b ≡ true → (a || b) ≡ true
    later true b h = refl
    later false b h = h
Save-where [] (u ∷ us) below other same h = absurd h
Save-where (op ∷ ops) [] below other same h = absurd h

-- the item at an index, and those behind it
touched_at : (gone : ℕ → Bool) (ops : List PageOp) (n : ℕ) (later : List Item) (i : ℕ) (item : Item) → i < length later → item ≡ get_or later i item →
    touched_from gone ops (n + i) (drop i later) ≡ cond (touch ops (done_by item.kind) && not (gone (n + i))) (Some (n + i)) (touched_from gone ops (n + i + 1) (drop (i + 1) later))
touched_at gone ops n later i item below is =
    ap (λ (xs : List Item). touched_from gone ops (n + i) xs) (drop_more later i item below ∙ ap (λ (x : Item). x ∷ drop (i + 1) later) (sym is))

pub touched_here : (gone : ℕ → Bool) (ops : List PageOp) (n : ℕ) (later : List Item) (i : ℕ) (item : Item) (way : Bool) → i < length later → item ≡ get_or later i item →
    way ≡ (touch ops (done_by item.kind) && not (gone (n + i))) → way ≡ true →
    touched_from gone ops n later ≡ touched_from gone ops (n + i) (drop i later) → touched_from gone ops n later ≡ Some (n + i)
touched_here gone ops n later i item way below is stands so rest =
    rest ∙ touched_at gone ops n later i item below is ∙ ap (λ (b : Bool). cond b (Some (n + i)) (touched_from gone ops (n + i + 1) (drop (i + 1) later))) (sym stands ∙ so)

pub touched_later : (gone : ℕ → Bool) (ops : List PageOp) (n : ℕ) (later : List Item) (i : ℕ) (item : Item) (way : Bool) → i < length later → item ≡ get_or later i item →
    way ≡ (touch ops (done_by item.kind) && not (gone (n + i))) → way ≡ false →
    touched_from gone ops n later ≡ touched_from gone ops (n + i) (drop i later) → touched_from gone ops n later ≡ touched_from gone ops (n + (i + 1)) (drop (i + 1) later)
touched_later gone ops n later i item way below is stands fails rest =
    let number : n + i + 1 ≡ n + (i + 1) = omega arith in
    rest ∙ touched_at gone ops n later i item below is ∙ ap (λ (b : Bool). cond b (Some (n + i)) (touched_from gone ops (n + i + 1) (drop (i + 1) later))) (sym stands ∙ fails)
    ∙ ap (λ (k : ℕ). touched_from gone ops k (drop (i + 1) later)) number
