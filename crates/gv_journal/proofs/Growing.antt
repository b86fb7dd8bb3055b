-- How much room for mappings a list may get while operations are applied (`GrowsFor`).
use Rattle.std.proofs.Common.{◌≡◌, ℕ, ◌+◌, ◌*◌, ◌<◌, ◌≤◌, List, [], ◌∷◌, ◌++◌, length, max, map, take, drop, get_or, reverse, refl, sym, ◌∙◌, ap, arith, ⊎_elim}
use Rattle.std.proofs.lemmas.Bool.{cases_lt}
use Rattle.std.proofs.lemmas.List.{drop_more, take-append-drop, map-append, reverse-append}
use Rattle.gv_types.specs.PageRange.{PageRangeState}
use Rattle.gv_types.specs.declared.mapping.Mapping.{Mapping}
use Rattle.gv_types.specs.declared.operation.Op.{Op}
use Rattle.gv_types.specs.declared.operation.PageOp.{PageOp}
use Rattle.gv_types.specs.declared.operation.PageOp.TheVariants.{Unmap}
use Rattle.gv_ranges.specs.Edit.{edited, edited_by_all}
use Rattle.gv_space.specs.State.{SpaceState}
use Rattle.gv_space.specs.Undo.{OpUndoState, reverted}
use Rattle.gv_space.specs.Change.{GrowsJustFor}
use Rattle.gv_journal.specs.Undoing.{reverted_by}
use Rattle.gv_journal.specs.Applying.{after_all, does, all_do, longest, GrowsFor}
use Rattle.gv_journal.proofs.Changing.{after_all-mappings}
use Rattle.gv_journal.proofs.Verdicts.{rest_of}

-- a change makes room for its own list alone
pub grown_room : (ms : List Mapping) (old new : SpaceState) → GrowsJustFor ms old new → new.room ≤ max old.room (2 * max (length old.mappings) (length ms))
grown_room ms old new grown =
    ⊎_elim
    (λ (less : old.room < max (length old.mappings) (length ms)). omega (arith, grown.double_or_need, less))
    (λ (fits : max (length old.mappings) (length ms) ≤ old.room). let same : new.room ≡ old.room = grown.enough (omega arith) (omega arith) in omega arith)
    (cases_lt old.room (max (length old.mappings) (length ms)))

pub grows_once : (op : PageOp) (old new : SpaceState) → GrowsJustFor (edited old.mappings op) old new → GrowsFor (op ∷ []) old new
grows_once op old new grown = grown_room (edited old.mappings op) old new grown

start : (ops : List PageOp) (ms : List Mapping) → length ms ≤ longest ops ms
start [] ms = omega arith
start (op ∷ later) ms = omega arith

front : (xs ys : List PageOp) (ms : List Mapping) → longest xs ms ≤ longest (xs ++ ys) ms
front [] ys ms = start ys ms
front (x ∷ xs) ys ms = omega (arith, front xs ys (edited ms x))

first_edited : (xs : List PageOp) (x : PageOp) (ms : List Mapping) → edited_by_all (xs ++ x ∷ []) ms ≡ edited_by_all xs (edited ms x)
first_edited [] x ms = refl
first_edited (y ∷ xs) x ms = ap (λ (l : List Mapping). edited l y) (first_edited xs x ms)

behind : (xs ys : List PageOp) (ms : List Mapping) → longest ys (edited_by_all (reverse xs) ms) ≤ longest (xs ++ ys) ms
behind [] ys ms = omega arith
behind (x ∷ xs) ys ms =
    let same : edited_by_all (reverse (x ∷ xs)) ms ≡ edited_by_all (reverse xs) (edited ms x) =
    ap (λ (ops : List PageOp). edited_by_all ops ms) (reverse-append (x ∷ []) xs) ∙ first_edited (reverse xs) x ms in
    omega (arith, behind xs ys (edited ms x), ap (λ (l : List Mapping). longest ys l) same)

-- some operations among all of them make no more room than all of them may
grows_among : (old mid new : SpaceState) (all xs ys zs : List PageOp) → all ≡ xs ++ (ys ++ zs) → mid.mappings ≡ edited_by_all (reverse xs) old.mappings →
    GrowsFor all old mid → GrowsFor ys mid new → GrowsFor all old new
grows_among old mid new all xs ys zs all_are list was grown =
    let within : longest ys (edited_by_all (reverse xs) old.mappings) ≤ longest (xs ++ (ys ++ zs)) old.mappings =
    omega (arith, front ys zs (edited_by_all (reverse xs) old.mappings), behind xs (ys ++ zs) old.mappings) in
    omega (arith, was, grown, within, ap (λ (l : List Mapping). longest ys l) list, ap (λ (ops : List PageOp). longest ops old.mappings) all_are)

-- no operation makes no room
pub grows_none : (ops : List PageOp) (s : SpaceState) → GrowsFor ops s s
grows_none ops s = omega arith

-- one unmap more of those of a buffer
pub grows_unmapped : (s now new : SpaceState) (ranges : List PageRangeState) (i : ℕ) (r : PageRangeState) → i < length ranges → r ≡ get_or ranges i r →
    now ≡ record (after_all (reverse (map Unmap (take i ranges))) s) { room = now.room } → GrowsFor (map Unmap ranges) s now → GrowsFor (Unmap r ∷ []) now new → GrowsFor (map Unmap ranges) s new
grows_unmapped s now new ranges i r below is state was grown =
    let rest : drop i ranges ≡ r ∷ drop (i + 1) ranges = drop_more ranges i r below ∙ ap (λ (x : PageRangeState). x ∷ drop (i + 1) ranges) (sym is) in
    let parts : map Unmap ranges ≡ map Unmap (take i ranges) ++ (Unmap r ∷ map Unmap (drop (i + 1) ranges)) =
    ap (λ (rs : List PageRangeState). map Unmap rs) (sym (take-append-drop i ranges)) ∙ map-append Unmap (take i ranges) (drop i ranges) ∙ ap (λ (rs : List PageRangeState). map Unmap (take i ranges) ++ map Unmap rs) rest in
    grows_among s now new (map Unmap ranges) (map Unmap (take i ranges)) (Unmap r ∷ []) (map Unmap (drop (i + 1) ranges)) parts
    (ap (λ (t : SpaceState). t.mappings) state ∙ after_all-mappings (reverse (map Unmap (take i ranges))) s) was grown

-- one operation more of a request
pub grows_at_turn : (s now new : SpaceState) (done : List PageOp) (ops : List Op) (i : ℕ) (op : Op) → i < length ops → op ≡ get_or ops i op →
    now ≡ record (after_all (reverse done) s) { room = now.room } → all_do s.mappings ops ≡ done ++ all_do now.mappings (drop i ops) →
    GrowsFor (all_do s.mappings ops) s now → GrowsFor (does now.mappings op) now new → GrowsFor (all_do s.mappings ops) s new
grows_at_turn s now new done ops i op below is state all was grown =
    grows_among s now new (all_do s.mappings ops) done (does now.mappings op) (all_do (edited_by_all (reverse (does now.mappings op)) now.mappings) (drop (i + 1) ops))
    (all ∙ ap (λ (rest : List Op). done ++ all_do now.mappings rest) (rest_of ops i op below is))
    (ap (λ (t : SpaceState). t.mappings) state ∙ after_all-mappings (reverse done) s) was grown

-- what is taken back makes no room
pub reverted_by-same_room : (s : SpaceState) (us : List OpUndoState) → (reverted_by s us).room ≡ s.room
reverted_by-same_room s [] = refl
reverted_by-same_room s (u ∷ older) = reverted_by-same_room (reverted s u) older

pub grows_back : (ops : List PageOp) (s now new : SpaceState) (us : List OpUndoState) → GrowsFor ops s now → new ≡ reverted_by now us → GrowsFor ops s new
grows_back ops s now new us grown state =
    omega (arith, grown, ap (λ (t : SpaceState). t.room) state, reverted_by-same_room now us)
