-- The first limit that operations exceed, one after another (`limits_fault`).
use Rattle.std.proofs.Common.{◌≡◌, ◌⊎◌, inl, inr, ℕ, ◌+◌, ◌<◌, Bool, true, false, cond, List, [], ◌∷◌, ◌++◌, map, take, drop, length, get_or, reverse, Option, Some, None, Result, Ok, Err, refl, ap, sym, ◌∙◌, subst, append_assoc}
use Rattle.std.specs.Prelude.{MatchOption, IsOkUnless, ◌||◌, nat_lt}
use Rattle.std.proofs.lemmas.List.{drop_more, take_more, map-append}
use Rattle.gv_types.specs.PageRange.{PageRangeState}
use Rattle.gv_types.specs.Operation.{range_of}
use Rattle.gv_types.specs.declared.fault.Fault.{Fault}
use Rattle.gv_types.specs.declared.fault.Fault.TheVariants.{TooManyMappings, OutOfMemory}
use Rattle.gv_types.specs.declared.mapping.BufferId.{BufferId}
use Rattle.gv_types.specs.declared.mapping.Mapping.{Mapping}
use Rattle.gv_types.specs.declared.operation.Op.TheVariants.{UnmapBuffer}
use Rattle.gv_types.specs.declared.operation.PageOp.{PageOp}
use Rattle.gv_types.specs.declared.operation.PageOp.TheVariants.{Unmap}
use Rattle.gv_ranges.specs.Edit.{edited}
use Rattle.gv_buffers.specs.Buffers.{pages}
use Rattle.gv_space.specs.Counts.{ranges_of}
use Rattle.gv_space.specs.State.{SpaceState, most_kept}
use Rattle.gv_space.specs.Refusal.{first_of, dead_fault, limit_fault, count_met}
use Rattle.gv_journal.specs.Applying.{after_op, after_all}
use Rattle.gv_journal.specs.Verdict.{limits_fault, request_op_fault}
use Rattle.gv_journal.specs.Work.{IsUnmapAll, IsOpRefused}
use Rattle.gv_journal.proofs.Lists.{last_first}
use Rattle.gv_journal.proofs.FaultsPassedOn.{same_err}

pub not_refused : {A : Type 0} (r : Result A Fault) (x : A) → r ≡ Ok x → (o : Option Fault) → MatchOption o (IsOkUnless r OutOfMemory) (λ g. r ≡ Err g) → o ≡ None
not_refused r x is None h = refl
not_refused r x is (Some g) h = cc

-- passed, or not
abbrev pub IsLimit : Option Fault → Type 0
IsLimit o = (o ≡ None) ⊎ (o ≡ Some TooManyMappings)

limit_or_none : (b : Bool) → IsLimit (cond b (Some TooManyMappings) None)
limit_or_none true = inr refl
limit_or_none false = inl refl

is_limit : (s : SpaceState) (range : PageRangeState) (ms : List Mapping) → IsLimit (limit_fault s range ms)
is_limit s range ms = limit_or_none (nat_lt s.limits.mappings (length ms) || nat_lt most_kept (s.kept_count + count_met s.mappings range))

first_limit : (a b : Option Fault) → IsLimit a → IsLimit b → IsLimit (first_of a b)
first_limit a b (inl none) other = subst (λ (o : Option Fault). IsLimit (first_of o b)) (sym none) other
first_limit a b (inr passed) other = inr (ap (λ (o : Option Fault). first_of o b) passed)

pub are_limits : (s : SpaceState) (ops : List PageOp) → IsLimit (limits_fault s ops)
are_limits s [] = inl refl
are_limits s (op ∷ ops) = first_limit _ _ (is_limit s (range_of op) (edited s.mappings op)) (are_limits (after_op s op) ops)

-- room is no limit
pub limits_fault-room : (s : SpaceState) (room : ℕ) (ops : List PageOp) → limits_fault (record s { room = room }) ops ≡ limits_fault s ops
limits_fault-room s room [] = refl
limits_fault-room s room (op ∷ ops) =
    ap (λ (o : Option Fault). first_of (limit_fault s (range_of op) (edited s.mappings op)) o) (limits_fault-room (after_op s op) room ops)

-- the limits from an index on
pub limits_from : (s : SpaceState) (ranges : List PageRangeState) (i : ℕ) (r : PageRangeState) → i < length ranges → r ≡ get_or ranges i r →
    limits_fault s (map Unmap (drop i ranges)) ≡ first_of (limit_fault s r (edited s.mappings (Unmap r))) (limits_fault (after_op s (Unmap r)) (map Unmap (drop (i + 1) ranges)))
limits_from s ranges i r below is =
    let rest : drop i ranges ≡ r ∷ drop (i + 1) ranges = drop_more ranges i r below ∙ ap (λ (x : PageRangeState). x ∷ drop (i + 1) ranges) (sym is) in
    ap (λ (rs : List PageRangeState). limits_fault s (map Unmap rs)) rest

map_more : (ranges : List PageRangeState) (i : ℕ) (r : PageRangeState) → i < length ranges → r ≡ get_or ranges i r →
    map Unmap (take (i + 1) ranges) ≡ map Unmap (take i ranges) ++ Unmap r ∷ []
map_more ranges i r below is =
    ap (λ (rs : List PageRangeState). map Unmap rs) (take_more ranges i r below ∙ ap (λ (x : PageRangeState). take i ranges ++ x ∷ []) (sym is))
    ∙ map-append Unmap (take i ranges) (r ∷ [])

-- one unmap more
pub ops_more : (before now more : List PageOp) (ranges : List PageRangeState) (i : ℕ) (r : PageRangeState) → i < length ranges → r ≡ get_or ranges i r →
    now ≡ before ++ map Unmap (take i ranges) → more ≡ now ++ Unmap r ∷ [] → more ≡ before ++ map Unmap (take (i + 1) ranges)
ops_more before now more ranges i r below is was grown =
    grown ∙ ap (λ (ops : List PageOp). ops ++ Unmap r ∷ []) was ∙ append_assoc before (map Unmap (take i ranges)) (Unmap r ∷ [])
    ∙ ap (λ (ops : List PageOp). before ++ ops) (sym (map_more ranges i r below is))

pub state_more : (s now new : SpaceState) (ranges : List PageRangeState) (i : ℕ) (r : PageRangeState) → i < length ranges → r ≡ get_or ranges i r →
    now ≡ record (after_all (reverse (map Unmap (take i ranges))) s) { room = now.room } → new ≡ record (after_op now (Unmap r)) { room = new.room } →
    new ≡ record (after_all (reverse (map Unmap (take (i + 1) ranges))) s) { room = new.room }
state_more s now new ranges i r below is was did =
    let ops_are : reverse (map Unmap (take (i + 1) ranges)) ≡ Unmap r ∷ reverse (map Unmap (take i ranges)) = last_first _ _ (Unmap r) (map_more ranges i r below is) in
    did ∙ ap (λ (t : SpaceState). record (after_op t (Unmap r)) { room = new.room }) was
    ∙ ap (λ (ops : List PageOp). record (after_all ops s) { room = new.room }) (sym ops_are)

-- an unmap that is not refused passes no limit
pub limits_more : {A : Type 0} (s now new : SpaceState) (ranges : List PageRangeState) (i : ℕ) (r : PageRangeState) (answer : Result A Fault) (x : A) → i < length ranges → r ≡ get_or ranges i r →
    answer ≡ Ok x → MatchOption (limit_fault now r (edited now.mappings (Unmap r))) (IsOkUnless answer OutOfMemory) (λ g. answer ≡ Err g) →
    new ≡ record (after_op now (Unmap r)) { room = new.room } →
    limits_fault s (map Unmap ranges) ≡ limits_fault now (map Unmap (drop i ranges)) →
    limits_fault s (map Unmap ranges) ≡ limits_fault new (map Unmap (drop (i + 1) ranges))
limits_more s now new ranges i r answer x below is ok why did was =
    was ∙ limits_from now ranges i r below is
    ∙ ap (λ (o : Option Fault). first_of o (limits_fault (after_op now (Unmap r)) (map Unmap (drop (i + 1) ranges)))) (not_refused answer x ok (limit_fault now r (edited now.mappings (Unmap r))) why)
    ∙ sym (limits_fault-room (after_op now (Unmap r)) new.room (map Unmap (drop (i + 1) ranges)))
    ∙ ap (λ (t : SpaceState). limits_fault t (map Unmap (drop (i + 1) ranges))) (sym did)

-- memory was wanted where the buffer lives
pub starved : (s : SpaceState) (id : BufferId) → dead_fault (pages s.buffers id) ≡ None →
    (request_op_fault s (UnmapBuffer id) ≡ None) ⊎ (IsUnmapAll (UnmapBuffer id) × (request_op_fault s (UnmapBuffer id) ≡ Some TooManyMappings))
starved s id lives = of_limit (are_limits s (map Unmap (ranges_of id s.mappings)))
  where
    turn : request_op_fault s (UnmapBuffer id) ≡ limits_fault s (map Unmap (ranges_of id s.mappings))
    turn = ap (λ (o : Option Fault). first_of o (limits_fault s (map Unmap (ranges_of id s.mappings)))) lives

    of_limit : IsLimit (limits_fault s (map Unmap (ranges_of id s.mappings))) →
        (request_op_fault s (UnmapBuffer id) ≡ None) ⊎ (IsUnmapAll (UnmapBuffer id) × (request_op_fault s (UnmapBuffer id) ≡ Some TooManyMappings))
    of_limit (inl none) = inl (turn ∙ none)
    of_limit (inr passed) = inr (record { buffer = id; is = refl }, turn ∙ passed)

pub starved_is_refused : (s : SpaceState) (id : BufferId) → dead_fault (pages s.buffers id) ≡ None → IsOpRefused s (UnmapBuffer id) OutOfMemory
starved_is_refused s id lives = inr (refl, starved s id lives)

-- the ranges of a buffer were asked for in vain
pub ranges_refused : {A : Type 0} (s : SpaceState) (id : BufferId) (r : Result A Fault) (fault : Fault) → r ≡ Err fault →
    MatchOption (dead_fault (pages s.buffers id)) (IsOkUnless r OutOfMemory) (λ g. r ≡ Err g) → IsOpRefused s (UnmapBuffer id) fault
ranges_refused s id r fault is why = by_cases (dead_fault (pages s.buffers id)) refl why
  where
    by_cases : (o : Option Fault) → dead_fault (pages s.buffers id) ≡ o → MatchOption o (IsOkUnless r OutOfMemory) (λ g. r ≡ Err g) → IsOpRefused s (UnmapBuffer id) fault
    by_cases None lives h = inr (subst (λ x. IsOkUnless x OutOfMemory) is h, starved s id lives)
    by_cases (Some g) dead h =
        inl (ap (λ (o : Option Fault). first_of o (limits_fault s (map Unmap (ranges_of id s.mappings)))) dead ∙ ap (λ (f : Fault). Some f) (sym (same_err fault g r is h)))

-- they were given, so the buffer lives
pub lives_where_given : {A : Type 0} (s : SpaceState) (id : BufferId) (r : Result A Fault) (x : A) → r ≡ Ok x →
    MatchOption (dead_fault (pages s.buffers id)) (IsOkUnless r OutOfMemory) (λ g. r ≡ Err g) → dead_fault (pages s.buffers id) ≡ None
lives_where_given s id r x is why = not_refused r x is (dead_fault (pages s.buffers id)) why

-- one of the unmaps was refused
pub unmap_refused : {A : Type 0} (s now : SpaceState) (id : BufferId) (ranges : List PageRangeState) (i : ℕ) (r : PageRangeState) (answer : Result A Fault) (fault : Fault) → ranges ≡ ranges_of id s.mappings →
    i < length ranges → r ≡ get_or ranges i r → dead_fault (pages s.buffers id) ≡ None →
    limits_fault s (map Unmap ranges) ≡ limits_fault now (map Unmap (drop i ranges)) → answer ≡ Err fault →
    MatchOption (limit_fault now r (edited now.mappings (Unmap r))) (IsOkUnless answer OutOfMemory) (λ g. answer ≡ Err g) → IsOpRefused s (UnmapBuffer id) fault
unmap_refused s now id ranges i r answer fault are below is lives limits refused why = by_cases (limit_fault now r (edited now.mappings (Unmap r))) refl why
  where
    turn : request_op_fault s (UnmapBuffer id) ≡ limits_fault now (map Unmap (drop i ranges))
    turn =
        ap (λ (o : Option Fault). first_of o (limits_fault s (map Unmap (ranges_of id s.mappings)))) lives
        ∙ ap (λ (rs : List PageRangeState). limits_fault s (map Unmap rs)) (sym are) ∙ limits

    by_cases : (o : Option Fault) → limit_fault now r (edited now.mappings (Unmap r)) ≡ o → MatchOption o (IsOkUnless answer OutOfMemory) (λ g. answer ≡ Err g) → IsOpRefused s (UnmapBuffer id) fault
    by_cases None passed h = inr (subst (λ x. IsOkUnless x OutOfMemory) refused h, starved s id lives)
    by_cases (Some g) passed h =
        inl (turn ∙ limits_from now ranges i r below is ∙ ap (λ (o : Option Fault). first_of o (limits_fault (after_op now (Unmap r)) (map Unmap (drop (i + 1) ranges)))) passed
        ∙ ap (λ (f : Fault). Some f) (sym (same_err fault g answer refused h)))
