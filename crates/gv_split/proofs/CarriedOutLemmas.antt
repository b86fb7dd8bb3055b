-- The steps of an operation, carried out one after another, make the list that the operation makes.
use Rattle.std.proofs.Common.{◌≡◌, ℕ, ◌+◌, ◌≤◌, ◌<◌, List, [], ◌∷◌, ◌++◌, map, filter, flat_map, true, false, cond, not, Option, Some, None, arith, refl, sym, ltb, ap, ◌∙◌, subst, get_or, ⊎_elim, inl, inr}
use Rattle.std.specs.Prelude.{◌==◌}
use Rattle.std.specs.List.{All, Contains, cons_option}
use Rattle.std.specs.Option.{option_to_list}
use Rattle.std.proofs.lemmas.Bool.{cases_Bool, and_cases, and_parts, and_left, and_right, ltb-true, ltb-false, lt-ltb, le-ltb, eq-eqb, ne_eqb}
use Rattle.std.proofs.lemmas.List.{append_assoc, append-nil}
use Rattle.std.proofs.lemmas.List.Elements.{All-nil, All-cons, All-head, All-tail, All-append, filter-append, Contains-append_right}
use Rattle.std.proofs.lemmas.Grind.{flat_map-append}
use Rattle.gv_types.specs.Page.{PAGES}
use Rattle.gv_types.specs.PageRange.{PageRangeState, end_of, meets, lies_in}
use Rattle.gv_types.specs.Mapping.{clip, is_of, IsMapping}
use Rattle.gv_types.specs.Operation.{range_of, IsChecked}
use Rattle.gv_types.specs.declared.mapping.BufferId.{BufferId}
use Rattle.gv_types.specs.declared.mapping.Mapping.{Mapping}
use Rattle.gv_types.specs.declared.operation.PageOp.{PageOp}
use Rattle.gv_types.specs.declared.operation.PageOp.TheVariants.{Map as MapOp, Unmap as UnmapOp, UnmapBuffer}
use Rattle.gv_ranges.specs.List.{IsLaidOut, IsLaidOutFrom}
use Rattle.gv_ranges.specs.Edit.{clipped, replaced, edited}
use Rattle.gv_ranges.proofs.ClipLemmas.{clip_whole, clip_none}
use Rattle.gv_ranges.proofs.AllReplacedLemmas.{clip_is_piece, All-clipped}
use Rattle.gv_ranges.proofs.LookupLemmas.{first_above}
use Rattle.gv_ranges.proofs.OrderLemmas.{ends-clipped}
use Rattle.gv_ranges.proofs.OverlapLemmas.{filter_all, filter_none}
use Rattle.gv_ranges.proofs.ReplacedLemmas.{clipped_none, lies_in_bounds}
use Rattle.gv_split.specs.declared.step.Step.{Step}
use Rattle.gv_split.specs.declared.step.Step.TheVariants.{Map}
use Rattle.gv_split.specs.Steps.{gives_way, step_in, step_of, steps}
use Rattle.gv_split.specs.CarriedOut.{replaced_by, begins_before, put_in, carried_out_one, carried_out, CanBeCarriedOut, ArePresent, without_buffer, list_after}
use Rattle.gv_split.specs.Laws.{StepsMakeTheList, StepsArePresent}

-- the steps can be carried out on the one list, and make the other
abbrev AreCarriedOutTo : List Step → List Mapping → List Mapping → Type 0
AreCarriedOutTo steps old new = (carried_out steps old ≡ new) × ArePresent steps old

no_more : (ms : List Mapping) → AreCarriedOutTo [] ms ms
no_more ms = (refl, tt)

first_then : (step : Step) (later : List Step) (old between new : List Mapping) → CanBeCarriedOut step old →
    carried_out_one step old ≡ between → AreCarriedOutTo later between new → AreCarriedOutTo (step ∷ later) old new
first_then step later old between new can turn rest =
    let rest' : AreCarriedOutTo later (carried_out_one step old) new = subst (λ (ms : List Mapping). AreCarriedOutTo later ms new) (sym turn) rest in
    (rest'.0, (can, rest'.1))

some_then : (first later : List Step) (old between new : List Mapping) → AreCarriedOutTo first old between → AreCarriedOutTo later between new →
    AreCarriedOutTo (first ++ later) old new
some_then [] later old between new here there =
    subst (λ (ms : List Mapping). AreCarriedOutTo later ms new) (sym here.0) there
some_then (step ∷ first) later old between new here there =
    let rest : AreCarriedOutTo (first ++ later) (carried_out_one step old) new =
    some_then first later (carried_out_one step old) between new (here.0, here.1.1) there in
    (rest.0, (here.1.0, rest.1))

-- mappings that begin at other pages keep their indices
replaced_by-others : (old : Mapping) (new ms : List Mapping) → All (λ m. (m.range.first == old.range.first) ≡ false) ms → replaced_by old new ms ≡ ms
replaced_by-others old new [] all = refl
replaced_by-others old new (m ∷ ms) all =
    let here : (m.range.first == old.range.first) ≡ false = All-head (λ (n : Mapping). (n.range.first == old.range.first) ≡ false) m ms all in
    let rest : replaced_by old new ms ≡ ms = replaced_by-others old new ms (All-tail (λ (n : Mapping). (n.range.first == old.range.first) ≡ false) m ms all) in
    rw (here, rest) refl

abbrev BeginBelow : ℕ → List Mapping → Type 0
BeginBelow page = All (λ (m : Mapping). m.range.first < page)

-- in a list in order a mapping gives its place between the others
replaced_by-between : (old : Mapping) (new before later : List Mapping) → BeginBelow old.range.first before → IsMapping old →
    IsLaidOutFrom (end_of old.range) later → replaced_by old new (before ++ old ∷ later) ≡ before ++ (new ++ later)
replaced_by-between old new before later below is laid =
    let front : replaced_by old new before ≡ before =
    replaced_by-others old new before (λ k d within. let h : (get_or before k d).range.first < old.range.first = below k d within in ne_eqb _ _ (λ same. omega arith)) in
    let back : replaced_by old new later ≡ later =
    replaced_by-others old new later (λ k d within. let h : end_of old.range ≤ (get_or later k d).range.first = first_above later (end_of old.range) k d laid within in
    let some : 0 < old.range.count = is.0.0 in ne_eqb _ _ (λ same. omega arith)) in
    let here : (old.range.first == old.range.first) ≡ true = eq-eqb _ _ refl in
    flat_map-append (λ (m : Mapping). cond (m.range.first == old.range.first) new (m ∷ [])) before (old ∷ later)
    ∙ rw (front, here, back) refl

-- the rests of a mapping beside a range
abbrev rests_beside : PageRangeState → Mapping → List Mapping
rests_beside range m = option_to_list (clip 0 range.first m) ++ option_to_list (clip (end_of range) PAGES m)

-- what an operation leaves of a mapping that gives way
abbrev rests_of : PageOp → Mapping → List Mapping
rests_of (MapOp range backing flags) m = rests_beside range m
rests_of (UnmapOp range) m = rests_beside range m
rests_of (UnmapBuffer buffer) m = []

carried_out-step_in : (op : PageOp) (m : Mapping) (ms : List Mapping) →
    carried_out_one (step_in op m) ms ≡ replaced_by m (rests_beside (range_of op) m) ms
carried_out-step_in op m ms =
    ⊎_elim
    (λ (inside : lies_in m.range (range_of op) ≡ true).
    let bounds = lies_in_bounds m.range (range_of op) inside in
    rw (inside, clip_none 0 (range_of op).first m (inr bounds.0), clip_none (end_of (range_of op)) PAGES m (inl bounds.1)) refl)
    (λ (out : lies_in m.range (range_of op) ≡ false). rw out refl)
    (cases_Bool (lies_in m.range (range_of op)))

-- a step for a mapping that gives way puts its rests in its place
carried_out-step_of : (op : PageOp) (m : Mapping) (ms : List Mapping) → carried_out_one (step_of op m) ms ≡ replaced_by m (rests_of op m) ms
carried_out-step_of (MapOp range backing flags) m ms = carried_out-step_in (MapOp range backing flags) m ms
carried_out-step_of (UnmapOp range) m ms = carried_out-step_in (UnmapOp range) m ms
carried_out-step_of (UnmapBuffer buffer) m ms = refl

can-step_in : (op : PageOp) (m : Mapping) (ms : List Mapping) → Contains ms m → CanBeCarriedOut (step_in op m) ms
can-step_in op m ms has =
    ⊎_elim
    (λ (inside : lies_in m.range (range_of op) ≡ true). rw inside has)
    (λ (out : lies_in m.range (range_of op) ≡ false). rw out has)
    (cases_Bool (lies_in m.range (range_of op)))

can-step_of : (op : PageOp) (m : Mapping) (ms : List Mapping) → Contains ms m → CanBeCarriedOut (step_of op m) ms
can-step_of (MapOp range backing flags) m ms has = can-step_in (MapOp range backing flags) m ms has
can-step_of (UnmapOp range) m ms has = can-step_in (UnmapOp range) m ms has
can-step_of (UnmapBuffer buffer) m ms has = has

All-option : (P : Mapping → Type 0) (o : Option Mapping) → ((n : Mapping) → o ≡ Some n → P n) → All P (option_to_list o)
All-option P None holds = All-nil P
All-option P (Some n) holds = All-cons P n [] (holds n refl) (All-nil P)

-- a rest begins in its mapping
clip_begins_below : (low high : ℕ) (m : Mapping) → BeginBelow (end_of m.range) (option_to_list (clip low high m))
clip_begins_below low high m =
    All-option (λ (n : Mapping). n.range.first < end_of m.range) (clip low high m)
    (λ n is. let h = clip_is_piece low high m n is in rw h.1 (omega (arith, h.0)))

rests_begin_below : (op : PageOp) (m : Mapping) → BeginBelow (end_of m.range) (rests_of op m)
rests_begin_below (MapOp range backing flags) m =
    All-append (λ (n : Mapping). n.range.first < end_of m.range) (option_to_list (clip 0 range.first m)) (option_to_list (clip (end_of range) PAGES m))
    (clip_begins_below 0 range.first m) (clip_begins_below (end_of range) PAGES m)
rests_begin_below (UnmapOp range) m =
    All-append (λ (n : Mapping). n.range.first < end_of m.range) (option_to_list (clip 0 range.first m)) (option_to_list (clip (end_of range) PAGES m))
    (clip_begins_below 0 range.first m) (clip_begins_below (end_of range) PAGES m)
rests_begin_below (UnmapBuffer buffer) m = All-nil (λ (n : Mapping). n.range.first < end_of m.range)

-- the list with the rests of each mapping that gives way in its place
abbrev left_by : PageOp → List Mapping → List Mapping
left_by op = flat_map (λ m. cond (gives_way op m) (rests_of op m) (m ∷ []))

begin_below_later : (before more : List Mapping) (low page : ℕ) → BeginBelow low before → low ≤ page → BeginBelow page more → BeginBelow page (before ++ more)
begin_below_later before more low page below up more_below =
    All-append (λ (n : Mapping). n.range.first < page) before more
    (λ k d within. let h : (get_or before k d).range.first < low = below k d within in omega arith) more_below

-- the steps of the mappings that give way, each of which begins behind what the steps before it left
run_carried_out : (op : PageOp) (low : ℕ) (before ms : List Mapping) → BeginBelow low before → IsLaidOutFrom low ms →
    AreCarriedOutTo (map (step_of op) (filter (gives_way op) ms)) (before ++ ms) (before ++ left_by op ms)
run_carried_out op low before [] below laid = no_more (before ++ [])
run_carried_out op low before (m ∷ ms) below laid =
    let up : low ≤ m.range.first = laid.0 in
    let some : 0 < m.range.count = laid.1.0.0 in
    let here : BeginBelow m.range.first before = λ k d within. let h : (get_or before k d).range.first < low = below k d within in omega arith in
    ⊎_elim
    (λ (gives : gives_way op m ≡ true).
    let turn : carried_out_one (step_of op m) (before ++ m ∷ ms) ≡ (before ++ rests_of op m) ++ ms =
    carried_out-step_of op m (before ++ m ∷ ms) ∙ replaced_by-between m (rests_of op m) before ms here laid.1 laid.2 ∙ sym (append_assoc before (rests_of op m) ms) in
    let later : AreCarriedOutTo (map (step_of op) (filter (gives_way op) ms)) ((before ++ rests_of op m) ++ ms) ((before ++ rests_of op m) ++ left_by op ms) =
    run_carried_out op (end_of m.range) (before ++ rests_of op m) ms
    (begin_below_later before (rests_of op m) low (end_of m.range) below (omega arith) (rests_begin_below op m)) laid.2 in
    let can : CanBeCarriedOut (step_of op m) (before ++ m ∷ ms) =
    can-step_of op m (before ++ m ∷ ms) (Contains-append_right before (m ∷ ms) m (0, omega arith, refl)) in
    rw (gives, ← append_assoc before (rests_of op m) (left_by op ms))
    (first_then (step_of op m) (map (step_of op) (filter (gives_way op) ms)) (before ++ m ∷ ms) ((before ++ rests_of op m) ++ ms) ((before ++ rests_of op m) ++ left_by op ms) can turn later))
    (λ (stays : gives_way op m ≡ false).
    let one : BeginBelow (end_of m.range) (m ∷ []) = All-cons (λ (n : Mapping). n.range.first < end_of m.range) m [] (omega arith) (All-nil (λ (n : Mapping). n.range.first < end_of m.range)) in
    let later : AreCarriedOutTo (map (step_of op) (filter (gives_way op) ms)) ((before ++ m ∷ []) ++ ms) ((before ++ m ∷ []) ++ left_by op ms) =
    run_carried_out op (end_of m.range) (before ++ m ∷ []) ms (begin_below_later before (m ∷ []) low (end_of m.range) below (omega arith) one) laid.2 in
    rw stays (rw (append_assoc before (m ∷ []) ms, append_assoc before (m ∷ []) (left_by op ms)) at later))
    (cases_Bool (gives_way op m))

-- nothing of a list lies below its first page
clipped_above : (bound low : ℕ) (ms : List Mapping) → IsLaidOutFrom low ms → bound ≤ low → clipped 0 bound ms ≡ []
clipped_above bound low ms laid up =
    clipped_none 0 bound ms (λ k d within. inr (let h : low ≤ (get_or ms k d).range.first = first_above ms low k d laid within in omega arith))

options_then : (prev next : Option Mapping) (ms : List Mapping) →
    (option_to_list prev ++ option_to_list next) ++ ms ≡ cons_option prev [] ++ cons_option next ms
options_then None None ms = refl
options_then None (Some n) ms = refl
options_then (Some m) None ms = refl
options_then (Some m) (Some n) ms = refl

-- the list with a range's mappings given way to their rests is the list without the range
left_beside : (range : PageRangeState) (low : ℕ) (ms : List Mapping) → IsLaidOutFrom low ms →
    flat_map (λ m. cond (meets m.range range) (rests_beside range m) (m ∷ [])) ms ≡ clipped 0 range.first ms ++ clipped (end_of range) PAGES ms
left_beside range low [] laid = refl
left_beside range low (m ∷ ms) laid =
    let some : 0 < m.range.count = laid.1.0.0 in
    let fits : m.range.first + m.range.count ≤ PAGES = laid.1.0.1 in
    let rest : flat_map (λ n. cond (meets n.range range) (rests_beside range n) (n ∷ [])) ms ≡ clipped 0 range.first ms ++ clipped (end_of range) PAGES ms =
    left_beside range (end_of m.range) ms laid.2 in
    ⊎_elim
    (λ (met : meets m.range range ≡ true).
    let parts : (ltb m.range.first (end_of range) ≡ true) × (ltb range.first (end_of m.range) ≡ true) = and_parts _ _ met in
    let past : range.first < end_of m.range = ltb-true _ _ parts.1 in
    let none : clipped 0 range.first ms ≡ [] = clipped_above range.first (end_of m.range) ms laid.2 (omega arith) in
    rw (met, rest, none) (options_then (clip 0 range.first m) (clip (end_of range) PAGES m) (clipped (end_of range) PAGES ms)))
    (λ (apart : meets m.range range ≡ false).
    ⊎_elim
    (λ (behind : ltb m.range.first (end_of range) ≡ false).
    let from : end_of range ≤ m.range.first = ltb-false _ _ behind in
    let none : clipped 0 range.first ms ≡ [] = clipped_above range.first (end_of m.range) ms laid.2 (omega arith) in
    rw (apart, rest, none, clip_none 0 range.first m (inr (omega arith)), clip_whole (end_of range) PAGES m laid.1.0 from (omega arith)) refl)
    (λ (before : ltb range.first (end_of m.range) ≡ false).
    let ended : end_of m.range ≤ range.first = ltb-false _ _ before in
    rw (apart, rest, clip_whole 0 range.first m laid.1.0 (omega arith) ended, clip_none (end_of range) PAGES m (inl (omega arith))) refl)
    (and_cases _ _ apart))
    (cases_Bool (meets m.range range))

-- under an unmap of a whole buffer nothing is left of the buffer's mappings
left_by-buffer : (buffer : BufferId) (ms : List Mapping) → left_by (UnmapBuffer buffer) ms ≡ without_buffer buffer ms
left_by-buffer buffer [] = refl
left_by-buffer buffer (m ∷ ms) =
    let rest : left_by (UnmapBuffer buffer) ms ≡ without_buffer buffer ms = left_by-buffer buffer ms in
    ⊎_elim
    (λ (is : is_of buffer m.backing ≡ true). rw is rest)
    (λ (other : is_of buffer m.backing ≡ false). rw (other, rest) refl)
    (cases_Bool (is_of buffer m.backing))

begins-clipped : (low high : ℕ) (ms : List Mapping) → All (λ m. (low ≤ m.range.first) × (m.range.first < high)) (clipped low high ms)
begins-clipped low high ms =
    All-clipped (λ m. (low ≤ m.range.first) × (m.range.first < high)) low high ms
    (λ k d within n is. let h = clip_is_piece low high (get_or ms k d) n is in rw h.1 (omega arith, omega (arith, h.0)))

-- a map puts its mapping in between what lies before its pages and what lies behind them
map_carried_out : (new : Mapping) (ms : List Mapping) → IsMapping new →
    AreCarriedOutTo (Map new ∷ []) (clipped 0 new.range.first ms ++ clipped (end_of new.range) PAGES ms) (replaced ms new.range (new ∷ []))
map_carried_out new ms is =
    let some : 0 < new.range.count = is.0.0 in
    let low : List Mapping = clipped 0 new.range.first ms in
    let high : List Mapping = clipped (end_of new.range) PAGES ms in
    let before : All (λ (m : Mapping). begins_before new m ≡ true) low =
    λ k d within. lt-ltb _ _ (begins-clipped 0 new.range.first ms k d within).1 in
    let before' : All (λ (m : Mapping). not (begins_before new m) ≡ false) low =
    λ k d within. ap not (before k d within) in
    let behind : All (λ (m : Mapping). begins_before new m ≡ false) high =
    λ k d within. let h : end_of new.range ≤ (get_or high k d).range.first = (begins-clipped (end_of new.range) PAGES ms k d within).0 in le-ltb _ _ (omega arith) in
    let behind' : All (λ (m : Mapping). not (begins_before new m) ≡ true) high =
    λ k d within. ap not (behind k d within) in
    let put : put_in new (low ++ high) ≡ (low ++ new ∷ []) ++ high =
    rw (
      filter-append (begins_before new) low high,
      filter-append (λ (m : Mapping). not (begins_before new m)) low high,
      filter_all (begins_before new) low before,
      filter_none (begins_before new) high behind,
      filter_none (λ (m : Mapping). not (begins_before new m)) low before',
      filter_all (λ (m : Mapping). not (begins_before new m)) high behind',
    ) (simp (append_assoc, append-nil)) in
    let free_before : All (λ (m : Mapping). meets m.range new.range ≡ false) low =
    λ k d within. and_right _ _ (le-ltb _ _ (ends-clipped 0 new.range.first ms k d within)) in
    let free_behind : All (λ (m : Mapping). meets m.range new.range ≡ false) high =
    λ k d within. and_left _ _ (le-ltb _ _ (begins-clipped (end_of new.range) PAGES ms k d within).0) in
    (put, (All-append (λ (m : Mapping). meets m.range new.range ≡ false) low high free_before free_behind, tt))

steps_carried_out : (ms : List Mapping) (op : PageOp) → IsLaidOut ms → IsChecked op → AreCarriedOutTo (steps ms op) ms (list_after ms op)
steps_carried_out ms (MapOp range backing flags) laid is =
    let new : Mapping = record { range = range; backing = backing; flags = flags } in
    let op : PageOp = MapOp range backing flags in
    let run : AreCarriedOutTo (map (step_of op) (filter (gives_way op) ms)) ms (clipped 0 range.first ms ++ clipped (end_of range) PAGES ms) =
    rw (left_beside range 0 ms laid) at (run_carried_out op 0 [] ms (All-nil (λ (m : Mapping). m.range.first < 0)) laid) in
    some_then (map (step_of op) (filter (gives_way op) ms)) (Map new ∷ []) ms (clipped 0 range.first ms ++ clipped (end_of range) PAGES ms) (edited ms op) run (map_carried_out new ms is)
steps_carried_out ms (UnmapOp range) laid is =
    let op : PageOp = UnmapOp range in
    rw (append-nil (map (step_of op) (filter (gives_way op) ms)), append-nil (clipped 0 range.first ms), ← left_beside range 0 ms laid)
    (run_carried_out op 0 [] ms (All-nil (λ (m : Mapping). m.range.first < 0)) laid)
steps_carried_out ms (UnmapBuffer buffer) laid is =
    let op : PageOp = UnmapBuffer buffer in
    rw (append-nil (map (step_of op) (filter (gives_way op) ms)), ← left_by-buffer buffer ms)
    (run_carried_out op 0 [] ms (All-nil (λ (m : Mapping). m.range.first < 0)) laid)

pub steps_make_the_list : StepsMakeTheList
steps_make_the_list ms op laid is = (steps_carried_out ms op laid is).0

pub steps_are_present : StepsArePresent
steps_are_present ms op laid is = (steps_carried_out ms op laid is).1

-- For callers: so it is of a plan that is the operation's steps.
pub plan_makes_the_list : (plan : List Step) (ms : List Mapping) (op : PageOp) → plan ≡ steps ms op → IsLaidOut ms → IsChecked op →
    carried_out plan ms ≡ list_after ms op
plan_makes_the_list plan ms op is laid checked = ap (λ (each : List Step). carried_out each ms) is ∙ steps_make_the_list ms op laid checked

pub plan_is_present : (plan : List Step) (ms : List Mapping) (op : PageOp) → plan ≡ steps ms op → IsLaidOut ms → IsChecked op → ArePresent plan ms
plan_is_present plan ms op is laid checked = subst (λ (each : List Step). ArePresent each ms) (sym is) (steps_are_present ms op laid checked)
