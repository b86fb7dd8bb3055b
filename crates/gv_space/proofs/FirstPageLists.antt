-- The first pages of a space's list: room for more of them, rows, and a run of the list replaced.
use Rattle.std.proofs.Common.{◌≡◌, ℕ, ◌+◌, ◌<◌, ◌≤◌, List, [], ◌∷◌, ◌++◌, length, map, filter, take, drop, get_or, Option, IsSome, ◌≢◌, true, false, cond, arith, refl, sym, ◌∙◌, ap, subst}
use Rattle.std.specs.List.{All, splice}
use Rattle.std.proofs.lemmas.List.{take-append-drop, drop-drop}
use Rattle.std.proofs.lemmas.Bool.{false≢true}
use Rattle.gv_types.specs.declared.mapping.Backing.{Backing}
use Rattle.gv_types.specs.declared.mapping.Backing.TheVariants.{Buffer, Zero}
use Rattle.gv_types.specs.declared.mapping.BufferId.{BufferId}
use Rattle.gv_types.specs.declared.mapping.Mapping.{Mapping}
use Rattle.gv_ranges.specs.List.{IsLaidOut, run}
use Rattle.gv_buffers.specs.Buffers.{most_counted, BuffersState, Buffer as LiveBuffer, IsCreated}
use Rattle.gv_buffers.proofs.FoundLemmas.{others_stay_made, is_same_id-itself}
use Rattle.gv_buffers.specs.FirstPages.{FirstPagesState, IsRowOf, first_pages_at, HaveSameFirstPages}
use Rattle.gv_space.specs.ListFirstPages.{has_index, firsts_of, between, AreFirstPages, HasRow, HaveRows}
use Rattle.gv_space.specs.Live.{IsLiveBacking}
use Rattle.gv_space.proofs.CountLemmas.{same_from_is_same_id}
use Rattle.gv_space.proofs.LiveNames.{LivedIn}
use Rattle.gv_types.specs.Mapping.{is_same_id}
use Rattle.gv_space.specs.State.{SpaceState, IsSpace, most_kept}

-- a table in which the first pages are the same
pub first_pages-same : (ms : List Mapping) (rows after : List FirstPagesState) → HaveSameFirstPages rows after → AreFirstPages ms rows → AreFirstPages ms after
first_pages-same ms rows after same are index =
    let stand = are index in
    record {
      count = same.count index ∙ stand.count;
      pages = λ known. same.pages index ∙ stand.pages (ap (λ (ps : List ℕ). length ps) (sym (same.pages index)) ∙ known ∙ same.count index);
    }

-- a table with more rows
pub first_pages-alike : (ms : List Mapping) (rows after : List FirstPagesState) → ((other : ℕ) → first_pages_at after other ≡ first_pages_at rows other) → AreFirstPages ms rows → AreFirstPages ms after
first_pages-alike ms rows after same are index = subst (IsRowOf (firsts_of index ms)) (sym (same index)) (are index)

few_firsts : (index : ℕ) (ms : List Mapping) → length (firsts_of index ms) ≤ length ms
few_firsts index [] = omega arith
few_firsts index (m ∷ ms) =
    let rest = few_firsts index ms in
    elim (has_index index m.backing) as (λ t. length (map (λ m. m.range.first) (cond t (m ∷ filter (λ m. has_index index m.backing) ms) (filter (λ m. has_index index m.backing) ms))) ≤ length (m ∷ ms)) [
      | true ↦ omega (arith, rest)
      | false ↦ omega (arith, rest)
    ]

-- there is room in the counts
pub room_for_first_pages : (s : SpaceState) (rows : List FirstPagesState) (pieces : List Mapping) → IsSpace s → length pieces ≤ most_kept → AreFirstPages s.mappings rows →
    (index : ℕ) → (first_pages_at rows index).count + length pieces ≤ most_counted
room_for_first_pages s rows pieces space few are index =
    let many = few_firsts index s.mappings in
    omega (arith, (are index).count, many, few, space.few, space.limits.1)

row_live : (t : BuffersState) (rows : ℕ) (backing : Backing) → HaveRows t rows → IsLiveBacking t backing → HasRow rows backing
row_live t rows (Buffer id page) have lives = have id lives
row_live t rows Zero have lives = tt

-- each mapping of a live buffer has a row
pub rows_for : (t : BuffersState) (rows : ℕ) (ms : List Mapping) → HaveRows t rows → All (λ m. IsLiveBacking t m.backing) ms → All (λ m. HasRow rows m.backing) ms
rows_for t rows ms have live k d within = row_live t rows (get_or ms k d).backing have (live k d within)

-- as many rows, or more, for buffers that all lived before
pub rows_kept : (old new : BuffersState) (rows after : ℕ) → LivedIn old new → rows ≤ after → HaveRows old rows → HaveRows new after
rows_kept old new rows after lived more have id lives = let within = have id (lived id lives) in omega (arith, within, more)

-- and for one that was made
pub rows_made : (old new : BuffersState) (id : BufferId) (size rows after : ℕ) → IsCreated old new id size → id.index < after → rows ≤ after → HaveRows old rows → HaveRows new after
rows_made old new id size rows after made here more have other lives =
    elim (is_same_id other id) as (λ t. is_same_id other id ≡ t → other.index < after) [
      | true ↦ (λ e. let same : other ≡ id = same_from_is_same_id other id e in rw same here)
      | false ↦ (λ e.
          let apart : other ≢ id = (λ same. false≢true (sym e ∙ ap (λ (i : BufferId). is_same_id i id) same ∙ is_same_id-itself id)) in
          let within = have other (subst (λ (o : Option LiveBuffer). IsSome o) (others_stay_made old new id other size made apart) lives) in
          omega (arith, within, more))
    ] refl

-- no mapping has a place
pub places_none : (rows : List FirstPagesState) → length rows ≡ 0 → AreFirstPages [] rows
places_none [] none = λ index. record { count = refl; pages = λ known. refl }
places_none (p ∷ rows) none = absurd (omega (arith, none))

-- a list around a run
around : (ms : List Mapping) (index count : ℕ) → ms ≡ between (take index ms) (run ms index count) (drop (index + count) ms)
around ms index count =
    sym (take-append-drop index ms)
    ∙ ap (λ (xs : List Mapping). take index ms ++ xs) (sym (take-append-drop count (drop index ms))
    ∙ ap (λ (xs : List Mapping). run ms index count ++ xs) (drop-drop count index ms))

-- a run of the list gave way to pieces
pub first_pages_spliced : (ms gone pieces : List Mapping) (index count : ℕ) (rows after : List FirstPagesState) → gone ≡ run ms index count → IsLaidOut ms →
    IsLaidOut (splice ms index (index + count) pieces) →
    ((before behind : List Mapping) → IsLaidOut (between before gone behind) → IsLaidOut (between before pieces behind) → AreFirstPages (between before gone behind) rows →
    AreFirstPages (between before pieces behind) after) → AreFirstPages ms rows → AreFirstPages (splice ms index (index + count) pieces) after
first_pages_spliced ms gone pieces index count rows after is laid laid' change are =
    let before : List Mapping = take index ms in
    let behind : List Mapping = drop (index + count) ms in
    let whole : ms ≡ between before gone behind = around ms index count ∙ ap (λ (xs : List Mapping). between before xs behind) (sym is) in
    change before behind (subst IsLaidOut whole laid) laid' (subst (λ (xs : List Mapping). AreFirstPages xs rows) whole are)
