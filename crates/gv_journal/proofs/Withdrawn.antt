-- A journal whose item is withdrawn fits the space in which its pages were put back.
use Rattle.std.proofs.Common.{◌≡◌, ◌⊎◌, inl, inr, ℕ, ◌+◌, ◌-◌, ◌<◌, suc, false, List, ◌∷◌, ◌++◌, length, take, drop, reverse, get_or, Option, Some, None, Vec, Global, refl, ap, sym, ◌∙◌, subst, arith}
use Rattle.std.proofs.lemmas.List.{length-reverse, length-drop}
use Rattle.gv_types.specs.Page.{IsPage}
use Rattle.gv_types.specs.declared.fault.Fault.{Fault}
use Rattle.gv_types.specs.declared.fault.Fault.TheVariants.{OutOfMemory}
use Rattle.gv_types.specs.declared.mapping.Entry.{Entry}
use Rattle.gv_types.specs.declared.mapping.Mapping.{Mapping}
use Rattle.gv_types.specs.declared.operation.PageOp.{PageOp}
use Rattle.gv_ranges.specs.List.{at}
use Rattle.gv_space.specs.State.{SpaceState, AreKept}
use Rattle.gv_space.specs.Undo.{AreAmongKept}
use Rattle.gv_space.specs.Refusal.{first_of}
use Rattle.gv_space.specs.declared.undo.OpUndo.{OpUndo}
use Rattle.gv_journal.specs.Undoing.{taken_by}
use Rattle.gv_journal.specs.Items.{JournalState, numbered, entries, next, is_withdrawn, done_by, view_without}
use Rattle.gv_journal.specs.History.{undos_of, kept_by, back, base, IsDone, AreUndosOf, Rewinds}
use Rattle.gv_journal.specs.Fits.{FitsOver, FitsSpace}
use Rattle.gv_journal.specs.Verdict.{full_fault}
use Rattle.gv_journal.specs.Withdrawing.{item_at, found_fault, entry_fault, after_withdrawal, withdrawal_limits, list_before, done_of, ops_at, withdraw_fault, longest_withdrawn, GrowsForWithdrawal, AreUndosOfWithdrawal, IsWithdrawRefused, IsWithdrawn}
use Rattle.gv_journal.specs.Restoring.{put_limits, longest_of_puts, GrowsForPuts, AreUndosOfPuts, ArePutBack}
use Rattle.gv_journal.specs.declared.item.Item.{Item}
use Rattle.gv_journal.specs.declared.item.ItemKind.{ItemKind}
use Rattle.gv_journal.proofs.Bindings.{bound, base_stays}
use Rattle.gv_journal.proofs.HeldItems.{journaled}
use Rattle.gv_journal.proofs.Touches.{covers_any, NoneTouch, none_touch}
use Rattle.gv_journal.proofs.FoundItems.{item_found}
use Rattle.gv_journal.proofs.WithdrawableItem.{IsWithdrawable, withdrawable, items_around, older_count, done_at, item_kept, after_puts_are, put_limits_are, after_withdrawal-mappings, after_withdrawal-limit}
use Rattle.gv_journal.proofs.PutUndos.{AreUndosOfWithdrawal-puts}
use Rattle.gv_journal.proofs.PutGrowing.{longest_of_puts-withdrawn}
use Rattle.gv_journal.proofs.Withdrawals.{withdrawal, fits_over_withdrawn, put_is_view, others_stay}

module _ (s : SpaceState) (j : JournalState) (n index : ℕ) (item : Item) (fits : FitsSpace s j) (number : j.first + index ≡ n) (within : index < length j.items)
    (is : item ≡ get_or (reverse j.items) index item) (found : found_fault j n (item_at j n) ≡ None) where
  abbrev newer : List Item
  newer = reverse (drop (index + 1) (reverse j.items))

  abbrev older : List Item
  older = reverse (take index (reverse j.items))

  split : j.items ≡ newer ++ item ∷ older
  split = items_around j.items index item within is

  index_is : n - j.first ≡ index
  index_is = omega arith

  pub which : item_at j n ≡ Some item
  which = item_found j n j.first (reverse j.items) item refl (omega arith) (omega arith) refl (is ∙ ap (λ (k : ℕ). get_or (reverse j.items) k item) (sym index_is))

  pub w : IsWithdrawable j n item.kind
  w = withdrawable j n item.kind (sym (ap (λ (o : Option Item). found_fault j n o) which) ∙ found)

  pub its_ops : ops_at j n ≡ reverse w.done.items
  its_ops = ap (λ (o : Option Item). reverse (done_of o)) which ∙ ap (λ (k : ItemKind). reverse (done_by k)) w.is

  pub kept_here : AreAmongKept s (taken_by (undos_of item))
  kept_here = item_kept s newer item older (subst (λ (xs : List Item). AreKept s (kept_by xs)) split fits.kept)

  depth : next j - n ≡ suc (length newer)
  depth = omega (arith, length-reverse (drop (index + 1) (reverse j.items)), length-drop (index + 1) (reverse j.items), length-reverse j.items)

  pub undos_here : AreUndosOf (list_before s j n) (reverse w.done.items) (undos_of item)
  undos_here =
      let there = done_at s.limits.mappings s.room j.first s.mappings newer item older (base s.mappings j.items)
      (subst (λ (xs : List Item). Rewinds s.limits.mappings s.room j.first s.mappings xs (base s.mappings j.items)) split fits.rewinds) in
      let before : list_before s j n ≡ back s.mappings (newer ++ item ∷ older) (suc (length newer)) =
      ap (λ (k : ℕ). back s.mappings j.items k) depth ∙ ap (λ (xs : List Item). back s.mappings xs (suc (length newer))) split in
      subst (λ (ms : List Mapping). AreUndosOf ms (reverse w.done.items) (undos_of item)) (sym before)
      (subst (λ (k : ItemKind). IsDone k (undos_of item) (back s.mappings (newer ++ item ∷ older) (suc (length newer)))) w.is there)

  size : length older ≡ index
  size = older_count j.items index within

  e_is : j.first + length older ≡ n
  e_is = omega (arith, size)

  item_is : item ≡ bound w.queue w.number w.request w.seen w.done item.undos
  item_is = ap (λ (k : ItemKind). record { kind = k; undos = item.undos }) w.is

  all_is : j.items ≡ newer ++ bound w.queue w.number w.request w.seen w.done item.undos ∷ older
  all_is = split ∙ ap (λ (x : Item). newer ++ x ∷ older) item_is

  none_touches : NoneTouch (is_withdrawn (entries j)) w.done.items (j.first + length (item ∷ older)) newer
  none_touches =
      let behind : n + 1 - j.first ≡ index + 1 = omega arith in
      let from : n + 1 ≡ j.first + length (item ∷ older) = omega (arith, size) in
      subst (λ (k : ℕ). NoneTouch (is_withdrawn (entries j)) w.done.items k newer) from
      (subst (λ (k : ℕ). NoneTouch (is_withdrawn (entries j)) w.done.items (n + 1) (reverse (drop k (reverse j.items)))) behind
      (none_touch (is_withdrawn (entries j)) w.done.items (n + 1) (drop (n + 1 - j.first) (reverse j.items)) w.untouched))

  module _ (t : SpaceState) (fresh : Vec OpUndo Global) (put : ArePutBack s t (undos_of item) (reverse fresh.items)) where
    state : t ≡ record (after_withdrawal (list_before s j n) (reverse w.done.items) s) { room = t.room }
    state = put.state ∙ ap (λ (x : SpaceState). record x { room = t.room }) (after_puts_are (list_before s j n) (reverse w.done.items) (undos_of item) s undos_here)

    limit_is : t.limits.mappings ≡ s.limits.mappings
    limit_is = ap (λ (x : SpaceState). x.limits.mappings) state ∙ after_withdrawal-limit (list_before s j n) (reverse w.done.items) s

    abbrev below : ℕ → Option Entry
    below = base s.mappings j.items

    abbrev all : List Item
    all = newer ++ bound w.queue w.number w.request w.seen w.done item.undos ∷ older

    fits_all : FitsOver s (journaled j.limit j.first all) below
    fits_all = subst (λ (xs : List Item). FitsOver s (journaled j.limit j.first xs) below) all_is fits

    live_all : is_withdrawn (numbered j.first all) (j.first + length older) ≡ false
    live_all = ap (λ (xs : List Item). is_withdrawn (numbered j.first xs) (j.first + length older)) (sym all_is) ∙ ap (λ (k : ℕ). is_withdrawn (entries j) k) e_is ∙ w.live

    none_all : NoneTouch (is_withdrawn (numbered j.first all)) w.done.items (j.first + length (bound w.queue w.number w.request w.seen w.done item.undos ∷ older)) newer
    none_all = subst (λ (xs : List Item). NoneTouch (is_withdrawn (numbered j.first xs)) w.done.items (j.first + length (item ∷ older)) newer) all_is none_touches

    fits_there : FitsOver t (journaled j.limit j.first (withdrawal (j.first + length older) fresh ∷ all)) below
    fits_there = fits_over_withdrawn s t j.limit j.first newer older w.queue w.number w.request w.seen w.done item.undos fresh below fits_all live_all none_all (list_before s j n, undos_here) put limit_is

    pub fits_withdrawn : FitsSpace t (record j { items = withdrawal n fresh ∷ j.items })
    fits_withdrawn =
        subst (λ (map : ℕ → Option Entry). FitsOver t (record j { items = withdrawal n fresh ∷ j.items }) map) (sym (base_stays s.mappings t.mappings (withdrawal n fresh) j.items put.changes.list))
        (subst (λ (xs : List Item). FitsOver t (journaled j.limit j.first (withdrawal n fresh ∷ xs)) below) (sym all_is)
        (subst (λ (k : ℕ). FitsOver t (journaled j.limit j.first (withdrawal k fresh ∷ all)) below) e_is fits_there))

    pages : (page : ℕ) → IsPage page → at t.mappings page ≡ view_without n (entries j) below page
    pages page is_page =
        put_is_view s t j.limit j.first newer older w.queue w.number w.request w.seen w.done item.undos fresh below fits_all live_all none_all (list_before s j n, undos_here) put limit_is page is_page
        ∙ ap (λ (k : ℕ). view_without k (numbered j.first all) below page) e_is
        ∙ ap (λ (xs : List Item). view_without n (numbered j.first xs) below page) (sym all_is)

    pub is_withdrawn_there : AreUndosOfPuts s.mappings (undos_of item) fresh.items → (new : JournalState) → new ≡ record j { items = withdrawal n fresh ∷ j.items } → IsWithdrawn s t j new n
    is_withdrawn_there puts new added =
        let there : t ≡ record (after_withdrawal (list_before s j n) (ops_at j n) s) { room = t.room } =
        state ∙ ap (λ (ops : List PageOp). record (after_withdrawal (list_before s j n) ops s) { room = t.room }) (sym its_ops) in
        record {
          item = withdrawal n fresh;
          items = added;
          kind = refl;
          state = there;
          list = ap (λ (x : SpaceState). x.mappings) there ∙ after_withdrawal-mappings (list_before s j n) (ops_at j n) s;
          pages = pages;
          undos = subst (λ (ops : List PageOp). AreUndosOfWithdrawal (list_before s j n) ops s.mappings fresh.items) (sym its_ops)
              (AreUndosOfWithdrawal-puts (list_before s j n) (reverse w.done.items) (undos_of item) fresh.items s.mappings undos_here puts);
          others = λ page is_page silent.
              others_stay s t j.limit j.first newer older w.queue w.number w.request w.seen w.done item.undos fresh below fits_all live_all none_all (list_before s j n, undos_here) put limit_is page is_page
              (sym (ap (λ (ops : List PageOp). covers_any ops page) its_ops) ∙ silent);
        }

  -- what is put back makes no more room than the withdrawal may
  pub grown_there : (t : SpaceState) → GrowsForPuts (undos_of item) s t → GrowsForWithdrawal j n s t
  grown_there t grown =
      let same : longest_of_puts (undos_of item) s.mappings ≡ longest_withdrawn (list_before s j n) (ops_at j n) s.mappings =
      longest_of_puts-withdrawn (list_before s j n) (reverse w.done.items) (undos_of item) s.mappings undos_here
      ∙ ap (λ (ops : List PageOp). longest_withdrawn (list_before s j n) ops s.mappings) (sym its_ops) in
      omega (arith, grown, same)

  limits_are : put_limits (undos_of item) s ≡ withdrawal_limits (list_before s j n) (ops_at j n) s
  limits_are = put_limits_are (list_before s j n) (reverse w.done.items) (undos_of item) s undos_here ∙ ap (λ (ops : List PageOp). withdrawal_limits (list_before s j n) ops s) (sym its_ops)

  pub entry_passes : full_fault j ≡ None → entry_fault j n ≡ None
  entry_passes room = ap (λ (o : Option Fault). first_of o (full_fault j)) found ∙ room

  pub passes : full_fault j ≡ None → put_limits (undos_of item) s ≡ None → withdraw_fault s j n ≡ None
  passes room none =
      ap (λ (o : Option Fault). first_of o (withdrawal_limits (list_before s j n) (ops_at j n) s)) (entry_passes room) ∙ sym limits_are ∙ none

  pub refused_there : full_fault j ≡ None → (fault : Fault) → (put_limits (undos_of item) s ≡ Some fault) ⊎ (fault ≡ OutOfMemory) → IsWithdrawRefused s j n fault
  refused_there room fault (inl passed) =
      inl (ap (λ (o : Option Fault). first_of o (withdrawal_limits (list_before s j n) (ops_at j n) s)) (entry_passes room) ∙ sym limits_are ∙ passed)
  refused_there room fault (inr memory) = inr (memory, entry_passes room)
