-- The law of withdrawing: where what a live Bind took out is put back, and no newer live item touches it, the list is what
-- the items without it say.
use Rattle.std.proofs.Common.{◌≡◌, ℕ, ◌+◌, ◌<◌, ◌==◌, Bool, true, false, cond, ◌||◌, List, [], ◌∷◌, ◌++◌, length, reverse, Option, Vec, Global, refl, ap, sym, ◌∙◌, subst, arith, length-append}
use Rattle.std.proofs.lemmas.Bool.Decides.{nat_tests}
use Rattle.std.proofs.lemmas.Bool.{or_parts}
use Rattle.gv_types.specs.Page.{IsPage}
use Rattle.gv_types.specs.PageRange.{PageRangeState, covers}
use Rattle.gv_types.specs.Operation.{range_of, view as view_of_ops}
use Rattle.gv_types.specs.declared.mapping.Entry.{Entry}
use Rattle.gv_types.specs.declared.mapping.Mapping.{Mapping}
use Rattle.gv_types.specs.declared.operation.PageOp.{PageOp}
use Rattle.gv_types.specs.declared.request.Request.{Request}
use Rattle.gv_ranges.specs.List.{at}
use Rattle.gv_space.specs.State.{SpaceState}
use Rattle.gv_space.specs.Undo.{OpUndoState}
use Rattle.gv_space.specs.declared.undo.OpUndo.{OpUndo}
use Rattle.gv_journal.specs.Undoing.{undone_by}
use Rattle.gv_journal.specs.Items.{numbered, is_withdrawn, done_by, ops_without, view}
use Rattle.gv_journal.specs.History.{undos_of, kept_by, Translates, Save, SavesBelow, ItemSaves, EachSaves, Rewinds, AreUndosOf}
use Rattle.gv_journal.specs.Fits.{FitsOver}
use Rattle.gv_journal.specs.Withdrawing.{touch}
use Rattle.gv_journal.specs.Restoring.{put_back, ArePutBack}
use Rattle.gv_journal.specs.declared.item.Item.{Item}
use Rattle.gv_journal.specs.declared.item.ItemKind.{ItemKind}
use Rattle.gv_journal.specs.declared.item.ItemKind.TheVariants.{Bind, Withdrawal}
use Rattle.gv_journal.proofs.Views.{view-at, view-append}
use Rattle.gv_journal.proofs.Bindings.{bound}
use Rattle.gv_journal.proofs.KeptMappings.{Rewinds-room}
use Rattle.gv_journal.proofs.SettledViews.{view_over, ops_without-same, SameGone}
use Rattle.gv_journal.proofs.Touches.{covers_any, view-silent, any-reverse, NoneTouch, newer_silent, touch_none, Save-where}

-- one more number is gone
abbrev pub OneMoreGone : ℕ → (ℕ → Bool) → (ℕ → Bool) → Type 0
OneMoreGone e gone' gone = (n : ℕ) → gone' n ≡ ((e == n) || gone n)

differs : (e n : ℕ) → n < e → (e == n) ≡ false
differs e n lt = grind (arith, nat_tests)

differs_above : (e n : ℕ) → e < n → (e == n) ≡ false
differs_above e n lt = grind (arith, nat_tests)

itself : (e : ℕ) → (e == e) ≡ true
itself e = grind (arith, nat_tests)

gone_below : (e n : ℕ) (gone' gone : ℕ → Bool) → OneMoreGone e gone' gone → n < e → gone' n ≡ gone n
gone_below e n gone' gone more lt = more n ∙ ap (λ (b : Bool). b || gone n) (differs e n lt)

gone_above : (e n : ℕ) (gone' gone : ℕ → Bool) → OneMoreGone e gone' gone → e < n → gone' n ≡ gone n
gone_above e n gone' gone more lt = more n ∙ ap (λ (b : Bool). b || gone n) (differs_above e n lt)

gone_itself : (e : ℕ) (gone' gone : ℕ → Bool) → OneMoreGone e gone' gone → gone' e ≡ true
gone_itself e gone' gone more = more e ∙ ap (λ (b : Bool). b || gone e) (itself e)

-- what is put back at a page that no undo value covers
put_back-silent : (ops : List PageOp) (us : List OpUndoState) (before : List Mapping) (page : ℕ) (now : Option Entry) → AreUndosOf before ops us → covers_any ops page ≡ false → put_back us page now ≡ now
put_back-silent [] [] before page now undos none = refl
put_back-silent (op ∷ ops) (u ∷ us) before page now undos none =
    let clear : covers u.range page ≡ false = ap (λ (r : PageRangeState). covers r page) undos.0 ∙ (or_parts (covers (range_of op) page) (covers_any ops page) none).0 in
    ap (λ (b : Bool). put_back us page (cond b (at u.change.taken page) now)) clear
    ∙ put_back-silent ops us before page now undos.2 (or_parts (covers (range_of op) page) (covers_any ops page) none).1
put_back-silent [] (u ∷ us) before page now undos none = absurd undos
put_back-silent (op ∷ ops) [] before page now undos none = absurd undos

-- and at one that some cover: what was below them
put_back-covered : (ops : List PageOp) (us : List OpUndoState) (before : List Mapping) (below : ℕ → Option Entry) (page : ℕ) (now : Option Entry) → IsPage page → AreUndosOf before ops us → Save ops us below →
    covers_any ops page ≡ true → put_back us page now ≡ below page
put_back-covered [] [] before below page now is undos save some = cc
put_back-covered (op ∷ ops) (u ∷ us) before below page now is undos save some =
    by_cases (covers_any ops page) refl (put_back-covered ops us before below page (cond (covers u.range page) (at u.change.taken page) now) is undos.2 save.1)
  where
    only : (a b : Bool) → (a || b) ≡ true → b ≡ false → a ≡ true
    only true b h none = refl
    only false b h none = cc

    by_cases : (b : Bool) → covers_any ops page ≡ b → (covers_any ops page ≡ true → put_back us page (cond (covers u.range page) (at u.change.taken page) now) ≡ below page) →
        put_back us page (cond (covers u.range page) (at u.change.taken page) now) ≡ below page
    by_cases true here later = later here
    by_cases false none later =
        let own : covers (range_of op) page ≡ true = only (covers (range_of op) page) (covers_any ops page) some none in
        put_back-silent ops us before page (cond (covers u.range page) (at u.change.taken page) now) undos.2 none
        ∙ ap (λ (b : Bool). cond b (at u.change.taken page) now) (ap (λ (r : PageRangeState). covers r page) undos.0 ∙ own)
        ∙ save.0 page is own ∙ view-silent ops below page none
put_back-covered [] (u ∷ us) before below page now is undos save some = absurd undos
put_back-covered (op ∷ ops) [] before below page now is undos save some = absurd undos

module _ (first : ℕ) (older : List Item) (x : Item) (below : ℕ → Option Entry) where
  -- what lies below the item
  abbrev pub under : (ℕ → Bool) → ℕ → Option Entry
  under gone = view_of_ops (ops_without gone (numbered first older)) below

  -- a page that it doesn't cover holds the same with and without it
  own_silent : (gone : ℕ → Bool) (page : ℕ) → covers_any (reverse (done_by x.kind)) page ≡ false →
      view_of_ops (ops_without gone (numbered first (x ∷ older))) below page ≡ under gone page
  own_silent gone page none = by_cases (gone (first + length older))
    where
      by_cases : (b : Bool) → view_of_ops (cond b [] (reverse (done_by x.kind)) ++ ops_without gone (numbered first older)) below page ≡ under gone page
      by_cases true = refl
      by_cases false = view-append (reverse (done_by x.kind)) (ops_without gone (numbered first older)) below page ∙ view-silent (reverse (done_by x.kind)) (under gone) page none

  own_gone : (gone' : ℕ → Bool) (page : ℕ) → gone' (first + length older) ≡ true →
      view_of_ops (ops_without gone' (numbered first (x ∷ older))) below page ≡ under gone' page
  own_gone gone' page is = ap (λ (b : Bool). view_of_ops (cond b [] (reverse (done_by x.kind)) ++ ops_without gone' (numbered first older)) below page) is

  under_same : (gone' gone : ℕ → Bool) → OneMoreGone (first + length older) gone' gone → (page : ℕ) → under gone' page ≡ under gone page
  under_same gone' gone more page =
      ap (λ (ops : List PageOp). view_of_ops ops below page) (ops_without-same first older gone' gone (λ n low high. gone_below (first + length older) n gone' gone more high))

  newer_same : (newer : List Item) (gone' gone : ℕ → Bool) → OneMoreGone (first + length older) gone' gone →
      ops_without gone' (numbered (first + length (x ∷ older)) newer) ≡ ops_without gone (numbered (first + length (x ∷ older)) newer)
  newer_same newer gone' gone more =
      ops_without-same (first + length (x ∷ older)) newer gone' gone (λ n low high. gone_above (first + length older) n gone' gone more (omega arith))

  -- a page that the item doesn't cover
  pub view-uncovered : (newer : List Item) (gone' gone : ℕ → Bool) → OneMoreGone (first + length older) gone' gone → (page : ℕ) → covers_any (reverse (done_by x.kind)) page ≡ false →
      view_of_ops (ops_without gone' (numbered first (newer ++ x ∷ older))) below page ≡ view_of_ops (ops_without gone (numbered first (newer ++ x ∷ older))) below page
  view-uncovered newer gone' gone more page none =
      view_over first newer (x ∷ older) gone' below page
      ∙ ap (λ (ops : List PageOp). view_of_ops ops (view_of_ops (ops_without gone' (numbered first (x ∷ older))) below) page) (newer_same newer gone' gone more)
      ∙ view-at (ops_without gone (numbered (first + length (x ∷ older)) newer)) _ _ page
      (own_silent gone' page none ∙ under_same gone' gone more page ∙ sym (own_silent gone page none))
      ∙ sym (view_over first newer (x ∷ older) gone below page)

  -- a page that it covers, and no newer live item
  pub view-covered : (newer : List Item) (gone' gone : ℕ → Bool) → OneMoreGone (first + length older) gone' gone → NoneTouch gone (done_by x.kind) (first + length (x ∷ older)) newer →
      (page : ℕ) → covers_any (reverse (done_by x.kind)) page ≡ true →
      view_of_ops (ops_without gone' (numbered first (newer ++ x ∷ older))) below page ≡ under gone page
  view-covered newer gone' gone more none page some =
      view_over first newer (x ∷ older) gone' below page
      ∙ ap (λ (ops : List PageOp). view_of_ops ops (view_of_ops (ops_without gone' (numbered first (x ∷ older))) below) page) (newer_same newer gone' gone more)
      ∙ view-silent (ops_without gone (numbered (first + length (x ∷ older)) newer)) _ page
      (newer_silent gone (done_by x.kind) (first + length (x ∷ older)) newer page none (sym (any-reverse (λ (op : PageOp). covers (range_of op) page) (done_by x.kind)) ∙ some))
      ∙ own_gone gone' page (gone_itself (first + length older) gone' gone more)
      ∙ under_same gone' gone more page

  saves_where : (item : Item) (map map' : ℕ → Option Entry) → ((page : ℕ) → IsPage page → covers_any (reverse (done_by item.kind)) page ≡ true → map page ≡ map' page) → ItemSaves item map → ItemSaves item map'
  saves_where item map map' same h = by_kind item.kind same h
    where
      by_kind : (kind : ItemKind) → ((page : ℕ) → IsPage page → covers_any (reverse (done_by kind)) page ≡ true → map page ≡ map' page) →
          SavesBelow kind (undos_of item) map → SavesBelow kind (undos_of item) map'
      by_kind (Bind queue number request seen done) agree s = Save-where (reverse done.items) (undos_of item) map map' agree s
      by_kind (Withdrawal of) agree s = tt

  older_saves : (items : List Item) (gone' gone : ℕ → Bool) → SameGone first (first + length items) gone' gone → EachSaves gone (numbered first items) below → EachSaves gone' (numbered first items) below
  older_saves [] gone' gone same h = tt
  older_saves (item ∷ items) gone' gone same h = (
    λ live. saves_where item (view_of_ops (ops_without gone (numbered first items)) below) (view_of_ops (ops_without gone' (numbered first items)) below)
        (λ page is _. ap (λ (ops : List PageOp). view_of_ops ops below page) (sym (ops_without-same first items gone' gone (λ n low high. same n low (omega arith)))))
        (h.0 (sym (same (first + length items) (omega arith) (omega arith)) ∙ live)),
    older_saves items gone' gone (λ n low high. same n low (omega arith)) h.1,
  )

  -- the other live items save what they have to
  pub saves_without : (newer : List Item) (gone' gone : ℕ → Bool) → OneMoreGone (first + length older) gone' gone → NoneTouch gone (done_by x.kind) (first + length (x ∷ older)) newer →
      EachSaves gone (numbered first (newer ++ x ∷ older)) below → EachSaves gone' (numbered first (newer ++ x ∷ older)) below
  saves_without [] gone' gone more none h = (
    λ live. absurd (both (gone' (first + length older)) (gone_itself (first + length older) gone' gone more) live),
    older_saves older gone' gone (λ n low high. gone_below (first + length older) n gone' gone more high) h.1,
  )
    where
      both : (b : Bool) → b ≡ true → b ≡ false → ⊥
      both b here there = cc
  saves_without (item ∷ newer) gone' gone more none h =
      let number : first + length (newer ++ x ∷ older) ≡ first + length (x ∷ older) + length newer = omega (arith, length-append newer (x ∷ older)) in
      let above : gone' (first + length (newer ++ x ∷ older)) ≡ gone (first + length (newer ++ x ∷ older)) = gone_above (first + length older) (first + length (newer ++ x ∷ older)) gone' gone more (omega (arith, number)) in (
        λ live. saves_where item (view_of_ops (ops_without gone (numbered first (newer ++ x ∷ older))) below) (view_of_ops (ops_without gone' (numbered first (newer ++ x ∷ older))) below)
            (λ page is c. sym (view-uncovered newer gone' gone more page
            (apart item.kind page (none.0 (ap (λ (n : ℕ). gone n) (sym number) ∙ sym above ∙ live)) c)))
            (h.0 (sym above ∙ live)),
        saves_without newer gone' gone more none.1 h.1,
      )
    where
      apart : (kind : ItemKind) (page : ℕ) → touch (done_by x.kind) (done_by kind) ≡ false → covers_any (reverse (done_by kind)) page ≡ true → covers_any (reverse (done_by x.kind)) page ≡ false
      apart kind page untouched c = by_cases (covers_any (done_by x.kind) page) refl
        where
          both : (b : Bool) → b ≡ true → b ≡ false → ⊥
          both b here there = cc

          clash : covers_any (done_by kind) page ≡ false → covers_any (reverse (done_by x.kind)) page ≡ false
          clash other = absurd (both (covers_any (done_by kind) page) (sym (any-reverse (λ (op : PageOp). covers (range_of op) page) (done_by kind)) ∙ c) other)

          by_cases : (b : Bool) → covers_any (done_by x.kind) page ≡ b → covers_any (reverse (done_by x.kind)) page ≡ false
          by_cases false is = any-reverse (λ (op : PageOp). covers (range_of op) page) (done_by x.kind) ∙ is
          by_cases true is = clash (touch_none (done_by x.kind) (done_by kind) page untouched is)

-- the Withdrawal of an item
abbrev pub withdrawal : ℕ → Vec OpUndo Global → Item
withdrawal n undos = record { kind = Withdrawal n; undos = undos }

no_ops : (b : Bool) (ops : List PageOp) → cond b [] (reverse (done_by (Withdrawal 0))) ++ ops ≡ ops
no_ops true ops = refl
no_ops false ops = refl

module _ (s t : SpaceState) (limit first : ℕ) (newer older : List Item) (queue number : ℕ) (request : Request) (seen : Vec ℕ Global) (done : Vec PageOp Global) (undos fresh : Vec OpUndo Global)
    (below : ℕ → Option Entry) where
  abbrev pub entry : Item
  entry = bound queue number request seen done undos

  abbrev pub all : List Item
  all = newer ++ entry ∷ older

  abbrev pub e : ℕ
  e = first + length older

  abbrev pub gone : ℕ → Bool
  gone = is_withdrawn (numbered first all)

  abbrev pub gone' : ℕ → Bool
  gone' = is_withdrawn (numbered first (withdrawal e fresh ∷ all))

  more : OneMoreGone e gone' gone
  more n = refl

  module _ (fits : FitsOver s (record { limit = limit; first = first; items = all }) below) (live : gone e ≡ false)
      (none : NoneTouch gone done.items (first + length (entry ∷ older)) newer) (undos_are : (before : List Mapping) × AreUndosOf before (reverse done.items) (reverse undos.items))
      (put : ArePutBack s t (reverse undos.items) (reverse fresh.items)) (limits : t.limits.mappings ≡ s.limits.mappings) where
    entry_saves : (items : List Item) → EachSaves gone (numbered first (items ++ entry ∷ older)) below → Save (reverse done.items) (reverse undos.items) (under first older entry below gone)
    entry_saves [] h = h.0 live
    entry_saves (item ∷ items) h = entry_saves items h.1

    view_new : (page : ℕ) → view (numbered first (withdrawal e fresh ∷ all)) below page ≡ view_of_ops (ops_without gone' (numbered first all)) below page
    view_new page = ap (λ (ops : List PageOp). view_of_ops ops below page) (no_ops (gone' (first + length all)) (ops_without gone' (numbered first all)))

    pub put_is_view : (page : ℕ) → IsPage page → at t.mappings page ≡ view_of_ops (ops_without gone' (numbered first all)) below page
    put_is_view page is = put.pages page is ∙ by_cases (covers_any (reverse done.items) page) refl
      where
        by_cases : (b : Bool) → covers_any (reverse done.items) page ≡ b → put_back (reverse undos.items) page (at s.mappings page) ≡ view_of_ops (ops_without gone' (numbered first all)) below page
        by_cases true some =
            put_back-covered (reverse done.items) (reverse undos.items) undos_are.0 (under first older entry below gone) page (at s.mappings page) is undos_are.1 (entry_saves newer fits.saves) some
            ∙ sym (view-covered first older entry below newer gone' gone more none page some)
        by_cases false nothing =
            put_back-silent (reverse done.items) (reverse undos.items) undos_are.0 page (at s.mappings page) undos_are.1 nothing
            ∙ fits.translates page is ∙ sym (view-uncovered first older entry below newer gone' gone more page nothing)

    pub others_stay : (page : ℕ) → IsPage page → covers_any (reverse done.items) page ≡ false → at t.mappings page ≡ at s.mappings page
    others_stay page is nothing = put.pages page is ∙ put_back-silent (reverse done.items) (reverse undos.items) undos_are.0 page (at s.mappings page) undos_are.1 nothing

    list_is : undone_by t.mappings (reverse fresh.items) ≡ s.mappings
    list_is = put.changes.list

    pub fits_over_withdrawn : FitsOver t (record { limit = limit; first = first; items = withdrawal e fresh ∷ all }) below
    fits_over_withdrawn = record {
      translates = λ page is. put_is_view page is ∙ sym (view_new page);
      saves = (λ _. tt, saves_without first older entry below newer gone' gone more none fits.saves);
      rewinds = (
        put.changes.revertible,
        tt,
        subst (λ (ms : List Mapping). Translates ms (numbered first all) below) (sym list_is) fits.translates,
        fits.saves,
        subst (λ (ms : List Mapping). Rewinds t.limits.mappings t.room first ms all below) (sym list_is)
            (subst (λ (n : ℕ). Rewinds n t.room first s.mappings all below) (sym limits)
            (Rewinds-room s.limits.mappings s.room t.room first s.mappings all below put.changes.room fits.rewinds)),
      );
      kept = put.changes.kept (kept_by all) fits.kept;
    }
