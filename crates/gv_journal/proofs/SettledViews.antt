-- What later items say over the older ones, once these are settled.
use Rattle.std.proofs.Common.{◌≡◌, ℕ, ◌+◌, ◌<◌, ◌≤◌, Bool, true, false, cond, ◌||◌, List, [], ◌∷◌, ◌++◌, length, reverse, Option, refl, ap, sym, ◌∙◌, arith, append_assoc, length-append}
use Rattle.std.proofs.lemmas.Bool.Decides.{nat_tests}
use Rattle.gv_types.specs.Page.{IsPage}
use Rattle.gv_types.specs.Operation.{view as view_of_ops}
use Rattle.gv_types.specs.declared.mapping.Entry.{Entry}
use Rattle.gv_types.specs.declared.mapping.Mapping.{Mapping}
use Rattle.gv_types.specs.declared.operation.PageOp.{PageOp}
use Rattle.gv_space.specs.Undo.{OpUndoState}
use Rattle.gv_journal.specs.Undoing.{undone_by}
use Rattle.gv_journal.specs.Items.{NumberedItem, numbered, names, is_withdrawn, done_by, ops_without, view}
use Rattle.gv_journal.specs.History.{undos_of, Translates, SavesBelow, EachSaves, UndoSavesTheView, Rewinds}
use Rattle.gv_journal.specs.Settling.{crosses, later, earlier}
use Rattle.gv_journal.specs.Inside.{NameOlder}
use Rattle.gv_journal.specs.declared.item.Item.{Item}
use Rattle.gv_journal.specs.declared.item.ItemKind.{ItemKind}
use Rattle.gv_journal.specs.declared.item.ItemKind.TheVariants.{Bind, Withdrawal}
use Rattle.gv_journal.proofs.Views.{view-at, view-append}
use Rattle.gv_journal.proofs.Bindings.{not_named, Save-at}

-- numbers go on through a list
pub numbered-append : (first : ℕ) (later earlier : List Item) → numbered first (later ++ earlier) ≡ numbered (first + length earlier) later ++ numbered first earlier
numbered-append first [] earlier = refl
numbered-append first (item ∷ later) earlier =
    let number : first + length (later ++ earlier) ≡ first + length earlier + length later = omega (arith, length-append later earlier) in
    ap (λ (n : ℕ). record { number = n; item = item } ∷ numbered first (later ++ earlier)) number
    ∙ ap (λ (xs : List NumberedItem). record { number = first + length earlier + length later; item = item } ∷ xs) (numbered-append first later earlier)

pub ops_without-append : (gone : ℕ → Bool) (newer older : List NumberedItem) → ops_without gone (newer ++ older) ≡ ops_without gone newer ++ ops_without gone older
ops_without-append gone [] older = refl
ops_without-append gone (x ∷ newer) older =
    ap (λ (ops : List PageOp). cond (gone x.number) [] (reverse (done_by x.item.kind)) ++ ops) (ops_without-append gone newer older)
    ∙ sym (append_assoc (cond (gone x.number) [] (reverse (done_by x.item.kind))) (ops_without gone newer) (ops_without gone older))

-- the same of these numbers are gone
abbrev pub SameGone : ℕ → ℕ → (ℕ → Bool) → (ℕ → Bool) → Type 0
SameGone low high gone other = (n : ℕ) → low ≤ n → n < high → gone n ≡ other n

pub ops_without-same : (first : ℕ) (items : List Item) (gone other : ℕ → Bool) → SameGone first (first + length items) gone other →
    ops_without gone (numbered first items) ≡ ops_without other (numbered first items)
ops_without-same first [] gone other same = refl
ops_without-same first (item ∷ items) gone other same =
    ap (λ (b : Bool). cond b [] (reverse (done_by item.kind)) ++ ops_without gone (numbered first items)) (same (first + length items) (omega arith) (omega arith))
    ∙ ap (λ (ops : List PageOp). cond (other (first + length items)) [] (reverse (done_by item.kind)) ++ ops)
    (ops_without-same first items gone other (λ n low high. same n low (omega arith)))

-- what two lists of items say, one over the other
pub view_over : (first : ℕ) (later earlier : List Item) (gone : ℕ → Bool) (below : ℕ → Option Entry) (page : ℕ) →
    view_of_ops (ops_without gone (numbered first (later ++ earlier))) below page
    ≡ view_of_ops (ops_without gone (numbered (first + length earlier) later)) (view_of_ops (ops_without gone (numbered first earlier)) below) page
view_over first later earlier gone below page =
    ap (λ (xs : List NumberedItem). view_of_ops (ops_without gone xs) below page) (numbered-append first later earlier)
    ∙ ap (λ (ops : List PageOp). view_of_ops ops below page) (ops_without-append gone (numbered (first + length earlier) later) (numbered first earlier))
    ∙ view-append (ops_without gone (numbered (first + length earlier) later)) (ops_without gone (numbered first earlier)) below page

pub is_withdrawn-append : (newer older : List NumberedItem) (n : ℕ) → is_withdrawn (newer ++ older) n ≡ (is_withdrawn newer n || is_withdrawn older n)
is_withdrawn-append [] older n = refl
is_withdrawn-append (x ∷ newer) older n =
    ap (λ (b : Bool). names x.item.kind n || b) (is_withdrawn-append newer older n) ∙ or_assoc (names x.item.kind n) (is_withdrawn newer n) (is_withdrawn older n)
  where
    or_assoc : (a b c : Bool) → (a || (b || c)) ≡ ((a || b) || c)
    or_assoc true b c = refl
    or_assoc false b c = refl

-- none of the items is a Withdrawal of one below a number
abbrev pub NoneCross : ℕ → List Item → Type 0
NoneCross to [] = Unit {0}
NoneCross to (item ∷ items) = (crosses to item.kind ≡ false) × NoneCross to items

not_crossing : (to : ℕ) (kind : ItemKind) (n : ℕ) → crosses to kind ≡ false → n < to → names kind n ≡ false
not_crossing to (Bind queue number request seen done) n none below = refl
not_crossing to (Withdrawal of) n none below = grind (arith, nat_tests)

none_named : (to first : ℕ) (later : List Item) (n : ℕ) → NoneCross to later → n < to → is_withdrawn (numbered first later) n ≡ false
none_named to first [] n none below = refl
none_named to first (item ∷ later) n none below =
    let here : names item.kind n ≡ false = not_crossing to item.kind n none.0 below in
    rw (here, none_named to first later n none.1 below) refl

or_nothing : (a b : Bool) → b ≡ false → (a || b) ≡ a
or_nothing true b h = refl
or_nothing false b h = h

gone_of_both : (first : ℕ) (later earlier : List Item) (n : ℕ) →
    is_withdrawn (numbered first (later ++ earlier)) n ≡ (is_withdrawn (numbered (first + length earlier) later) n || is_withdrawn (numbered first earlier) n)
gone_of_both first later earlier n =
    ap (λ (xs : List NumberedItem). is_withdrawn xs n) (numbered-append first later earlier)
    ∙ is_withdrawn-append (numbered (first + length earlier) later) (numbered first earlier) n

-- of the later items only later ones decide which are withdrawn, and of the earlier ones only earlier ones
pub gone_of_later : (first : ℕ) (later earlier : List Item) → NameOlder (numbered first earlier) → (n : ℕ) → first + length earlier ≤ n →
    is_withdrawn (numbered first (later ++ earlier)) n ≡ is_withdrawn (numbered (first + length earlier) later) n
gone_of_later first later earlier older n le =
    gone_of_both first later earlier n
    ∙ or_nothing (is_withdrawn (numbered (first + length earlier) later) n) (is_withdrawn (numbered first earlier) n) (not_named first earlier n older le)

pub gone_of_earlier : (first : ℕ) (later earlier : List Item) → NoneCross (first + length earlier) later → (n : ℕ) → n < first + length earlier →
    is_withdrawn (numbered first (later ++ earlier)) n ≡ is_withdrawn (numbered first earlier) n
gone_of_earlier first later earlier none n below =
    gone_of_both first later earlier n
    ∙ ap (λ (b : Bool). b || is_withdrawn (numbered first earlier) n) (none_named (first + length earlier) (first + length earlier) later n none below)

module _ (first : ℕ) (earlier : List Item) (below other : ℕ → Option Entry) (older : NameOlder (numbered first earlier))
    (same : (page : ℕ) → IsPage page → other page ≡ view (numbered first earlier) below page) where
  -- what the items say over the settled ones
  settled_view : (later : List Item) → NoneCross (first + length earlier) later → (gone : ℕ → Bool) →
      SameGone first (first + length earlier) gone (is_withdrawn (numbered first earlier)) → (page : ℕ) → IsPage page →
      view_of_ops (ops_without gone (numbered first (later ++ earlier))) below page ≡ view_of_ops (ops_without gone (numbered (first + length earlier) later)) other page
  settled_view later none gone early page is =
      view_over first later earlier gone below page
      ∙ view-at (ops_without gone (numbered (first + length earlier) later)) (view_of_ops (ops_without gone (numbered first earlier)) below) other page
      (ap (λ (ops : List PageOp). view_of_ops ops below page) (ops_without-same first earlier gone (is_withdrawn (numbered first earlier)) early) ∙ sym (same page is))

  early_gone : (later : List Item) → NoneCross (first + length earlier) later → SameGone first (first + length earlier) (is_withdrawn (numbered first (later ++ earlier))) (is_withdrawn (numbered first earlier))
  early_gone later none = λ n low high. gone_of_earlier first later earlier none n high

  pub translates_settled : (ms : List Mapping) (later : List Item) → NoneCross (first + length earlier) later → Translates ms (numbered first (later ++ earlier)) below →
      Translates ms (numbered (first + length earlier) later) other
  translates_settled ms later none was = λ page is.
      was page is
      ∙ settled_view later none (is_withdrawn (numbered first (later ++ earlier))) (early_gone later none) page is
      ∙ ap (λ (ops : List PageOp). view_of_ops ops other page)
      (ops_without-same (first + length earlier) later (is_withdrawn (numbered first (later ++ earlier))) (is_withdrawn (numbered (first + length earlier) later)) (λ n low high. gone_of_later first later earlier older n low))

  saves_at : (kind : ItemKind) (us : List OpUndoState) (map map' : ℕ → Option Entry) → ((page : ℕ) → IsPage page → map page ≡ map' page) → SavesBelow kind us map → SavesBelow kind us map'
  saves_at (Bind queue number request seen done) us map map' agree h = Save-at (reverse done.items) us map map' agree h
  saves_at (Withdrawal of) us map map' agree h = tt

  each_saves : (later : List Item) (gone gone' : ℕ → Bool) → NoneCross (first + length earlier) later → SameGone first (first + length earlier) gone (is_withdrawn (numbered first earlier)) →
      ((n : ℕ) → first + length earlier ≤ n → gone n ≡ gone' n) →
      EachSaves gone (numbered first (later ++ earlier)) below → EachSaves gone' (numbered (first + length earlier) later) other
  each_saves [] gone gone' none early late h = tt
  each_saves (item ∷ later) gone gone' none early late h =
      let number : first + length (later ++ earlier) ≡ first + length earlier + length later = omega (arith, length-append later earlier) in (
        λ live. saves_at item.kind (undos_of item) (view_of_ops (ops_without gone (numbered first (later ++ earlier))) below) (view_of_ops (ops_without gone' (numbered (first + length earlier) later)) other)
            (λ page is. settled_view later none.1 gone early page is
            ∙ ap (λ (ops : List PageOp). view_of_ops ops other page) (ops_without-same (first + length earlier) later gone gone' (λ n low high. late n low)))
            (h.0 (ap (λ (n : ℕ). gone n) number ∙ late (first + length earlier + length later) (omega arith) ∙ live)),
        each_saves later gone gone' none.1 early late h.1,
      )

  pub saves_settled : (later : List Item) → NoneCross (first + length earlier) later → UndoSavesTheView (numbered first (later ++ earlier)) below →
      UndoSavesTheView (numbered (first + length earlier) later) other
  saves_settled later none h =
      each_saves later (is_withdrawn (numbered first (later ++ earlier))) (is_withdrawn (numbered (first + length earlier) later)) none (early_gone later none)
      (λ n low. gone_of_later first later earlier older n low) h

  pub rewinds_settled : (limit room : ℕ) (ms : List Mapping) (later : List Item) → NoneCross (first + length earlier) later → Rewinds limit room first ms (later ++ earlier) below →
      Rewinds limit room (first + length earlier) ms later other
  rewinds_settled limit room ms [] none h = tt
  rewinds_settled limit room ms (item ∷ later) none h = (
    h.0,
    h.1,
    translates_settled (undone_by ms (undos_of item)) later none.1 h.2,
    saves_settled later none.1 h.3,
    rewinds_settled limit room (undone_by ms (undos_of item)) later none.1 h.4,
  )
