use Rattle.std.proofs.Common.{◌≡◌, ◌∙◌, ◌+◌, ◌<◌, ◌++◌, ◌∷◌, [], List, ℕ, Bool, false, ap, sym, append_assoc, string_bytes, take, get_or, length, arith, rules}
use Rattle.std.specs.List.{list_any}
use Rattle.gv_journal.specs.Items.{names}
use Rattle.gv_journal.specs.declared.item.Item.{Item}
use Rattle.gv_session.specs.Texts.{reply, kind_text}
use Rattle.gv_session.proofs.JournalLines.{item_lines, item_lines-more, journal_lines, take_all, same_mark}
use Rattle.gv_session.proofs.journal.write_journal.Goals as goal

pub loop-position-preserved : goal.loop-position-preserved
loop-position-preserved c =
    let gone : ℕ → Bool = λ n. list_any (λ (i : Item). names i.kind n) c.args.items.now in
    let n : ℕ = c.loop-position.position in
    let before : List ℕ = string_bytes c.args.out.now in
    let lines : List ℕ = item_lines gone c.args.first (take n c.args.items.now) in
    let item : Item = c.index-items-position.result in
    let marked : get_or c.in_ok-marks.marks.items n false ≡ gone (c.args.first + n) = c.in_ok-marks.ensures.marks n c.loop-position-test.true in
    let mark : c.index.result.now ≡ gone (c.args.first + n) =
    c.index.ensures ∙ same_mark c.in_ok-marks.marks.items n c.index.result.now false (omega (arith, c.in_ok-marks.ensures.len, c.loop-position-test.true)) ∙ marked in
    let here : List ℕ = reply (kind_text (c.args.first + n) item.kind c.index.result.now ∷ []) in
    let same : here ≡ reply (kind_text (c.args.first + n) (get_or c.args.items.now n item).kind (gone (c.args.first + n)) ∷ []) =
    ap (λ (b : Bool). reply (kind_text (c.args.first + n) item.kind b ∷ [])) mark
    ∙ ap (λ (i : Item). reply (kind_text (c.args.first + n) i.kind (gone (c.args.first + n)) ∷ [])) c.index-items-position.is in
    let wrote : string_bytes c.write_item.new.out ≡ string_bytes c.loop-position.out ++ here = c.in_ok-write_item.ensures in
    wrote ∙ ap (λ (bytes : List ℕ). bytes ++ here) c.loop-position.invariant ∙ append_assoc before lines here
    ∙ ap (λ (bytes : List ℕ). before ++ bytes) (ap (λ (bytes : List ℕ). lines ++ bytes) same ∙ sym (item_lines-more gone c.args.first n c.args.items.now item c.loop-position-test.true))

pub returns : goal.returns
returns c = λ j items_are first_is.
    let gone : ℕ → Bool = λ n. list_any (λ (i : Item). names i.kind n) c.args.items.now in
    let some : 0 < length c.args.items.now = search rules in
    let before : List ℕ = string_bytes c.args.out.now in
    c.loop-position.invariant
    ∙ ap (λ (items : List Item). before ++ item_lines gone c.args.first items) (take_all c.args.items.now c.loop-position.position (omega arith))
    ∙ ap (λ (bytes : List ℕ). before ++ bytes) (journal_lines j c.args.items.now c.args.first items_are first_is some)
