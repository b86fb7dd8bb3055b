use Rattle.std.proofs.Common.{◌≡◌, ◌+◌, ◌-◌, ◌<◌, ◌≤◌, ◌∙◌, ap, sym, length, vec_len, vec_capacity, slice_index_or, max, arith, ℕ}
use Rattle.std.proofs.lemmas.List.{get_or-set_same, get_or_default}
use Rattle.std.specs.Global.{Vec}
use Rattle.std.specs.List.{splice}
use Rattle.gv_types.specs.declared.mapping.Mapping.{Mapping}
use Rattle.gv_types.specs.Mapping.{one_page_of_zeros}
use Rattle.gv_chunks.proofs.IndexMovedLemmas.{first_stays}
use Rattle.gv_chunks.proofs.StoreLemmas.{edited_items, edited_list, edited_index, edited_len, chunk_within, start_later, start_told}
use Rattle.gv_chunks.proofs.store.ChunkStore.edit.Goals as goal

pub index_mut-requires : goal.index_mut-requires
index_mut-requires c = omega (arith, c.requires.editable.used_count, c.requires.editable.some, c.requires.store.list.within, c.args.self.now.chunks.ok)

pub overflow_sub-self : goal.overflow_sub-self
overflow_sub-self c =
    let p = c.args.self.now in
    let inside : c.args.chunk < length p.chunks.items = omega (arith, c.requires.editable.used_count, c.requires.editable.some, c.requires.store.list.within) in
    omega (arith, chunk_within p.chunks.items c.args.chunk c.index_mut.result.now inside, c.requires.editable.within c.index_mut.result.now, c.requires.editable.begun, c.requires.store.list.held)

pub set_if_unused-self-requires-clause-within : goal.set_if_unused-self-requires-clause-within
set_if_unused-self-requires-clause-within c = omega (arith, c.requires.editable.used_count, c.requires.editable.some, c.requires.store.list.within, c.requires.store.index.starts_within)

pub set_if_unused-self-requires-clause-was : goal.set_if_unused-self-requires-clause-was
set_if_unused-self-requires-clause-was c = λ d some.
    let p = c.args.self.now in
    start_told p.chunks.items p.used_count c.args.chunk d p.starts.numbers c.requires.store.list.within (omega (arith, some, c.requires.editable.used_count)) c.requires.store.index.are_starts ∙ sym c.requires.editable.start_is

pub index-requires : goal.index-requires
index-requires c = omega (arith, c.requires.editable.used_count, c.requires.editable.some, c.requires.store.list.within, c.args.self.now.chunks.ok)

-- what the chunk holds now
pub held_now : (c : goal.After-index) → c.replace_run.new.items.items
    ≡ splice (slice_index_or c.args.self.now.chunks.items c.args.chunk c.index_mut.result.now).items (c.args.index - c.args.start) (c.args.index - c.args.start + c.args.out_count) c.args.pieces.now
held_now c =
    c.replace_run.ensures.items ∙ ap (λ (v : Vec Mapping). splice v.items (c.args.index - c.args.start) (c.args.index - c.args.start + c.args.out_count) c.args.pieces.now) c.index_mut.ensures.value

pub write_first-requires-clause-chunk : goal.write_first-requires-clause-chunk
write_first-requires-clause-chunk c =
    omega (arith, c.requires.editable.used_count, c.requires.editable.some, c.requires.store.list.within, c.requires.store.index.firsts_within, c.args.self.now.firsts.ok)

pub write_first-requires-clause-some : goal.write_first-requires-clause-some
write_first-requires-clause-some c =
    let p = c.args.self.now in
    let e = c.requires.editable in
    let v = c.index_mut.result.now in
    let w = c.replace_run.new.items in
    let within : p.used_count ≤ length p.chunks.items = c.requires.store.list.within in
    let inside : c.args.chunk < length p.chunks.items = omega (arith, e.used_count, e.some, within) in
    let grown : vec_len w + c.args.out_count ≡ vec_len (slice_index_or p.chunks.items c.args.chunk v) + length c.args.pieces.now =
    edited_len p.chunks.items p.used_count c.args.chunk c.args.start c.args.index c.args.out_count v w c.args.pieces.now e.some e.used_count within e.start_is e.begun (e.within v) (held_now c) in
    let again : c.index.result.now ≡ w = c.index.ensures ∙ get_or-set_same p.chunks.items c.args.chunk w c.index.result.now inside in
    rw again (omega (arith, grown, e.holds v))

pub write_first-requires-clause-was : goal.write_first-requires-clause-was
write_first-requires-clause-was c = λ m past.
    let p = c.args.self.now in
    let e = c.requires.editable in
    let v = c.index_mut.result.now in
    let w = c.replace_run.new.items in
    let within : p.used_count ≤ length p.chunks.items = c.requires.store.list.within in
    let inside : c.args.chunk < length p.chunks.items = omega (arith, e.used_count, e.some, within) in
    let again : c.index.result.now ≡ w = c.index.ensures ∙ get_or-set_same p.chunks.items c.args.chunk w c.index.result.now inside in
    rw again (first_stays p.chunks.items p.used_count c.args.chunk c.args.start c.args.index c.args.out_count v w m c.args.pieces.now p.firsts.items within inside c.requires.store.list.spare c.requires.store.index.are_firsts
    e.start_is (omega (arith, past)) (e.within v) (held_now c))

pub shift-requires-clause-within : goal.shift-requires-clause-within
shift-requires-clause-within c =
    omega (
      arith,
      c.set_if_unused-self.ensures.used_count,
      c.set_if_unused-self.ensures.len,
      c.requires.editable.some,
      c.requires.store.list.within,
      c.requires.store.index.starts_within,
    )

-- the numbers behind the chunk are those that were
pub later : (c : goal.After-shift-arg-1) (k e : ℕ) → c.args.chunk + 1 ≤ k → k < c.args.self.now.used_count → slice_index_or c.set_if_unused-self.new.self.numbers k e ≡ slice_index_or c.args.self.now.starts.numbers k e
later c k e behind stood =
    c.set_if_unused-self.ensures.others k e (omega (arith, stood, c.requires.store.list.within, c.requires.store.index.starts_within)) (λ p. omega (arith, p, behind))

pub shift-requires-clause-out : goal.shift-requires-clause-out
shift-requires-clause-out c = λ k e behind below.
    let p = c.args.self.now in
    let stood : k < p.used_count = omega (arith, behind, below, c.set_if_unused-self.ensures.used_count) in
    let ends = start_later p.chunks.items p.used_count c.args.chunk k e c.index_mut.result.now p.starts.numbers c.requires.store.list.within (omega arith) stood c.requires.store.index.are_starts in
    omega (arith, later c k e behind stood, ends.0, c.requires.editable.within c.index_mut.result.now, c.requires.editable.begun, c.requires.editable.start_is)

pub shift-requires-clause-fits : goal.shift-requires-clause-fits
shift-requires-clause-fits c = λ k e behind below.
    let p = c.args.self.now in
    let stood : k < p.used_count = omega (arith, behind, below, c.set_if_unused-self.ensures.used_count) in
    let ends = start_later p.chunks.items p.used_count c.args.chunk k e c.index_mut.result.now p.starts.numbers c.requires.store.list.within (omega arith) stood c.requires.store.index.are_starts in
    omega (arith, later c k e behind stood, ends.1, c.requires.store.list.held, c.requires.room, c.fits-self)

-- and at the end
pub now_holds : (c : goal.After-shift) → c.replace_run.new.items.items
    ≡ splice (slice_index_or c.args.self.now.chunks.items c.args.chunk c.index_mut.result.now).items (c.args.index - c.args.start) (c.args.index - c.args.start + c.args.out_count) c.args.pieces.now
now_holds c =
    c.replace_run.ensures.items ∙ ap (λ (v : Vec Mapping). splice v.items (c.args.index - c.args.start) (c.args.index - c.args.start + c.args.out_count) c.args.pieces.now) c.index_mut.ensures.value

pub returns-clause-items : goal.returns-clause-items
returns-clause-items c =
    let p = c.args.self.now in
    let e = c.requires.editable in
    edited_items p.chunks.items p.used_count c.args.chunk c.args.start c.args.index c.args.out_count c.index_mut.result.now c.replace_run.new.items c.args.pieces.now e.some e.used_count c.requires.store.list.within
    e.start_is e.begun (e.within c.index_mut.result.now) (now_holds c)

pub returns-clause-store : goal.returns-clause-store
returns-clause-store c =
    let p = c.args.self.now in
    let e = c.requires.editable in
    let w = c.replace_run.new.items in
    let v = c.index_mut.result.now in
    let page = (slice_index_or c.index.result.now.items 0 one_page_of_zeros).range.first in
    let within : p.used_count ≤ length p.chunks.items = c.requires.store.list.within in
    let inside : c.args.chunk < length p.chunks.items = omega (arith, e.used_count, e.some, within) in
    let room : c.args.chunk < length p.starts.numbers = omega (arith, inside, c.requires.store.index.starts_within) in
    let kept : vec_capacity w ≡ vec_capacity (slice_index_or p.chunks.items c.args.chunk v) = c.replace_run.ensures.room ∙ ap vec_capacity c.index_mut.ensures.value in
    let grown : vec_len w + c.args.out_count ≡ vec_len (slice_index_or p.chunks.items c.args.chunk v) + length c.args.pieces.now =
    edited_len p.chunks.items p.used_count c.args.chunk c.args.start c.args.index c.args.out_count v w c.args.pieces.now e.some e.used_count within e.start_is e.begun (e.within v) (now_holds c) in
    let full : 0 < length w.items = omega (arith, grown, w.ok, e.holds v) in
    let again : c.index.result.now ≡ w = c.index.ensures ∙ get_or-set_same p.chunks.items c.args.chunk w c.index.result.now inside in
    let size : length c.shift.new.self.numbers ≡ length p.starts.numbers = c.shift.ensures.len ∙ c.set_if_unused-self.ensures.len in
    let before : (k d : ℕ) → k < c.args.chunk → slice_index_or c.shift.new.self.numbers k d ≡ slice_index_or p.starts.numbers k d =
    λ k d below. c.shift.ensures.before k d (omega arith) (omega (arith, below, room, c.set_if_unused-self.ensures.len)) ∙ c.set_if_unused-self.ensures.others k d (omega (arith, below, room)) (λ q. omega (arith, q, below)) in
    let at : (d : ℕ) → slice_index_or c.shift.new.self.numbers c.args.chunk d ≡ c.args.start =
    λ d. c.shift.ensures.before c.args.chunk d (omega arith) (omega (arith, room, c.set_if_unused-self.ensures.len)) ∙ c.set_if_unused-self.ensures.here d in
    let behind : (k d : ℕ) → c.args.chunk < k → k < max p.used_count 1 → slice_index_or c.shift.new.self.numbers k d + c.args.out_count ≡ slice_index_or p.starts.numbers k d + length c.args.pieces.now =
    λ k d past below. omega (
      arith,
      c.shift.ensures.moved k d (omega arith) (omega (arith, below, c.set_if_unused-self.ensures.used_count)),
      c.set_if_unused-self.ensures.others k d (omega (arith, below, past, within, c.requires.store.index.starts_within)) (λ q. omega (arith, q, past)),
    ) in
    record {
      list = rw c.set_if_unused-self.ensures.used_count (edited_list p.chunks.items p.used_count c.args.chunk c.args.start c.args.index c.args.out_count v w c.args.pieces.now e.some e.used_count within e.start_is e.begun (e.within v) (now_holds c)
          p.len p.room c.requires.store.list kept (e.holds v) e.few c.requires.room);
      index = rw (c.set_if_unused-self.ensures.used_count, c.write_first.ensures.items one_page_of_zeros) (edited_index p.chunks.items p.used_count c.args.chunk c.args.start c.args.index c.args.out_count v w c.args.pieces.now e.some e.used_count within e.start_is e.begun (e.within v) (now_holds c)
          p.starts.numbers p.firsts.items c.shift.new.self.numbers page c.requires.store.index size before at behind
          (λ m. ap (λ (u : Vec Mapping). (slice_index_or u.items 0 one_page_of_zeros).range.first) again ∙ ap (λ (n : Mapping). n.range.first) (get_or_default w.items 0 one_page_of_zeros m full)));
    }
