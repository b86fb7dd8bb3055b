-- What the parts of a list keep where a chunk is changed, taken out or put in, and where more chunks come.
use Rattle.std.proofs.Common.{◌≡◌, ℕ, ◌+◌, ◌-◌, ◌*◌, ◌<◌, ◌≤◌, max, List, [], ◌∷◌, ◌++◌, length, take, drop, slice_index_or, slice_set, vec_len, vec_capacity, ◌⊎◌, inl, inr, arith, refl, ◌∙◌, ap, sym}
use Rattle.std.proofs.Math.ListN.{length-set}
use Rattle.std.proofs.lemmas.Bool.{cases_lt}
use Rattle.std.proofs.lemmas.List.{take-take, take-set-le, drop-set-lt, length-take, length-take-le, length-drop, get_or-take, get_or-set_same, get_or-set_other}
use Rattle.std.proofs.lemmas.List.Elements.{All-append, All-take, All-drop}
use Rattle.std.specs.Global.{Vec}
use Rattle.std.specs.List.{splice}
use Rattle.gv_types.specs.declared.mapping.Mapping.{Mapping}
use Rattle.gv_chunks.specs.Chunks.{chunks_joined, AreChunks, AreStarts, AreFirsts}
use Rattle.gv_chunks.specs.Inside.{IsChunkList, IsIndexOf, IsChunkStore, IsChunkOfIndex, items_of}
use Rattle.gv_chunks.specs.declared.store.ChunkStore.{ChunkStore}
use Rattle.gv_chunks.specs.declared.TheConstants.{CHUNK}
use Rattle.gv_chunks.proofs.ChunkLemmas.{changed_chunks, replaced_at, joined-append}
use Rattle.gv_chunks.proofs.IsChunkListLemmas.{length_spliced}
use Rattle.gv_chunks.proofs.IndexLemmas.{start_among, start_behind}
use Rattle.gv_chunks.proofs.MergedLemmas.{joined_front}
use Rattle.gv_chunks.proofs.PutLemmas.{nothing_from}
use Rattle.gv_chunks.proofs.StartLemmas.{start_within, start_rises, end_of_chunk, take_start, drop_start}

-- an index with more numbers behind it
pub starts_kept : (xs : List (Vec Mapping)) (old new : List ℕ) → length old ≤ length new → ((k d : ℕ) → k < length old → slice_index_or new k d ≡ slice_index_or old k d) → AreStarts old xs → AreStarts new xs
starts_kept xs old new longer kept were = λ k d inside.
    let was = were k d inside in
    (omega (arith, was.0, longer), kept k d was.0 ∙ was.1)

pub firsts_kept : (xs : List (Vec Mapping)) (old new : List ℕ) → take (length old) new ≡ old → AreFirsts old xs → AreFirsts new xs
firsts_kept xs old new kept were = λ k d v m inside.
    let was = were k d v m inside in
    let at : slice_index_or new k d ≡ slice_index_or old k d = sym (get_or-take (length old) new k d was.0) ∙ ap (λ ns. slice_index_or ns k d) kept in
    (omega (arith, was.0, ap length kept, length-take (length old) new), at ∙ was.1)

-- and with more chunks behind
pub index_kept : (old new : List (Vec Mapping)) (used_count : ℕ) (starts firsts more_starts more_firsts : List ℕ) → used_count ≤ length old → take (length old) new ≡ old →
    IsIndexOf old used_count starts firsts → length starts ≤ length more_starts → ((k d : ℕ) → k < length starts → slice_index_or more_starts k d ≡ slice_index_or starts k d) →
    take (length firsts) more_firsts ≡ firsts → length new ≤ length more_starts → length new ≤ length more_firsts →
    IsIndexOf new used_count more_starts more_firsts
index_kept old new used_count starts firsts more_starts more_firsts within kept was starts_longer starts_same firsts_same starts_room firsts_room =
    let front : take used_count new ≡ take used_count old = sym (take-take used_count (length old) new within) ∙ ap (take used_count) kept in
    record {
      are_starts = rw front (starts_kept (take used_count old) starts more_starts starts_longer starts_same was.are_starts);
      are_firsts = rw front (firsts_kept (take used_count old) firsts more_firsts firsts_same was.are_firsts);
      starts_within = starts_room;
      firsts_within = firsts_room;
    }

-- an index with more numbers behind it has at least as many
pub more_numbers : (old new : List ℕ) → take (length old) new ≡ old → length old ≤ length new
more_numbers old new kept = omega (arith, ap length kept, length-take (length old) new)

-- how many mappings stand before the end of a chunk
pub chunk_end : (xs : List (Vec Mapping)) (i : ℕ) (d : Vec Mapping) → i < length xs → length (chunks_joined (take (i + 1) xs)) ≡ length (chunks_joined (take i xs)) + vec_len (slice_index_or xs i d)
chunk_end xs i d within = end_of_chunk xs i d (slice_index_or xs i d).items within refl ∙ ap (λ n. length (chunks_joined (take i xs)) + n) (sym (slice_index_or xs i d).ok.0)

-- a chunk holds no more than the list
pub chunk_within : (xs : List (Vec Mapping)) (i : ℕ) (d : Vec Mapping) → i < length xs → length (chunks_joined (take i xs)) + vec_len (slice_index_or xs i d) ≤ length (chunks_joined xs)
chunk_within xs i d within = omega (arith, chunk_end xs i d within, start_within xs (i + 1))

-- the last chunk that stands ends where the list ends
pub last_end : (xs : List (Vec Mapping)) (i : ℕ) (d : Vec Mapping) → i < length xs → chunks_joined (drop (i + 1) xs) ≡ [] → length (chunks_joined (take i xs)) + vec_len (slice_index_or xs i d) ≡ length (chunks_joined xs)
last_end xs i d within none = omega (arith, chunk_end xs i d within, ap length (joined_front xs (i + 1) none))

-- a start is told by the index
pub start_told : (xs : List (Vec Mapping)) (used_count k d : ℕ) (starts : List ℕ) → used_count ≤ length xs → k < used_count → AreStarts starts (take used_count xs) →
    slice_index_or starts k d ≡ length (chunks_joined (take k xs))
start_told xs used_count k d starts within below are = (are k d (omega (arith, length-take-le used_count xs within))).1 ∙ start_among xs k used_count (omega arith)

-- the chunks behind a chunk begin where it ends, or later
pub start_later : (xs : List (Vec Mapping)) (s chunk k e : ℕ) (d : Vec Mapping) (starts : List ℕ) → s ≤ length xs → chunk < k → k < s → AreStarts starts (take s xs) →
    (length (chunks_joined (take chunk xs)) + vec_len (slice_index_or xs chunk d) ≤ slice_index_or starts k e) × (slice_index_or starts k e ≤ length (chunks_joined xs))
start_later xs s chunk k e d starts within behind below are =
    let told : slice_index_or starts k e ≡ length (chunks_joined (take k xs)) = start_told xs s k e starts within below are in
    (omega (arith, told, chunk_end xs chunk d (omega arith), start_rises xs (chunk + 1) k (omega arith)), omega (arith, told, start_within xs k))

-- a chunk changed: `out` mappings from `index` on went, and pieces came
module _ (xs : List (Vec Mapping)) (s chunk start index out : ℕ) (d w : Vec Mapping) (pieces : List Mapping) (some_chunk : 0 < length xs) (below : chunk < max s 1) (within : s ≤ length xs)
    (is_start : start ≡ length (chunks_joined (take chunk xs))) (begun : start ≤ index) (fits : index + out ≤ start + vec_len (slice_index_or xs chunk d))
    (is : w.items ≡ splice (slice_index_or xs chunk d).items (index - start) (index - start + out) pieces) where
  inside_all : chunk < length xs
  inside_all = omega arith

  inside_chunk : index - start + out ≤ length (slice_index_or xs chunk d).items
  inside_chunk = omega (arith, fits, begun, (slice_index_or xs chunk d).ok)

  -- how much the chunk holds now
  pub edited_len : vec_len w + out ≡ vec_len (slice_index_or xs chunk d) + length pieces
  edited_len =
      omega (arith, w.ok, (slice_index_or xs chunk d).ok, ap length is, length_spliced (slice_index_or xs chunk d).items pieces (index - start) out inside_chunk, inside_chunk)

  -- the list
  pub edited_items : chunks_joined (slice_set xs chunk w) ≡ splice (chunks_joined xs) index (index + out) pieces
  edited_items =
      let at : length (chunks_joined (take chunk xs)) + (index - start) ≡ index = omega (arith, is_start, begun) in
      replaced_at xs chunk (index - start) out d w pieces inside_all inside_chunk is ∙ ap (λ k. splice (chunks_joined xs) k (k + out) pieces) at

  pub edited_within : index + out ≤ length (chunks_joined xs)
  edited_within = omega (arith, fits, is_start, chunk_within xs chunk d inside_all)

  -- the chunks
  pub edited_list : (count room : ℕ) → IsChunkList xs s count room → vec_capacity w ≡ vec_capacity (slice_index_or xs chunk d) → out < vec_len (slice_index_or xs chunk d) + length pieces →
      CHUNK * max s 1 ≤ 2 * (count - out + length pieces) + CHUNK → count + length pieces ≤ room + out → IsChunkList (slice_set xs chunk w) (max s 1) (count - out + length pieces) room
  edited_list count room was same holds few enough =
      let size : length (slice_set xs chunk w) ≡ length xs = length-set xs chunk w in
      record {
        within = omega (arith, size, within, some_chunk);
        spare = rw (drop-set-lt (max s 1) xs chunk w below) (nothing_from xs s (max s 1) (omega arith) was.spare);
        chunked = changed_chunks xs chunk w (same ∙ was.chunked chunk d inside_all) was.chunked;
        held = omega (arith, was.held, ap length edited_items, length_spliced (chunks_joined xs) pieces index out edited_within);
        few = few;
        filled = λ k e inside.
            let low : k < max s 1 = omega (arith, inside, length-take (max s 1) (slice_set xs chunk w)) in
            let among : slice_index_or (take (max s 1) (slice_set xs chunk w)) k e ≡ slice_index_or (slice_set xs chunk w) k e = get_or-take (max s 1) (slice_set xs chunk w) k e low in
            elim (cases_lt k chunk) [
              | inl before ↦
                  let stood : k < s = omega arith in
                  rw (among, get_or-set_other xs chunk k w e (λ p. omega (arith, p)), ← get_or-take s xs k e stood) (was.filled k e (omega (arith, stood, length-take-le s xs within)))
              | inr from ↦ elim (cases_lt chunk k) [
                | inl behind ↦
                    let stood : k < s = omega arith in
                    rw (among, get_or-set_other xs chunk k w e (λ p. omega (arith, p)), ← get_or-take s xs k e stood) (was.filled k e (omega (arith, stood, length-take-le s xs within)))
                | inr upto ↦
                    let at : k ≡ chunk = omega arith in
                    rw (among, at, get_or-set_same xs chunk w e inside_all) (omega (arith, edited_len, holds))
              ]
            ];
        fits = omega (arith, enough, was.held, edited_within);
        some = λ some_room. omega (arith, size, some_chunk);
        short = λ low. omega (arith, was.short low);
        enough = λ long. omega (arith, size, was.enough long);
      }

  -- the index
  pub edited_index : (starts firsts now_starts : List ℕ) (first : ℕ) → IsIndexOf xs s starts firsts → length now_starts ≡ length starts →
      ((k e : ℕ) → k < chunk → slice_index_or now_starts k e ≡ slice_index_or starts k e) → ((e : ℕ) → slice_index_or now_starts chunk e ≡ start) →
      ((k e : ℕ) → chunk < k → k < max s 1 → slice_index_or now_starts k e + out ≡ slice_index_or starts k e + length pieces) →
      ((m : Mapping) → first ≡ (slice_index_or w.items 0 m).range.first) → IsIndexOf (slice_set xs chunk w) (max s 1) now_starts (slice_set firsts chunk first)
  edited_index starts firsts now_starts first was same before at behind reads =
      let size : length (slice_set xs chunk w) ≡ length xs = length-set xs chunk w in
      record {
        are_starts = λ k e inside.
            let low : k < max s 1 = omega (arith, inside, length-take (max s 1) (slice_set xs chunk w)) in
            let among : length (chunks_joined (take k (take (max s 1) (slice_set xs chunk w)))) ≡ length (chunks_joined (take k (slice_set xs chunk w))) = start_among (slice_set xs chunk w) k (max s 1) (omega arith) in (
              omega (arith, low, same, was.starts_within, within, some_chunk),
              rw among (elim (cases_lt chunk k) [
                | inl later ↦
                    let stood : k < s = omega arith in
                    let told : slice_index_or starts k e ≡ length (chunks_joined (take k xs)) = start_told xs s k e starts within stood was.are_starts in
                    omega (arith, behind k e later low, told, start_behind xs chunk k w d later (omega (arith, stood, within)), edited_len, w.ok, (slice_index_or xs chunk d).ok)
                | inr upto ↦
                    let front : take k (slice_set xs chunk w) ≡ take k xs = take-set-le k xs chunk w upto in
                    rw front (elim (cases_lt k chunk) [
                      | inl earlier ↦ before k e earlier ∙ start_told xs s k e starts within (omega arith) was.are_starts
                      | inr here ↦
                          let there : k ≡ chunk = omega arith in
                          rw there (at e ∙ is_start)
                    ])
              ]),
            );
        are_firsts = λ k e v m inside.
            let low : k < max s 1 = omega (arith, inside, length-take (max s 1) (slice_set xs chunk w)) in
            let among : slice_index_or (take (max s 1) (slice_set xs chunk w)) k v ≡ slice_index_or (slice_set xs chunk w) k v = get_or-take (max s 1) (slice_set xs chunk w) k v low in
            let sizes : length (slice_set firsts chunk first) ≡ length firsts = length-set firsts chunk first in
            let room : chunk < length firsts = omega (arith, was.firsts_within, inside_all) in (
              omega (arith, low, sizes, was.firsts_within, within, some_chunk),
              rw among (elim (cases_lt k chunk) [
                | inl earlier ↦
                    let stood : k < s = omega arith in
                    rw (get_or-set_other firsts chunk k first e (λ p. omega (arith, p)), get_or-set_other xs chunk k w v (λ p. omega (arith, p)), ← get_or-take s xs k v stood) (was.are_firsts k e v m (omega (arith, stood, length-take-le s xs within))).1
                | inr from ↦ elim (cases_lt chunk k) [
                  | inl later ↦
                      let stood : k < s = omega arith in
                      rw (get_or-set_other firsts chunk k first e (λ p. omega (arith, p)), get_or-set_other xs chunk k w v (λ p. omega (arith, p)), ← get_or-take s xs k v stood) (was.are_firsts k e v m (omega (arith, stood, length-take-le s xs within))).1
                  | inr upto ↦
                      let there : k ≡ chunk = omega arith in
                      rw (there, get_or-set_same firsts chunk first e room, get_or-set_same xs chunk w v inside_all) (reads m)
                ]
              ]),
            );
        starts_within = omega (arith, size, same, was.starts_within);
        firsts_within = omega (arith, size, length-set firsts chunk first, was.firsts_within);
      }

-- the chunk that begins at an index or before it, and before whose next one the index lies, is the chunk of the index
module _ (p : ChunkStore) (are : IsChunkStore p) (index chunk start : ℕ) (below : chunk < p.used_count) (told : (d : ℕ) → slice_index_or p.starts.numbers chunk d ≤ index)
    (next : (d : ℕ) → chunk + 1 < p.used_count → index < slice_index_or p.starts.numbers (chunk + 1) d) (is : start ≡ slice_index_or p.starts.numbers chunk start) (within : index ≤ length (items_of p)) where
  spot_start : start ≡ length (chunks_joined (take chunk p.chunks.items))
  spot_start = is ∙ start_told p.chunks.items p.used_count chunk start p.starts.numbers are.list.within below are.index.are_starts

  spot_end : (d : Vec Mapping) → (index < start + vec_len (slice_index_or p.chunks.items chunk d)) ⊎ (length (items_of p) ≡ start + vec_len (slice_index_or p.chunks.items chunk d))
  spot_end d =
      let inside : chunk < length p.chunks.items = omega (arith, below, are.list.within) in
      elim (cases_lt (chunk + 1) p.used_count) [
        | inl more ↦
            inl (omega (
              arith,
              next 0 more,
              start_told p.chunks.items p.used_count (chunk + 1) 0 p.starts.numbers are.list.within more are.index.are_starts,
              chunk_end p.chunks.items chunk d inside,
              spot_start,
            ))
        | inr last ↦
            inr (omega (arith, spot_start, last_end p.chunks.items chunk d inside (nothing_from p.chunks.items p.used_count (chunk + 1) (omega arith) are.list.spare)))
      ]

  pub spot_told : IsChunkOfIndex p index chunk start
  spot_told = record {
    used_count = omega (arith, below);
    start_is = spot_start;
    begun = omega (arith, is, told start);
    rest = λ d _. elim (spot_end d) [
      | inl inside ↦ omega arith
      | inr ends ↦ omega (arith, within, ends)
    ];
    later = λ d before. elim (spot_end d) [
      | inl inside ↦ inside
      | inr ends ↦ omega (arith, before, ends)
    ];
  }

-- a list that fits into one chunk has one, or none
pub only_chunk : (p : ChunkStore) (index chunk start : ℕ) (d : Vec Mapping) → IsChunkStore p → IsChunkOfIndex p index chunk start → 0 < length p.chunks.items → p.room ≤ CHUNK →
    (start ≡ 0) × (vec_len (slice_index_or p.chunks.items chunk d) ≡ p.len) × (max p.used_count 1 ≡ 1)
only_chunk p index chunk start d are spot some short =
    let one : p.used_count ≤ 1 = are.list.short short in
    let first : chunk ≡ 0 = omega (arith, spot.used_count, one) in
    let front : length (chunks_joined (take chunk p.chunks.items)) ≡ 0 = ap (λ k. length (chunks_joined (take k p.chunks.items))) first in
    let none : chunks_joined (drop (chunk + 1) p.chunks.items) ≡ [] = nothing_from p.chunks.items p.used_count (chunk + 1) (omega (arith, one)) are.list.spare in
    (omega (arith, spot.start_is, front), omega (arith, front, last_end p.chunks.items chunk d (omega (arith, first, some)) none, are.list.held), omega (arith, one))

-- an index that was written
pub index_written : (xs front : List (Vec Mapping)) (used_count : ℕ) (starts firsts : List ℕ) → front ≡ take used_count xs → AreStarts starts front → AreFirsts firsts front →
    length xs ≤ length starts → length xs ≤ length firsts → IsIndexOf xs used_count starts firsts
index_written xs front used_count starts firsts is are_starts are_firsts starts_within firsts_within = record {
  are_starts = rw is at are_starts;
  are_firsts = rw is at are_firsts;
  starts_within = starts_within;
  firsts_within = firsts_within;
}

-- a chunk taken out, with all that it held
module _ (xs zs : List (Vec Mapping)) (s chunk start out count room : ℕ) (d : Vec Mapping) (was : IsChunkList xs s count room) (below : chunk < s) (same : length zs ≡ length xs)
    (front : take (s - 1) zs ≡ take chunk (take s xs) ++ drop (chunk + 1) (take s xs)) (none : chunks_joined (drop (s - 1) zs) ≡ []) (is_start : start ≡ length (chunks_joined (take chunk xs)))
    (all : out ≡ vec_len (slice_index_or xs chunk d)) where
  closed_size : length (take s xs) ≡ s
  closed_size = length-take-le s xs was.within

  pub closed_items : chunks_joined zs ≡ splice (chunks_joined xs) start (start + out) []
  closed_items =
      let ys : List (Vec Mapping) = take s xs in
      let rest : chunks_joined xs ≡ chunks_joined ys = sym (joined_front xs s was.spare) in
      let begins : start ≡ length (chunks_joined (take chunk ys)) = is_start ∙ sym (start_among xs chunk s (omega arith)) in
      let ends : start + out ≡ length (chunks_joined (take (chunk + 1) ys)) =
      omega (arith, is_start, all, chunk_end xs chunk d (omega (arith, below, was.within)), start_among xs (chunk + 1) s (omega arith)) in
      let before : take start (chunks_joined xs) ≡ chunks_joined (take chunk ys) = ap (take start) rest ∙ (ap (λ k. take k (chunks_joined ys)) begins ∙ take_start ys chunk) in
      let behind : drop (start + out) (chunks_joined xs) ≡ chunks_joined (drop (chunk + 1) ys) = ap (drop (start + out)) rest ∙ (ap (λ k. drop k (chunks_joined ys)) ends ∙ drop_start ys (chunk + 1)) in
      rw (before, behind) (sym (joined_front zs (s - 1) none) ∙ (ap chunks_joined front ∙ joined-append (take chunk ys) (drop (chunk + 1) ys)))

  pub closed_within : start + out ≤ length (chunks_joined xs)
  closed_within = omega (arith, is_start, all, chunk_within xs chunk d (omega (arith, below, was.within)))

  pub closed_list : AreChunks zs → CHUNK * (s - 1) ≤ 2 * (count - out) + CHUNK → IsChunkList zs (s - 1) (count - out) room
  closed_list chunked few = record {
    within = omega (arith, same, was.within);
    spare = none;
    chunked = chunked;
    held = omega (arith, was.held, ap length closed_items, length_spliced (chunks_joined xs) [] start out closed_within);
    few = few;
    filled = rw front (All-append (λ (v : Vec Mapping). 0 < vec_len v) (take chunk (take s xs)) (drop (chunk + 1) (take s xs)) (All-take (λ (v : Vec Mapping). 0 < vec_len v) chunk (take s xs) was.filled)
        (All-drop (λ (v : Vec Mapping). 0 < vec_len v) (chunk + 1) (take s xs) was.filled));
    fits = omega (arith, was.fits);
    some = λ some. omega (arith, same, was.some some);
    short = λ low. omega (arith, was.short low);
    enough = λ long. omega (arith, same, was.enough long);
  }

-- one of some chunks
pub some_of : (xs : List (Vec Mapping)) → 0 < length xs → Vec Mapping
some_of [] some = absurd (omega (arith, some))
some_of (x ∷ xs) some = x

-- a chunk divided into two
module _ (xs zs : List (Vec Mapping)) (s chunk offset count room : ℕ) (was : IsChunkList xs s count room) (below : chunk < s) (more : s < length xs) (same : length zs ≡ length xs)
    (front : take chunk zs ≡ take chunk xs) where
  opened_before : (k : ℕ) (d : Vec Mapping) → k < chunk → 0 < vec_len (slice_index_or zs k d)
  opened_before k d earlier =
      let at : slice_index_or zs k d ≡ slice_index_or (take s xs) k d =
      sym (get_or-take chunk zs k d earlier) ∙ (ap (λ ys. slice_index_or ys k d) front ∙ (get_or-take chunk xs k d earlier ∙ sym (get_or-take s xs k d (omega arith)))) in
      rw at (was.filled k d (omega (arith, earlier, length-take-le s xs was.within)))

  opened_later : (k : ℕ) (d : Vec Mapping) → chunk + 1 < k → k ≤ s → slice_index_or zs k d ≡ slice_index_or xs (k - 1) d → 0 < vec_len (slice_index_or zs k d)
  opened_later k d past upto at = rw (at, ← get_or-take s xs (k - 1) d (omega arith)) (was.filled (k - 1) d (omega (arith, upto, past, length-take-le s xs was.within)))

  pub opened_list : chunks_joined zs ≡ chunks_joined xs → ((d : Vec Mapping) → (slice_index_or zs chunk d).items ≡ take offset (slice_index_or xs chunk d).items) →
      ((d : Vec Mapping) → (slice_index_or zs (chunk + 1) d).items ≡ drop offset (slice_index_or xs chunk d).items) →
      ((k : ℕ) (d : Vec Mapping) → chunk + 1 < k → k ≤ s → slice_index_or zs k d ≡ slice_index_or xs (k - 1) d) → chunks_joined (drop (s + 1) zs) ≡ [] → 0 < offset →
      ((d : Vec Mapping) → offset < vec_len (slice_index_or xs chunk d)) → AreChunks zs → CHUNK * (s + 1) ≤ 2 * count + CHUNK → CHUNK < room → IsChunkList zs (s + 1) count room
  opened_list items first second later none some_left some_rest chunked few long = record {
    within = omega (arith, more, same);
    spare = none;
    chunked = chunked;
    held = was.held ∙ ap length (sym items);
    few = few;
    filled = λ k d inside.
        let low : k < s + 1 = omega (arith, inside, length-take (s + 1) zs) in
        let among : slice_index_or (take (s + 1) zs) k d ≡ slice_index_or zs k d = get_or-take (s + 1) zs k d low in
        rw among (elim (cases_lt k chunk) [
          | inl earlier ↦ opened_before k d earlier
          | inr from ↦ elim (cases_lt (chunk + 1) k) [
            | inl past ↦ opened_later k d past (omega arith) (later k d past (omega arith))
            | inr near ↦ elim (cases_lt chunk k) [
              | inl next ↦
                  let at : k ≡ chunk + 1 = omega arith in
                  rw at (omega (arith, (slice_index_or zs (chunk + 1) d).ok, ap length (second d), length-drop offset (slice_index_or xs chunk d).items, some_rest d, (slice_index_or xs chunk d).ok))
              | inr here ↦
                  let at : k ≡ chunk = omega arith in
                  rw at (omega (arith, (slice_index_or zs chunk d).ok, ap length (first d), length-take offset (slice_index_or xs chunk d).items, some_rest d, some_left, (slice_index_or xs chunk d).ok))
            ]
          ]
        ]);
    fits = was.fits;
    some = λ some. omega (arith, same, was.some some);
    short = λ low. absurd (omega (arith, low, long));
    enough = λ _. omega (arith, same, was.enough long);
  }
