-- A list in chunks that got more chunks, or of which a run was replaced.
use Rattle.std.proofs.Common.{slice_index_or, vec_len, ◌≡◌, ℕ, ◌+◌, ◌-◌, ◌*◌, ◌<◌, ◌≤◌, List, [], ◌∷◌, ◌++◌, length, take, drop, ◌⊎◌, inl, inr, arith, refl, ◌∙◌, ap, sym}
use Rattle.std.proofs.lemmas.List.{take-append-drop, take-append-le, length-append, length-take-le, length-drop}
use Rattle.std.specs.List.{splice}
use Rattle.std.specs.Global.{Vec}
use Rattle.gv_types.specs.declared.mapping.Mapping.{Mapping}
use Rattle.gv_chunks.specs.Chunks.{chunks_joined, AreChunks, AreMerged}
use Rattle.gv_chunks.specs.Inside.{IsChunkList}
use Rattle.gv_chunks.specs.declared.TheConstants.{CHUNK}
use Rattle.gv_chunks.proofs.MergedLemmas.{filled_merged}
use Rattle.gv_chunks.proofs.RunLemmas.{joined_with_rest, none_with_rest}

-- chunks that were added stand behind the others
pub added_behind : (old new : List (Vec Mapping)) → take (length old) new ≡ old → new ≡ old ++ drop (length old) new
added_behind old new kept = sym (take-append-drop (length old) new) ∙ ap (λ xs. xs ++ drop (length old) new) kept

-- and hold nothing
pub joined_added : (old new : List (Vec Mapping)) → take (length old) new ≡ old → chunks_joined (drop (length old) new) ≡ [] → chunks_joined new ≡ chunks_joined old
joined_added old new kept none = ap chunks_joined (added_behind old new kept) ∙ joined_with_rest old (drop (length old) new) none

-- with them there may be more room
pub added_to : (old new : List (Vec Mapping)) (used_count count room wanted : ℕ) → take (length old) new ≡ old → chunks_joined (drop (length old) new) ≡ [] → (AreChunks old → AreChunks new) →
    IsChunkList old used_count count room → room ≤ wanted → (0 < wanted → 0 < length new) → (CHUNK < wanted → 2 * wanted + 3 * CHUNK ≤ CHUNK * length new) → IsChunkList new used_count count wanted
added_to old new used_count count room wanted kept none chunked was more some enough =
    let whole : new ≡ old ++ drop (length old) new = added_behind old new kept in
    let size : length new ≡ length old + length (drop (length old) new) = ap length whole ∙ length-append old (drop (length old) new) in
    let front : take used_count new ≡ take used_count old = ap (take used_count) whole ∙ take-append-le used_count old (drop (length old) new) was.within in
    record {
      within = omega (arith, was.within);
      spare = ap (λ xs. chunks_joined (drop used_count xs)) whole ∙ none_with_rest old (drop (length old) new) used_count was.within was.spare none;
      chunked = chunked was.chunked;
      held = was.held ∙ ap length (sym (joined_added old new kept none));
      few = was.few;
      filled = rw front was.filled;
      fits = omega (arith, was.fits);
      some = some;
      short = λ low. was.short (omega arith);
      enough = enough;
    }

-- the chunks there are stay enough where others are added
pub still_list : (old new : List (Vec Mapping)) (used_count count room : ℕ) → take (length old) new ≡ old → chunks_joined (drop (length old) new) ≡ [] → (AreChunks old → AreChunks new) →
    IsChunkList old used_count count room → IsChunkList new used_count count room
still_list old new used_count count room kept none chunked was =
    let size : length new ≡ length old + length (drop (length old) new) = ap length (added_behind old new kept) ∙ length-append old (drop (length old) new) in
    added_to old new used_count count room room kept none chunked was (omega arith) (λ some. omega (arith, size, was.some some)) (λ long. omega (arith, size, was.enough long))

-- how much is held where a run was replaced
pub length_spliced : (xs pieces : List Mapping) (index count : ℕ) → index + count ≤ length xs → length (splice xs index (index + count) pieces) ≡ length xs - count + length pieces
length_spliced xs pieces index count within =
    omega (arith, length-append (take index xs) (pieces ++ drop (index + count) xs), length-append pieces (drop (index + count) xs), length-take-le index xs (omega arith), length-drop (index + count) xs)

-- merged chunks that hold something are the chunks of a long list
pub some_in_chunks : (xs : List (Vec Mapping)) (used count room : ℕ) → used ≤ length xs → chunks_joined (drop used xs) ≡ [] → AreChunks xs → AreMerged (take used xs) →
    CHUNK * used ≤ 2 * length (chunks_joined xs) + CHUNK → count ≡ length (chunks_joined xs) → 0 < count → count ≤ room → CHUNK < room → 2 * room + 3 * CHUNK ≤ CHUNK * length xs → IsChunkList xs used count room
some_in_chunks xs used count room within none chunked merged few held some_held fits long enough = record {
  within = within;
  spare = none;
  chunked = chunked;
  held = held;
  few = omega (arith, few, held);
  filled = filled_merged xs used within chunked merged none (omega (arith, held, some_held));
  fits = fits;
  some = λ _. omega (arith, long, enough);
  short = λ low. absurd (omega (arith, low, long));
  enough = λ _. enough;
}

nil_of_length : (ms : List Mapping) → length ms ≡ 0 → ms ≡ []
nil_of_length [] size = refl
nil_of_length (m ∷ ms) size = absurd (omega (arith, size))

-- and where nothing is held, no chunk stands
pub none_in_chunks : (xs : List (Vec Mapping)) (count room : ℕ) → AreChunks xs → count ≡ length (chunks_joined xs) → count ≡ 0 → (0 < room → 0 < length xs) → (CHUNK < room → 2 * room + 3 * CHUNK ≤ CHUNK * length xs) →
    IsChunkList xs 0 count room
none_in_chunks xs count room chunked held none some enough = record {
  within = omega arith;
  spare = nil_of_length (chunks_joined xs) (sym held ∙ none);
  chunked = chunked;
  held = held;
  few = omega arith;
  filled = λ k d inside. absurd (omega (arith, inside));
  fits = omega (arith, none);
  some = some;
  short = λ _. omega arith;
  enough = enough;
}

-- a piece that begins before the end of its chunk holds something
pub some_piece : (xs : List (Vec Mapping)) (chunk behind count : ℕ) → 0 < length xs → 0 < behind → ((d : Vec Mapping) → behind ≤ vec_len (slice_index_or xs chunk d)) →
    ((d : Vec Mapping) → count + (behind - 1) ≡ vec_len (slice_index_or xs chunk d)) → 0 < count
some_piece [] chunk behind count some_left past fits is = absurd (omega (arith, some_left))
some_piece (x ∷ xs) chunk behind count some_left past fits is = omega (arith, past, fits x, is x)

-- a run of a long list replaced, wherever it lies
pub replaced_list : (xs zs : List (Vec Mapping)) (s used now count room index out : ℕ) (pieces : List Mapping) → IsChunkList xs s count room → CHUNK < room → index + out ≤ length (chunks_joined xs) →
    count + length pieces ≤ room + out → length zs ≡ length xs → chunks_joined zs ≡ splice (chunks_joined xs) index (index + out) pieces → used ≤ length zs → chunks_joined (drop used zs) ≡ [] → AreChunks zs → AreMerged (take used zs) →
    CHUNK * used ≤ 2 * length (chunks_joined zs) + CHUNK →
    (((now ≡ 0) × (count - out + length pieces ≡ 0)) ⊎ ((now ≡ used) × (0 < count - out + length pieces))) → IsChunkList zs now (count - out + length pieces) room
replaced_list xs zs s used now count room index out pieces was long within enough same items below none chunked merged few which =
    let held : count - out + length pieces ≡ length (chunks_joined zs) = omega (arith, was.held, ap length items, length_spliced (chunks_joined xs) pieces index out within) in
    let room_left : 2 * room + 3 * CHUNK ≤ CHUNK * length zs = rw same (was.enough long) in
    elim which [
      | inl empty ↦ rw empty.0 (none_in_chunks zs (count - out + length pieces) room chunked held empty.1 (λ some. omega (arith, same, was.some some)) (λ _. room_left))
      | inr some ↦ rw some.0 (some_in_chunks zs used (count - out + length pieces) room below none chunked merged few held some.1 (omega (arith, enough, within, was.held)) long room_left)
    ]
