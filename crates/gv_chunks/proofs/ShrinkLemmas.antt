-- What the parts of a list keep where chunks that hold nothing are given back.
use Rattle.std.proofs.Common.{◌≡◌, ℕ, ◌+◌, ◌*◌, ◌<◌, ◌≤◌, min, List, length, take, slice_index_or, arith, ◌∙◌, ap, sym}
use Rattle.std.proofs.lemmas.List.{take-take, length-take, get_or-take}
use Rattle.std.specs.Global.{Vec}
use Rattle.gv_types.specs.declared.mapping.Mapping.{Mapping}
use Rattle.gv_chunks.specs.Chunks.{chunks_joined}
use Rattle.gv_chunks.specs.Inside.{IsChunkList, IsIndexOf}
use Rattle.gv_chunks.specs.declared.TheConstants.{CHUNK}
use Rattle.gv_chunks.proofs.ChunkLemmas.{taken_chunks}
use Rattle.gv_chunks.proofs.MergedLemmas.{joined_front}
use Rattle.gv_chunks.proofs.PutLemmas.{nothing_from}
use Rattle.gv_chunks.proofs.RunLemmas.{none_in_front}

module _ (xs : List (Vec Mapping)) (s count len room least : ℕ) (was : IsChunkList xs s len room) (used_count : s ≤ count) where
  pub shrunk_items : chunks_joined (take count xs) ≡ chunks_joined xs
  shrunk_items = joined_front xs count (nothing_from xs s count used_count was.spare)

  pub shrunk_front : take s (take count xs) ≡ take s xs
  shrunk_front = take-take s count xs used_count

  pub shrunk_list : len ≤ least → least ≤ room → (least ≤ CHUNK → s ≤ 1) → (0 < least → 0 < count) → (CHUNK < least → 2 * least + 3 * CHUNK ≤ CHUNK * count) → IsChunkList (take count xs) s len least
  shrunk_list fits less short some enough =
      let size : length (take count xs) ≡ min count (length xs) = length-take count xs in
      record {
        within = omega (arith, size, was.within);
        spare = none_in_front xs s count used_count was.spare;
        chunked = taken_chunks count xs was.chunked;
        held = was.held ∙ ap length (sym shrunk_items);
        few = was.few;
        filled = rw shrunk_front was.filled;
        fits = fits;
        some = λ room_left. omega (arith, size, some room_left, was.some (omega (arith, room_left, less)));
        short = short;
        enough = λ long. omega (arith, size, enough long, was.enough (omega (arith, long, less)), less);
      }

  pub shrunk_index : (starts firsts now : List ℕ) → length now ≡ min count (length starts) → ((k d : ℕ) → k < count → k < length starts → slice_index_or now k d ≡ slice_index_or starts k d) →
      IsIndexOf xs s starts firsts → IsIndexOf (take count xs) s now (take count firsts)
  shrunk_index starts firsts now same kept index =
      let size : length (take count xs) ≡ min count (length xs) = length-take count xs in
      let sizes : length (take count firsts) ≡ min count (length firsts) = length-take count firsts in
      record {
        are_starts = rw shrunk_front (λ k d inside.
            let there = index.are_starts k d inside in
            let below : k < count = omega (arith, inside, length-take s xs, used_count) in (
              omega (arith, same, there.0, below),
              kept k d below there.0 ∙ there.1,
            ));
        are_firsts = rw shrunk_front (λ k d v m inside.
            let there = index.are_firsts k d v m inside in
            let below : k < count = omega (arith, inside, length-take s xs, used_count) in (
              omega (arith, sizes, there.0, below),
              get_or-take count firsts k d below ∙ there.1,
            ));
        starts_within = omega (arith, size, same, index.starts_within);
        firsts_within = omega (arith, size, sizes, index.firsts_within);
      }
