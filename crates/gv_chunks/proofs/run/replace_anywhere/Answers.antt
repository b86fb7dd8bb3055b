use Rattle.std.proofs.Common.{◌≡◌, ◌+◌, ◌∙◌, ◌++◌, [], take, drop, length, arith, ap, sym}
use Rattle.std.proofs.lemmas.List.{length-append, length-take-le, take-append-le}
use Rattle.std.specs.List.{splice}
use Rattle.gv_chunks.specs.Chunks.{chunks_joined, AreChunks}
use Rattle.gv_chunks.proofs.ChunkLemmas.{taken_chunks, dropped_chunks, appended_chunks}
use Rattle.gv_chunks.proofs.MergedLemmas.{joined_front}
use Rattle.gv_chunks.proofs.PutLemmas.{nothing_from}
use Rattle.gv_chunks.proofs.RunLemmas.{none_in_front, joined_with_rest, none_with_rest, out_then_in}
use Rattle.gv_chunks.proofs.run.replace_anywhere.Goals as goal

pub put_in_run-requires : goal.put_in_run-requires
put_in_run-requires c =
    let rest : chunks_joined c.split_at_mut-used.result.1.now ≡ [] = ap chunks_joined c.split_at_mut-used.ensures.back ∙ nothing_from c.args.chunks.now c.args.used_count (c.args.used_count + 2) (omega arith) c.requires.spare in
    let none : chunks_joined (drop c.take_out_run-remaining.result (c.take_out_run-remaining.new.chunks ++ c.split_at_mut-used.result.1.now)) ≡ [] =
    none_with_rest c.take_out_run-remaining.new.chunks c.split_at_mut-used.result.1.now c.take_out_run-remaining.result c.take_out_run-remaining.ensures.within c.take_out_run-remaining.ensures.spare rest in
    let before : chunks_joined c.split_at_mut-used.result.0.now ≡ chunks_joined c.args.chunks.now = ap chunks_joined c.split_at_mut-used.ensures.front ∙ joined_front c.args.chunks.now (c.args.used_count + 2) (sym (ap chunks_joined c.split_at_mut-used.ensures.back) ∙ rest) in
    let behind : AreChunks c.split_at_mut-used.result.1.now = rw c.split_at_mut-used.ensures.back (dropped_chunks (c.args.used_count + 2) c.args.chunks.now c.requires.chunks) in
    let mid : chunks_joined c.take_out_run-remaining.new.chunks ≡ take c.args.index (chunks_joined c.args.chunks.now) ++ drop (c.args.index + c.args.out_count) (chunks_joined c.args.chunks.now) = rw before at c.take_out_run-remaining.ensures.items in
    let later : chunks_joined (drop (c.take_out_run-remaining.result + 1 + c.div_ceil.result) (c.take_out_run-remaining.new.chunks ++ c.split_at_mut-used.result.1.now)) ≡ [] =
    nothing_from (c.take_out_run-remaining.new.chunks ++ c.split_at_mut-used.result.1.now) c.take_out_run-remaining.result _ (omega arith) none in
    let now : chunks_joined c.split_at_mut-used-2.result.0.now ≡ chunks_joined c.take_out_run-remaining.new.chunks = ap chunks_joined c.split_at_mut-used-2.ensures.front ∙ (joined_front (c.take_out_run-remaining.new.chunks ++ c.split_at_mut-used.result.1.now) _ later ∙ joined_with_rest c.take_out_run-remaining.new.chunks c.split_at_mut-used.result.1.now rest) in
    record {
      room = omega arith;
      spare = rw c.split_at_mut-used-2.ensures.front (none_in_front (c.take_out_run-remaining.new.chunks ++ c.split_at_mut-used.result.1.now) c.take_out_run-remaining.result (c.take_out_run-remaining.result + 1 + c.div_ceil.result) (omega arith) none);
      within = omega (arith, ap length (now ∙ mid), length-append (take c.args.index (chunks_joined c.args.chunks.now)) (drop (c.args.index + c.args.out_count) (chunks_joined c.args.chunks.now)), length-take-le c.args.index (chunks_joined c.args.chunks.now) (omega arith));
      chunks = rw c.split_at_mut-used-2.ensures.front (taken_chunks (c.take_out_run-remaining.result + 1 + c.div_ceil.result) (c.take_out_run-remaining.new.chunks ++ c.split_at_mut-used.result.1.now)
          (appended_chunks c.take_out_run-remaining.new.chunks c.split_at_mut-used.result.1.now c.take_out_run-remaining.ensures.chunks behind));
    }

pub returns : goal.returns
returns c =
    let rest : chunks_joined c.split_at_mut-used.result.1.now ≡ [] = ap chunks_joined c.split_at_mut-used.ensures.back ∙ nothing_from c.args.chunks.now c.args.used_count (c.args.used_count + 2) (omega arith) c.requires.spare in
    let none : chunks_joined (drop c.take_out_run-remaining.result (c.take_out_run-remaining.new.chunks ++ c.split_at_mut-used.result.1.now)) ≡ [] =
    none_with_rest c.take_out_run-remaining.new.chunks c.split_at_mut-used.result.1.now c.take_out_run-remaining.result c.take_out_run-remaining.ensures.within c.take_out_run-remaining.ensures.spare rest in
    let before : chunks_joined c.split_at_mut-used.result.0.now ≡ chunks_joined c.args.chunks.now = ap chunks_joined c.split_at_mut-used.ensures.front ∙ joined_front c.args.chunks.now (c.args.used_count + 2) (sym (ap chunks_joined c.split_at_mut-used.ensures.back) ∙ rest) in
    let behind : AreChunks c.split_at_mut-used.result.1.now = rw c.split_at_mut-used.ensures.back (dropped_chunks (c.args.used_count + 2) c.args.chunks.now c.requires.chunks) in
    let mid : chunks_joined c.take_out_run-remaining.new.chunks ≡ take c.args.index (chunks_joined c.args.chunks.now) ++ drop (c.args.index + c.args.out_count) (chunks_joined c.args.chunks.now) = rw before at c.take_out_run-remaining.ensures.items in
    let later : chunks_joined (drop (c.take_out_run-remaining.result + 1 + c.div_ceil.result) (c.take_out_run-remaining.new.chunks ++ c.split_at_mut-used.result.1.now)) ≡ [] =
    nothing_from (c.take_out_run-remaining.new.chunks ++ c.split_at_mut-used.result.1.now) c.take_out_run-remaining.result _ (omega arith) none in
    let now : chunks_joined c.split_at_mut-used-2.result.0.now ≡ chunks_joined c.take_out_run-remaining.new.chunks = ap chunks_joined c.split_at_mut-used-2.ensures.front ∙ (joined_front (c.take_out_run-remaining.new.chunks ++ c.split_at_mut-used.result.1.now) _ later ∙ joined_with_rest c.take_out_run-remaining.new.chunks c.split_at_mut-used.result.1.now rest) in
    let last : chunks_joined c.split_at_mut-used-2.result.1.now ≡ [] = ap chunks_joined c.split_at_mut-used-2.ensures.back ∙ later in
    let all : chunks_joined (c.put_in_run.new.chunks ++ c.split_at_mut-used-2.result.1.now) ≡ chunks_joined c.put_in_run.new.chunks = joined_with_rest c.put_in_run.new.chunks c.split_at_mut-used-2.result.1.now last in
    let put : chunks_joined c.put_in_run.new.chunks ≡ splice (chunks_joined c.args.chunks.now) c.args.index (c.args.index + c.args.out_count) c.args.pieces.now =
    c.put_in_run.ensures.items ∙ (ap (λ ms. splice ms c.args.index c.args.index c.args.pieces.now) now ∙ out_then_in (chunks_joined c.args.chunks.now) (chunks_joined c.take_out_run-remaining.new.chunks) c.args.pieces.now c.args.index (c.args.index + c.args.out_count) (omega arith) mid) in
    let there : AreChunks c.split_at_mut-used-2.result.1.now = rw c.split_at_mut-used-2.ensures.back (dropped_chunks (c.take_out_run-remaining.result + 1 + c.div_ceil.result) (c.take_out_run-remaining.new.chunks ++ c.split_at_mut-used.result.1.now)
    (appended_chunks c.take_out_run-remaining.new.chunks c.split_at_mut-used.result.1.now c.take_out_run-remaining.ensures.chunks behind)) in
    let front : take c.put_in_run.result (c.put_in_run.new.chunks ++ c.split_at_mut-used-2.result.1.now) ≡ take c.put_in_run.result c.put_in_run.new.chunks = take-append-le c.put_in_run.result c.put_in_run.new.chunks c.split_at_mut-used-2.result.1.now c.put_in_run.ensures.within in
    record {
      items = all ∙ put;
      within = omega arith;
      spare = none_with_rest c.put_in_run.new.chunks c.split_at_mut-used-2.result.1.now c.put_in_run.result c.put_in_run.ensures.within c.put_in_run.ensures.spare last;
      merged = rw front c.put_in_run.ensures.merged;
      few = rw all c.put_in_run.ensures.few;
      chunks = appended_chunks c.put_in_run.new.chunks c.split_at_mut-used-2.result.1.now c.put_in_run.ensures.chunks there;
    }
