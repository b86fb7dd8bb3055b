use Rattle.std.proofs.Common.{◌≡◌, ◌+◌, ◌-◌, ◌++◌, ◌∙◌, ap, sym, length, take, drop, arith, refl, [], List}
use Rattle.std.proofs.Math.Seq.{take-add}
use Rattle.std.proofs.lemmas.List.{take-append-le}
use Rattle.std.specs.Global.{Vec}
use Rattle.gv_types.specs.declared.mapping.Mapping.{Mapping}
use Rattle.gv_chunks.specs.Chunks.{chunks_joined, AreChunks}
use Rattle.gv_chunks.proofs.ChunkLemmas.{dropped_chunks, appended_chunks}
use Rattle.gv_chunks.proofs.RunLemmas.{none_with_rest}
use Rattle.gv_chunks.proofs.chunk_row.retire_chunk.Goals as goal

pub returns-clause-used_count : goal.returns-clause-used_count
returns-clause-used_count c =
    let s = c.args.used_count in
    let f : List (Vec Mapping) = c.rotate_out.new.chunks in
    let b : List (Vec Mapping) = c.split_at_mut-used.result.1.now in
    let was : List (Vec Mapping) = c.split_at_mut-used.result.0.now in
    let size : length was ≡ s = c.split_at_mut-used.ensures.front_len in
    let same : length f ≡ s = omega (arith, size) in
    let cut : take (s - 1) (f ++ b) ≡ take (s - 1) f = take-append-le (s - 1) f b (omega arith) in
    let two : take (s - 1) f ≡ take c.args.chunk f ++ take (length was - (c.args.chunk + 1)) (drop c.args.chunk f) =
    ap (λ n. take n f) (omega (arith, size)) ∙ take-add c.args.chunk (length was - (c.args.chunk + 1)) f in
    let old : was ≡ take s c.args.chunks.now = c.split_at_mut-used.ensures.front in
    rw (cut, two, c.rotate_out.ensures.before, c.rotate_out.ensures.behind, old) refl

pub returns-clause-spare : goal.returns-clause-spare
returns-clause-spare c =
    let s = c.args.used_count in
    let f : List (Vec Mapping) = c.rotate_out.new.chunks in
    let b : List (Vec Mapping) = c.split_at_mut-used.result.1.now in
    let was : List (Vec Mapping) = c.split_at_mut-used.result.0.now in
    let size : length was ≡ s = c.split_at_mut-used.ensures.front_len in
    let here : chunks_joined (drop (s - 1) f) ≡ [] = ap (λ n. chunks_joined (drop (n - 1) f)) (sym size) ∙ c.rotate_out.ensures.spare in
    let rest : chunks_joined b ≡ [] = ap chunks_joined c.split_at_mut-used.ensures.back ∙ c.requires.spare in
    none_with_rest f b (s - 1) (omega (arith, size)) here rest

pub returns-clause-chunks : goal.returns-clause-chunks
returns-clause-chunks c =
    let xs = c.args.chunks.now in
    let back : AreChunks c.split_at_mut-used.result.1.now = rw c.split_at_mut-used.ensures.back (dropped_chunks c.args.used_count xs c.requires.chunks) in
    appended_chunks c.rotate_out.new.chunks c.split_at_mut-used.result.1.now c.rotate_out.ensures.chunks back
