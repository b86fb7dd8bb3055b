use Rattle.std.proofs.Common.{◌≡◌, ◌+◌, ◌-◌, ◌<◌, length, take, arith, ap}
use Rattle.std.proofs.lemmas.List.{length-take-le}
use Rattle.std.specs.Global.{Vec}
use Rattle.gv_types.specs.declared.mapping.Mapping.{Mapping}
use Rattle.gv_chunks.specs.Chunks.{chunks_joined}
use Rattle.gv_chunks.proofs.StartLemmas.{start_within, end_of_chunk}
use Rattle.gv_chunks.proofs.IndexLemmas.{start_among}
use Rattle.gv_chunks.proofs.index.end_of.Goals as goal

pub overflow_add-result : goal.overflow_add-result
overflow_add-result c =
    let xs = c.args.chunks.now in
    let within : c.args.chunk - 1 < length xs = omega (arith, c.requires.within, c.if-chunk-eq0.false) in
    let at = c.requires.starts (c.args.chunk - 1) 0 (omega (arith, length-take-le c.args.chunk xs c.requires.within)) in
    let before : length (chunks_joined (take (c.args.chunk - 1) (take c.args.chunk xs))) ≡ length (chunks_joined (take (c.args.chunk - 1) xs)) = start_among xs (c.args.chunk - 1) c.args.chunk (omega arith) in
    let more : length (chunks_joined (take (c.args.chunk - 1 + 1) xs)) ≡ length (chunks_joined (take (c.args.chunk - 1) xs)) + length c.index-chunks-chunk.result.items =
    end_of_chunk xs (c.args.chunk - 1) c.index-chunks-chunk.result c.index-chunks-chunk.result.items within (ap (λ (v : Vec Mapping). v.items) c.index-chunks-chunk.is) in
    omega (arith, at.1, before, more, start_within xs (c.args.chunk - 1 + 1), c.len.ensures, c.index-chunks-chunk.result.ok, c.requires.few)

pub returns : goal.returns
returns c =
    let xs = c.args.chunks.now in
    let within : c.args.chunk - 1 < length xs = omega (arith, c.requires.within, c.if-chunk-eq0.false) in
    let at = c.requires.starts (c.args.chunk - 1) 0 (omega (arith, length-take-le c.args.chunk xs c.requires.within)) in
    let before : length (chunks_joined (take (c.args.chunk - 1) (take c.args.chunk xs))) ≡ length (chunks_joined (take (c.args.chunk - 1) xs)) = start_among xs (c.args.chunk - 1) c.args.chunk (omega arith) in
    let more : length (chunks_joined (take (c.args.chunk - 1 + 1) xs)) ≡ length (chunks_joined (take (c.args.chunk - 1) xs)) + length c.index-chunks-chunk.result.items =
    end_of_chunk xs (c.args.chunk - 1) c.index-chunks-chunk.result c.index-chunks-chunk.result.items within (ap (λ (v : Vec Mapping). v.items) c.index-chunks-chunk.is) in
    let here : length (chunks_joined (take (c.args.chunk - 1 + 1) xs)) ≡ length (chunks_joined (take c.args.chunk xs)) = ap (λ n. length (chunks_joined (take n xs))) (omega arith) in
    omega (arith, at.1, before, more, here, c.len.ensures, c.index-chunks-chunk.result.ok)
