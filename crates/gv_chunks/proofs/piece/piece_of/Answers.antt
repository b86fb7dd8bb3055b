use Rattle.std.proofs.Common.{◌≤◌, ◌∙◌, length, drop, slice_index_or, ap}
use Rattle.std.proofs.lemmas.List.{take_rest}
use Rattle.std.specs.Global.{Vec}
use Rattle.gv_types.specs.declared.mapping.Mapping.{Mapping}
use Rattle.gv_chunks.proofs.ChunkLemmas.{piece_at}
use Rattle.gv_chunks.proofs.piece.piece_of.Goals as goal

pub returns-clause-value : goal.returns-clause-value
returns-clause-value c =
    let fits : c.args.offset ≤ length (slice_index_or c.args.chunks.now c.args.chunk c.index-chunks-chunk.result).items =
    rw (← (slice_index_or c.args.chunks.now c.args.chunk c.index-chunks-chunk.result).ok.0) (c.requires.within c.index-chunks-chunk.result) in
    piece_at c.args.chunks.now c.args.chunk c.args.offset c.index-chunks-chunk.result _ c.requires.chunk fits
    (take_rest c.deref.result.now c.args.offset ∙ (ap (drop c.args.offset) c.deref.ensures.value ∙ ap (λ (v : Vec Mapping). drop c.args.offset v.items) c.index-chunks-chunk.is))
