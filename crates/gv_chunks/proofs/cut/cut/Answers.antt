use Rattle.std.proofs.Common.{◌≡◌, ◌++◌, ◌-◌, ◌∙◌, length, take, ap}
use Rattle.std.proofs.lemmas.List.{append-nil}
use Rattle.gv_chunks.specs.Chunks.{chunks_joined}
use Rattle.gv_chunks.proofs.ChunkLemmas.{joined_parts}
use Rattle.gv_chunks.proofs.cut.cut.Goals as goal

pub locate-chunk-requires-clause-within : goal.locate-chunk-requires-clause-within
locate-chunk-requires-clause-within c =
    let all : chunks_joined c.args.chunks.now ≡ chunks_joined (take (length c.args.chunks.now - 1) c.args.chunks.now) =
    joined_parts c.args.chunks.now (length c.args.chunks.now - 1) ∙ (ap (λ ms. chunks_joined (take (length c.args.chunks.now - 1) c.args.chunks.now) ++ ms) c.requires.spare ∙ append-nil _) in
    rw (← all) c.requires.within
