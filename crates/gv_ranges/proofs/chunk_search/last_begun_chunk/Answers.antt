use Rattle.std.proofs.Common.{◌+◌, arith}
use Rattle.gv_ranges.proofs.ChunkFirstPages.{first_within, chunks_begun, chunks_not_begun}
use Rattle.gv_ranges.proofs.chunk_search.last_begun_chunk.Goals as goal

pub bounds-firsts-last : goal.bounds-firsts-last
bounds-firsts-last c = first_within c.args.chunks.now c.args.firsts.now (c.loop-last.last + 1) c.requires.filled c.requires.firsts (omega arith)

pub loop-last-preserved : goal.loop-last-preserved
loop-last-preserved c =
    record {
      within = omega arith;
      begun = chunks_begun c.args.chunks.now c.args.firsts.now (c.loop-last.last + 1) 0 c.requires.filled c.requires.firsts c.requires.laid_out (omega arith) c.args.page (omega arith);
    }

pub returns-else-firsts-last-clause-not_begun : goal.returns-else-firsts-last-clause-not_begun
returns-else-firsts-last-clause-not_begun c =
    chunks_not_begun c.args.chunks.now c.args.firsts.now (c.loop-last.last + 1) 0 c.requires.filled c.requires.firsts c.requires.laid_out (omega arith) c.args.page (omega arith)
