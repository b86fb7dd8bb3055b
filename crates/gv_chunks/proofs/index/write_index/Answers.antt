use Rattle.std.proofs.Common.{◌≡◌, ◌+◌, ◌<◌, ◌∙◌, length, take, arith, ap}
use Rattle.std.proofs.Math.ListN.{length-set}
use Rattle.std.specs.Global.{Vec}
use Rattle.gv_types.specs.declared.mapping.Mapping.{Mapping}
use Rattle.gv_chunks.specs.Chunks.{chunks_joined}
use Rattle.gv_chunks.proofs.StartLemmas.{start_within, end_of_chunk}
use Rattle.gv_chunks.proofs.IndexLemmas.{start_written, first_written, first_read}
use Rattle.gv_chunks.proofs.index.write_index.Goals as goal

pub overflow_add-start : goal.overflow_add-start
overflow_add-start c =
    let xs = c.args.chunks.now in
    let within : c.loop-k.k < length xs = omega arith in
    let more : length (chunks_joined (take (c.loop-k.k + 1) xs)) ≡ length (chunks_joined (take c.loop-k.k xs)) + length c.index-chunks-k-in-loop-k.result.items =
    end_of_chunk xs c.loop-k.k c.index-chunks-k-in-loop-k.result c.index-chunks-k-in-loop-k.result.items within (ap (λ (v : Vec Mapping). v.items) c.index-chunks-k-in-loop-k.is) in
    omega (arith, c.loop-k.invariant.start, more, start_within xs (c.loop-k.k + 1), c.len-start.ensures, c.index-chunks-k-in-loop-k.result.ok, c.requires.few)

pub loop-k-preserved : goal.loop-k-preserved
loop-k-preserved c =
    let xs = c.args.chunks.now in
    let inv = c.loop-k.invariant in
    let within : c.loop-k.k < length xs = omega arith in
    let more : length (chunks_joined (take (c.loop-k.k + 1) xs)) ≡ length (chunks_joined (take c.loop-k.k xs)) + length c.index-chunks-k-in-loop-k.result.items =
    end_of_chunk xs c.loop-k.k c.index-chunks-k-in-loop-k.result c.index-chunks-k-in-loop-k.result.items within (ap (λ (v : Vec Mapping). v.items) c.index-chunks-k-in-loop-k.is) in
    record {
      starts = start_written c.loop-k.starts.numbers c.set.new.self.numbers xs c.loop-k.k c.loop-k.start within (omega (arith, inv.starts_len, c.requires.starts_within)) inv.start c.set.ensures.len c.set.ensures.here c.set.ensures.others inv.starts;
      firsts = first_written c.loop-k.firsts xs c.loop-k.k c.first.result within (omega (arith, inv.firsts_len, c.requires.firsts_within)) (λ v m. first_read xs c.loop-k.k c.index-chunks-k.result v c.index.result.now m c.first.result c.requires.filled within c.index-chunks-k.is c.index.ensures c.first.ensures.value) inv.firsts;
      start = omega (arith, more, inv.start, c.len-start.ensures, c.index-chunks-k-in-loop-k.result.ok);
      starts_len = c.set.ensures.len ∙ inv.starts_len;
      capacities = c.set.ensures.capacities ∙ inv.capacities;
      firsts_len = length-set c.loop-k.firsts c.loop-k.k c.first.result ∙ inv.firsts_len;
    }
