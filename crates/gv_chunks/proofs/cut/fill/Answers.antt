use Rattle.std.proofs.Common.{◌≡◌, ◌+◌, ◌∙◌, ◌<◌, arith, vec_capacity, length}
use Rattle.std.proofs.lemmas.List.{drop-set-lt, length-set, take-append-drop}
use Rattle.gv_chunks.specs.declared.TheConstants.{CHUNK}
use Rattle.gv_chunks.proofs.ChunkLemmas.{filled_more, nothing_later, changed_chunks}
use Rattle.gv_chunks.proofs.cut.fill.Goals as goal

pub loop-i-preserved : goal.loop-i-preserved
loop-i-preserved c =
    let within : c.loop-i.i < length c.loop-i.chunks = omega arith in
    let room : vec_capacity c.append.new.items ≡ CHUNK = c.append.ensures.room ∙ c.loop-i.invariant.chunks c.loop-i.i c.index-chunks-i.result within in
    record {
      items = filled_more c.loop-i.chunks c.loop-i.i c.index-chunks-i.result c.append.new.items _ c.split_at.result.1.now c.loop-i.rest.now c.args.pieces.now within c.loop-i.invariant.empty c.append.ensures.items
          (rw (c.split_at.ensures.front, c.split_at.ensures.back) (take-append-drop c.min.result c.loop-i.rest.now)) c.loop-i.invariant.items;
      room = omega (arith, length-set c.loop-i.chunks c.loop-i.i c.append.new.items);
      empty = rw (drop-set-lt (c.loop-i.i + 1) c.loop-i.chunks c.loop-i.i c.append.new.items (omega arith)) (nothing_later c.loop-i.chunks c.loop-i.i c.index-chunks-i.result within c.loop-i.invariant.empty);
      chunks = changed_chunks c.loop-i.chunks c.loop-i.i c.append.new.items room c.loop-i.invariant.chunks;
    }
