use Rattle.std.proofs.Common.{arith}
use Rattle.gv_chunks.proofs.StoreLemmas.{spot_told}
use Rattle.gv_chunks.proofs.store.ChunkStore.find.Goals as goal

pub returns-in-Some : goal.returns-in-Some
returns-in-Some c =
    let hint = c.in-Some.ensures in
    spot_told c.args.self.now c.requires.store c.args.spot.index c.args.spot.hint c.in-Some.start hint.within (λ d. omega (arith, hint.start d, hint.begun)) hint.next (hint.start c.in-Some.start) c.requires.within
