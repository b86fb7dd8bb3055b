use Rattle.std.proofs.Common.{◌≡◌, ◌++◌, ◌∙◌, ℕ, List, Result, Ok, Err, IsOk, OnOk, ap, length-append, length-take, take, arith}
use Rattle.std.proofs.lemmas.Bool.{false≢true}
use Rattle.std.proofs.KnownBytes.{Consumes-trans}
use Rattle.gv_text.proofs.reading.read_script.Goals as goal

held_more : {T E : Type 0} (before after : Result T E) (old new read bytes : List ℕ) → OnOk before (old ≡ read) →
    OnOk after (new ≡ old ++ bytes) → OnOk after (IsOk before) → OnOk after (new ≡ read ++ bytes)
held_more before (Err error) old new read bytes held added was = tt
held_more (Err error) (Ok done) old new read bytes held added was = absurd (false≢true was)
held_more (Ok first) (Ok done) old new read bytes held added was = added ∙ ap (λ (front : List ℕ). front ++ bytes) held

pub loop-reads-preserved : goal.loop-reads-preserved
loop-reads-preserved g c =
    let inv = c.loop-reads.invariant in
    let chunk = take c.in_ok-count.count c.read_part.new.buffer in
    record {
      read = inv.read ++ chunk;
      counted = simp (length-append, length-take) (omega (arith, inv.counted, c.in_ok-count.ensures.bound));
      each_gave = omega (arith, inv.each_gave);
      short = omega arith;
      held = held_more _ _ _ _ inv.read chunk inv.held c.keep-kept.ensures.bytes c.keep-kept.ensures.before;
      so_far = Consumes-trans _ _ _ _ _ inv.so_far c.in_ok-count.ensures.bytes.0;
      counted_reads = omega (arith, inv.counted_reads, c.in_ok-count.ensures.counted);
      flag = c.in_ok-count.ensures.unset ∙ inv.flag;
    }

pub returns-then-len-count-clause-few : goal.returns-then-len-count-clause-few
returns-then-len-count-clause-few g c =
    let inv = c.loop-reads.invariant in record {
      taken = inv.read ++ take c.in_ok-count.count c.read_part.new.buffer;
      few = simp (length-append, length-take) (omega (arith, inv.counted, c.in_ok-count.ensures.bound));
      consumed = Consumes-trans _ _ _ _ _ inv.so_far c.in_ok-count.ensures.bytes.0;
    }
