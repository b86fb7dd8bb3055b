-- Whether a line is bad is the same in states that are the same, bare of memory, and no bad line is run.
use Rattle.std.proofs.Common.{◌≡◌, ◌<◌, ℕ, List, length, Option, Some, None, IsSome, false, refl, sym, ◌∙◌, subst}
use Rattle.std.specs.Prelude.{IsSomeAnd}
use Rattle.gv_types.specs.Bounds.{BoundsState, byte_area}
use Rattle.gv_sync.specs.Seats.{most_timelines}
use Rattle.gv_lines.specs.OptionSteps.{all_read}
use Rattle.gv_lines.specs.Clause.{operations_of, waits_of, signals_of}
use Rattle.gv_lines.specs.Grammar.{parsed}
use Rattle.gv_lines.specs.declared.line.Line.{Line}
use Rattle.gv_lines.specs.declared.line.Line.TheVariants as line
use Rattle.gv_session.specs.Requests.{op_named, point_named}
use Rattle.gv_session.specs.Line.{Written, Of, MaySetLimits, MaySetBounds, SetsBounds, Runs, IsGood, RunsText, IsGoodText}
use Rattle.gv_session.specs.State.{SessionState, Buffers, buffer_named, timeline_named}
use Rattle.gv_text.proofs.AlikeStates.{AreAlikeStates, WriteAlike}
use Rattle.gv_text.proofs.AlikeLines.{line_alike}

some_of : {X : Type 0} (o : Option X) (x : X) → o ≡ Some x → IsSome o
some_of o x is = subst (λ p. IsSome p) (sym is) refl

there_of : {X : Type 0} (o : Option X) (P : X → Type 0) → Of o P → IsSome o
there_of None P it = absurd it
there_of (Some x) P it = refl

bounds_there : (asked : Option BoundsState) (s : SessionState) (w : Written) (t : SessionState) → SetsBounds asked s w t → MaySetBounds asked s
bounds_there None s w t here = absurd here.1
bounds_there (Some area) s w t here = (here.0, refl)

-- a line that is run is not bad
good_if_run : (l : Line) (s t : SessionState) (w : Written) → Runs l s w t → IsGood l s
good_if_run line.Silent s t w here = tt
good_if_run (line.Space start len reserved_start reserved_len) s t w here = bounds_there (byte_area start len reserved_start reserved_len) s w t here
good_if_run (line.Limits buffers mappings items) s t w here = (here.0, here.1)
good_if_run (line.Buffer name pages) s t w here = here.undeclared
good_if_run (line.Destroy name) s t w here = there_of (buffer_named s.buffers name) _ here
good_if_run (line.Uses name) s t w here = there_of (buffer_named s.buffers name) _ here
good_if_run (line.Timeline name) s t w here = (here.0, here.1)
good_if_run (line.Raise point) s t w here = there_of (point_named s.timelines point) _ here
good_if_run (line.Value name) s t w here = there_of (timeline_named s.timelines name) _ here
good_if_run (line.Bind clauses) s t w here = record {
  ops = some_of (all_read (op_named s.buffers) (operations_of clauses)) here.request.ops.items here.asked.ops;
  waits = some_of (all_read (point_named s.timelines) (waits_of clauses)) here.request.waits.items here.asked.waits;
  signals = some_of (all_read (point_named s.timelines) (signals_of clauses)) here.request.signals.items here.asked.signals;
}
good_if_run (line.Plan operation) s t w here = there_of (op_named s.buffers operation) _ here
good_if_run line.Map s t w here = tt
good_if_run (line.At addr) s t w here = tt
good_if_run line.Tables s t w here = tt
good_if_run line.Rewind s t w here = tt
good_if_run line.Journal s t w here = tt
good_if_run (line.Withdraw entry) s t w here = tt
good_if_run (line.Settle to) s t w here = tt
good_if_run (line.Told queue) s t w here = here.0
good_if_run (line.Job accesses) s t w here = tt
good_if_run (line.End job) s t w here = tt

module _ (s s' : SessionState) (alike : AreAlikeStates s s') where
  -- what a buffer's name is asked for
  by_buffers : (P : Buffers → Type 0) → P s.buffers → P s'.buffers
  by_buffers P it = subst P alike.buffers it

  -- what a timeline's name is asked for
  by_timelines : (P : List (List ℕ) → Type 0) → P s.timelines → P s'.timelines
  by_timelines P it = subst P alike.timelines it

  good_alike : (l : Line) → IsGood l s → IsGood l s'
  good_alike line.Silent good = tt
  good_alike (line.Space start len reserved_start reserved_len) good = (sym alike.stage ∙ good.0, good.1)
  good_alike (line.Limits buffers mappings items) good = (subst MaySetLimits alike.stage good.0, good.1)
  good_alike (line.Buffer name pages) good = by_buffers (λ buffers. buffer_named buffers name ≡ None) good
  good_alike (line.Destroy name) good = by_buffers (λ buffers. IsSome (buffer_named buffers name)) good
  good_alike (line.Uses name) good = by_buffers (λ buffers. IsSome (buffer_named buffers name)) good
  good_alike (line.Timeline name) good = by_timelines (λ timelines. (timeline_named timelines name ≡ None) × (length timelines < most_timelines)) good
  good_alike (line.Raise point) good = by_timelines (λ timelines. IsSome (point_named timelines point)) good
  good_alike (line.Value name) good = by_timelines (λ timelines. IsSome (timeline_named timelines name)) good
  good_alike (line.Bind clauses) good = record {
    ops = by_buffers (λ buffers. IsSome (all_read (op_named buffers) (operations_of clauses))) good.ops;
    waits = by_timelines (λ timelines. IsSome (all_read (point_named timelines) (waits_of clauses))) good.waits;
    signals = by_timelines (λ timelines. IsSome (all_read (point_named timelines) (signals_of clauses))) good.signals;
  }
  good_alike (line.Plan operation) good = by_buffers (λ buffers. IsSome (op_named buffers operation)) good
  good_alike line.Map good = tt
  good_alike (line.At addr) good = tt
  good_alike line.Tables good = tt
  good_alike line.Rewind good = tt
  good_alike line.Journal good = tt
  good_alike (line.Withdraw entry) good = tt
  good_alike (line.Settle to) good = tt
  good_alike (line.Told queue) good = good
  good_alike (line.Job accesses) good = tt
  good_alike (line.End job) good = tt

-- Lines as they stand in a script.

read_good : (o : Option Line) (s s' t : SessionState) (w : Written) → AreAlikeStates s s' → IsSomeAnd o (λ l. Runs l s w t) → IsSomeAnd o (λ l. IsGood l s')
read_good None s s' t w alike here = absurd here
read_good (Some l) s s' t w alike here = good_alike s s' alike l (good_if_run l s t w here)

-- a line that one of them runs is not bad in the other
pub text_good : (text : List ℕ) (s s' t : SessionState) (w : Written) → AreAlikeStates s s' → RunsText text s w t → IsGoodText text s'
text_good text s s' t w alike here = read_good (parsed text) s s' t w alike here

read_alike : (o : Option Line) (s s' t t' : SessionState) (w w' : Written) → AreAlikeStates s s' → IsSomeAnd o (λ l. Runs l s w t) → IsSomeAnd o (λ l. Runs l s' w' t') →
    w.out_of_memory ≡ false → w'.out_of_memory ≡ false → WriteAlike w w' t t'
read_alike None s s' t t' w w' alike here here' ample ample' = absurd here
read_alike (Some l) s s' t t' w w' alike here here' ample ample' = line_alike s s' t t' w w' alike l here here' ample ample'

-- a line that both run
pub text_alike : (text : List ℕ) (s s' t t' : SessionState) (w w' : Written) → AreAlikeStates s s' → RunsText text s w t → RunsText text s' w' t' →
    w.out_of_memory ≡ false → w'.out_of_memory ≡ false → WriteAlike w w' t t'
text_alike text s s' t t' w w' alike here here' ample ample' = read_alike (parsed text) s s' t t' w w' alike here here' ample ample'
