-- How far a line has come: its events, what it wrote, the clauses of its request.
use Rattle.std.specs.Prelude.{◌≡◌, ℕ, List, ◌∷◌, ◌++◌, Some, IsSome, unwrap_or, String, string_bytes, ◌⊎◌}
use Rattle.std.specs.List.{flat_map}
use Rattle.std.specs.declared.alloc.Global.{Global}
use Rattle.gv_types.specs.declared.operation.Op.{Op}
use Rattle.gv_types.specs.declared.request.Point.{Point}
use Rattle.gv_vm.specs.declared.event.Event.{Event}
use Rattle.gv_vm.specs.declared.event.Reply.{Reply}
use Rattle.gv_vm.specs.Plans.{Steps}
use Rattle.gv_session.specs.State.{SessionState, Buffers, begun}
use Rattle.gv_session.specs.ReplyTexts.{told}
use Rattle.gv_session.specs.Line.{Written}
use Rattle.gv_session.specs.Requests.{op_named, point_named}
use Rattle.gv_session.specs.declared.request.Asked.{Asked}
use Rattle.gv_lines.specs.OptionSteps.{all_read}
use Rattle.gv_lines.specs.Clause.{queue_asked, operations_of, waits_of, signals_of}
use Rattle.gv_lines.specs.declared.clause.Clause.{Clause}
use Rattle.gv_lines.specs.declared.clause.Clause.TheVariants.{Change, Wait, Signal, Queue}

-- A state came from another by replies of the world, and what a request is told was written.
pub record Tells (s t : SessionState) (replies : List Reply) (old out : String Global) : Type 0 where
  pub state : t ≡ record (begun s) { world = t.world }
  pub wrote : string_bytes out ≡ string_bytes old ++ flat_map (told s.timelines) replies

-- An event was not asked, or its reply alone is lost.
abbrev pub StopsAt : Event → SessionState → SessionState → Type 0
StopsAt event s t = (t ≡ begun s) ⊎ ((reply : Reply) × Steps s.world event reply t.world × (t ≡ record (begun s) { world = t.world }))

-- what a line did was written behind what stood there
pub record Wrote (Run : SessionState → Written → SessionState → Type 0) (s : SessionState) (old out : String Global) (t : SessionState) : Type 0 where
  pub written : Written
  pub text : string_bytes out ≡ string_bytes old ++ written.text
  pub runs : Run s written t

-- the name in a clause, if there is one, is declared
abbrev pub IsDeclared : Buffers → List (List ℕ) → Clause → Type 0
IsDeclared buffers timelines (Change operation) = IsSome (op_named buffers operation)
IsDeclared buffers timelines (Wait point) = IsSome (point_named timelines point)
IsDeclared buffers timelines (Signal point) = IsSome (point_named timelines point)
IsDeclared buffers timelines (Queue queue) = Unit {0}

-- What some clauses ask for is what was asked for so far, and what those that remain ask for.
pub record IsAskedTo (buffers : Buffers) (timelines : List (List ℕ)) (clauses remaining : List Clause) (asked : Asked) : Type 0 where
  pub ops : (rest : List Op) → all_read (op_named buffers) (operations_of remaining) ≡ Some rest →
      all_read (op_named buffers) (operations_of clauses) ≡ Some (asked.request.ops.items ++ rest)
  pub waits : (rest : List Point) → all_read (point_named timelines) (waits_of remaining) ≡ Some rest →
      all_read (point_named timelines) (waits_of clauses) ≡ Some (asked.request.waits.items ++ rest)
  pub signals : (rest : List Point) → all_read (point_named timelines) (signals_of remaining) ≡ Some rest →
      all_read (point_named timelines) (signals_of clauses) ≡ Some (asked.request.signals.items ++ rest)
  pub queue : queue_asked clauses ≡ unwrap_or asked.queue (queue_asked remaining)

-- One more clause is asked for.
abbrev pub Adds : Buffers → List (List ℕ) → Clause → Asked → Asked → Type 0
Adds buffers timelines clause old new =
    (clauses more : List Clause) → IsAskedTo buffers timelines clauses (clause ∷ more) old → IsAskedTo buffers timelines clauses more new
