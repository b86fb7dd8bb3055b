-- The clauses of bind lines.
use Rattle.std.specs.Prelude.{ℕ, nat_le, length, List, [], ◌∷◌, Option, Some, None, if◌then◌else◌, codes, bytes_eq}
use Rattle.gv_lines.specs.OptionSteps.{◌>>=◌, all_read}
use Rattle.gv_lines.specs.Words.{clauses, first_name, first_number, first_queue, ended}
use Rattle.gv_lines.specs.Operation.{range_operation, unmapall_operation}
use Rattle.gv_lines.specs.declared.operation.Operation.{Operation}
use Rattle.gv_lines.specs.declared.point.NamedPoint.{NamedPoint}
use Rattle.gv_lines.specs.declared.clause.Clause.{Clause}
use Rattle.gv_lines.specs.declared.clause.Clause.TheVariants.{Change, Wait, Signal, Queue}

-- NAME NUM: a number on a timeline
abbrev pub point_of : List (List ℕ) → Option NamedPoint
point_of words = do
  timeline ← first_name words
  value ← first_number timeline.1
  ended value.1 (record { timeline = timeline.0; value = value.0 })

-- wait NAME NUM
abbrev pub wait_clause : List (List ℕ) → Option Clause
wait_clause words = do
  point ← point_of words
  Some (Wait point)

-- signal NAME NUM
abbrev pub signal_clause : List (List ℕ) → Option Clause
signal_clause words = do
  point ← point_of words
  Some (Signal point)

-- queue Q
abbrev pub queue_clause : List (List ℕ) → Option Clause
queue_clause words = do
  queue ← first_queue words
  ended queue.1 (Queue queue.0)

-- OPERATION, by its first word
abbrev pub change_clause : List ℕ → List (List ℕ) → Option Clause
change_clause first more = do
  operation ← if bytes_eq first (codes "unmapall") then unmapall_operation more else range_operation first more
  Some (Change operation)

-- CLAUSE, by its first word
abbrev pub clause_of : List (List ℕ) → Option Clause
clause_of [] = None
clause_of (first ∷ more) =
    if bytes_eq first (codes "wait") then wait_clause more
    else if bytes_eq first (codes "signal") then signal_clause more
    else if bytes_eq first (codes "queue") then queue_clause more
    else change_clause first more

-- the operations among some clauses, in their order
abbrev pub operations_of : List Clause → List Operation
operations_of [] = []
operations_of (Change operation ∷ more) = operation ∷ operations_of more
operations_of (Wait point ∷ more) = operations_of more
operations_of (Signal point ∷ more) = operations_of more
operations_of (Queue queue ∷ more) = operations_of more

-- the points to wait for
abbrev pub waits_of : List Clause → List NamedPoint
waits_of [] = []
waits_of (Change operation ∷ more) = waits_of more
waits_of (Wait point ∷ more) = point ∷ waits_of more
waits_of (Signal point ∷ more) = waits_of more
waits_of (Queue queue ∷ more) = waits_of more

-- the points to signal
abbrev pub signals_of : List Clause → List NamedPoint
signals_of [] = []
signals_of (Change operation ∷ more) = signals_of more
signals_of (Wait point ∷ more) = signals_of more
signals_of (Signal point ∷ more) = point ∷ signals_of more
signals_of (Queue queue ∷ more) = signals_of more

-- the queues
abbrev pub queues_of : List Clause → List ℕ
queues_of [] = []
queues_of (Change operation ∷ more) = queues_of more
queues_of (Wait point ∷ more) = queues_of more
queues_of (Signal point ∷ more) = queues_of more
queues_of (Queue queue ∷ more) = queue ∷ queues_of more

-- the queue that some clauses name first, or else queue 0
abbrev pub queue_or_first : List ℕ → ℕ
queue_or_first [] = 0
queue_or_first (queue ∷ more) = queue

-- the queue of a request with these clauses
abbrev pub queue_asked : List Clause → ℕ
queue_asked read = queue_or_first (queues_of read)

-- the words of the clauses of a bind line: none where it has no word
abbrev pub bind_clauses : List (List ℕ) → List (List (List ℕ))
bind_clauses [] = []
bind_clauses (word ∷ more) = clauses (word ∷ more)

-- the clauses, where at most one names a queue
abbrev pub with_one_queue : List Clause → Option (List Clause)
with_one_queue read = if nat_le (length (queues_of read)) 1 then Some read else None

-- the clauses that these words are read as
abbrev pub clauses_read : List (List (List ℕ)) → Option (List Clause)
clauses_read parts = do
  read ← all_read clause_of parts
  with_one_queue read
