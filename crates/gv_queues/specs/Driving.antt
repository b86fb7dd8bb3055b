-- What a driver puts, and one that is given all that it is to put.
use Rattle.std.specs.Prelude.{◌≡◌, ◌==◌, ◌⊎◌, ℕ, ◌<◌, List, [], ◌∷◌, ◌++◌, Option, Some, None, Vec, filter, length, map}
use Rattle.std.specs.declared.alloc.Global.{Global}
use Rattle.gv_types.specs.declared.request.Request.{Request}
use Rattle.gv_queues.specs.Submitting.{SubmitterState, submitter_at}

-- of each queue holds what may be said of the requests that were put on it, in order
abbrev pub ArePut : (ℕ → List Request → Type 0) → List SubmitterState → Type 0
ArePut may_put submitters =
    (queue : ℕ) → queue < length submitters → may_put queue (submitter_at submitters queue).put

-- the requests that stand behind this queue, in order
abbrev pub requests_on : ℕ → List (ℕ × Request) → List Request
requests_on queue entries = map (λ e. e.1) (filter (λ e. e.0 == queue) entries)

-- these are some of all, in the same order
abbrev pub AreSomeOf : {X : Type 0} → List X → List X → Type 0
AreSomeOf all [] = Unit {0}
AreSomeOf [] (x ∷ some) = ⊥
AreSomeOf (y ∷ all) (x ∷ some) = ((x ≡ y) × AreSomeOf all some) ⊎ AreSomeOf all (x ∷ some)

-- on each queue some of the requests that stand behind it were put, in their order
abbrev pub AreSomePut : List (ℕ × Request) → List SubmitterState → Type 0
AreSomePut entries submitters = ArePut (λ queue put. AreSomeOf (requests_on queue entries) put) submitters

-- on this queue the request was put behind those before, or nothing was; on each other queue nothing was
abbrev pub MayPutOne : ℕ → Request → List SubmitterState → List SubmitterState → Type 0
MayPutOne to request old new =
    (queue : ℕ) → queue < length old
    → ((submitter_at new queue).put ≡ (submitter_at old queue).put)
    ⊎ ((to ≡ queue) × ((submitter_at new queue).put ≡ (submitter_at old queue).put ++ request ∷ []))

-- a driver that puts all: the requests that it was given, each behind its queue, and how many it put on each queue
pub record PutAllState : Type 0 where
  pub asked : List (ℕ × Request)
  pub put : List ℕ

-- the requests that are still to be put
abbrev pub given : Option (Vec (ℕ × Request) Global) → List (ℕ × Request)
given None = []
given (Some requests) = requests.items
