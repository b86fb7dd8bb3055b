-- The rule of a queue: what was taken, and then what the channel holds, is what was put, and each of these requests fits the timelines.
-- One pass at most may put, and it has the list of what was put. The same for takes. Both know one queue and one count of timelines.
use Rattle.std.specs.Prelude.{◌≡◌, ℕ, true, false, List, [], ◌∷◌, ◌++◌}
use Rattle.std.specs.List.{All}
use mathlib.Core.Option.{some}
use lib.ListN.{get_elem?}
use Rattle.gv_types.specs.declared.request.Request.{Request}
use Rattle.gv_types.specs.Request.{Fits}
use Rattle.gv_queues.specs.declared.pass_knowledge.About.{About}
use Rattle.gv_queues.specs.declared.pass_knowledge.PassKnowledge.{PassKnowledge}

-- a channel of this queue, for so many timelines
abbrev pub about_queue : ℕ → ℕ → About
about_queue queue timelines = record { queue = queue; timelines = timelines }

-- what the first pass of a channel knows: it may put and take, and what the channel is, is still open
abbrev pub opening_pass : PassKnowledge
opening_pass = record { puts = true; takes = true; about = about_queue 0 0; put = []; taken = [] }

-- the pass of a submitter
abbrev pub submitter_pass : About → List Request → PassKnowledge
submitter_pass about put = record { puts = true; takes = false; about = about; put = put; taken = [] }

-- the pass of a worker
abbrev pub worker_pass : About → List Request → PassKnowledge
worker_pass about taken = record { puts = false; takes = true; about = about; put = []; taken = taken }

-- a pass that may put is the submitter's, and knows what was put
abbrev pub KnowsPut : ℕ → About → List Request → ℕ → PassKnowledge → Type 0
KnowsPut submitter about put pass v =
    v.puts ≡ true → (pass ≡ submitter) × (v.put ≡ put) × (v.takes ≡ false → v.about ≡ about)

-- a pass that may take is the worker's, and knows what was taken
abbrev pub KnowsTaken : ℕ → About → List Request → ℕ → PassKnowledge → Type 0
KnowsTaken worker about taken pass v =
    v.takes ≡ true → (pass ≡ worker) × (v.taken ≡ taken) × (v.puts ≡ false → v.about ≡ about)

pub record TakenThenHeld (items : List Request) (views : List PassKnowledge) : Type 0 where
  pub submitter : ℕ
  pub worker : ℕ
  pub about : About
  pub put : List Request
  pub taken : List Request
  pub in_order : put ≡ taken ++ items
  pub fits : All (Fits about.timelines) put
  pub knows : (pass : ℕ) (v : PassKnowledge) → get_elem? views pass ≡ some v
      → KnowsPut submitter about put pass v × KnowsTaken worker about taken pass v

-- what a put tells: the request is behind those put before
abbrev pub Put : PassKnowledge → Request → PassKnowledge → Type 0
Put v request w = w ≡ submitter_pass v.about (v.put ++ request ∷ [])

-- what a take tells: the request is behind those taken before, and fits the timelines
abbrev pub Took : PassKnowledge → Request → PassKnowledge → Type 0
Took v request w = (w ≡ worker_pass v.about (v.taken ++ request ∷ [])) × Fits v.about.timelines request

-- the channel holds the last of what was put
abbrev pub HoldsLast : PassKnowledge → List Request → Type 0
HoldsLast v items = (taken : List Request) × (v.put ≡ taken ++ items)
