-- What reading one line more of a threads script keeps.
use Rattle.std.specs.Prelude.{◌≡◌, ℕ, Bool, true, List, ◌++◌, Some}
use Rattle.gv_lines.specs.Grammar.{parsed}
use Rattle.gv_lines.specs.declared.line.Line.{Line}
use Rattle.gv_threads.specs.Parts.{areas_in, last_of, limits_in, questions_in, requests_in, settings_in, timelines_in, unnumbered}
use Rattle.gv_threads.specs.ReadSoFar.{MayStand, parts_in, read_so_far, stages_in}
use Rattle.gv_threads.specs.Script.{ThreadsScriptState}

-- A line may stand here, and what it is to each part stands behind what was kept before, if there was memory for it. Nothing else
-- changes.
pub record IsKept (l : Line) (old new : ThreadsScriptState) (kept : Bool) : Type 0 where
  pub may : MayStand old.queues (read_so_far old) l
  pub part : new.part ≡ last_of old.part (parts_in l)
  pub stage : new.stage ≡ last_of old.stage (stages_in l)
  pub bounds : new.bounds ≡ last_of old.bounds (areas_in l)
  pub limits : new.limits ≡ last_of old.limits (limits_in l)
  pub timelines : new.timelines ≡ old.timelines ++ timelines_in l
  pub has_memory : new.has_memory ≡ old.has_memory
  pub settings : kept ≡ true → unnumbered new.settings ≡ unnumbered old.settings ++ settings_in l
  pub requests : kept ≡ true → unnumbered new.requests ≡ unnumbered old.requests ++ requests_in l
  pub questions : kept ≡ true → unnumbered new.questions ≡ unnumbered old.questions ++ questions_in l

-- A line was read: what it is to each part stands behind what was read before, unless memory was refused. Whether it was is
-- kept.
pub record Adds (text : List ℕ) (old new : ThreadsScriptState) : Type 0 where
  pub line : Line
  pub read : parsed text ≡ Some line
  pub may : MayStand old.queues (read_so_far old) line
  pub part : new.part ≡ last_of old.part (parts_in line)
  pub stage : new.stage ≡ last_of old.stage (stages_in line)
  pub bounds : new.bounds ≡ last_of old.bounds (areas_in line)
  pub limits : new.limits ≡ last_of old.limits (limits_in line)
  pub timelines : new.timelines ≡ old.timelines ++ timelines_in line
  pub has_memory : new.has_memory ≡ true → old.has_memory ≡ true
  pub settings : new.has_memory ≡ true → unnumbered new.settings ≡ unnumbered old.settings ++ settings_in line
  pub requests : new.has_memory ≡ true → unnumbered new.requests ≡ unnumbered old.requests ++ requests_in line
  pub questions : new.has_memory ≡ true → unnumbered new.questions ≡ unnumbered old.questions ++ questions_in line
