-- The held entries that outcomes tell of. No public clause cites this module.
use Rattle.std.specs.Prelude.{ℕ, Bool, false, if◌then◌else◌, List, [], ◌∷◌, Option, Some, None}
use Rattle.gv_journal.specs.Items.{JournalState}
use Rattle.gv_journal.specs.Notes.{lesser}
use Rattle.gv_journal.specs.Withdrawing.{item_at}
use Rattle.gv_journal.specs.declared.item.Item.{Item}
use Rattle.gv_vm.specs.Forgetting.{is_told_below}
use Rattle.gv_vm.specs.declared.outcome.Outcome.{Outcome}
use Rattle.gv_vm.specs.declared.outcome.Outcome.TheVariants.{Accepted, Refused, NotReady}

-- it is held, and a Bind of the queue whose number is below this one
abbrev pub is_held_below : ℕ → ℕ → Option Item → Bool
is_held_below queue to None = false
is_held_below queue to (Some item) = is_told_below queue to item.kind

-- the entry that an outcome tells of, where that is so
abbrev pub held_by : JournalState → ℕ → ℕ → Outcome → Option ℕ
held_by j queue to (Accepted entry) = if is_held_below queue to (item_at j entry) then Some entry else None
held_by j queue to (Refused op fault) = None
held_by j queue to (NotReady point have) = None

-- the least of them, and of one that there may be already
abbrev pub least_held : JournalState → ℕ → ℕ → Option ℕ → List Outcome → Option ℕ
least_held j queue to least [] = least
least_held j queue to least (o ∷ os) = least_held j queue to (lesser least (held_by j queue to o)) os
