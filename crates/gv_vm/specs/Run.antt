-- Runs of a world: one step after another.
use Rattle.std.specs.Prelude.{◌≡◌, List, [], ◌∷◌, ◌++◌, ◌⊎◌, Result, Ok, Err}
use Rattle.gv_types.specs.declared.fault.OutOfMemory.{OutOfMemory as WantOfMemory}
use Rattle.gv_vm.specs.World.{WorldState}
use Rattle.gv_vm.specs.Step.{step, MayGrow}
use Rattle.gv_vm.specs.declared.event.Event.{Event}
use Rattle.gv_vm.specs.declared.event.Reply.{Reply}

-- The world may give these replies to these events, and of each step holds what is asked.
abbrev pub RunsWith : (WorldState → Event → Reply → WorldState → Type 0) → WorldState → List Event → List Reply → WorldState → Type 0
RunsWith Asked old [] [] new = new ≡ old
RunsWith Asked old (event ∷ events) (reply ∷ replies) new =
    (mid : WorldState) × step old event reply mid × Asked old event reply mid × RunsWith Asked mid events replies new
RunsWith Asked old [] (reply ∷ replies) new = ⊥
RunsWith Asked old (event ∷ events) [] new = ⊥

-- the world may give these replies to these events
abbrev pub IsRunOf : WorldState → List Event → List Reply → WorldState → Type 0
IsRunOf old events replies new = RunsWith (λ before event reply after. Unit {0}) old events replies new

-- the first of these events may grow
abbrev pub NextMayGrow : WorldState → List Event → Type 0
NextMayGrow w [] = ⊥
NextMayGrow w (event ∷ later) = MayGrow w event

-- Want of memory stopped the events: those before ran and gave these replies, and the world is after them.
-- What wanted memory is the next event, which may grow, or the room of all replies, which is asked for before the first.
pub record StoppedWith (Asked : WorldState → Event → Reply → WorldState → Type 0) (old : WorldState) (events : List Event) (replies : List Reply) (new : WorldState) : Type 0 where
  pub ran : List Event
  pub rest : List Event
  pub events_are : events ≡ ran ++ rest
  pub runs : RunsWith Asked old ran replies new
  pub wanted : NextMayGrow new rest ⊎ (replies ≡ [])

-- What a world answers to events where it goes on after want of memory, which changes nothing; and of each step holds what is asked.
abbrev pub GoesOnWith : (WorldState → Event → Reply → WorldState → Type 0) → WorldState → List Event → List (Result Reply WantOfMemory) → WorldState → Type 0
GoesOnWith Asked old [] [] new = new ≡ old
GoesOnWith Asked old (event ∷ events) (Ok reply ∷ answers) new =
    (mid : WorldState) × step old event reply mid × Asked old event reply mid × GoesOnWith Asked mid events answers new
GoesOnWith Asked old (event ∷ events) (Err want ∷ answers) new = MayGrow old event × GoesOnWith Asked old events answers new
GoesOnWith Asked old [] (answer ∷ answers) new = ⊥
GoesOnWith Asked old (event ∷ events) [] new = ⊥

-- the events that got a reply
abbrev pub replied_to : List Event → List (Result Reply WantOfMemory) → List Event
replied_to [] answers = []
replied_to (event ∷ events) [] = []
replied_to (event ∷ events) (Ok reply ∷ answers) = event ∷ replied_to events answers
replied_to (event ∷ events) (Err want ∷ answers) = replied_to events answers

-- and the replies
abbrev pub replies_in : List (Result Reply WantOfMemory) → List Reply
replies_in [] = []
replies_in (Ok reply ∷ answers) = reply ∷ replies_in answers
replies_in (Err want ∷ answers) = replies_in answers
