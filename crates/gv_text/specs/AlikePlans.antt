-- Two plans that ask the same of two worlds, but for the memory of what they bring.
use Rattle.std.specs.Prelude.{List, [], ◌∷◌, Option, Some, None}
use Rattle.gv_vm.specs.Alike.{AreAlikeWorlds, AreAlikeEvents, AreAlikeReplies, IsAmpleReply}
use Rattle.gv_vm.specs.World.{WorldState}
use Rattle.gv_vm.specs.declared.event.Event.{Event}
use Rattle.gv_vm.specs.declared.event.Reply.{Reply}
use Rattle.gv_vm.specs.Plans.{Plan}

-- as many replies, each the same
abbrev pub AreAllAlike : List Reply → List Reply → Type 0
AreAllAlike [] [] = Unit {0}
AreAllAlike (reply ∷ replies) (reply' ∷ replies') = AreAlikeReplies reply reply' × AreAllAlike replies replies'
AreAllAlike [] (reply' ∷ replies') = ⊥
AreAllAlike (reply ∷ replies) [] = ⊥

-- the same event, or none
abbrev pub AreAskedAlike : Option Event → Option Event → Type 0
AreAskedAlike None None = Unit {0}
AreAskedAlike (Some event) (Some event') = AreAlikeEvents event event'
AreAskedAlike None (Some event') = ⊥
AreAskedAlike (Some event) None = ⊥

-- after the same replies the plans ask for the same
abbrev pub AskAlike : Plan → Plan → Type 0
AskAlike plan plan' = (replies replies' : List Reply) → AreAllAlike replies replies' → AreAskedAlike (plan replies) (plan' replies')

-- no reply is want of memory
abbrev pub AreAmple : List Reply → Type 0
AreAmple [] = Unit {0}
AreAmple (reply ∷ replies) = IsAmpleReply reply × AreAmple replies

-- Two worlds gave the same replies, and came to worlds that are the same.
pub record StayAlike (replies replies' : List Reply) (w w' : WorldState) : Type 0 where
  pub replies_are : AreAllAlike replies replies'
  pub worlds : AreAlikeWorlds w w'
