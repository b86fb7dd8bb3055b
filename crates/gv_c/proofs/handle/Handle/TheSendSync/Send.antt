-- A handle may go to another thread: so may the world there, and its block is given back from any.
use mir.Raw.{raw}
use base.Shift.{Keyless}
use denote.Memory.{lone}
use denote.RawPtr.{Ptr}
use denote.Struct.Struct.{exits_of}
use denote.Struct.Owning.{shape, fields, to}
use denote.Param.SendFields.{declared_send}
use denote.Param.Send.{IsSend, AllSend, owning_send, struct_send, sendable}
use Rattle.std.specs.declared.alloc.Global.{Global}
use Rattle.std.specs.declared.option.Option.{Option}
use Rattle.std.specs.declared.option.Option.TheVariants.{None, Some}
use Rattle.std.specs.contracts.impls.GlobalAllocator.TheImpl.{ghosts}
use Rattle.std.proofs.Crossing.{frees}
use Rattle.std_alloc.proofs.SendSync.{lies, quiet}
use Rattle.gv_c.specs.HandleOwnership.{handle_owns}
use Rattle.gv_vm.proofs.SendLemmas.{world_send}
use Rattle.gv_c.proofs.Handles.{R}
use Rattle.gv_c.specs.contracts.held.Held.{the_type as held_type}
use Rattle.gv_c.specs.contracts.handle.Handle.{the_row, the_type}

held_send : IsSend R
held_send = declared_send held_type (world_send, tt)

slot_keyless : (a : Global) (p : Ptr) (k : Option R.Denot) → Keyless (handle_owns (ghosts.dealloc_token a) R p k)
slot_keyless a p None = tt
slot_keyless a p (Some x) = (lies R held_send p x, frees.frees a (raw (lone R.mir)) p)

all : AllSend (fields the_type)
all = (search sendable, (search sendable, tt))

pub send : IsSend the_row
send = owning_send the_type all (λ d. slot_keyless d.alloc d.at d.value) (λ k. quiet (to the_type) (exits_of k (fields the_type)) ((struct_send (shape the_type) all).leaving k))
