-- What a handle owns: nothing where it is null, else the value at it and the right to free its block.
use mir.Syntax.{Ty}
use base.Fml.{Fml, feq}
use denote.RattleType.{RattleType}
use denote.RawPtr.{Ptr, null_ptr}
use Rattle.std.specs.declared.option.Option.{Option}
use Rattle.std.specs.declared.option.Option.TheVariants.{None, Some}
use Rattle.std_alloc.specs.Box.Ownership.{box_owns}

abbrev pub handle_owns : (Ty → Ptr → Fml) → (R : RattleType) → Ptr → Option R.Denot → Fml
handle_owns holds R p None = feq Ptr p null_ptr
handle_owns holds R p (Some x) = box_owns holds R p x
