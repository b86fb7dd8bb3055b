-- Mappings of live buffers.
use Rattle.gv_types.specs.declared.mapping.Backing.{Backing}
use Rattle.gv_types.specs.declared.mapping.Backing.TheVariants.{Buffer, Zero}
use Rattle.gv_buffers.specs.Buffers.{BuffersState, IsLive}

-- what stands behind pages is a live buffer, or nothing but zeros
abbrev pub IsLiveBacking : BuffersState → Backing → Type 0
IsLiveBacking t (Buffer id page) = IsLive t id
IsLiveBacking t Zero = Unit {0}
