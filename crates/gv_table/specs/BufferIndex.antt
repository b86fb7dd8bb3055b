-- What contracts see of a `BufferIndex`: the id of that index whose generation is 0. No public clause cites this module.
use Rattle.std.specs.Prelude.{◌≡◌, refl}
use Rattle.gv_types.specs.Mapping.{buffer_id}
use Rattle.gv_types.specs.declared.mapping.BufferId.{BufferId}
use Rattle.gv_table.specs.declared.buffer_index.BufferIndex.TheInside.{Inside}

abbrev pub id_at : Inside → BufferId
id_at b = buffer_id b.index 0

-- the index of an id
abbrev pub index_of : BufferId → Inside
index_of id = record { index = id.index }

pub index_of-id_at : (b : Inside) → Unit {0} → index_of (id_at b) ≡ b
index_of-id_at b none = refl
