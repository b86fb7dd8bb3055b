-- What an address space keeps of its parts. No public clause cites this module.
use Rattle.std.specs.Prelude.{length}
use Rattle.gv_space.specs.ListWithTable.{AreLiveNamed}
use Rattle.gv_space.specs.ListFirstPages.{AreFirstPages, HaveRows}
use Rattle.gv_space.specs.State.{SpaceState, IsSpace}
use Rattle.gv_space.specs.declared.space.Space.TheInside.{Inside}

abbrev pub space_of : Inside → SpaceState
space_of s =
    record {
      area = s.bounds;
      limits = s.limits;
      mappings = s.mapped.mappings;
      room = s.mapped.room;
      buffers = s.buffers;
      kept_count = s.kept_count;
    }

-- the space is sound, its page table can name each live buffer, and the first pages are those of the list, with a row for each live buffer
pub record IsSoundSpace (s : Inside) : Type 0 where
  pub space : IsSpace (space_of s)
  pub named : AreLiveNamed s.buffers s.mapped.names
  pub first_pages : AreFirstPages s.mapped.mappings s.first_pages
  pub rows : HaveRows s.buffers (length s.first_pages)
