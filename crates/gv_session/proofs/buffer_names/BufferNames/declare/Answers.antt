use Rattle.std.proofs.Common.{◌∙◌, nat_eq}
use Rattle.std.specs.Cmp.Lexicographic.{pointwise}
use Rattle.indexmap.proofs.CallerLemmas.{insert_entry-new}
use Rattle.gv_session.proofs.buffer_names.BufferNames.declare.Goals as goal

pub returns : goal.returns
returns c =
    rw (← c.self.view_is) (c.in-Ok.ensures.entries
    ∙ insert_entry-new (pointwise nat_eq) c.self.inside.ids c.args.name c.args.id (rw (← c.self.view_is) at c.requires.undeclared))
