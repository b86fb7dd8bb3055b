use Rattle.std.proofs.Common.{rules, ap, ◌∙◌}
use Rattle.std.specs.Option.{option_map}
use Rattle.gv_buffers.specs.declared.live_buffer.LiveBuffer.{LiveBuffer}
use Rattle.gv_buffers.proofs.TablesAndSlots.{is_table, read_from_map, field_in_slot}
use Rattle.gv_buffers.proofs.buffers.Buffers.pages.Goals as goal

pub returns-clause-value : goal.returns-clause-value
returns-clause-value c =
    read_from_map c.get.result c.map.result (λ s. s.pages) _ c.map.ensures.cases (λ x y k. search rules)
    ∙ ap (option_map (λ (s : LiveBuffer). s.pages)) c.get.ensures
    ∙ field_in_slot c.self.inside c.args.self.now c.args.id (λ b. b.pages) c.self.view_is

pub returns-clause-table : goal.returns-clause-table
returns-clause-table c = is_table c.self.inside c.args.self.now c.self.invariant c.self.view_is
