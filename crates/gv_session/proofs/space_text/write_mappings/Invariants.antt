use Rattle.std.proofs.Common.{◌≡◌, ◌++◌, ◌∷◌, [], string_bytes}
use Rattle.std.specs.List.{All, flat_map}
use Rattle.gv_session.specs.State.{names_alone, HasBytesThatFit}
use Rattle.gv_session.specs.Texts.{mapping_text, reply}
use Rattle.gv_session.proofs.space_text.write_mappings.Given as goal

abbrev pub invariant-loop-mapping : goal.invariant-loop-mapping
invariant-loop-mapping l = record {
  written : string_bytes l.out ++ flat_map (λ m. reply (mapping_text (names_alone l.names.entries) m ∷ [])) l.mapping-iterator
      ≡ string_bytes l.initial.out ++ flat_map (λ m. reply (mapping_text (names_alone l.names.entries) m ∷ [])) l.list.mappings;
  held : All HasBytesThatFit l.mapping-iterator;
  can : (goal.iterator-loop-mapping).can_next l.mapping-iterator;
  finite : (goal.iterator-loop-mapping).is_finite l.mapping-iterator;
}
