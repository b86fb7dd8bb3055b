use Rattle.std.proofs.Common.{◌≡◌, ℕ, List, [], ◌∷◌, ◌++◌, ap, sym, refl, ◌∙◌}
use Rattle.std.specs.List.{flat_map}
use Rattle.std.proofs.lemmas.List.{append_assoc}
use Rattle.std.proofs.lemmas.List.Concat.{flat_map-cons}
use Rattle.std.proofs.lemmas.List.Elements.{All-tail}
use Rattle.gv_types.specs.declared.mapping.Mapping.{Mapping}
use Rattle.gv_session.specs.State.{names_alone, HasBytesThatFit}
use Rattle.gv_session.specs.Texts.{mapping_text, reply}
use Rattle.gv_session.proofs.space_text.write_mappings.Goals as goal

-- a line is written, and the lines behind it remain
round : (f : Mapping → List ℕ) (old between new all text : List ℕ) (m : Mapping) (remaining rest : List Mapping) → f m ≡ text ++ 10 ∷ [] →
    between ≡ old ++ text → new ≡ between ++ 10 ∷ [] → remaining ≡ m ∷ rest → old ++ flat_map f remaining ≡ all → new ++ flat_map f rest ≡ all
round f old between new all text m remaining rest line first second steps so_far =
    let whole : new ≡ old ++ f m = second ∙ ap (λ (xs : List ℕ). xs ++ 10 ∷ []) first ∙ append_assoc old text (10 ∷ []) ∙ ap (λ (xs : List ℕ). old ++ xs) (sym line) in
    let more : f m ++ flat_map f rest ≡ flat_map f remaining = sym (flat_map-cons f m rest) ∙ ap (flat_map f) (sym steps) in
    ap (λ (xs : List ℕ). xs ++ flat_map f rest) whole ∙ append_assoc old (f m) (flat_map f rest) ∙ ap (λ (xs : List ℕ). old ++ xs) more ∙ so_far

pub loop-mapping-preserved : goal.loop-mapping-preserved
loop-mapping-preserved c = record {
  written = round (λ m. reply (mapping_text (names_alone c.args.names.now.entries) m ∷ [])) _ _ _ _ (mapping_text (names_alone c.args.names.now.entries) c.in-Some.mapping.now) c.in-Some.mapping.now c.loop-mapping.mapping-iterator c.next.new.self
      refl (rw c.mapping.ensures.value at c.in_ok-write_mapping.ensures) c.in_ok-push_str.ensures.bytes c.in-Some.ensures.steps c.loop-mapping.invariant.written;
  held = All-tail HasBytesThatFit c.in-Some.mapping.now c.next.new.self (rw c.in-Some.ensures.steps at c.loop-mapping.invariant.held);
  can = tt;
  finite = tt;
}
