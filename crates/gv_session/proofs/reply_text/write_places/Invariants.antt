use Rattle.std.proofs.Common.{◌≡◌, ◌++◌, ◌∷◌, [], take, string_bytes}
use Rattle.std.specs.List.{flat_map}
use Rattle.gv_session.specs.State.{names_alone}
use Rattle.gv_session.specs.Texts.{place_text, reply}
use Rattle.gv_session.proofs.reply_text.write_places.Given as goal

abbrev pub invariant-loop-place : goal.invariant-loop-place
invariant-loop-place l =
    string_bytes l.out ≡ string_bytes l.initial.out ++ flat_map (λ p. reply (place_text (names_alone l.names.entries) p ∷ [])) (take l.place-index l.places)
