-- What a line tells of its events.
use Rattle.std.proofs.Common.{◌≡◌, ℕ, List, [], ◌∷◌, ◌++◌, String, string_bytes, sym, ap, ◌∙◌, append_assoc, append-nil, refl}
use Rattle.std.specs.List.{flat_map}
use Rattle.std.specs.declared.alloc.Global.{Global}
use Rattle.gv_vm.specs.declared.event.Reply.{Reply}
use Rattle.gv_session.specs.State.{SessionState, begun}
use Rattle.gv_session.specs.ReplyTexts.{told}
use Rattle.gv_session.specs.LineProgress.{Tells}

-- what is told

flat_map-append : {X Y : Type 0} (f : X → List Y) (xs ys : List X) → flat_map f (xs ++ ys) ≡ flat_map f xs ++ flat_map f ys
flat_map-append f [] ys = refl
flat_map-append f (x ∷ xs) ys = ap (λ (l : List _). f x ++ l) (flat_map-append f xs ys) ∙ sym (append_assoc (f x) (flat_map f xs) (flat_map f ys))

pub tells_nil : (s t : SessionState) (out : String Global) → t ≡ begun s → Tells s t [] out out
tells_nil s t out is = record {
  state = rw is refl;
  wrote = sym (append-nil (string_bytes out));
}

pub tells_trans : (s t u : SessionState) (replies later : List Reply) (old mid out : String Global) →
    Tells s t replies old mid → Tells t u later mid out → Tells s u (replies ++ later) old out
tells_trans s t u replies later old mid out first rest =
    let names : t.timelines ≡ s.timelines = ap (λ (x : SessionState). x.timelines) first.state in
    let more : flat_map (told t.timelines) later ≡ flat_map (told s.timelines) later = ap (λ (ns : List (List ℕ)). flat_map (told ns) later) names in
    record {
      state = rest.state ∙ ap (λ (x : SessionState). let y : SessionState = record (begun x) { world = u.world } in y) first.state;
      wrote = rest.wrote ∙ ap (λ (bytes : List ℕ). bytes ++ flat_map (told t.timelines) later) first.wrote
          ∙ append_assoc (string_bytes old) (flat_map (told s.timelines) replies) (flat_map (told t.timelines) later)
          ∙ ap (λ (bytes : List ℕ). string_bytes old ++ (flat_map (told s.timelines) replies ++ bytes)) more
          ∙ ap (λ (bytes : List ℕ). string_bytes old ++ bytes) (sym (flat_map-append (told s.timelines) replies later));
    }
