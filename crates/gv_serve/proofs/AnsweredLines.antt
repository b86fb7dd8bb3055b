-- One more line of a dialogue is answered.
use Rattle.std.proofs.Common.{◌≡◌, ℕ, ◌+◌, true, false, cond, ◌==◌, Option, Some, None, take, List, [], ◌∷◌, ◌++◌, refl, sym, ap, ◌∙◌, append_assoc, append-nil, arith}
use Rattle.std.specs.List.{onto_first}
use Rattle.std.specs.Io.KnownBytes.{Appends, Consumes, append_known}
use Rattle.std.proofs.KnownBytes.{Appends-nil, Appends-trans, Consumes-trans}
use Rattle.gv_lines.specs.Words.{parts}
use Rattle.gv_lines.proofs.PartsLemmas.{parts_some}
use Rattle.gv_session.specs.State.{SessionState, start}
use Rattle.gv_serve.specs.Dialogue.{IsAnswered, AreAnswered, IsDialogue, IsBadReply, EndsWith, following}
use Rattle.gv_serve.specs.DialogueProgress.{glued, HasAnswered, HasAnsweredUpTo}
use Rattle.gv_serve.specs.Partial.{PartialState, Holds}

-- the last of some parts in front of the first of others
glue : List (List ℕ) → List (List ℕ) → List (List ℕ)
glue [] others = others
glue (part ∷ []) others = glued part others
glue (part ∷ (next ∷ more)) others = part ∷ glue (next ∷ more) others

glued_none : (parts : List (List ℕ)) → (parts ≡ [] → ⊥) → glued [] parts ≡ parts
glued_none [] some = absurd (some refl)
glued_none (part ∷ parts) some = refl

onto_glue : (c : ℕ) (ps qs : List (List ℕ)) → (ps ≡ [] → ⊥) → (qs ≡ [] → ⊥) → onto_first c (glue ps qs) ≡ glue (onto_first c ps) qs
unfolding glue
onto_glue c [] qs some others = absurd (some refl)
onto_glue c (p ∷ []) [] some others = absurd (others refl)
onto_glue c (p ∷ []) (q ∷ qs) some others = refl
onto_glue c (p ∷ (p' ∷ ps)) qs some others = refl

glue_empty : (ps qs : List (List ℕ)) → (ps ≡ [] → ⊥) → glue ([] ∷ ps) qs ≡ [] ∷ glue ps qs
unfolding glue
glue_empty [] qs some = absurd (some refl)
glue_empty (p ∷ ps) qs some = refl

-- a text in parts, of two texts in parts
parts_glued : (s t : List ℕ) → parts 10 (s ++ t) ≡ glue (parts 10 s) (parts 10 t)
unfolding glue
parts_glued [] t = sym (glued_none (parts 10 t) (parts_some 10 t))
parts_glued (c ∷ cs) t =
    elim (c == 10) as (λ v. cond v ([] ∷ parts 10 (cs ++ t)) (onto_first c (parts 10 (cs ++ t))) ≡ glue (cond v ([] ∷ parts 10 cs) (onto_first c (parts 10 cs))) (parts 10 t)) [
      | true ↦ ap (λ (ps : List (List ℕ)). [] ∷ ps) (parts_glued cs t) ∙ sym (glue_empty (parts 10 cs) (parts 10 t) (parts_some 10 cs))
      | false ↦ ap (onto_first c) (parts_glued cs t) ∙ onto_glue c (parts 10 cs) (parts 10 t) (parts_some 10 cs) (parts_some 10 t)
    ]

glue_last : (lines : List (List ℕ)) (line : List ℕ) (qs : List (List ℕ)) → glue (lines ++ line ∷ []) qs ≡ lines ++ glued line qs
unfolding glue
glue_last [] line qs = refl
glue_last (l ∷ []) line qs = refl
glue_last (l ∷ (l' ∷ ls)) line qs = ap (λ (ps : List (List ℕ)). l ∷ ps) (glue_last (l' ∷ ls) line qs)

-- more of the input is read
pub heard_more : (input text bytes : List ℕ) (now : SessionState) (number : ℕ) (partial : PartialState) → HasAnswered input text now number partial → HasAnsweredUpTo (input ++ bytes) text now number partial bytes
heard_more input text bytes now number partial heard = record {
  line = heard.line;
  others = heard.others;
  front = record {
    lines = heard.front.lines;
    cut = parts_glued input bytes ∙ ap (λ (ps : List (List ℕ)). glue ps (parts 10 bytes)) heard.front.cut ∙ glue_last heard.front.lines heard.line (parts 10 bytes);
    answered = heard.front.answered;
  };
  kept = heard.kept;
}

-- and no line of it ends
pub heard_rest : (input text remaining : List ℕ) (now : SessionState) (number : ℕ) (old new : PartialState) → HasAnsweredUpTo input text now number old remaining → parts 10 remaining ≡ remaining ∷ [] →
    ((line : List ℕ) → Holds old line → Holds new (line ++ remaining)) → HasAnswered input text now number new
heard_rest input text remaining now number old new heard one keeps = record {
  line = heard.line ++ remaining;
  others = heard.others;
  front = rw one at heard.front;
  kept = keeps heard.line heard.kept;
}

answered_more : (old mid new : SessionState) (first number : ℕ) (lines : List (List ℕ)) (line text here : List ℕ) (others one : ℕ) →
    AreAnswered old first lines text mid number others → IsAnswered mid number line here new one →
    AreAnswered old first (lines ++ line ∷ []) (text ++ here) new (following number) (others + one)
answered_more old mid new first number [] line text here others one before answer =
    (here, new, one, [], 0, rw (before.1, before.2) at answer, (refl, refl, ap following before.2, refl), rw (before.0, append-nil) refl, omega (arith, before.3))
answered_more old mid new first number (l ∷ lines) line text here others one before answer = (
  before.0,
  before.1,
  before.2,
  before.3 ++ here,
  before.4 + one,
  before.5,
  answered_more before.1 mid new (following first) number lines line before.3 here before.4 one before.6 answer,
  rw before.7 (append_assoc before.0 before.3 here),
  omega (arith, before.8),
)

-- one line more is answered
pub heard_line : (input before text here remaining front after : List ℕ) (now new : SessionState) (number last others : ℕ) (old partial : PartialState) → HasAnsweredUpTo input (before ++ text) now number old remaining →
    parts 10 remaining ≡ front ∷ parts 10 after → ((line : List ℕ) → Holds old line → IsAnswered now number (line ++ front) here new others) → last ≡ following number → Holds partial [] →
    HasAnsweredUpTo input (before ++ (text ++ here)) new last partial after
heard_line input before text here remaining front after now new number last others old partial heard cut answer counted none =
    let fronts = rw cut at heard.front in
    let text_is : (before ++ text) ++ here ≡ before ++ (text ++ here) = append_assoc before text here in
    let all : AreAnswered start 1 (fronts.lines ++ (heard.line ++ front) ∷ []) ((before ++ text) ++ here) new (following number) (heard.others + others) =
    answered_more start now new 1 number fronts.lines (heard.line ++ front) (before ++ text) here heard.others others fronts.answered (answer heard.line heard.kept) in
    record {
      line = [];
      others = heard.others + others;
      front = record {
        lines = fronts.lines ++ (heard.line ++ front) ∷ [];
        cut = fronts.cut ∙ sym (append_assoc fronts.lines ((heard.line ++ front) ∷ []) (parts 10 after))
            ∙ ap (λ (ps : List (List ℕ)). (fronts.lines ++ (heard.line ++ front) ∷ []) ++ ps) (sym (glued_none (parts 10 after) (parts_some 10 after)));
        answered = rw (← text_is, counted) all;
      };
      kept = none;
    }

-- what is answered so far, with nothing behind it
pub heard_as : (input text : List ℕ) (now : SessionState) (number : ℕ) (partial : PartialState) (remaining : List ℕ) → HasAnsweredUpTo input text now number partial remaining → HasAnsweredUpTo input (text ++ []) now number partial remaining
heard_as input text now number partial remaining heard = rw append-nil heard

-- before the first read
pub heard_nothing : (now : SessionState) (number : ℕ) (partial : PartialState) → now ≡ start → number ≡ 1 → Holds partial [] → HasAnswered [] [] now number partial
heard_nothing now number partial session first none = record {
  line = [];
  others = 0;
  front = record { lines = []; cut = refl; answered = (refl, session, first, refl) };
  kept = none;
}

-- the end of the input
pub dialogue_ends : (input text last : List ℕ) (now : SessionState) (number others : ℕ) (partial : PartialState) → HasAnswered input text now number partial →
    ((line : List ℕ) → Holds partial line → EndsWith number line last others) → (all : ℕ) × IsDialogue input (text ++ last) all
dialogue_ends input text last now number others partial heard ends = (
  heard.others + others,
  record {
    front = text;
    rest = heard.line;
    number = number;
    before = heard.others;
    now = now;
    answered = heard.front;
    last = last;
    at_end = others;
    ended = ends heard.line heard.kept;
    text_is = refl;
    others_are = refl;
  },
)

-- Text on its way.

append_known_nil : (known : Option (List ℕ)) → append_known known [] ≡ known
append_known_nil None = refl
append_known_nil (Some xs) = ap (λ (ys : List ℕ). Some ys) (append-nil xs)

pub nothing_pending : (known : Option (List ℕ)) (pending : List ℕ) → pending ≡ [] → Appends known (append_known known pending) []
nothing_pending known pending none = rw (none, append_known_nil known) (Appends-nil known)

-- all text is written
pub flushed : (a b c : Option (List ℕ)) (text : List ℕ) → Appends a b text → Appends b c [] → Appends a c text
flushed a b c text first second = rw append-nil at (Appends-trans a b c text [] first second)

-- and more comes behind it
pub wrote_more : (a b c d : Option (List ℕ)) (text pending here : List ℕ) → Appends a b text → Appends b c [] → pending ≡ [] → Appends (append_known c pending) d here → Appends a d (text ++ here)
wrote_more a b c d text pending here first flush none more = Appends-trans a c d text here (flushed a b c text first flush) (rw (none, append_known_nil c) at more)

-- a read that gives nothing
pub consumed_none : (a b c : Option (List ℕ)) (input chunk : List ℕ) (count : ℕ) → count ≡ 0 → Consumes a b input → Consumes b c (take count chunk) → Consumes a c input
consumed_none a b c input chunk count none so_far here = rw (none, append-nil) at (Consumes-trans a b c input (take count chunk) so_far here)

-- nothing stands behind the last line end
pub ends_none : (number : ℕ) (line : List ℕ) → line ≡ [] → EndsWith number line [] 0
ends_none number line none = rw none (refl, refl)

-- something does
pub ends_bad : (number : ℕ) (line text : List ℕ) → (line ≡ [] → ⊥) → IsBadReply number text → EndsWith number line text 1
ends_bad number [] text some bad = absurd (some refl)
ends_bad number (c ∷ cs) text some bad = (bad, refl)
