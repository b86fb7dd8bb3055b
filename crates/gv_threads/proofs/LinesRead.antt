-- What a script keeps of its lines, one line more.
use Rattle.std.proofs.Common.{◌≡◌, ℕ, true, List, [], ◌∷◌, ◌++◌, Option, Some, map, refl, sym, ap, ◌∙◌, subst, append_assoc, append-nil}
use Rattle.std.specs.List.{All, flat_map}
use Rattle.std.proofs.lemmas.List.{flat_map_more, map-append}
use Rattle.std.proofs.lemmas.List.Elements.{All-nil, All-cons, All-append}
use Rattle.gv_types.specs.Bounds.{whole_area}
use Rattle.gv_types.specs.Limits.{greatest}
use Rattle.gv_lines.specs.Grammar.{parsed}
use Rattle.gv_lines.specs.declared.line.Line.{Line}
use Rattle.gv_lines.specs.declared.line.Line.TheVariants as line
use Rattle.gv_threads.specs.Parts.{IsAsked, Keeps, areas_in, last_of, limits_in, questions_in, questions_of, requests_in, settings_in, timelines_in, unnumbered}
use Rattle.gv_threads.specs.ReadSoFar.{MayStand, MayStandAll, MayStandBehind, ReadSoFar, parts_in, read_after, read_so_far, stages_in}
use Rattle.gv_threads.specs.Reading.{Adds}
use Rattle.gv_threads.specs.Script.{ThreadsScriptState}
use Rattle.gv_session.specs.declared.stage.Stage.{Stage}
use Rattle.gv_session.specs.declared.stage.Stage.TheVariants.{Fresh}
use Rattle.gv_threads.specs.declared.script.Part.{Part}
use Rattle.gv_threads.specs.declared.script.Part.TheVariants.{Settings}

last_of-append : {X : Type 0} (before : X) (xs ys : List X) → last_of before (xs ++ ys) ≡ last_of (last_of before xs) ys
last_of-append before [] ys = refl
last_of-append before (x ∷ xs) ys = last_of-append x xs ys

-- what stands last of the lines, and of one line more
last_more : {X : Type 0} (of : Line → List X) (first before after : X) (lines : List Line) (l : Line) →
    before ≡ last_of first (flat_map of lines) → after ≡ last_of before (of l) → after ≡ last_of first (flat_map of (lines ++ l ∷ []))
last_more of first before after lines l was is =
    is ∙ ap (λ (x : _). last_of x (of l)) was ∙ sym (last_of-append first (flat_map of lines) (of l)) ∙ ap (λ (xs : List _). last_of first xs) (flat_map_more of [] lines l)

-- all that the lines are to a part, and one line more
part_more : {X : Type 0} (of : Line → List X) (before after : List X) (lines : List Line) (l : Line) →
    before ≡ flat_map of lines → after ≡ before ++ of l → after ≡ flat_map of (lines ++ l ∷ [])
part_more of before after lines l was is = is ∙ ap (λ (xs : List _). xs ++ of l) was ∙ flat_map_more of [] lines l

pub keeps_more : (text : List ℕ) (lines : List Line) (old new : ThreadsScriptState) (adds : Adds text old new) → (old.has_memory ≡ true → Keeps lines old) →
    new.has_memory ≡ true → Keeps (lines ++ adds.line ∷ []) new
keeps_more text lines old new adds kept has_memory =
    let was : Keeps lines old = kept (adds.has_memory has_memory) in record {
      bounds = last_more areas_in whole_area old.bounds new.bounds lines adds.line was.bounds adds.bounds;
      limits = last_more limits_in greatest old.limits new.limits lines adds.line was.limits adds.limits;
      timelines = part_more timelines_in old.timelines new.timelines lines adds.line was.timelines adds.timelines;
      settings = part_more settings_in (unnumbered old.settings) (unnumbered new.settings) lines adds.line was.settings (adds.settings has_memory);
      requests = part_more requests_in (unnumbered old.requests) (unnumbered new.requests) lines adds.line was.requests (adds.requests has_memory);
      questions = part_more questions_in (unnumbered old.questions) (unnumbered new.questions) lines adds.line was.questions (adds.questions has_memory);
    }

-- one more text was read
pub read_more : (texts : List (List ℕ)) (lines : List Line) (text : List ℕ) (l : Line) → map parsed texts ≡ map Some lines → parsed text ≡ Some l →
    map parsed (texts ++ text ∷ []) ≡ map Some (lines ++ l ∷ [])
read_more texts lines text l before here =
    map-append parsed texts (text ∷ []) ∙ ap (λ (xs : List (Option Line)). xs ++ parsed text ∷ []) before
    ∙ ap (λ (x : Option Line). map Some lines ++ x ∷ []) here ∙ sym (map-append Some lines (l ∷ []))

asked_in : (l : Line) → All IsAsked (questions_in l)
asked_in (line.Uses name) = All-cons IsAsked (line.Uses name) [] tt (All-nil IsAsked)
asked_in line.Map = All-cons IsAsked line.Map [] tt (All-nil IsAsked)
asked_in (line.At addr) = All-cons IsAsked (line.At addr) [] tt (All-nil IsAsked)
asked_in line.Tables = All-cons IsAsked line.Tables [] tt (All-nil IsAsked)
asked_in line.Journal = All-cons IsAsked line.Journal [] tt (All-nil IsAsked)
asked_in (line.Value name) = All-cons IsAsked (line.Value name) [] tt (All-nil IsAsked)
asked_in (line.Told queue) = All-cons IsAsked (line.Told queue) [] tt (All-nil IsAsked)
asked_in other = All-nil IsAsked

-- each line of the last part asks
pub asked_all : (lines : List Line) → All IsAsked (questions_of lines)
asked_all [] = All-nil IsAsked
asked_all (l ∷ lines) = All-append IsAsked (questions_in l) (questions_of lines) (asked_in l) (asked_all lines)

-- one line more may stand
stand_more : (queues : ℕ) (before lines : List Line) (l : Line) → MayStandBehind queues before lines → MayStand queues (read_after (before ++ lines)) l →
    MayStandBehind queues before (lines ++ l ∷ [])
stand_more queues before [] l were may = (subst (λ (ls : List Line). MayStand queues (read_after ls) l) (append-nil before) may, tt)
stand_more queues before (first ∷ lines) l were may = (
  were.0,
  stand_more queues (before ++ first ∷ []) lines l were.1
      (subst (λ (ls : List Line). MayStand queues (read_after ls) l) (sym (append_assoc before (first ∷ []) lines)) may),
)

pub stand_all_more : (queues : ℕ) (lines : List Line) (old : ThreadsScriptState) (l : Line) → read_so_far old ≡ read_after lines → old.queues ≡ queues →
    MayStandAll queues lines → MayStand old.queues (read_so_far old) l → MayStandAll queues (lines ++ l ∷ [])
stand_all_more queues lines old l so_far count were may =
    stand_more queues [] lines l were
    (subst (λ (p : ReadSoFar). MayStand queues p l) so_far (subst (λ (n : ℕ). MayStand n (read_so_far old) l) count may))

-- where the next line stands
pub standing_more : (text : List ℕ) (lines : List Line) (old new : ThreadsScriptState) (adds : Adds text old new) → read_so_far old ≡ read_after lines →
    read_so_far new ≡ read_after (lines ++ adds.line ∷ [])
standing_more text lines old new adds was =
    let l : Line = adds.line in
    let longer : List Line = lines ++ l ∷ [] in
    let part : new.part ≡ (read_after longer).part = last_more parts_in Settings old.part new.part lines l (ap (λ (p : ReadSoFar). p.part) was) adds.part in
    let stage : new.stage ≡ (read_after longer).stage = last_more stages_in Fresh old.stage new.stage lines l (ap (λ (p : ReadSoFar). p.stage) was) adds.stage in
    let timelines : new.timelines ≡ (read_after longer).timelines =
    part_more timelines_in old.timelines new.timelines lines l (ap (λ (p : ReadSoFar). p.timelines) was) adds.timelines in
    ap (λ (x : Part). let p : ReadSoFar = record { part = x; stage = new.stage; timelines = new.timelines } in p) part
    ∙ ap (λ (x : Stage). let p : ReadSoFar = record { part = (read_after longer).part; stage = x; timelines = new.timelines } in p) stage
    ∙ ap (λ (x : List (List ℕ)). let p : ReadSoFar = record { part = (read_after longer).part; stage = (read_after longer).stage; timelines = x } in p) timelines
