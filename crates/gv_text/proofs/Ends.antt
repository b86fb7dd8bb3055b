-- How a line that was not run ends the run.
use Rattle.std.proofs.Common.{◌≡◌, ℕ, ◌+◌, ◌≤◌, List, [], ◌∷◌, Bool, true, nat_eq, Option, inr, Result, Err, subst, refl, append-nil, length, arith}
use Rattle.std.proofs.lemmas.Bool.Decides.{nat_tests}
use Rattle.std.specs.Io.KnownBytes.{Appends}
use Rattle.std.proofs.KnownBytes.{Appends-trans}
use Rattle.gv_text.specs.Reading.{script_limit, TellsWrites}
use Rattle.gv_session.specs.State.{SessionState}
use Rattle.gv_session.specs.Line.{IsGoodText}
use Rattle.gv_text.specs.Script.{IsFront, IsBadBefore, WantsBefore, MayWant, StopsBefore, StopsAt, Ends, LineEnds}
use Rattle.gv_session.specs.declared.fault.ScriptFault.{ScriptFault}
use Rattle.gv_session.specs.declared.fault.ScriptFault.TheVariants.{BadLine, ScriptTooLong, ReadFault, WriteFault, OutOfMemory}
use Rattle.gv_text.proofs.Alike.{only_stop}

bad_before : (now : SessionState) (line : List ℕ) (more : List (List ℕ)) → (more ≡ [] → ⊥) → ¬ IsGoodText line now → IsBadBefore now line more
bad_before now line [] some bad = absurd (some refl)
bad_before now line (next ∷ more) some bad = bad

good_before : (now : SessionState) (line : List ℕ) (more : List (List ℕ)) → (more ≡ [] → ⊥) → MayWant line now → WantsBefore now line more
good_before now line [] some good = absurd (some refl)
good_before now line (next ∷ more) some good = good

Appends-end : (a b c : Option (List ℕ)) (text : List ℕ) → Appends a b text → Appends b c [] → Appends a c text
Appends-end a b c text first second = rw append-nil at (Appends-trans a b c text [] first second)

pub stops_at : (script text line : List ℕ) (more : List (List ℕ)) (count refusals number : ℕ) (now : SessionState) → length script ≤ script_limit →
    IsFront script text (line ∷ more) count refusals now → IsBadBefore now line more → number ≡ count + 1 → StopsAt script text number
stops_at script text line more count refusals number now short front bad is =
    let stops : StopsBefore script text refusals number = record { line = line; more = more; count = count; now = now; front = front; bad = bad; counted = is } in
    record { short = short; refusals = refusals; stops = stops; ample = only_stop script text refusals number stops }

pub line_ends : (T U : Type 0) (script text line : List ℕ) (more : List (List ℕ)) (count refusals : ℕ) (now new : SessionState)
    (held mid holds : Option (List ℕ)) (fault : ScriptFault) → length script ≤ script_limit →
    IsFront script text (line ∷ more) count refusals now → (more ≡ [] → ⊥) → Appends held mid text →
    LineEnds {T = T} now line (count + 1) new mid holds (Err fault) → Ends {T = U} script held holds (Err fault)
line_ends T U script text line more count refusals now new held mid holds (BadLine number) short front some wrote ends =
    (text, stops_at script text line more count refusals number now short front (bad_before now line more some ends.0) ends.1, Appends-end held mid holds text wrote ends.2)
line_ends T U script text line more count refusals now new held mid holds OutOfMemory short front some wrote ends =
    (text, record { short = short; next = line; more = more; count = count; refusals = refusals; now = now; front = front; good = inr (good_before now line more some ends.0) }, Appends-end held mid holds text wrote ends.1)
line_ends T U script text line more count refusals now new held mid holds WriteFault short front some wrote ends = ends
line_ends T U script text line more count refusals now new held mid holds ReadFault short front some wrote ends = absurd ends
line_ends T U script text line more count refusals now new held mid holds ScriptTooLong short front some wrote ends = absurd ends

-- the writer's flag was before the line as it was at first
pub tells_from : {T : Type 0} (old here new : Bool) (r : Result T ScriptFault) → here ≡ old → TellsWrites here new r → TellsWrites old new r
tells_from old here new r same tells = let P : Bool → Type 0 = λ flag. TellsWrites flag new r in subst P same tells

pub empty_from : (xs : List ℕ) → true ≡ nat_eq (length xs) 0 → xs ≡ []
empty_from [] is = refl
empty_from (x ∷ xs) is = absurd (grind (arith, nat_tests))
