-- From what clap says of the words to what they ask for.
use Rattle.std.proofs.Common.{◌≡◌, ◌≢◌, ◌⊎◌, ℕ, List, [], ◌∷◌, length, Bool, true, false, ◌||◌, Option, Some, None, option_map, Result, Ok, Err, refl, sym, subst, codes, inl, inr, ap, ◌∙◌, arith}
use Rattle.std.specs.Prelude.{IsErrAnd, option_and_then}
use Rattle.std.specs.Borrow.{Bor}
use Rattle.clap.specs.Kinds.{Kinds, HasKind, IsAmong}
use Rattle.clap.specs.Words.{Row, Text, first_of, one_of, subcommand_name_of, subcommand_of, subcommand_rows_of}
use Rattle.clap.specs.Simple.{App, HasMatchesOf, is_simple}
use Rattle.clap.specs.declared.parser.matches.ArgMatches.{ArgMatches}
use Rattle.clap.specs.declared.parser.matches.ArgMatches.TheViews.{out-ArgMatches}
use Rattle.clap.specs.Takes.{takes}
use Rattle.clap.specs.Faults.{fault_of, is_simple_and_free}
use Rattle.clap.specs.Values.{kind_of}
use Rattle.clap.proofs.OnLiterals.{clap_on_literals}
use Rattle.clap.specs.declared.error.Error.{Error}
use Rattle.clap.specs.declared.error.kind.ErrorKind.TheVariants as kind
use Rattle.gv_program.specs.CommandLine.{IsEntered, IsFaultOf, IsTaskOf, NamesFile, ReadsBy, command_line, entered, file_named, rows_in, text_of}
use Rattle.gv_program.specs.declared.words.Task.{Task}
use Rattle.gv_program.specs.declared.words.Task.TheVariants.{Run, Serve, Replay, Draw, Compare, Threads}
use Rattle.gv_program.specs.declared.words.WordsFault.{WordsFault}
use Rattle.gv_program.specs.declared.words.WordsFault.TheVariants.{Printed, OutOfMemory}

is_exact : is_simple_and_free command_line ≡ true
unfolding clap_on_literals
is_exact = refl

is_exact_simple : is_simple command_line ≡ true
unfolding clap_on_literals
is_exact_simple = refl

takes_run : (name : List ℕ) → takes command_line (name ∷ codes "run" ∷ []) ≡ true
unfolding clap_on_literals
takes_run name = refl

takes_serve : (name : List ℕ) → takes command_line (name ∷ codes "serve" ∷ []) ≡ true
unfolding clap_on_literals
takes_serve name = refl

pub neither_is : (x a b : Bool) → x ≡ (a || b) → a ≡ false → b ≡ false → x ≡ false
neither_is x a b is no_a no_b = is ∙ ap (λ (y : Bool). y || b) no_a ∙ no_b

-- what clap's clause says of the kinds of its errors holds at the program's command line
pub at_command_line : (P : Kinds → Type 0) (words : List (List ℕ)) (app : App) → app ≡ command_line
    → (is_simple_and_free app ≡ true → P (fault_of app words)) → P (fault_of command_line words)
at_command_line P words app e given =
    subst (λ a. P (fault_of a words)) e (given (ap is_simple_and_free e ∙ is_exact))

-- an error of clap's is among the kinds of the fault that it becomes
pub reads_by : {T : Type 0} (kinds : Kinds) (error : Error) (r : Result T WordsFault)
    → HasKind kinds error → IsErrAnd r (IsFaultOf error) → ReadsBy kinds r
reads_by kinds error (Ok task) has given = absurd given
reads_by kinds error (Err (Printed shown)) (inl memory) given = absurd (given.1 memory)
reads_by kinds error (Err (Printed shown)) (inr among) given = rw given.0 among
reads_by kinds error (Err OutOfMemory) has given = tt

-- an error of clap's for want of memory is the program's
pub no_memory_of : {T : Type 0} (error : Error) (r : Result T WordsFault)
    → kind_of error ≡ kind.OutOfMemory → IsErrAnd r (IsFaultOf error)
    → r ≡ Err OutOfMemory
no_memory_of error (Ok task) memory given = absurd given
no_memory_of error (Err (Printed shown)) memory given = absurd (given.1 memory)
no_memory_of error (Err OutOfMemory) memory given = refl

-- of the word `run` clap refuses nothing, but for want of memory
pub run_passes : (app : App) (words : List (List ℕ)) (name : List ℕ) → app ≡ command_line
    → words ≡ name ∷ codes "run" ∷ [] → takes app words ≡ true
run_passes app words name e f = rw (e, f) (takes_run name)

pub serve_passes : (app : App) (words : List (List ℕ)) (name : List ℕ) → app ≡ command_line
    → words ≡ name ∷ codes "serve" ∷ [] → takes app words ≡ true
serve_passes app words name e f = rw (e, f) (takes_serve name)

map_twice : {A B C : Type 0} (f : A → B) (g : B → C) (o : Option A) → option_map g (option_map f o) ≡ option_map (λ x. g (f x)) o
map_twice f g None = refl
map_twice f g (Some x) = refl

-- what was found is found of the subcommand that clap enters
pub found_by : (app : App) (words : List (List ℕ)) (m : ArgMatches) → app ≡ command_line
    → HasMatchesOf app words m → subcommand_rows_of m ≡ subcommand_of command_line words
found_by app words m e has =
    (has (ap is_simple e ∙ is_exact_simple)).1 ∙ ap (λ (a : App). subcommand_of a words) e

name_of_rows : (m : ArgMatches) → subcommand_name_of m ≡ option_map (λ (p : Text × List Row). p.0) (subcommand_rows_of m)
name_of_rows m = sym (map_twice _ (λ (p : Text × List Row). p.0) (out-ArgMatches m).subcommand)

-- the name is that of the subcommand that clap enters
pub entered_by : (words : List (List ℕ)) (m : ArgMatches) → subcommand_rows_of m ≡ subcommand_of command_line words
    → subcommand_name_of m ≡ entered words
entered_by words m found = name_of_rows m ∙ ap (option_map (λ (p : Text × List Row). p.0)) found

pub is_entered : (words : List (List ℕ)) (m : ArgMatches) (task : Task) → subcommand_rows_of m ≡ subcommand_of command_line words
    → IsTaskOf m task → IsEntered (entered words) task
is_entered words m (Run explain file) found is =
    let same = entered_by words m found in
    (λ e. is.0 (same ∙ e), λ e. is.1 (same ∙ e))
is_entered words m (Serve json file) found is = sym (entered_by words m found) ∙ is.0
is_entered words m (Replay given) found is = sym (entered_by words m found) ∙ is
is_entered words m (Draw at width quiet file) found is = sym (entered_by words m found) ∙ is
is_entered words m (Compare given) found is = sym (entered_by words m found) ∙ is
is_entered words m (Threads queues turns explain) found is = sym (entered_by words m found) ∙ is

-- the file among the matches of a subcommand
file_among : (found : Option (Text × List Row)) (rows : List Row) → option_map (λ (p : Text × List Row). p.1) found ≡ Some rows
    → first_of (codes "file") rows ≡ option_and_then (λ (p : Text × List Row). first_of (codes "file") p.1) found
file_among None rows is = absurd cc
file_among (Some p) rows is = let same : p.1 ≡ rows = cc in ap (first_of (codes "file")) (sym same)

-- where a subcommand was entered, it has matches
rows_there : (found : Option (Text × List Row)) (name : Text) → option_map (λ (p : Text × List Row). p.0) found ≡ Some name
    → (rows : List Row) × (option_map (λ (p : Text × List Row). p.1) found ≡ Some rows)
rows_there None name is = absurd cc
rows_there (Some p) name is = (p.1, refl)

pub names_file : (words : List (List ℕ)) (m : ArgMatches) (task : Task) → subcommand_rows_of m ≡ subcommand_of command_line words
    → IsTaskOf m task → NamesFile words task
names_file words m (Run explain file) found is = λ run.
    let named : subcommand_name_of m ≡ Some (codes "run") = entered_by words m found ∙ run in
    let there = rows_there (subcommand_rows_of m) (codes "run") (sym (name_of_rows m) ∙ named) in
    (is.2 there.0 named there.1).0 ∙ file_among _ there.0 there.1 ∙ ap (option_and_then (λ (p : Text × List Row). first_of (codes "file") p.1)) found
names_file words m (Serve json file) found is =
    let there = rows_there (subcommand_rows_of m) (codes "serve") (sym (name_of_rows m) ∙ is.0) in
    (is.1 there.0 there.1).0 ∙ file_among _ there.0 there.1 ∙ ap (option_and_then (λ (p : Text × List Row). first_of (codes "file") p.1)) found
names_file words m (Replay given) found is = tt
names_file words m (Draw at width quiet file) found is = tt
names_file words m (Compare given) found is = tt
names_file words m (Threads queues turns explain) found is = tt

-- the words `run` and `serve` alone

entered_run : (name : List ℕ) → entered (name ∷ codes "run" ∷ []) ≡ Some (codes "run")
unfolding clap_on_literals
entered_run name = refl

entered_serve : (name : List ℕ) → entered (name ∷ codes "serve" ∷ []) ≡ Some (codes "serve")
unfolding clap_on_literals
entered_serve name = refl

no_file_run : (name : List ℕ) → file_named (name ∷ codes "run" ∷ []) ≡ None
unfolding clap_on_literals
no_file_run name = refl

no_file_serve : (name : List ℕ) → file_named (name ∷ codes "serve" ∷ []) ≡ None
unfolding clap_on_literals
no_file_serve name = refl

flag_of : Text → Option (Text × List Row) → Option Text
flag_of flag = option_and_then (λ p. one_of flag p.1)

not_explained : (name : List ℕ) → flag_of (codes "explain") (subcommand_of command_line (name ∷ codes "run" ∷ [])) ≡ Some (codes "false")
unfolding clap_on_literals flag_of
not_explained name = refl

not_json : (name : List ℕ) → flag_of (codes "json") (subcommand_of command_line (name ∷ codes "serve" ∷ [])) ≡ Some (codes "false")
unfolding clap_on_literals flag_of
not_json name = refl

flag_among : (flag : Text) (found : Option (Text × List Row)) (rows : List Row) → option_map (λ (p : Text × List Row). p.1) found ≡ Some rows
    → one_of flag rows ≡ flag_of flag found
unfolding flag_of
flag_among flag None rows is = absurd cc
flag_among flag (Some p) rows is = let same : p.1 ≡ rows = cc in ap (one_of flag) (sym same)

no_text : (file : Option (Bor (List ℕ))) → text_of file ≡ None → file ≡ None
no_text None is = refl
no_text (Some text) is = absurd cc

abbrev begins_with : Option (List ℕ) → ℕ
begins_with (Some (letter ∷ more)) = letter
begins_with other = 0

abbrev length_of : Option (List ℕ) → ℕ
length_of (Some word) = length word
length_of other = 0

-- words that begin with other letters, or are longer, are not the same
apart : (a b : Option (List ℕ)) → begins_with a ≢ begins_with b → a ≡ b → ⊥
apart a b other same = other (ap begins_with same)

longer : (a b : Option (List ℕ)) → length_of a ≢ length_of b → a ≡ b → ⊥
longer a b other same = other (ap length_of same)

abbrev the_run : Option (List ℕ)
the_run = Some (codes "run")

abbrev the_serve : Option (List ℕ)
the_serve = Some (codes "serve")

run_by : (name : List ℕ) (words : List (List ℕ)) (m : ArgMatches) (task : Task) → words ≡ name ∷ codes "run" ∷ []
    → subcommand_rows_of m ≡ subcommand_of command_line words → subcommand_name_of m ≡ the_run → IsTaskOf m task → task ≡ Run false None
run_by name words m (Run explain file) asked found named is =
    let there = rows_there (subcommand_rows_of m) (codes "run") (sym (name_of_rows m) ∙ named) in
    let given = is.2 there.0 named there.1 in
    let same = found ∙ ap (subcommand_of command_line) asked in
    let plain : explain ≡ false = given.1 (flag_among _ _ there.0 there.1 ∙ ap (flag_of (codes "explain")) same ∙ not_explained name) in
    let none : file ≡ None = no_text file (given.0 ∙ file_among _ there.0 there.1 ∙ ap (option_and_then (λ (p : Text × List Row). first_of (codes "file") p.1)) same ∙ no_file_run name) in
    rw (plain, none) refl
run_by name words m (Serve json file) asked found named is = absurd (apart the_serve the_run (λ e. omega (arith, e)) (sym is.0 ∙ named))
run_by name words m (Replay given) asked found named is = absurd (longer (Some (codes "replay")) the_run (λ e. omega (arith, e)) (sym is ∙ named))
run_by name words m (Draw at width quiet file) asked found named is = absurd (apart (Some (codes "draw")) the_run (λ e. omega (arith, e)) (sym is ∙ named))
run_by name words m (Compare given) asked found named is = absurd (apart (Some (codes "compare")) the_run (λ e. omega (arith, e)) (sym is ∙ named))
run_by name words m (Threads queues turns explain) asked found named is = absurd (apart (Some (codes "threads")) the_run (λ e. omega (arith, e)) (sym is ∙ named))

-- the word `run` alone runs the script of standard input
pub run_alone : (words : List (List ℕ)) (name : List ℕ) (m : ArgMatches) (task : Task) → words ≡ name ∷ codes "run" ∷ []
    → subcommand_rows_of m ≡ subcommand_of command_line words → IsTaskOf m task → task ≡ Run false None
run_alone words name m task asked found is =
    run_by name words m task asked found (entered_by words m found ∙ ap entered asked ∙ entered_run name) is

serve_by : (name : List ℕ) (words : List (List ℕ)) (m : ArgMatches) (task : Task) → words ≡ name ∷ codes "serve" ∷ []
    → subcommand_rows_of m ≡ subcommand_of command_line words → subcommand_name_of m ≡ the_serve → IsTaskOf m task → task ≡ Serve false None
serve_by name words m (Serve json file) asked found named is =
    let there = rows_there (subcommand_rows_of m) (codes "serve") (sym (name_of_rows m) ∙ named) in
    let given = is.1 there.0 there.1 in
    let same = found ∙ ap (subcommand_of command_line) asked in
    let plain : json ≡ false = given.1 (flag_among _ _ there.0 there.1 ∙ ap (flag_of (codes "json")) same ∙ not_json name) in
    let none : file ≡ None = no_text file (given.0 ∙ file_among _ there.0 there.1 ∙ ap (option_and_then (λ (p : Text × List Row). first_of (codes "file") p.1)) same ∙ no_file_serve name) in
    rw (plain, none) refl
serve_by name words m (Run explain file) asked found named is = absurd (is.0 named)
serve_by name words m (Replay given) asked found named is = absurd (apart (Some (codes "replay")) the_serve (λ e. omega (arith, e)) (sym is ∙ named))
serve_by name words m (Draw at width quiet file) asked found named is = absurd (apart (Some (codes "draw")) the_serve (λ e. omega (arith, e)) (sym is ∙ named))
serve_by name words m (Compare given) asked found named is = absurd (apart (Some (codes "compare")) the_serve (λ e. omega (arith, e)) (sym is ∙ named))
serve_by name words m (Threads queues turns explain) asked found named is = absurd (apart (Some (codes "threads")) the_serve (λ e. omega (arith, e)) (sym is ∙ named))

-- and `serve` alone holds a dialogue in text
pub serve_alone : (words : List (List ℕ)) (name : List ℕ) (m : ArgMatches) (task : Task) → words ≡ name ∷ codes "serve" ∷ []
    → subcommand_rows_of m ≡ subcommand_of command_line words → IsTaskOf m task → task ≡ Serve false None
serve_alone words name m task asked found is =
    serve_by name words m task asked found (entered_by words m found ∙ ap entered asked ∙ entered_serve name) is
