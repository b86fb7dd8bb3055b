-- Clauses of which at most one names a queue.
use Rattle.std.proofs.Common.{◌≡◌, ℕ, ◌+◌, ◌≤◌, ◌<◌, List, [], ◌∷◌, ◌++◌, Option, Some, None, Bool, true, false, length, refl, sym, ap, ◌∙◌, length-append, arith, nat_le}
use Rattle.std.proofs.lemmas.List.{append-nil}
use Rattle.std.proofs.lemmas.Bool.Decides.{nat_tests}
use Rattle.gv_lines.specs.OptionSteps.{◌>>=◌, all_read}
use Rattle.gv_lines.specs.Clause.{clause_of, clauses_read, queues_of, with_one_queue}
use Rattle.gv_lines.specs.declared.clause.Clause.{Clause}
use Rattle.gv_lines.specs.declared.clause.Clause.TheVariants.{Change, Wait, Signal, Queue}
use Rattle.gv_lines.proofs.ListParsing.{read_behind, read_start, read_more, read_fails}

pub queues_of-append : (xs ys : List Clause) → queues_of (xs ++ ys) ≡ queues_of xs ++ queues_of ys
queues_of-append [] ys = refl
queues_of-append (Change operation ∷ xs) ys = queues_of-append xs ys
queues_of-append (Wait point ∷ xs) ys = queues_of-append xs ys
queues_of-append (Signal point ∷ xs) ys = queues_of-append xs ys
queues_of-append (Queue queue ∷ xs) ys = ap (λ qs. queue ∷ qs) (queues_of-append xs ys)

-- how many queues, where one at most was named
abbrev pub count_if : Bool → ℕ
count_if true = 1
count_if false = 0

-- what was read so far, and whether it names a queue
pub record IsReadTo (whole left : List (List (List ℕ))) (has_queue : Bool) : Type 0 where
  pub front : List Clause
  pub read : all_read clause_of whole ≡ read_behind clause_of front left
  pub counted : length (queues_of front) ≡ count_if has_queue

pub read_to_start : (whole left : List (List (List ℕ))) → left ≡ whole → IsReadTo whole left false
read_to_start whole left same = record { front = []; read = read_start clause_of whole ∙ ap (read_behind clause_of []) (sym same); counted = refl }

-- one more clause
read_to_more : (whole left more : List (List (List ℕ))) (part : List (List ℕ)) (clause : Clause) (had has : Bool) → IsReadTo whole left had → left ≡ part ∷ more → clause_of part ≡ Some clause →
    length (queues_of (clause ∷ [])) + count_if had ≡ count_if has → IsReadTo whole more has
read_to_more whole left more part clause had has so_far next is counted =
    record {
      front = so_far.front ++ clause ∷ [];
      read = so_far.read ∙ ap (read_behind clause_of so_far.front) next ∙ read_more clause_of so_far.front part more clause is;
      counted = omega (arith, ap length (queues_of-append so_far.front (clause ∷ [])), length-append (queues_of so_far.front) (queues_of (clause ∷ [])), so_far.counted, counted);
    }

-- one that names no queue
pub read_to_other : (whole left more : List (List (List ℕ))) (part : List (List ℕ)) (clause : Clause) (had : Bool) → IsReadTo whole left had → left ≡ part ∷ more → clause_of part ≡ Some clause →
    ((queue : ℕ) → clause ≡ Queue queue → ⊥) → IsReadTo whole more had
read_to_other whole left more part (Change operation) had so_far next is plain = read_to_more whole left more part (Change operation) had had so_far next is (omega arith)
read_to_other whole left more part (Wait point) had so_far next is plain = read_to_more whole left more part (Wait point) had had so_far next is (omega arith)
read_to_other whole left more part (Signal point) had so_far next is plain = read_to_more whole left more part (Signal point) had had so_far next is (omega arith)
read_to_other whole left more part (Queue queue) had so_far next is plain = absurd (plain queue refl)

-- the first that names one
pub read_to_queue : (whole left more : List (List (List ℕ))) (part : List (List ℕ)) (queue : ℕ) (had : Bool) → IsReadTo whole left had → left ≡ part ∷ more → clause_of part ≡ Some (Queue queue) →
    had ≡ false → IsReadTo whole more true
read_to_queue whole left more part queue true so_far next is first = absurd (cc)
read_to_queue whole left more part queue false so_far next is first = read_to_more whole left more part (Queue queue) false true so_far next is refl

two_queues : (front back : List Clause) (queue : ℕ) → length (queues_of front) ≡ 1 → with_one_queue (front ++ Queue queue ∷ back) ≡ None
two_queues front back queue one =
    let many : 1 < length (queues_of (front ++ Queue queue ∷ back)) =
    omega (arith, ap length (queues_of-append front (Queue queue ∷ back)), length-append (queues_of front) (queue ∷ queues_of back), one) in
    let over : nat_le (length (queues_of (front ++ Queue queue ∷ back))) 1 ≡ false = grind (arith, nat_tests, many) in
    rw over refl

-- a second one
pub read_to_second : (whole left more : List (List (List ℕ))) (part : List (List ℕ)) (queue : ℕ) (had : Bool) → IsReadTo whole left had → left ≡ part ∷ more → clause_of part ≡ Some (Queue queue) →
    had ≡ true → clauses_read whole ≡ None
read_to_second whole left more part queue had so_far next is second =
    let one : length (queues_of so_far.front) ≡ 1 = so_far.counted ∙ ap count_if second in
    ap (λ (o : Option (List Clause)). o >>= with_one_queue) (so_far.read ∙ ap (read_behind clause_of so_far.front) next)
    ∙ rw is
    (elim (all_read clause_of more) as (λ (o : Option (List Clause)). ((o >>= (λ xs. Some (Queue queue ∷ xs))) >>= (λ back. Some (so_far.front ++ back))) >>= with_one_queue ≡ None) [
      | None ↦ refl
      | Some xs ↦ two_queues so_far.front xs queue one
    ])

-- no clause
pub read_to_none : (whole left more : List (List (List ℕ))) (part : List (List ℕ)) (had : Bool) → IsReadTo whole left had → left ≡ part ∷ more → clause_of part ≡ None → clauses_read whole ≡ None
read_to_none whole left more part had so_far next is =
    ap (λ (o : Option (List Clause)). o >>= with_one_queue) (so_far.read ∙ ap (read_behind clause_of so_far.front) next ∙ read_fails clause_of so_far.front part more is)

at_most_one : (has : Bool) → count_if has ≤ 1
at_most_one true = omega arith
at_most_one false = omega arith

-- all are read
pub read_to_end : (whole left : List (List (List ℕ))) (has : Bool) → IsReadTo whole left has → left ≡ [] →
    (front : List Clause) × (all_read clause_of whole ≡ Some front) × (clauses_read whole ≡ Some front)
read_to_end whole left has so_far none =
    let all : all_read clause_of whole ≡ Some so_far.front =
    so_far.read ∙ ap (read_behind clause_of so_far.front) none ∙ ap Some (append-nil so_far.front) in
    let few : length (queues_of so_far.front) ≤ 1 = omega (arith, so_far.counted, at_most_one has) in
    let one : nat_le (length (queues_of so_far.front)) 1 ≡ true = grind (arith, nat_tests, few) in
    (so_far.front, all, rw (all, one) refl)
