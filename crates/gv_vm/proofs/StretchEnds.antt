-- Where the stretch of a page ends: the first mapping that ends behind the page decides.
use Rattle.std.proofs.Common.{◌≡◌, ℕ, ◌<◌, ◌≤◌, true, false, List, [], ◌∷◌, Some, None, refl, sym, subst, arith, nat_lt, ⊎_elim}
use Rattle.std.proofs.lemmas.Bool.{lt-ltb, le-ltb, cases_lt}
use Rattle.gv_types.specs.Page.{PAGES}
use Rattle.gv_types.specs.PageRange.{end_of}
use Rattle.gv_types.specs.declared.mapping.Mapping.{Mapping}
use Rattle.gv_ranges.specs.List.{first_ending_after}
use Rattle.gv_vm.specs.Places.{stretch_end}

-- a mapping that ends at the page or before it is passed over
passed : (n : Mapping) (ns : List Mapping) (page : ℕ) → end_of n.range ≤ page → stretch_end (n ∷ ns) page ≡ stretch_end ns page
passed n ns page ended =
    let behind : nat_lt page n.range.first ≡ false = le-ltb _ _ (omega (arith, ended)) in
    let past : nat_lt page (end_of n.range) ≡ false = le-ltb _ _ ended in
    rw (behind, past) refl

pub to_the_end : (ms : List Mapping) (page : ℕ) → first_ending_after ms page ≡ None → stretch_end ms page ≡ PAGES
to_the_end [] page none = refl
to_the_end (n ∷ ns) page none =
    ⊎_elim (λ less. let here : nat_lt page (end_of n.range) ≡ true = lt-ltb _ _ less in let first : Some n ≡ None = rw here at none in cc)
    (λ ended.
    let past : nat_lt page (end_of n.range) ≡ false = le-ltb _ _ ended in
    let later : first_ending_after ns page ≡ None = rw past at none in
    rw (passed n ns page ended) (to_the_end ns page later))
    (cases_lt page (end_of n.range))

pub to_the_next : (ms : List Mapping) (page : ℕ) (m : Mapping) → first_ending_after ms page ≡ Some m → page < m.range.first → stretch_end ms page ≡ m.range.first
to_the_next [] page m found before = cc
to_the_next (n ∷ ns) page m found before =
    ⊎_elim (λ less.
    let here : nat_lt page (end_of n.range) ≡ true = lt-ltb _ _ less in
    let first : Some n ≡ Some m = rw here at found in
    let same : n ≡ m = cc in
    subst (λ (x : Mapping). stretch_end (x ∷ ns) page ≡ m.range.first) (sym same) (let first' : nat_lt page m.range.first ≡ true = lt-ltb _ _ before in rw first' refl))
    (λ ended.
    let past : nat_lt page (end_of n.range) ≡ false = le-ltb _ _ ended in
    let later : first_ending_after ns page ≡ Some m = rw past at found in
    rw (passed n ns page ended) (to_the_next ns page m later before))
    (cases_lt page (end_of n.range))

pub to_its_end : (ms : List Mapping) (page : ℕ) (m : Mapping) → first_ending_after ms page ≡ Some m → m.range.first ≤ page → stretch_end ms page ≡ end_of m.range
to_its_end [] page m found begun = cc
to_its_end (n ∷ ns) page m found begun =
    ⊎_elim (λ less.
    let here : nat_lt page (end_of n.range) ≡ true = lt-ltb _ _ less in
    let first : Some n ≡ Some m = rw here at found in
    let same : n ≡ m = cc in
    let reaches : page < end_of m.range = subst (λ (x : Mapping). page < end_of x.range) same less in
    subst (λ (x : Mapping). stretch_end (x ∷ ns) page ≡ end_of m.range) (sym same)
    (let behind : nat_lt page m.range.first ≡ false = le-ltb _ _ begun in let inside : nat_lt page (end_of m.range) ≡ true = lt-ltb _ _ reaches in rw (behind, inside) refl))
    (λ ended.
    let past : nat_lt page (end_of n.range) ≡ false = le-ltb _ _ ended in
    let later : first_ending_after ns page ≡ Some m = rw past at found in
    rw (passed n ns page ended) (to_its_end ns page m later begun))
    (cases_lt page (end_of n.range))
