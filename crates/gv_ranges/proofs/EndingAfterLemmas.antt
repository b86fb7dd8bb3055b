-- For callers: the first mapping of a list that ends behind a page, and what it says of the page.
use Rattle.std.proofs.Common.{◌≡◌, ℕ, zero, suc, ◌+◌, ◌≤◌, ◌<◌, ◌++◌, ◌∙◌, true, false, cond, length, take, drop, get_or, List, [], ◌∷◌, None, Some, arith, ap, sym, refl, subst, nat_lt, slice_index_or, ⊎_elim}
use Rattle.std.proofs.lemmas.Bool.{lt-ltb, le-ltb, cases_lt}
use Rattle.std.proofs.lemmas.List.{get_or-drop, take_all, length-drop, drop_more, drop_all}
use Rattle.std.proofs.lemmas.List.Elements.{All-head, All-tail}
use Rattle.std.specs.List.{All}
use Rattle.std.specs.Global.{Vec}
use Rattle.gv_types.specs.Page.{PAGES}
use Rattle.gv_types.specs.PageRange.{end_of}
use Rattle.gv_types.specs.Mapping.{part, IsMapping}
use Rattle.gv_types.specs.declared.mapping.Mapping.{Mapping}
use Rattle.gv_chunks.specs.Chunks.{chunks_joined}
use Rattle.gv_chunks.proofs.ChunkLemmas.{joined_at}
use Rattle.gv_ranges.specs.List.{at, first_ending_after, IsLaidOut, IsLaidOutFrom}
use Rattle.gv_ranges.proofs.LookupLemmas.{at_skip, at_gap, at_found, is_mapping}
use Rattle.gv_ranges.proofs.SearchSteps.{ended-up-to}

-- where none ends behind the page, there is none
pub behind_none : (ms : List Mapping) (page : ℕ) → All (λ m. end_of m.range ≤ page) ms → first_ending_after ms page ≡ None
behind_none [] page ended = refl
behind_none (n ∷ ns) page ended =
    let past : nat_lt page (end_of n.range) ≡ false = le-ltb _ _ (All-head (λ (x : Mapping). end_of x.range ≤ page) n ns ended) in
    rw past (behind_none ns page (All-tail (λ (x : Mapping). end_of x.range ≤ page) n ns ended))

-- no mapping ends behind the end of the address space
pub behind_past : (ms : List Mapping) (low page : ℕ) → IsLaidOutFrom low ms → PAGES ≤ page → first_ending_after ms page ≡ None
behind_past [] low page laid past = refl
behind_past (n ∷ ns) low page laid past =
    let ends : nat_lt page (end_of n.range) ≡ false = le-ltb _ _ (omega (arith, laid.1.0.1)) in
    rw ends (behind_past ns (end_of n.range) page laid.2 past)

-- the one at an index, where those before it don't
pub behind_at : (ms : List Mapping) (page i : ℕ) (m : Mapping) → i < length ms → All (λ m. end_of m.range ≤ page) (take i ms) →
    m ≡ get_or ms i m → page < end_of m.range → first_ending_after ms page ≡ Some m
behind_at [] page i m within ended is reaches = absurd (omega arith)
behind_at (n ∷ ns) page zero m within ended is reaches =
    let here : nat_lt page (end_of n.range) ≡ true = lt-ltb _ _ (subst (λ (x : Mapping). page < end_of x.range) is reaches) in
    rw here (ap Some (sym is))
behind_at (n ∷ ns) page (suc i) m within ended is reaches =
    let past : nat_lt page (end_of n.range) ≡ false = le-ltb _ _ (All-head (λ (x : Mapping). end_of x.range ≤ page) n (take i ns) ended) in
    rw past (behind_at ns page i m (omega arith) (All-tail (λ (x : Mapping). end_of x.range ≤ page) n (take i ns) ended) is reaches)

-- the next one, where those up to an index don't, and those behind it begin behind the page
module _ (ms : List Mapping) (page i : ℕ) (laid : IsLaidOut ms) (within : i < length ms) (here : (d : Mapping) → end_of (get_or ms i d).range ≤ page) where
  pub behind_next : (m : Mapping) → i + 1 < length ms → All (λ m. page < m.range.first) (drop (i + 1) ms) → m ≡ get_or ms (i + 1) m → first_ending_after ms page ≡ Some m
  behind_next m more later is =
      let ended = ended-up-to ms page i laid within (i + 1) refl here in
      let begins : page < (get_or (drop (i + 1) ms) 0 m).range.first = later 0 m (omega (arith, length-drop (i + 1) ms)) in
      let same : i + 1 + 0 ≡ i + 1 = omega arith in
      let begins' : page < (get_or ms (i + 1 + 0) m).range.first = rw (get_or-drop (i + 1) ms 0 m) at begins in
      let begins'' : page < (get_or ms (i + 1) m).range.first = rw same at begins' in
      let first : page < m.range.first = subst (λ (x : Mapping). page < x.range.first) (sym is) begins'' in
      behind_at ms page (i + 1) m more ended.ended is (omega (arith, first))

  pub behind_last : length ms ≤ i + 1 → first_ending_after ms page ≡ None
  behind_last few =
      let ended = ended-up-to ms page i laid within (i + 1) refl here in
      behind_none ms page (subst (All (λ m. end_of m.range ≤ page)) (take_all (i + 1) ms few) ended.ended)

-- of two lists, one behind the other

behind-ended : (xs ys : List Mapping) (page : ℕ) → All (λ m. end_of m.range ≤ page) xs → first_ending_after (xs ++ ys) page ≡ first_ending_after ys page
behind-ended [] ys page ended = refl
behind-ended (x ∷ xs) ys page ended =
    let past : nat_lt page (end_of x.range) ≡ false = le-ltb _ _ (All-head (λ (m : Mapping). end_of m.range ≤ page) x xs ended) in
    rw past (behind-ended xs ys page (All-tail (λ (m : Mapping). end_of m.range ≤ page) x xs ended))

behind-found : (xs ys : List Mapping) (page : ℕ) (m : Mapping) → first_ending_after xs page ≡ Some m → first_ending_after (xs ++ ys) page ≡ Some m
behind-found [] ys page m found = cc
behind-found (x ∷ xs) ys page m found =
    elim (nat_lt page (end_of x.range)) as (λ b. cond b (Some x) (first_ending_after xs page) ≡ Some m → cond b (Some x) (first_ending_after (xs ++ ys) page) ≡ Some m)
    [ true ↦ (λ h. h) | false ↦ (λ h. behind-found xs ys page m h) ] found

behind-missed : (xs ys : List Mapping) (page : ℕ) → first_ending_after xs page ≡ None → first_ending_after (xs ++ ys) page ≡ first_ending_after ys page
behind-missed [] ys page missed = refl
behind-missed (x ∷ xs) ys page missed =
    elim (nat_lt page (end_of x.range)) as (λ b. cond b (Some x) (first_ending_after xs page) ≡ None → cond b (Some x) (first_ending_after (xs ++ ys) page) ≡ first_ending_after ys page)
    [ true ↦ (λ h. cc) | false ↦ (λ h. behind-missed xs ys page h) ] missed

-- where all begin behind the page, it is the first
behind-head : (xs ys : List Mapping) (page : ℕ) (m : Mapping) → 0 < length xs → m ≡ get_or xs 0 m → All (λ m. page < m.range.first) (xs ++ ys) → first_ending_after (xs ++ ys) page ≡ Some m
behind-head [] ys page m some is later = absurd (omega arith)
behind-head (x ∷ xs) ys page m some is later =
    let begins : page < x.range.first = All-head (λ (n : Mapping). page < n.range.first) x (xs ++ ys) later in
    let here : nat_lt page (end_of x.range) ≡ true = lt-ltb _ _ (omega (arith, begins)) in
    rw here (ap Some (sym is))

-- no chunk holds one
pub behind_no_chunks : (xs : List (Vec Mapping)) (page : ℕ) → length xs ≡ 0 → first_ending_after (chunks_joined xs) page ≡ None
behind_no_chunks [] page none = refl
behind_no_chunks (x ∷ xs) page none = absurd (omega arith)

-- in chunks, of which those before one end at the page, and those behind it begin behind the page
module _ (xs : List (Vec Mapping)) (page i : ℕ) (d : Vec Mapping) (ms : List Mapping) (within : i < length xs) (is : ms ≡ (slice_index_or xs i d).items)
    (ended : All (λ m. end_of m.range ≤ page) (chunks_joined (take i xs))) where
  from_chunk : first_ending_after (chunks_joined xs) page ≡ first_ending_after (ms ++ chunks_joined (drop (i + 1) xs)) page
  from_chunk =
      ap (λ (l : List Mapping). first_ending_after l page) (joined_at xs i d within)
      ∙ (behind-ended (chunks_joined (take i xs)) ((slice_index_or xs i d).items ++ chunks_joined (drop (i + 1) xs)) page ended
      ∙ ap (λ (l : List Mapping). first_ending_after (l ++ chunks_joined (drop (i + 1) xs)) page) (sym is))

  pub behind_in_chunk : (m : Mapping) → first_ending_after ms page ≡ Some m → first_ending_after (chunks_joined xs) page ≡ Some m
  behind_in_chunk m found = from_chunk ∙ behind-found ms (chunks_joined (drop (i + 1) xs)) page m found

  pub behind_last_chunk : first_ending_after ms page ≡ None → length xs ≤ i + 1 → first_ending_after (chunks_joined xs) page ≡ None
  behind_last_chunk missed few =
      from_chunk ∙ (behind-missed ms (chunks_joined (drop (i + 1) xs)) page missed ∙ (let none : drop (i + 1) xs ≡ [] = drop_all (i + 1) xs few in ap (λ (l : List (Vec Mapping)). first_ending_after (chunks_joined l) page) none))

  pub behind_next_chunk : (m : Mapping) → first_ending_after ms page ≡ None → i + 1 < length xs → 0 < length (slice_index_or xs (i + 1) d).items →
      m ≡ get_or (slice_index_or xs (i + 1) d).items 0 m → All (λ m. page < m.range.first) (chunks_joined (drop (i + 1) xs)) → first_ending_after (chunks_joined xs) page ≡ Some m
  behind_next_chunk m missed more some read later =
      let v : List Mapping = (slice_index_or xs (i + 1) d).items in
      let rest : List Mapping = chunks_joined (drop (i + 1) xs) in
      let parts : rest ≡ v ++ chunks_joined (drop (i + 1 + 1) xs) = ap chunks_joined (drop_more xs (i + 1) d more) in
      let all : All (λ (x : Mapping). page < x.range.first) (v ++ chunks_joined (drop (i + 1 + 1) xs)) =
      subst (λ (l : List Mapping). All (λ (x : Mapping). page < x.range.first) l) parts later in
      from_chunk ∙ (behind-missed ms rest page missed ∙ (ap (λ (l : List Mapping). first_ending_after l page) parts ∙ behind-head v (chunks_joined (drop (i + 1 + 1) xs)) page m some read all))

-- where it stands
pub record IsFoundBehind (ms : List Mapping) (page : ℕ) (m : Mapping) : Type 0 where
  pub index : ℕ
  pub within : index < length ms
  pub before : (k : ℕ) → k < index → end_of (get_or ms k m).range ≤ page
  pub is : get_or ms index m ≡ m
  pub reaches : page < end_of m.range

one_more : (n : Mapping) (ns : List Mapping) (page i : ℕ) (m : Mapping) → end_of n.range ≤ page → ((k : ℕ) → k < i → end_of (get_or ns k m).range ≤ page) →
    (k : ℕ) → k < suc i → end_of (get_or (n ∷ ns) k m).range ≤ page
one_more n ns page i m here before zero below = here
one_more n ns page i m here before (suc k) below = before k (omega arith)

pub found_behind : (ms : List Mapping) (page : ℕ) (m : Mapping) → first_ending_after ms page ≡ Some m → IsFoundBehind ms page m
found_behind [] page m found = cc
found_behind (n ∷ ns) page m found =
    ⊎_elim (λ less.
    let here : nat_lt page (end_of n.range) ≡ true = lt-ltb _ _ less in
    let first : Some n ≡ Some m = rw here at found in
    let same : n ≡ m = cc in
    record {
      index = 0;
      within = omega arith;
      before = λ k below. absurd (omega arith);
      is = same;
      reaches = subst (λ (x : Mapping). page < end_of x.range) same less;
    })
    (λ past.
    let behind : nat_lt page (end_of n.range) ≡ false = le-ltb _ _ past in
    let later : first_ending_after ns page ≡ Some m = rw behind at found in
    let rest : IsFoundBehind ns page m = found_behind ns page m later in
    record {
      index = suc rest.index;
      within = (let h = rest.within in omega (arith, h));
      before = one_more n ns page rest.index m past rest.before;
      is = rest.is;
      reaches = rest.reaches;
    })
    (cases_lt page (end_of n.range))

-- what it says of the page

pub at-none_behind : (ms : List Mapping) (page : ℕ) → first_ending_after ms page ≡ None → at ms page ≡ None
at-none_behind [] page none = refl
at-none_behind (n ∷ ns) page none =
    ⊎_elim (λ less. let here : nat_lt page (end_of n.range) ≡ true = lt-ltb _ _ less in let first : Some n ≡ None = rw here at none in cc)
    (λ past.
    let behind : nat_lt page (end_of n.range) ≡ false = le-ltb _ _ past in
    let later : first_ending_after ns page ≡ None = rw behind at none in
    at_skip n ns page past ∙ at-none_behind ns page later)
    (cases_lt page (end_of n.range))

pub at-before_behind : (ms : List Mapping) (page : ℕ) (m : Mapping) → IsLaidOut ms → first_ending_after ms page ≡ Some m → page < m.range.first → at ms page ≡ None
at-before_behind ms page m laid found before =
    let is : IsFoundBehind ms page m = found_behind ms page m found in
    at_gap ms 0 page is.index m laid is.within is.before (subst (λ (x : Mapping). page < x.range.first) (sym is.is) before)

pub at-of_behind : (ms : List Mapping) (page : ℕ) (m : Mapping) → first_ending_after ms page ≡ Some m → m.range.first ≤ page → at ms page ≡ Some (part m page)
at-of_behind ms page m found begun =
    let is : IsFoundBehind ms page m = found_behind ms page m found in
    at_found ms page is.index m is.within is.before (subst (λ (x : Mapping). x.range.first ≤ page) (sym is.is) begun) (subst (λ (x : Mapping). page < end_of x.range) (sym is.is) is.reaches)
    ∙ ap (λ (x : Mapping). Some (part x page)) is.is

pub is_mapping-behind : (ms : List Mapping) (page : ℕ) (m : Mapping) → IsLaidOut ms → first_ending_after ms page ≡ Some m → IsMapping m
is_mapping-behind ms page m laid found =
    let is : IsFoundBehind ms page m = found_behind ms page m found in
    subst IsMapping is.is (is_mapping ms 0 is.index m laid is.within)
