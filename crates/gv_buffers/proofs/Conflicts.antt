-- Users of one buffer that don't conflict, after a job joined and after one left.
use Rattle.std.proofs.Common.{◌≡◌, ◌≢◌, ◌<◌, ◌&&◌, ◌||◌, ℕ, zero, suc, List, [], ◌∷◌, length, get_or, map, true, false, cond, not, eqb, arith, refl, sym, ap, ◌∙◌, None, min}
use Rattle.std.specs.List.{All, filter, reduce}
use Rattle.std.proofs.lemmas.Bool.{eqb-true, eqb-false, false≢true, ne_eqb}
use Rattle.std.proofs.lemmas.Option.{none-some}
use Rattle.std.proofs.lemmas.List.Elements.{All-nil, All-cons, All-head, All-tail, All-filter}
use Rattle.gv_buffers.specs.declared.usage.Usage.{Usage}
use Rattle.gv_buffers.specs.declared.usage.Usage.TheVariants.{Read, Write}
use Rattle.gv_buffers.specs.declared.usage.User.{User}
use Rattle.gv_buffers.specs.Users.{is_write, stronger, conflicts, conflict, joined, users_without, AreCompatible, HaveNoConflict}

-- no user of the list conflicts with such a use
abbrev pub AreHarmless : ℕ → Usage → List User → Type 0
AreHarmless job usage users = All (λ u. conflicts job usage u ≡ false) users

-- where there is no least job that conflicts, none does
pub harmless_from_none : (job : ℕ) (usage : Usage) (users : List User) → conflict job usage users ≡ None → AreHarmless job usage users
harmless_from_none job usage [] none = All-nil (λ u. conflicts job usage u ≡ false)
harmless_from_none job usage (user ∷ users) none =
    elim (conflicts job usage user) as (λ t. conflicts job usage user ≡ t →
    reduce min (map (λ (u : User). u.job) (cond t (user ∷ filter (conflicts job usage) users) (filter (conflicts job usage) users))) ≡ None → AreHarmless job usage (user ∷ users)) [
      | true ↦ (λ _ h. absurd (none-some _ (sym h)))
      | false ↦ (λ e h. All-cons (λ u. conflicts job usage u ≡ false) user users e (harmless_from_none job usage users h))
    ] refl none

-- pairs of a list by its head and its tail
pub pairs_head : (user : User) (users : List User) → HaveNoConflict (user ∷ users) → All (AreCompatible user) users
pairs_head user users pairs k d within = pairs 0 (suc k) d (omega arith) (omega arith)

pub pairs_tail : (user : User) (users : List User) → HaveNoConflict (user ∷ users) → HaveNoConflict users
pairs_tail user users pairs i j d up within = pairs (suc i) (suc j) d (omega arith) (omega arith)

pub pairs-cons : (user : User) (users : List User) → All (AreCompatible user) users → HaveNoConflict users → HaveNoConflict (user ∷ users)
pairs-cons user users head tail zero zero d up within = absurd (omega arith)
pairs-cons user users head tail zero (suc j) d up within = head j d (omega arith)
pairs-cons user users head tail (suc i) zero d up within = absurd (omega arith)
pairs-cons user users head tail (suc i) (suc j) d up within = tail i j d (omega arith) (omega arith)

pub no_pairs : HaveNoConflict []
no_pairs i j d up within = absurd (omega arith)

-- a job that left conflicts with none
pub HaveNoConflict-users_without : (job : ℕ) (users : List User) → HaveNoConflict users → HaveNoConflict (users_without job users)
HaveNoConflict-users_without job [] pairs = no_pairs
HaveNoConflict-users_without job (user ∷ users) pairs =
    let tail : HaveNoConflict (users_without job users) = HaveNoConflict-users_without job users (pairs_tail user users pairs) in
    elim (not (eqb user.job job)) as (λ t. HaveNoConflict (cond t (user ∷ users_without job users) (users_without job users))) [
      | true ↦ pairs-cons user (users_without job users) (All-filter (λ u. not (eqb u.job job)) (AreCompatible user) users (pairs_head user users pairs)) tail
      | false ↦ tail
    ]

-- another job that doesn't conflict meets a reader
reads_beside : (job : ℕ) (usage : Usage) (user : User) → user.job ≢ job → conflicts job usage user ≡ false → usage ≡ Read
reads_beside job Read user apart harmless = refl
reads_beside job Write user apart harmless =
    let other : eqb user.job job ≡ false = ne_eqb _ _ apart in absurd (false≢true (sym (rw other at harmless)))

-- and is a reader itself
is_reader : (usage : Usage) → is_write usage ≡ false → usage ≡ Read
is_reader Read reads = refl
is_reader Write reads = absurd (false≢true (sym reads))

beside_reads : (job : ℕ) (usage : Usage) (user : User) → user.job ≢ job → conflicts job usage user ≡ false → user.usage ≡ Read
beside_reads job Read user apart harmless =
    let other : eqb user.job job ≡ false = ne_eqb _ _ apart in is_reader user.usage (rw other at harmless)
beside_reads job Write user apart harmless =
    let other : eqb user.job job ≡ false = ne_eqb _ _ apart in absurd (false≢true (sym (rw other at harmless)))

-- what holds of each user and of the joining one
pub All-joined : (P : User → Type 0) (job : ℕ) (usage : Usage) (users : List User) → All P users →
    P (record { job = job; usage = usage }) → ((u : User) → u.job ≡ job → P u → P (record u { usage = stronger u.usage usage })) → All P (joined job usage users)
All-joined P job usage [] all new raised = All-cons P _ [] new (All-nil P)
All-joined P job usage (user ∷ users) all new raised =
    elim (eqb user.job job) as (λ t. eqb user.job job ≡ t → All P (cond t (record user { usage = stronger user.usage usage } ∷ users) (user ∷ joined job usage users))) [
      | true ↦ (λ e. All-cons P _ users (raised user (eqb-true _ _ e) (All-head P user users all)) (All-tail P user users all))
      | false ↦ (λ _. All-cons P user _ (All-head P user users all) (All-joined P job usage users (All-tail P user users all) new raised))
    ] refl

-- where there are several users each of them reads
all_read : (users : List User) → 1 < length users → HaveNoConflict users → All (λ u. u.usage ≡ Read) users
all_read users several pairs zero d within = (pairs 0 1 d (omega arith) several).first_reads
all_read users several pairs (suc k) d within = (pairs 0 (suc k) d (omega arith) within).second_reads

harmless_reader : (job : ℕ) (user : User) → user.usage ≡ Read → conflicts job Read user ≡ false
harmless_reader job user reads =
    elim (eqb user.job job) as (λ t. (not t && (false || is_write user.usage)) ≡ false) [ true ↦ refl | false ↦ ap is_write reads ]

readers_meet_none : (job : ℕ) (users : List User) → All (λ u. u.usage ≡ Read) users → filter (conflicts job Read) users ≡ []
readers_meet_none job [] reads = refl
readers_meet_none job (user ∷ users) reads =
    let mine : conflicts job Read user ≡ false = harmless_reader job user (All-head (λ u. u.usage ≡ Read) user users reads) in
    rw (mine, readers_meet_none job users (All-tail (λ u. u.usage ≡ Read) user users reads)) refl

-- so one more that reads conflicts with none
pub one_more_reader : (job : ℕ) (usage : Usage) (users : List User) → 1 < length users → is_write usage ≡ false → HaveNoConflict users → conflict job usage users ≡ None
one_more_reader job usage users several reads pairs =
    let is : usage ≡ Read = is_reader usage reads in
    let none : filter (conflicts job Read) users ≡ [] = readers_meet_none job users (all_read users several pairs) in
    rw (is, none) refl

stronger_reads : (a b : Usage) → a ≡ Read → b ≡ Read → stronger a b ≡ Read
stronger_reads a b ea eb = rw (ea, eb) refl

-- a job that joins where none conflicts conflicts with none
pub HaveNoConflict-joined : (job : ℕ) (usage : Usage) (users : List User) → AreHarmless job usage users → HaveNoConflict users → HaveNoConflict (joined job usage users)
HaveNoConflict-joined job usage [] harmless pairs = pairs-cons _ [] (All-nil (AreCompatible (record { job = job; usage = usage }))) no_pairs
HaveNoConflict-joined job usage (user ∷ users) harmless pairs =
    let Harmless : User → Type 0 = λ u. conflicts job usage u ≡ false in
    let head : All (AreCompatible user) users = pairs_head user users pairs in
    let rest : AreHarmless job usage users = All-tail Harmless user users harmless in
    elim (eqb user.job job) as (λ t. eqb user.job job ≡ t → HaveNoConflict (cond t (record user { usage = stronger user.usage usage } ∷ users) (user ∷ joined job usage users))) [
      | true ↦ (λ e. pairs-cons _ users
          (λ k d within.
          let pair : AreCompatible user (get_or users k d) = head k d within in
          let mine : user.job ≡ job = eqb-true _ _ e in
          let other : (get_or users k d).job ≢ job = (λ same. pair.apart (mine ∙ sym same)) in
          record { apart = pair.apart; first_reads = stronger_reads user.usage usage pair.first_reads (reads_beside job usage (get_or users k d) other (rest k d within)); second_reads = pair.second_reads })
          (pairs_tail user users pairs))
      | false ↦ (λ e.
          let apart : user.job ≢ job = eqb-false _ _ e in
          let mine : Harmless user = All-head Harmless user users harmless in
          let reads : usage ≡ Read = reads_beside job usage user apart mine in
          pairs-cons user _
          (All-joined (AreCompatible user) job usage users head
          (record { apart = apart; first_reads = beside_reads job usage user apart mine; second_reads = reads })
          (λ u same pair. record { apart = pair.apart; first_reads = pair.first_reads; second_reads = stronger_reads u.usage usage pair.second_reads reads }))
          (HaveNoConflict-joined job usage users rest (pairs_tail user users pairs)))
    ] refl
