-- The table with each buffer changed.
use Rattle.std.proofs.Common.{◌≡◌, ℕ, ◌<◌, List, [], ◌∷◌, length, get_or, map, true, false, cond, arith, refl, ◌∙◌, ap, subst, Some, None, Option, IsSome}
use Rattle.std.specs.Option.{option_map}
use Rattle.std.specs.List.{All, find}
use Rattle.std.proofs.lemmas.Bool.{false≢true}
use Rattle.std.proofs.lemmas.Option.{none-some, same_Some}
use Rattle.std.proofs.lemmas.List.{length-map, get_or-map}
use Rattle.std.proofs.lemmas.List.Elements.{All-head, All-tail, All-map, All-weaker}
use Rattle.gv_types.specs.Mapping.{is_same_id}
use Rattle.gv_types.specs.declared.mapping.BufferId.{BufferId}
use Rattle.gv_buffers.specs.Buffers.{Buffer, BuffersState, buffer, pages, has_id, IsLive, IsBuffer, IsTable}
use Rattle.gv_buffers.proofs.FoundLemmas.{find-map, found_from_All}

-- the table with each buffer changed
abbrev pub each : (Buffer → Buffer) → BuffersState → BuffersState
each f t = record t { live = map f t.live }

map-map : (f g : Buffer → Buffer) (bs : List Buffer) → map f (map g bs) ≡ map (λ b. f (g b)) bs
map-map f g [] = refl
map-map f g (b ∷ bs) = rw (map-map f g bs) refl

map-same : (P : Buffer → Type 0) (f g : Buffer → Buffer) (bs : List Buffer) → All P bs → ((b : Buffer) → P b → f b ≡ g b) → map f bs ≡ map g bs
map-same P f g [] all same = refl
map-same P f g (b ∷ bs) all same =
    let head : f b ≡ g b = same b (All-head P b bs all) in
    rw (head, map-same P f g bs (All-tail P b bs all) same) refl

map-itself : (P : Buffer → Type 0) (f : Buffer → Buffer) (bs : List Buffer) → All P bs → ((b : Buffer) → P b → f b ≡ b) → map f bs ≡ bs
map-itself P f [] all same = refl
map-itself P f (b ∷ bs) all same =
    let head : f b ≡ b = same b (All-head P b bs all) in
    rw (head, map-itself P f bs (All-tail P b bs all) same) refl

with_live : (t : BuffersState) (xs ys : List Buffer) → xs ≡ ys → record t { live = xs } ≡ record t { live = ys }
with_live t xs ys same = ap (λ (live : List Buffer). record t { live = live }) same

-- two changes one after the other
pub each-each : (f g : Buffer → Buffer) (t : BuffersState) → each f (each g t) ≡ each (λ b. f (g b)) t
each-each f g t = with_live t _ _ (map-map f g t.live)

-- changes that agree at each live buffer
pub each-same : (P : Buffer → Type 0) (f g : Buffer → Buffer) (t : BuffersState) → All P t.live → ((b : Buffer) → P b → f b ≡ g b) → each f t ≡ each g t
each-same P f g t all same = with_live t _ _ (map-same P f g t.live all same)

-- a change that leaves each live buffer as it is
pub each-itself : (P : Buffer → Type 0) (f : Buffer → Buffer) (t : BuffersState) → All P t.live → ((b : Buffer) → P b → f b ≡ b) → each f t ≡ t
each-itself P f t all same = with_live t _ t.live (map-itself P f t.live all same)

-- an id finds the changed buffer
pub buffer-each : (f : Buffer → Buffer) (t : BuffersState) (id : BufferId) → ((b : Buffer) → (f b).id ≡ b.id) → buffer (each f t) id ≡ option_map f (buffer t id)
buffer-each f t id keeps = find-map (has_id id) f t.live (λ b. ap (λ (i : BufferId). is_same_id i id) (keeps b))

-- a live buffer, and what holds of it
pub record IsFound (t : BuffersState) (id : BufferId) (P : Buffer → Type 0) : Type 0 where
  pub b : Buffer
  pub found : buffer t id ≡ Some b
  pub same_id : is_same_id b.id id ≡ true
  pub holds : P b

has_id_found : (id : BufferId) (bs : List Buffer) (b : Buffer) → find (has_id id) bs ≡ Some b → has_id id b ≡ true
has_id_found id [] b found = absurd (none-some b found)
has_id_found id (x ∷ bs) b found =
    elim (has_id id x) as (λ t. has_id id x ≡ t → cond t (Some x) (find (has_id id) bs) ≡ Some b → has_id id b ≡ true) [
      | true ↦ (λ has h. subst (λ (y : Buffer). has_id id y ≡ true) (same_Some x b h) has)
      | false ↦ (λ _ h. has_id_found id bs b h)
    ] refl found

pub found_buffer : (P : Buffer → Type 0) (t : BuffersState) (id : BufferId) (b : Buffer) → All P t.live → buffer t id ≡ Some b → IsFound t id P
found_buffer P t id b all found =
    record { b = b; found = found; same_id = has_id_found id t.live b found; holds = found_from_All P (has_id id) t.live b all found }

found_option : (P : Buffer → Type 0) (t : BuffersState) (id : BufferId) (o : Option Buffer) → All P t.live → buffer t id ≡ o → IsSome o → IsFound t id P
found_option P t id None all is lives = absurd (false≢true lives)
found_option P t id (Some b) all is lives = found_buffer P t id b all is

-- what holds of each live buffer holds of one with a live id
pub found_live : (P : Buffer → Type 0) (t : BuffersState) (id : BufferId) → All P t.live → IsLive t id → IsFound t id P
found_live P t id all lives = found_option P t id (buffer t id) all refl lives

-- a change of a buffer that keeps what it is
pub record IsKeeping (f : Buffer → Buffer) : Type 0 where
  pub id : (b : Buffer) → (f b).id ≡ b.id
  pub pages : (b : Buffer) → (f b).pages ≡ b.pages

pages_same : (f : Buffer → Buffer) (o : Option Buffer) → IsKeeping f → option_map (λ b. b.pages) (option_map f o) ≡ option_map (λ b. b.pages) o
pages_same f None keeps = refl
pages_same f (Some b) keeps = ap (λ (n : ℕ). Some n) (keeps.pages b)

-- a buffer's size stays
pub pages-each : (f : Buffer → Buffer) (t : BuffersState) (id : BufferId) → IsKeeping f → pages (each f t) id ≡ pages t id
pages-each f t id keeps = ap (option_map (λ (b : Buffer). b.pages)) (buffer-each f t id keeps.id) ∙ pages_same f (buffer t id) keeps

is_buffer : (f : Buffer → Buffer) (made : ℕ) (b : Buffer) → IsKeeping f → (f b).users ≡ b.users → IsBuffer made b → IsBuffer made (f b)
is_buffer f made b keeps users was = record {
  made_before = let same : (f b).id ≡ b.id = keeps.id b in rw same was.made_before;
  some_pages = let same : (f b).pages ≡ b.pages = keeps.pages b in rw same was.some_pages;
  few_pages = let same : (f b).pages ≡ b.pages = keeps.pages b in rw same was.few_pages;
  no_conflict = rw users was.no_conflict;
}

-- a table stays one where no buffer's id, size or users change
pub IsTable-each : (f : Buffer → Buffer) (t : BuffersState) → IsKeeping f → ((b : Buffer) → (f b).users ≡ b.users) → IsTable t → IsTable (each f t)
IsTable-each f t keeps users table = record {
  limit = table.limit;
  few = rw (length-map t.live f) table.few;
  buffers = All-map (IsBuffer t.made) f t.live (All-weaker (IsBuffer t.made) (λ b. IsBuffer t.made (f b)) (λ b was. is_buffer f t.made b keeps (users b) was) t.live table.buffers);
  apart = λ i j d up within.
      let size : j < length t.live = rw (length-map t.live f) at within in
      let lower : get_or (map f t.live) i d ≡ f (get_or t.live i d) = get_or-map f t.live i d d (omega arith) in
      let upper : get_or (map f t.live) j d ≡ f (get_or t.live j d) = get_or-map f t.live j d d size in
      let low : (f (get_or t.live i d)).id ≡ (get_or t.live i d).id = keeps.id (get_or t.live i d) in
      let high : (f (get_or t.live j d)).id ≡ (get_or t.live j d).id = keeps.id (get_or t.live j d) in
      rw (lower, upper, low, high) (table.apart i j d up size);
}
