-- Chunks joined: parts of them, one of them changed, and those that hold nothing.
use Rattle.std.proofs.Common.{◌≡◌, ℕ, ◌+◌, ◌-◌, ◌<◌, ◌≤◌, List, [], ◌∷◌, ◌++◌, length, take, drop, slice_index_or, slice_set, vec_capacity, arith, refl, ◌∙◌, ap, sym, add-one, suc}
use Rattle.std.proofs.Math.ListN.{length-set}
use Rattle.std.proofs.Math.Seq.{take-append-add, drop-append-add}
use Rattle.std.proofs.lemmas.List.{drop_more, take_more_set, take_more, take_all, append-nil, append_assoc, take-append-drop, take-append-le, drop-append-le, drop_at, take_at, set_split, length-drop, drop-drop, get_or_append_left, get_or-drop}
use Rattle.std.proofs.lemmas.List.Elements.{All-append, All-set, All-take, All-drop}
use Rattle.std.proofs.lemmas.List.Concat.{flat_map-append}
use Rattle.std.specs.List.{splice}
use Rattle.std.specs.Global.{Vec}
use Rattle.gv_types.specs.declared.mapping.Mapping.{Mapping}
use Rattle.gv_chunks.specs.Chunks.{chunks_joined, AreChunks}
use Rattle.gv_chunks.specs.declared.TheConstants.{CHUNK}

-- chunks behind chunks
pub joined-append : (xs ys : List (Vec Mapping)) → chunks_joined (xs ++ ys) ≡ chunks_joined xs ++ chunks_joined ys
joined-append xs ys = flat_map-append (λ chunk. chunk.items) xs ys

-- the chunks before an index and those behind it are all of them
pub joined_parts : (xs : List (Vec Mapping)) (i : ℕ) → chunks_joined xs ≡ chunks_joined (take i xs) ++ chunks_joined (drop i xs)
joined_parts xs i = ap chunks_joined (sym (take-append-drop i xs)) ∙ joined-append (take i xs) (drop i xs)

-- one chunk more
pub joined_more : (xs : List (Vec Mapping)) (i : ℕ) (v : Vec Mapping) → i < length xs → v ≡ slice_index_or xs i v →
    chunks_joined (take (i + 1) xs) ≡ chunks_joined (take i xs) ++ v.items
joined_more xs i v within is =
    ap chunks_joined (take_more xs i v within)
    ∙ (joined-append (take i xs) (slice_index_or xs i v ∷ [])
    ∙ ap (λ ms. chunks_joined (take i xs) ++ ms) (append-nil (slice_index_or xs i v).items ∙ ap (λ (w : Vec Mapping). w.items) (sym is)))

pub nil_front : (xs ys : List Mapping) → xs ++ ys ≡ [] → xs ≡ []
nil_front [] ys h = refl
nil_front (x ∷ xs) ys h = cc

pub nil_back : (xs ys : List Mapping) → xs ++ ys ≡ [] → ys ≡ []
nil_back [] ys h = h
nil_back (x ∷ xs) ys h = cc

-- the first of chunks that hold nothing holds nothing, and so do the others
pub nothing_at : (xs : List (Vec Mapping)) (i : ℕ) (d : Vec Mapping) → i < length xs → chunks_joined (drop i xs) ≡ [] → (slice_index_or xs i d).items ≡ []
nothing_at xs i d within none =
    let all : (slice_index_or xs i d).items ++ chunks_joined (drop (i + 1) xs) ≡ [] = sym (ap chunks_joined (drop_more xs i d within)) ∙ none in
    nil_front _ _ all

pub nothing_later : (xs : List (Vec Mapping)) (i : ℕ) (d : Vec Mapping) → i < length xs → chunks_joined (drop i xs) ≡ [] → chunks_joined (drop (i + 1) xs) ≡ []
nothing_later xs i d within none =
    let all : (slice_index_or xs i d).items ++ chunks_joined (drop (i + 1) xs) ≡ [] = sym (ap chunks_joined (drop_more xs i d within)) ∙ none in
    nil_back (slice_index_or xs i d).items _ all

-- the last of the chunks behind an index is the last of all
pub spare_behind : (xs b : List (Vec Mapping)) (n : ℕ) → b ≡ drop n xs → length b + n ≡ length xs → 0 < length b → chunks_joined (drop (length xs - 1) xs) ≡ [] →
    chunks_joined (drop (length b - 1) b) ≡ []
spare_behind xs b n is size some_left none =
    ap chunks_joined (ap (drop (length b - 1)) is ∙ (drop-drop (length b - 1) n xs ∙ ap (λ k. drop k xs) (omega arith))) ∙ none

-- pieces put into the first of chunks that hold nothing
pub filled_more : (xs : List (Vec Mapping)) (i : ℕ) (d w : Vec Mapping) (now later rest pieces : List Mapping) → i < length xs →
    chunks_joined (drop i xs) ≡ [] → w.items ≡ (slice_index_or xs i d).items ++ now → now ++ later ≡ rest → chunks_joined (take i xs) ++ rest ≡ pieces →
    chunks_joined (take (i + 1) (slice_set xs i w)) ++ later ≡ pieces
filled_more xs i d w now later rest pieces within none put parts whole =
    let held : w.items ≡ now = put ∙ ap (λ ms. ms ++ now) (nothing_at xs i d within none) in
    let front : chunks_joined (take (i + 1) (slice_set xs i w)) ≡ chunks_joined (take i xs) ++ now =
    ap chunks_joined (take_more_set xs i w within) ∙ (joined-append (take i xs) (w ∷ []) ∙ ap (λ ms. chunks_joined (take i xs) ++ ms) (append-nil w.items ∙ held)) in
    rw (front, append_assoc (chunks_joined (take i xs)) now later, parts) whole

-- all chunks, around the last of the front
pub joined_around : (f b : List (Vec Mapping)) (n : ℕ) (d : Vec Mapping) → length f ≡ n + 1 →
    chunks_joined (f ++ b) ≡ chunks_joined (take n f) ++ ((slice_index_or f n d).items ++ chunks_joined b)
joined_around f b n d size =
    let all : take (n + 1) f ≡ f = take_all (n + 1) f (omega arith) in
    let front : chunks_joined f ≡ chunks_joined (take n f) ++ (slice_index_or f n d).items =
    ap chunks_joined (sym all ∙ take_more f n d (omega arith)) ∙ (joined-append (take n f) (slice_index_or f n d ∷ []) ∙ ap (λ ms. chunks_joined (take n f) ++ ms) (append-nil (slice_index_or f n d).items)) in
    joined-append f b ∙ (ap (λ ms. ms ++ chunks_joined b) front ∙ append_assoc (chunks_joined (take n f)) (slice_index_or f n d).items (chunks_joined b))

-- the first chunk held nothing, and was filled
pub first_filled : (bs : List (Vec Mapping)) (e w : Vec Mapping) → 0 < length bs → (slice_index_or bs 0 e).items ≡ [] → chunks_joined (slice_set bs 0 w) ≡ w.items ++ chunks_joined bs
first_filled [] e w some_left none = absurd (omega arith)
first_filled (x ∷ bs) e w some_left none = ap (λ ms. w.items ++ (ms ++ chunks_joined bs)) (sym none)

-- the end of the last chunk of the front cut off
pub cut_front : (f b bs : List (Vec Mapping)) (n offset : ℕ) (d w : Vec Mapping) → length f ≡ n + 1 → offset ≤ length (slice_index_or f n d).items →
    w.items ≡ take offset (slice_index_or f n d).items →
    chunks_joined (take (n + 1) (slice_set f n w ++ bs)) ≡ take (length (chunks_joined (take n (f ++ b))) + offset) (chunks_joined (f ++ b))
cut_front f b bs n offset d w size fits is =
    let within : n < length f = omega arith in
    let now : chunks_joined (take (n + 1) (slice_set f n w ++ bs)) ≡ chunks_joined (take n f) ++ take offset (slice_index_or f n d).items =
    ap chunks_joined (take-append-le (n + 1) (slice_set f n w) bs (omega (arith, length-set f n w)) ∙ take_more_set f n w within)
    ∙ (joined-append (take n f) (w ∷ []) ∙ ap (λ ms. chunks_joined (take n f) ++ ms) (append-nil w.items ∙ is)) in
    let whole : chunks_joined (f ++ b) ≡ chunks_joined (take n f) ++ ((slice_index_or f n d).items ++ chunks_joined b) = joined_around f b n d size in
    let old : take n (f ++ b) ≡ take n f = take-append-le n f b (omega arith) in
    rw (now, old, whole, take-append-add (chunks_joined (take n f)) ((slice_index_or f n d).items ++ chunks_joined b) offset, take-append-le offset (slice_index_or f n d).items (chunks_joined b) fits) refl

-- what was cut off stands in a chunk that held nothing
pub cut_back : (f b bs fs : List (Vec Mapping)) (n offset : ℕ) (d e w : Vec Mapping) → length f ≡ n + 1 → length fs ≡ n + 1 → offset ≤ length (slice_index_or f n d).items →
    0 < length bs → chunks_joined bs ≡ chunks_joined b → (slice_index_or bs 0 e).items ≡ [] →
    w.items ≡ (slice_index_or bs 0 e).items ++ drop offset (slice_index_or f n d).items →
    chunks_joined (drop (n + 1) (fs ++ slice_set bs 0 w)) ≡ drop (length (chunks_joined (take n (f ++ b))) + offset) (chunks_joined (f ++ b))
cut_back f b bs fs n offset d e w size same fits some_left rotated none is =
    let held : w.items ≡ drop offset (slice_index_or f n d).items = is ∙ ap (λ ms. ms ++ drop offset (slice_index_or f n d).items) none in
    let now : chunks_joined (drop (n + 1) (fs ++ slice_set bs 0 w)) ≡ drop offset (slice_index_or f n d).items ++ chunks_joined b =
    ap chunks_joined (drop_at fs (slice_set bs 0 w) (n + 1) same) ∙ (first_filled bs e w some_left none ∙ (ap (λ ms. ms ++ chunks_joined bs) held ∙ ap (λ ms. drop offset (slice_index_or f n d).items ++ ms) rotated)) in
    let whole : chunks_joined (f ++ b) ≡ chunks_joined (take n f) ++ ((slice_index_or f n d).items ++ chunks_joined b) = joined_around f b n d size in
    let old : take n (f ++ b) ≡ take n f = take-append-le n f b (omega arith) in
    rw (now, old, whole, drop-append-add (chunks_joined (take n f)) ((slice_index_or f n d).items ++ chunks_joined b) offset, drop-append-le offset (slice_index_or f n d).items (chunks_joined b) fits) refl

-- chunks rotated, so that the last ones, which hold nothing, come first
pub turned_joined : (b : List (Vec Mapping)) (m : ℕ) → chunks_joined (drop m b) ≡ [] → chunks_joined (drop m b ++ take m b) ≡ chunks_joined b
turned_joined b m none =
    joined-append (drop m b) (take m b) ∙ (ap (λ ms. ms ++ chunks_joined (take m b)) none
    ∙ sym (joined_parts b m ∙ (ap (λ ms. chunks_joined (take m b) ++ ms) none ∙ append-nil (chunks_joined (take m b)))))

-- and the first of them holds nothing
pub turned_first : (b : List (Vec Mapping)) (m : ℕ) (d : Vec Mapping) → m < length b → chunks_joined (drop m b) ≡ [] → (slice_index_or (drop m b ++ take m b) 0 d).items ≡ []
turned_first b m d within none =
    let front : slice_index_or (drop m b ++ take m b) 0 d ≡ slice_index_or b m d =
    get_or_append_left (drop m b) (take m b) d 0 (omega (arith, length-drop m b)) ∙ get_or-drop m b 0 d ∙ ap (λ k. slice_index_or b k d) (omega arith) in
    ap (λ (v : Vec Mapping). v.items) front ∙ nothing_at b m d within none

-- parts of chunks, chunks behind chunks and a chunk changed are chunks again
pub taken_chunks : (n : ℕ) (xs : List (Vec Mapping)) → AreChunks xs → AreChunks (take n xs)
taken_chunks n xs all = All-take (λ chunk. vec_capacity chunk ≡ CHUNK) n xs all

pub dropped_chunks : (n : ℕ) (xs : List (Vec Mapping)) → AreChunks xs → AreChunks (drop n xs)
dropped_chunks n xs all = All-drop (λ chunk. vec_capacity chunk ≡ CHUNK) n xs all

pub appended_chunks : (xs ys : List (Vec Mapping)) → AreChunks xs → AreChunks ys → AreChunks (xs ++ ys)
appended_chunks xs ys front back = All-append (λ chunk. vec_capacity chunk ≡ CHUNK) xs ys front back

pub changed_chunks : (xs : List (Vec Mapping)) (i : ℕ) (w : Vec Mapping) → vec_capacity w ≡ CHUNK → AreChunks xs → AreChunks (slice_set xs i w)
changed_chunks xs i w room all = All-set (λ chunk. vec_capacity chunk ≡ CHUNK) xs i w room all

-- chunks rotated are chunks
pub turned_chunks : (xs ys : List (Vec Mapping)) (m : ℕ) → ys ≡ drop m xs ++ take m xs → AreChunks xs → AreChunks ys
turned_chunks xs ys m is all = rw is (appended_chunks (drop m xs) (take m xs) (dropped_chunks m xs all) (taken_chunks m xs all))

-- all chunks, around one of them
pub joined_at : (xs : List (Vec Mapping)) (i : ℕ) (d : Vec Mapping) → i < length xs →
    chunks_joined xs ≡ chunks_joined (take i xs) ++ ((slice_index_or xs i d).items ++ chunks_joined (drop (i + 1) xs))
joined_at xs i d within = joined_parts xs i ∙ ap (λ ms. chunks_joined (take i xs) ++ ms) (ap chunks_joined (drop_more xs i d within))

-- the list around a chunk that was changed
pub joined_set : (xs : List (Vec Mapping)) (i : ℕ) (w : Vec Mapping) → i < length xs → chunks_joined (slice_set xs i w) ≡ chunks_joined (take i xs) ++ (w.items ++ chunks_joined (drop (i + 1) xs))
joined_set xs i w within =
    ap chunks_joined (set_split xs i w within) ∙ (joined-append (take i xs) (w ∷ drop (suc i) xs) ∙ ap (λ k. chunks_joined (take i xs) ++ (w.items ++ chunks_joined (drop k xs))) (sym (add-one i)))

-- a list with a run of its middle replaced
pub spliced : (front v back w pieces : List Mapping) (offset count : ℕ) (old new : List Mapping) → old ≡ front ++ (v ++ back) → new ≡ front ++ (w ++ back) →
    w ≡ splice v offset (offset + count) pieces → take (length front + offset) (front ++ (v ++ back)) ≡ front ++ take offset v →
    drop (length front + offset + count) (front ++ (v ++ back)) ≡ drop (offset + count) v ++ back →
    new ≡ splice old (length front + offset) (length front + offset + count) pieces
spliced front v back w pieces offset count old new whole now is before behind =
    rw (now, is, whole, before, behind) (
    ap (λ ms. front ++ ms) (append_assoc (take offset v) (pieces ++ drop (offset + count) v) back ∙ ap (λ ms. take offset v ++ ms) (append_assoc pieces (drop (offset + count) v) back))
    ∙ sym (append_assoc front (take offset v) (pieces ++ (drop (offset + count) v ++ back)))
    )

-- a run replaced within a chunk is replaced in the list
pub replaced_at : (xs : List (Vec Mapping)) (i offset count : ℕ) (d w : Vec Mapping) (pieces : List Mapping) → i < length xs →
    offset + count ≤ length (slice_index_or xs i d).items → w.items ≡ splice (slice_index_or xs i d).items offset (offset + count) pieces →
    chunks_joined (slice_set xs i w) ≡ splice (chunks_joined xs) (length (chunks_joined (take i xs)) + offset) (length (chunks_joined (take i xs)) + offset + count) pieces
replaced_at xs i offset count d w pieces within fits is =
    let v : List Mapping = (slice_index_or xs i d).items in
    let front : List Mapping = chunks_joined (take i xs) in
    let back : List Mapping = chunks_joined (drop (i + 1) xs) in
    let whole : chunks_joined xs ≡ front ++ (v ++ back) = joined_at xs i d within in
    let now : chunks_joined (slice_set xs i w) ≡ front ++ (w.items ++ back) = joined_set xs i w within in
    let before : take (length front + offset) (front ++ (v ++ back)) ≡ front ++ take offset v =
    take-append-add front (v ++ back) offset ∙ ap (λ ms. front ++ ms) (take-append-le offset v back (omega arith)) in
    let behind : drop (length front + offset + count) (front ++ (v ++ back)) ≡ drop (offset + count) v ++ back =
    ap (λ k. drop k (front ++ (v ++ back))) (omega arith) ∙ (drop-append-add front (v ++ back) (offset + count) ∙ drop-append-le (offset + count) v back fits) in
    spliced front v back w.items pieces offset count (chunks_joined xs) (chunks_joined (slice_set xs i w)) whole now is before behind

-- what a chunk holds from an index on is what the list holds there
pub piece_at : (xs : List (Vec Mapping)) (i offset : ℕ) (d : Vec Mapping) (piece : List Mapping) → i < length xs → offset ≤ length (slice_index_or xs i d).items →
    piece ≡ drop offset (slice_index_or xs i d).items → piece ≡ take (length piece) (drop (length (chunks_joined (take i xs)) + offset) (chunks_joined xs))
piece_at xs i offset d piece within fits is =
    let behind : drop (length (chunks_joined (take i xs)) + offset) (chunks_joined xs) ≡ piece ++ chunks_joined (drop (i + 1) xs) =
    ap (drop (length (chunks_joined (take i xs)) + offset)) (joined_at xs i d within)
    ∙ (drop-append-add (chunks_joined (take i xs)) ((slice_index_or xs i d).items ++ chunks_joined (drop (i + 1) xs)) offset
    ∙ (drop-append-le offset (slice_index_or xs i d).items (chunks_joined (drop (i + 1) xs)) fits ∙ ap (λ ms. ms ++ chunks_joined (drop (i + 1) xs)) (sym is))) in
    rw behind (sym (take_at piece (chunks_joined (drop (i + 1) xs)) (length piece) refl))
