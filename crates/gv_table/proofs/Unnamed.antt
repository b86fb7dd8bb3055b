-- What a list says whose buffers are encoded by their indexes alone.
use Rattle.std.proofs.Common.{◌≡◌, ℕ, zero, suc, ◌+◌, ◌-◌, ◌*◌, ◌≤◌, Bool, true, false, not, ◌&&◌, ◌||◌, nat_lt, nat_le, List, [], ◌∷◌, take, Option, Some, None, refl, arith, sym, ap, ◌∙◌, max, min, if◌then◌else◌}
use Rattle.std.specs.List.{cons_option}
use Rattle.std.specs.Option.{option_map}
use Rattle.std.proofs.lemmas.List.{length-map, take-map}
use Rattle.std.proofs.lemmas.List.Elements.{All-map}
use Rattle.gv_types.specs.PageRange.{PageRangeState, span, end_of, meets, lies_in, covers}
use Rattle.gv_types.specs.Mapping.{advanced, part, piece, clip, HasSmallPages}
use Rattle.gv_types.specs.declared.mapping.Backing.{Backing}
use Rattle.gv_types.specs.declared.mapping.Backing.TheVariants.{Buffer, Zero}
use Rattle.gv_types.specs.declared.mapping.Entry.{Entry}
use Rattle.gv_types.specs.declared.mapping.Mapping.{Mapping}
use Rattle.gv_ranges.specs.List.{at, IsLaidOutFrom, AreEnded}
use Rattle.gv_ranges.specs.Edit.{clipped}
use Rattle.gv_table.specs.declared.slot.Slot.{Slot}
use Rattle.gv_table.specs.declared.wanted.Wanted.{Wanted}
use Rattle.gv_table.specs.declared.wanted.Wanted.TheVariants as variant
use Rattle.gv_table.specs.Kinds.{Kind}
use Rattle.gv_table.specs.Levels.{pages_of, slot_pages, greatest_leaf_level}
use Rattle.gv_table.specs.BufferNames.{unnamed_backing, unnamed_entry, unnamed_mapping, unnamed}
use Rattle.gv_table.specs.Reads.{any_meets, covering, AreAlikeOutside}
use Rattle.gv_table.specs.Wanted.{wanted, is_divided, leaf_or_table}
use Rattle.gv_table.specs.Tree.{child}
use Rattle.gv_table.specs.Counts.{gained, lost, needed, may_divide}
use Rattle.gv_table.proofs.Sums.{sum_below-same}

advanced-unnamed : (b : Backing) (n : ℕ) → advanced (unnamed_backing b) n ≡ unnamed_backing (advanced b n)
advanced-unnamed (Buffer id page) n = refl
advanced-unnamed Zero n = refl

pub part-unnamed : (m : Mapping) (page : ℕ) → part (unnamed_mapping m) page ≡ unnamed_entry (part m page)
part-unnamed m page =
    let with : Backing → Entry = λ b. record { backing = b; flags = m.flags } in
    ap with (advanced-unnamed m.backing (page - m.range.first))

small-unnamed : (b : Backing) (n : ℕ) → HasSmallPages b n → HasSmallPages (unnamed_backing b) n
small-unnamed (Buffer id page) n small = small
small-unnamed Zero n small = small

pub laid_out-unnamed : (ms : List Mapping) (low : ℕ) → IsLaidOutFrom low ms → IsLaidOutFrom low (unnamed ms)
laid_out-unnamed [] low laid = tt
laid_out-unnamed (m ∷ ms) low laid = (laid.0, (laid.1.0, small-unnamed m.backing m.range.count laid.1.1), laid_out-unnamed ms (end_of m.range) laid.2)

if-mapped : (b : Bool) (one : Entry) (e : Entry) (o p : Option Entry) → one ≡ unnamed_entry e → o ≡ option_map unnamed_entry p →
    (if b then Some one else o) ≡ option_map unnamed_entry (if b then Some e else p)
if-mapped true one e o p here rest = ap (λ (x : Entry). Some x) here
if-mapped false one e o p here rest = rest

pub at-unnamed : (ms : List Mapping) (page : ℕ) → at (unnamed ms) page ≡ option_map unnamed_entry (at ms page)
at-unnamed [] page = refl
at-unnamed (m ∷ ms) page = if-mapped (covers m.range page) _ (part m page) _ (at ms page) (part-unnamed m page) (at-unnamed ms page)

pub any_meets-unnamed : (ms : List Mapping) (range : PageRangeState) → any_meets (unnamed ms) range ≡ any_meets ms range
any_meets-unnamed [] range = refl
any_meets-unnamed (m ∷ ms) range = ap (λ (b : Bool). meets m.range range || b) (any_meets-unnamed ms range)

pub covering-unnamed : (ms : List Mapping) (range : PageRangeState) → covering (unnamed ms) range ≡ option_map unnamed_entry (covering ms range)
covering-unnamed [] range = refl
covering-unnamed (m ∷ ms) range =
    if-mapped (lies_in range m.range) _ (part m range.first) _ (covering ms range) (part-unnamed m range.first) (covering-unnamed ms range)

abbrev pub unnamed_wanted : Wanted → Wanted
unnamed_wanted variant.Nothing = variant.Nothing
unnamed_wanted (variant.Entry entry) = variant.Entry (unnamed_entry entry)
unnamed_wanted variant.Table = variant.Table

leaf-unnamed : (b : Bool) (o : Option Entry) → leaf_or_table b (option_map unnamed_entry o) ≡ unnamed_wanted (leaf_or_table b o)
leaf-unnamed true (Some e) = refl
leaf-unnamed true None = refl
leaf-unnamed false o = refl

wanted-by : (b low : Bool) (o : Option Entry) → (if b then leaf_or_table low (option_map unnamed_entry o) else variant.Nothing) ≡ unnamed_wanted (if b then leaf_or_table low o else variant.Nothing)
wanted-by true low o = leaf-unnamed low o
wanted-by false low o = refl

pub wanted-unnamed : (ms : List Mapping) (level first : ℕ) → wanted (unnamed ms) level first ≡ unnamed_wanted (wanted ms level first)
unfolding wanted
wanted-unnamed ms level first =
    rw (any_meets-unnamed ms (slot_pages level first), covering-unnamed ms (slot_pages level first))
    (wanted-by (any_meets ms (slot_pages level first)) (nat_le level greatest_leaf_level) (covering ms (slot_pages level first)))

divided-by : (w : Wanted) → is_divided (unnamed_wanted w) ≡ is_divided w
divided-by variant.Nothing = refl
divided-by (variant.Entry entry) = refl
divided-by variant.Table = refl

pub divided-unnamed : (ms : List Mapping) (level first : ℕ) → is_divided (wanted (unnamed ms) level first) ≡ is_divided (wanted ms level first)
divided-unnamed ms level first = ap is_divided (wanted-unnamed ms level first) ∙ divided-by (wanted ms level first)

clip-by : (b : Bool) (one m : Mapping) → one ≡ unnamed_mapping m → (if b then Some one else None) ≡ option_map unnamed_mapping (if b then Some m else None)
clip-by true one m e = ap (λ (x : Mapping). Some x) e
clip-by false one m e = refl

clip-unnamed : (low high : ℕ) (m : Mapping) → clip low high (unnamed_mapping m) ≡ option_map unnamed_mapping (clip low high m)
clip-unnamed low high m =
    let first : ℕ = max low m.range.first in
    let end : ℕ = min high (end_of m.range) in
    let with : Backing → Mapping = λ b. record { range = span first (end - first); backing = b; flags = m.flags } in
    clip-by (nat_lt first end) _ (piece m first (end - first)) (ap with (advanced-unnamed m.backing (first - m.range.first)))

cons-by : (o p : Option Mapping) (xs ys : List Mapping) → o ≡ option_map unnamed_mapping p → xs ≡ unnamed ys → cons_option o xs ≡ unnamed (cons_option p ys)
cons-by o (Some m) xs ys one rest = rw (one, rest) refl
cons-by o None xs ys one rest = rw (one, rest) refl

pub clipped-unnamed : (low high : ℕ) (ms : List Mapping) → clipped low high (unnamed ms) ≡ unnamed (clipped low high ms)
clipped-unnamed low high [] = refl
clipped-unnamed low high (m ∷ ms) = cons-by _ (clip low high m) _ (clipped low high ms) (clip-unnamed low high m) (clipped-unnamed low high ms)

pub alike-unnamed : (range : PageRangeState) (one other : List Mapping) → AreAlikeOutside range one other → AreAlikeOutside range (unnamed one) (unnamed other)
alike-unnamed range one other alike = record {
  before = clipped-unnamed 0 range.first one ∙ ap unnamed alike.before ∙ sym (clipped-unnamed 0 range.first other);
  beyond = clipped-unnamed (end_of range) _ one ∙ ap unnamed alike.beyond ∙ sym (clipped-unnamed (end_of range) _ other);
}

-- the tables that it wants are the same
pub gained-unnamed : (kind : Kind) (ms : List Mapping) (level first : ℕ) (slot : Slot) → gained kind (unnamed ms) level first slot ≡ gained kind ms level first slot
unfolding gained
gained-unnamed kind ms zero first slot = refl
gained-unnamed kind ms (suc level) first slot =
    let parts = sum_below-same 512 (λ k. gained kind (unnamed ms) level (first + k * pages_of level) (child slot k)) (λ k. gained kind ms level (first + k * pages_of level) (child slot k))
    (λ k below. gained-unnamed kind ms level (first + k * pages_of level) (child slot k)) in
    rw (divided-unnamed ms (suc level) first, parts) refl

pub lost-unnamed : (kind : Kind) (ms : List Mapping) (level first : ℕ) (slot : Slot) → lost kind (unnamed ms) level first slot ≡ lost kind ms level first slot
unfolding lost
lost-unnamed kind ms zero first slot = refl
lost-unnamed kind ms (suc level) first slot =
    let parts = sum_below-same 512 (λ k. lost kind (unnamed ms) level (first + k * pages_of level) (child slot k)) (λ k. lost kind ms level (first + k * pages_of level) (child slot k))
    (λ k below. lost-unnamed kind ms level (first + k * pages_of level) (child slot k)) in
    rw (divided-unnamed ms (suc level) first, parts) refl

may-unnamed : (ms : List Mapping) (range : PageRangeState) (level first : ℕ) → may_divide (unnamed ms) range level first ≡ may_divide ms range level first
may-unnamed ms range level first =
    ap (λ (b : Bool). meets (slot_pages level first) range && (not (lies_in (slot_pages level first) range) || b)) (divided-unnamed ms level first)

pub needed-unnamed : (kind : Kind) (ms : List Mapping) (range : PageRangeState) (level first : ℕ) (slot : Slot) →
    needed kind (unnamed ms) range level first slot ≡ needed kind ms range level first slot
unfolding needed
needed-unnamed kind ms range zero first slot = refl
needed-unnamed kind ms range (suc level) first slot =
    let parts = sum_below-same 512 (λ k. needed kind (unnamed ms) range level (first + k * pages_of level) (child slot k)) (λ k. needed kind ms range level (first + k * pages_of level) (child slot k))
    (λ k below. needed-unnamed kind ms range level (first + k * pages_of level) (child slot k)) in
    rw (may-unnamed ms range (suc level) first, parts) refl

-- and where a page is among its mappings
pub ended-unnamed : (ms : List Mapping) (page index : ℕ) → AreEnded ms page index → AreEnded (unnamed ms) page index
ended-unnamed ms page index is =
    let long = length-map ms unnamed_mapping in
    record {
      within = omega (arith, long, is.within);
      ended = rw (take-map unnamed_mapping index ms) (All-map (λ m. end_of m.range ≤ page) unnamed_mapping (take index ms) is.ended);
    }
