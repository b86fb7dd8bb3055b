-- Slots that one mapping holds whole, or that no mapping meets.
use Rattle.std.proofs.Common.{◌≡◌, ℕ, ◌+◌, ◌-◌, ◌*◌, ◌<◌, ◌≤◌, inl, inr, false, List, length, get_or, Option, Some, None, MatchOption, Bor, IfSome, arith, ap, refl, sym, subst, ◌∙◌}
use Rattle.std.specs.Option.{option_copied}
use Rattle.std.proofs.lemmas.Bool.{cases_lt}
use Rattle.std.proofs.Math.Nat.{add-mul}
use Rattle.gv_types.specs.PageRange.{end_of}
use Rattle.gv_types.specs.Mapping.{part}
use Rattle.gv_types.specs.declared.mapping.Mapping.{Mapping}
use Rattle.gv_ranges.specs.List.{IsLaidOut, IsIndexOfPage}
use Rattle.gv_ranges.proofs.LookupLemmas.{firsts_rise}
use Rattle.gv_ranges.proofs.TakeDropLemmas.{All-take_at}
use Rattle.gv_table.specs.declared.slot.Slot.{Slot}
use Rattle.gv_table.specs.declared.slot.Slot.TheVariants.{Empty}
use Rattle.gv_table.specs.declared.wanted.Wanted.TheVariants as variant
use Rattle.gv_table.specs.Levels.{pages_of, slot_pages}
use Rattle.gv_table.specs.BufferNames.{IsEncodable, AreEncodable}
use Rattle.gv_table.specs.Tree.{is_table, leaf, IsTreeOf}
use Rattle.gv_table.specs.Wanted.{wanted, is_divided}
use Rattle.gv_table.proofs.CoveringMappings.{met-none, encoded-less}
use Rattle.gv_table.proofs.PagesOf.{pages_of-some}
use Rattle.gv_table.proofs.Slots.{is_table-Empty, is_table-leaf}
use Rattle.gv_table.proofs.RangesMeet.{meets-before, meets-after}
use Rattle.gv_table.proofs.Trees.{IsTreeOf-nothing, IsTreeOf-leaf, leaf-encoded}
use Rattle.gv_table.proofs.Wants.{wanted-nothing}

-- nothing is wanted of a slot between two mappings
pub gap-wanted : (ms : List Mapping) (level first page position : ℕ) → IsLaidOut ms → IsIndexOfPage ms page position → page ≤ first →
    ((d : Mapping) → position < length ms → first + pages_of level ≤ (get_or ms position d).range.first) → wanted ms level first ≡ variant.Nothing
gap-wanted ms level first page position laid is up next =
    wanted-nothing ms level first
    (met-none ms (slot_pages level first) (λ j d inside.
    elim (cases_lt j position) [
      | inl less ↦ (
          let ends = All-take_at (λ (m : Mapping). end_of m.range ≤ page) ms position j d is.within is.ended less in
          meets-before (get_or ms j d).range (slot_pages level first) (omega (arith, ends, up)))
      | inr from ↦ (
          let rise = firsts_rise ms 0 laid position j d from inside in
          let begins = next d (omega arith) in
          meets-after (get_or ms j d).range (slot_pages level first) (omega (arith, rise, begins)))
    ]))

module _ (ms : List Mapping) (level first : ℕ) where
  pub held-undivided : (held : Option Mapping) →
      MatchOption held (wanted ms level first ≡ variant.Nothing) (λ m. wanted ms level first ≡ variant.Entry (part m first)) →
      is_divided (wanted ms level first) ≡ false
  held-undivided None is = ap is_divided is
  held-undivided (Some m) is = ap is_divided is

  -- such a slot is no table
  pub alike-undivided : (held : Option (Bor Mapping)) →
      MatchOption held (wanted ms level first ≡ variant.Nothing) (λ m. wanted ms level first ≡ variant.Entry (part m.now first)) →
      is_divided (wanted ms level first) ≡ false
  alike-undivided None is = ap is_divided is
  alike-undivided (Some m) is = ap is_divided is

  -- and painted so it is that of the tree
  pub alike-tree : (held : Option (Bor Mapping)) (slot : Slot) →
      MatchOption held (wanted ms level first ≡ variant.Nothing) (λ m. wanted ms level first ≡ variant.Entry (part m.now first)) →
      MatchOption held (slot ≡ Empty) (λ m. slot ≡ leaf (part m.now first)) → IsTreeOf ms level first slot
  alike-tree None slot is made = IsTreeOf-nothing ms level first slot is made
  alike-tree (Some m) slot is made = IsTreeOf-leaf ms level first (part m.now first) slot is made

  -- what it holds can be encoded
  pub alike-encoded : (held : Option (Bor Mapping)) → IsLaidOut ms → AreEncodable ms →
      MatchOption held (wanted ms level first ≡ variant.Nothing) (λ m. wanted ms level first ≡ variant.Entry (part m.now first)) →
      IfSome held (λ m. IsEncodable (part m.now first).backing 1)
  alike-encoded None laid encoded is = tt
  alike-encoded (Some m) laid encoded is =
      let some = pages_of-some level in
      encoded-less (part m.now first).backing 1 (pages_of level)
      (leaf-encoded ms level first (part m.now first) laid encoded (IsTreeOf-leaf ms level first (part m.now first) _ is refl)) (omega (arith, some))

pub alike-no-table : (held : Option (Bor Mapping)) (first : ℕ) (slot : Slot) →
    MatchOption held (slot ≡ Empty) (λ m. slot ≡ leaf (part m.now first)) → is_table slot ≡ false
alike-no-table None first slot made = ap is_table made ∙ is_table-Empty
alike-no-table (Some m) first slot made = ap is_table made ∙ is_table-leaf (part m.now first)

-- what is said of a mapping is said of a reference to it
pub copied-match : (r : Option (Bor Mapping)) (o : Option Mapping) (A : Type 0) (B : Mapping → Type 0) → option_copied r ≡ o → MatchOption o A B → MatchOption r A (λ m. B m.now)
copied-match None None A B e is = is
copied-match None (Some x) A B e is = cc
copied-match (Some m) None A B e is = cc
copied-match (Some m) (Some x) A B e is = let same : m.now ≡ x = cc in subst B (sym same) is

pub copied-some : (r : Option (Bor Mapping)) (o : Option Mapping) (B : Mapping → Type 0) → option_copied r ≡ o → IfSome o B → IfSome r (λ m. B m.now)
copied-some None None B e is = tt
copied-some None (Some x) B e is = cc
copied-some (Some m) None B e is = cc
copied-some (Some m) (Some x) B e is = let same : m.now ≡ x = cc in subst B (sym same) is

-- the page of a slot of a row, counted from another of its slots
pub slot-from : (first start i k pages p : ℕ) → start ≡ first + i * pages → pages ≡ p → i ≤ k → start + (k - i) * p ≡ first + k * p
slot-from first start i k pages p at same from =
    let product = add-mul i (k - i) p in
    let all : (i + (k - i)) * p ≡ k * p = ap (λ (m : ℕ). m * p) (omega (arith, from)) in
    let begin : first + i * pages ≡ first + i * p = ap (λ (m : ℕ). first + i * m) same in
    omega (arith, at, begin, product, all)
