-- What contracts see of `Columns`: what stands beside each item, the oldest one first, and for how many more there is room. No
-- public clause cites this module.
use Rattle.std.specs.Prelude.{◌≡◌, ℕ, ◌-◌, ◌≤◌, List, length, min, vec_len, vec_capacity, Option}
use Rattle.std.specs.List.{All}
use Rattle.gv_types.specs.Page.{PAGES}
use Rattle.gv_journal.specs.declared.columns.Columns.TheInside.{Inside}

pub record ColumnsState : Type 0 where
  pub notes : List (Option ℕ)
  pub firsts : List ℕ
  pub pasts : List ℕ
  pub regions : List ℕ
  pub room : ℕ

-- as many more as each of the vectors, which are equally long, has room for
abbrev pub columns_of : Inside → ColumnsState
columns_of c =
    record {
      notes = c.notes.items;
      firsts = c.firsts.items;
      pasts = c.pasts.items;
      regions = c.regions.items;
      room = min (min (vec_capacity c.notes) (vec_capacity c.firsts)) (min (vec_capacity c.pasts) (vec_capacity c.regions)) - vec_len c.notes;
    }

abbrev pub AreInSpace : List ℕ → Type 0
AreInSpace pasts = All (λ past. past ≤ PAGES) pasts

pub record IsColumns (c : Inside) : Type 0 where
  pub firsts : vec_len c.firsts ≡ vec_len c.notes
  pub pasts : vec_len c.pasts ≡ vec_len c.notes
  pub regions : vec_len c.regions ≡ vec_len c.notes
  pub in_space : AreInSpace c.pasts.items

-- the columns are equally long
pub record AreBeside (c : ColumnsState) : Type 0 where
  pub firsts : length c.firsts ≡ length c.notes
  pub pasts : length c.pasts ≡ length c.notes
  pub regions : length c.regions ≡ length c.notes
