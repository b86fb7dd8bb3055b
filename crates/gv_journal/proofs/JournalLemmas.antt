-- For callers: when a journal fits a space that it did not change.
use Rattle.std.proofs.Common.{◌≡◌, ℕ, List, [], Option, refl, ap, sym, subst, arith}
use Rattle.gv_types.specs.Bounds.{BoundsState}
use Rattle.gv_types.specs.Limits.{LimitsState}
use Rattle.gv_types.specs.declared.mapping.Entry.{Entry}
use Rattle.gv_types.specs.declared.mapping.Mapping.{Mapping}
use Rattle.gv_space.specs.State.{SpaceState, AreKept, IsUnchanged, new_space}
use Rattle.gv_journal.specs.Items.{JournalState, entries}
use Rattle.gv_journal.specs.History.{base, kept_by, Translates, UndoSavesTheView, Rewinds}
use Rattle.gv_journal.specs.Fits.{FitsSpace}
use Rattle.gv_journal.proofs.HeldItems.{fits_room}

-- a journal of no item fits a space of which nothing is kept
pub fits_empty : (s : SpaceState) (limit first : ℕ) → AreKept s [] → FitsSpace s (record { limit = limit; first = first; items = [] })
fits_empty s limit first kept = record { translates = λ page _. refl; saves = tt; rewinds = tt; kept = kept }

-- so it does in the beginning
pub fits_new : (area : BoundsState) (limits : LimitsState) (limit first : ℕ) → FitsSpace (new_space area limits) (record { limit = limit; first = first; items = [] })
fits_new area limits limit first =
    fits_empty (new_space area limits) limit first (record { valid = λ k d below. absurd (omega arith); kept = λ k d below. absurd (omega arith); kept_count = refl })

-- A space in which only the buffers and their users changed, and in which all that is kept stays kept: a buffer was made or
-- destroyed, or a job joined or left.
pub fits_buffers : (s t : SpaceState) (j : JournalState) → t ≡ record s { buffers = t.buffers } → ((kept : List Mapping) → AreKept s kept → AreKept t kept) → FitsSpace s j → FitsSpace t j
fits_buffers s t j same kept fits =
    let list_is : t.mappings ≡ s.mappings = ap (λ (x : SpaceState). x.mappings) same in
    let limit_is : t.limits.mappings ≡ s.limits.mappings = ap (λ (x : SpaceState). x.limits.mappings) same in
    let room_is : t.room ≡ s.room = ap (λ (x : SpaceState). x.room) same in
    let below : ℕ → Option Entry = base s.mappings j.items in
    record {
      translates = subst (λ (ms : List Mapping). Translates ms (entries j) (base ms j.items)) (sym list_is) fits.translates;
      saves = subst (λ (ms : List Mapping). UndoSavesTheView (entries j) (base ms j.items)) (sym list_is) fits.saves;
      rewinds = subst (λ (ms : List Mapping). Rewinds t.limits.mappings t.room j.first ms j.items (base ms j.items)) (sym list_is)
          (subst (λ (n : ℕ). Rewinds n t.room j.first s.mappings j.items below) (sym limit_is)
          (subst (λ (n : ℕ). Rewinds s.limits.mappings n j.first s.mappings j.items below) (sym room_is) fits.rewinds));
      kept = kept (kept_by j.items) fits.kept;
    }

-- and a space that only has more room
pub fits_with_room : (s t : SpaceState) (j : JournalState) → IsUnchanged s t → FitsSpace s j → FitsSpace t j
fits_with_room s t j same fits = fits_room s t j same fits
