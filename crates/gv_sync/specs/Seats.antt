-- Timelines and seats as callers see them.
use Rattle.std.specs.Prelude.{◌≡◌, ℕ, ◌+◌, List, [], ◌∷◌, ◌++◌, replicate}
use Rattle.gv_sync.specs.declared.marks.Mark.{Mark}
use Rattle.gv_types.specs.declared.request.Point.{Point}
use Rattle.gv_sync.specs.Marks.{fresh_mark, mark_at, marks_after_load, marks_after_raise, marks_split_off}
use Rattle.atomic_table.specs.Seated.{TableId}

-- there are from 1 to this many timelines
abbrev pub most_timelines : ℕ
most_timelines = 64

-- how many timelines these are
abbrev pub timeline_count : TableId → ℕ
timeline_count timelines = timelines.words

-- a seat at one set of timelines, with one mark for each, and the points that it raised to, in order. The first seat has the
-- whole of them; each split halves a share
pub record SeatState : Type 0 where
  pub of : TableId
  pub marks : List Mark
  pub raises : List Point
  pub halvings : ℕ

-- the seat was made with these timelines, or split from one that was
abbrev pub IsSeatOf : TableId → SeatState → Type 0
IsSeatOf timelines seat = seat.of ≡ timelines

-- the first seat of timelines that were just made
abbrev pub first_seat : TableId → SeatState
first_seat timelines =
    record { of = timelines; marks = replicate (timeline_count timelines) fresh_mark; raises = []; halvings = 0 }

abbrev pub mark_of : SeatState → ℕ → Mark
mark_of seat timeline = mark_at seat.marks timeline

-- the seat has the whole, so it is the only one
abbrev pub IsOnlySeat : SeatState → Type 0
IsOnlySeat seat = seat.halvings ≡ 0

-- the seat after one load of this timeline, which found the number. It raised nothing, and its share is as before: none was
-- split off
abbrev pub after_load : SeatState → ℕ → ℕ → SeatState
after_load seat timeline number = record {
  of = seat.of;
  marks = marks_after_load seat.marks timeline number;
  raises = seat.raises;
  halvings = seat.halvings;
}

-- the seat after one step that raised to this point, and left the number. Its share is as before
abbrev pub after_raise : SeatState → Point → ℕ → SeatState
after_raise seat point number = record {
  of = seat.of;
  marks = marks_after_raise seat.marks point.timeline point.value number;
  raises = seat.raises ++ point ∷ [];
  halvings = seat.halvings;
}

-- the seat after one was split off it: all is as before, but for half its share
abbrev pub after_split : SeatState → SeatState
after_split seat =
    record { of = seat.of; marks = seat.marks; raises = seat.raises; halvings = seat.halvings + 1 }

-- the seat that was split off: it has seen the same, raised and took nothing, and has the other half
abbrev pub split_from : SeatState → SeatState
split_from seat =
    record { of = seat.of; marks = marks_split_off seat.marks; raises = []; halvings = seat.halvings + 1 }
