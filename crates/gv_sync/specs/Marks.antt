-- What one seat knows of the timelines: a list with one mark for each, what it raised, and how often its share was halved.
use Rattle.std.specs.Prelude.{◌≡◌, ◌≢◌, ℕ, ◌+◌, ◌≤◌, List, [], map, max, replicate, slice_index_or, slice_set}
use Rattle.gv_types.specs.declared.request.Point.{Point}
use Rattle.gv_sync.specs.declared.marks.Mark.{Mark}
use Rattle.gv_sync.specs.declared.marks.SeatKnowledge.{SeatKnowledge}

abbrev pub mark : ℕ → ℕ → ℕ → Mark
mark seen raised taken = record { seen = seen; raised = raised; taken = taken }

-- the mark of a timeline on which nothing was seen, raised or taken
abbrev pub fresh_mark : Mark
fresh_mark = mark 0 0 0

abbrev pub mark_at : List Mark → ℕ → Mark
mark_at marks timeline = slice_index_or marks timeline fresh_mark

-- the marks after one load of this timeline, which found the number
abbrev pub marks_after_load : List Mark → ℕ → ℕ → List Mark
marks_after_load marks timeline number =
    let old = mark_at marks timeline in
    slice_set marks timeline (mark number old.raised (old.taken + 1))

-- the marks after one step that raised this timeline to the value, and left the number
abbrev pub marks_after_raise : List Mark → ℕ → ℕ → ℕ → List Mark
marks_after_raise marks timeline value number =
    let old = mark_at marks timeline in
    slice_set marks timeline (mark number (max old.raised value) (old.taken + 1))

-- what a seat knows that was split off: all that the other saw, with nothing raised or taken
abbrev pub marks_split_off : List Mark → List Mark
marks_split_off marks = map (λ (m : Mark). mark m.seen 0 0) marks

abbrev pub known : List Mark → List Point → ℕ → SeatKnowledge
known marks raises halvings = record { marks = marks; raises = raises; halvings = halvings }

-- what the first seat of so many timelines knows: it has the whole
abbrev pub first_known : ℕ → SeatKnowledge
first_known count = known (replicate count fresh_mark) [] 0

-- what a seat knows after one was split off it: as much, with half its share
abbrev pub known_after_split : SeatKnowledge → SeatKnowledge
known_after_split old = known old.marks old.raises (old.halvings + 1)

-- what the seat knows that was split off: it has the other half
abbrev pub known_split_off : SeatKnowledge → SeatKnowledge
known_split_off old = known (marks_split_off old.marks) [] (old.halvings + 1)

-- one step was taken on this timeline, and nothing is known anew of the others
pub record StepsOnceOn (timeline : ℕ) (old new : List Mark) : Type 0 where
  pub here : (mark_at new timeline).taken ≡ (mark_at old timeline).taken + 1
  pub elsewhere : (other : ℕ) → other ≢ timeline → mark_at new other ≡ mark_at old other

-- a number is at least all that was seen and raised
pub record IsNoLess (old : Mark) (number : ℕ) : Type 0 where
  pub seen : old.seen ≤ number
  pub raised : old.raised ≤ number
