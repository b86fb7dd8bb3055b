-- How many requests a driver put on each queue.
use Rattle.std.specs.Prelude.{ℕ, List, slice_index_or}

-- the count of a queue, and 0 where none is kept
abbrev pub count_of_queue : List ℕ → ℕ → ℕ
count_of_queue counts queue = slice_index_or counts queue 0
