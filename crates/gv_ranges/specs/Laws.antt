-- What holds of every list in order, every operation and every list of saved mappings.
use Rattle.std.specs.Prelude.{ℕ, ◌≡◌, ◌+◌, if◌then◌else◌, IsTrue, List, length}
use Rattle.std.specs.List.{splice}
use Rattle.gv_types.specs.Page.{IsPage}
use Rattle.gv_types.specs.PageRange.{PageRangeState, covers}
use Rattle.gv_types.specs.Operation.{range_of, after, view, IsPageOp}
use Rattle.gv_types.specs.declared.mapping.Mapping.{Mapping}
use Rattle.gv_types.specs.declared.operation.PageOp.{PageOp}
use Rattle.gv_ranges.specs.List.{at, IsLaidOut, IsOverlappingRun, run}
use Rattle.gv_ranges.specs.Edit.{edited, edited_by_all, restored, undone}

-- an edited list says of each page what the operation makes of the list's address map
abbrev pub EditedListSays : Type 0
EditedListSays = (ms : List Mapping) (op : PageOp) (page : ℕ) → IsPage page → at (edited ms op) page ≡ after op (at ms) page

-- a list edited by operations says of each page what the newest operation that covers it says
abbrev pub EditedListIsViewed : Type 0
EditedListIsViewed = (ops : List PageOp) (ms : List Mapping) (page : ℕ) → IsPage page →
    at (edited_by_all ops ms) page ≡ view ops (at ms) page

-- an edited list is in order
abbrev pub EditedListIsLaidOut : Type 0
EditedListIsLaidOut = (ms : List Mapping) (op : PageOp) → IsLaidOut ms → IsPageOp op → IsLaidOut (edited ms op)

-- to edit a list is to edit, in its place, the run that meets the range
abbrev pub EditedRunInPlace : Type 0
EditedRunInPlace = (ms : List Mapping) (op : PageOp) (index count : ℕ) → IsLaidOut ms → IsOverlappingRun ms (range_of op) index count →
    edited ms op ≡ splice ms index (index + count) (edited (run ms index count) op)

-- an operation taken back gives the list before it, with its boundaries
abbrev pub UndoneEditIsOld : Type 0
UndoneEditIsOld = (ms : List Mapping) (op : PageOp) (index count : ℕ) → IsLaidOut ms → IsOverlappingRun ms (range_of op) index count →
    undone (edited ms op) (record { index = index; put_in = length (edited (run ms index count) op); taken = run ms index count }) ≡ ms

-- a restored list says of each page of the range what the saved mappings say, and of each other page what it said
abbrev pub RestoredListSays : Type 0
RestoredListSays = (ms saved : List Mapping) (range : PageRangeState) (page : ℕ) → IsPage page →
    at (restored ms range saved) page ≡ (if covers range page then at saved page else at ms page)

-- a restored list is in order
abbrev pub RestoredListIsLaidOut : Type 0
RestoredListIsLaidOut = (ms saved : List Mapping) (range : PageRangeState) → IsLaidOut ms → IsLaidOut saved → IsLaidOut (restored ms range saved)

-- to restore a range is to restore it in the run that meets it, in its place
abbrev pub RestoredRunInPlace : Type 0
RestoredRunInPlace = (ms saved : List Mapping) (range : PageRangeState) (index count : ℕ) → IsLaidOut ms → IsOverlappingRun ms range index count →
    restored ms range saved ≡ splice ms index (index + count) (restored (run ms index count) range saved)

-- a restored range taken back gives the list before it, with its boundaries
abbrev pub UndoneRestoreIsOld : Type 0
UndoneRestoreIsOld = (ms saved : List Mapping) (range : PageRangeState) (index count : ℕ) → IsLaidOut ms → IsOverlappingRun ms range index count →
    undone (restored ms range saved) (record { index = index; put_in = length (restored (run ms index count) range saved); taken = run ms index count }) ≡ ms

-- the run that meets a range says of each page of the range what the list says
abbrev pub OverlappingRunSays : Type 0
OverlappingRunSays = (ms : List Mapping) (range : PageRangeState) (index count page : ℕ) → IsOverlappingRun ms range index count → IsTrue (covers range page) →
    at (run ms index count) page ≡ at ms page
