-- What is written: the texts of what a line shows.
use Rattle.std.specs.Prelude.{ℕ, ◌+◌, ◌*◌, Bool, true, false, List, [], ◌∷◌, ◌++◌, Option, Some, None, codes, decimal, slice_get, unwrap_or, reverse}
use Rattle.std.specs.List.{flat_map}
use Rattle.gv_types.specs.Page.{bytes_per_page}
use Rattle.gv_types.specs.PageRange.{end_of}
use Rattle.gv_types.specs.Fault.{fault_text}
use Rattle.gv_types.specs.declared.fault.Fault.{Fault}
use Rattle.gv_types.specs.declared.mapping.BufferId.{BufferId}
use Rattle.gv_types.specs.declared.mapping.Flags.{Flags}
use Rattle.gv_types.specs.declared.mapping.Mapping.{Mapping}
use Rattle.gv_split.specs.declared.step.Step.{Step}
use Rattle.gv_split.specs.declared.step.Step.TheVariants.{Unmap, Remap, Map}
use Rattle.gv_lines.specs.Hex.{hex}
use Rattle.gv_journal.specs.Items.{JournalState, NumberedItem, entries, is_withdrawn}
use Rattle.gv_journal.specs.declared.item.ItemKind.{ItemKind}
use Rattle.gv_journal.specs.declared.item.ItemKind.TheVariants.{Bind, Withdrawal}
use Rattle.gv_vm.specs.declared.outcome.Outcome.{Outcome}
use Rattle.gv_vm.specs.declared.outcome.Outcome.TheVariants.{Accepted, Refused, NotReady}
use Rattle.gv_vm.specs.Places.{target_of}
use Rattle.gv_vm.specs.declared.places.Place.{Place}
use Rattle.gv_vm.specs.declared.places.Target.{Target}
use Rattle.gv_vm.specs.declared.places.Target.TheVariants.{Buffer as BufferByte, Zero as ZeroByte}
use Rattle.gv_session.specs.State.{HasBytesThatFit}

-- these parts, one after another
abbrev pub texts_joined : List (List ℕ) → List ℕ
texts_joined [] = []
texts_joined (part ∷ parts) = part ++ texts_joined parts

-- a reply of one line: these parts, and a line end
abbrev pub reply : List (List ℕ) → List ℕ
reply [] = 10 ∷ []
reply (part ∷ parts) = part ++ reply parts

-- the name of a declared buffer
abbrev pub buffer_name : List (List ℕ) → BufferId → List ℕ
buffer_name names id = unwrap_or (slice_get names id.generation) []

-- read-only, or read and write
abbrev pub access_text : Bool → List ℕ
access_text true = codes "ro"
access_text false = codes "rw"

abbrev pub flags_text : Flags → List ℕ
flags_text flags = access_text flags.read_only

-- what stands behind an address: the buffer and the byte in it, or zeros
abbrev pub target_text : List (List ℕ) → Target → List ℕ
target_text names (BufferByte id byte) = texts_joined (buffer_name names id ∷ codes " " ∷ hex byte ∷ [])
target_text names ZeroByte = codes "zero"

-- the first byte, the byte past the end, what stands behind the first byte, and the flags
abbrev pub mapping_text : List (List ℕ) → Mapping → List ℕ
mapping_text names m = texts_joined (
    hex (m.range.first * bytes_per_page) ∷ codes " " ∷ hex (end_of m.range * bytes_per_page) ∷ codes " "
    ∷ target_text names (target_of m.backing 0) ∷ codes " " ∷ flags_text m.flags ∷ [])

abbrev pub rest_text : List (List ℕ) → Option Mapping → List ℕ
rest_text names None = codes "none"
rest_text names (Some m) = mapping_text names m

abbrev pub keep_text : Bool → List ℕ
keep_text true = codes " keep"
keep_text false = []

abbrev pub step_text : List (List ℕ) → Step → List ℕ
step_text names (Unmap m keep) = texts_joined (codes "unmap " ∷ mapping_text names m ∷ keep_text keep ∷ [])
step_text names (Remap m prev next keep) = texts_joined (
    codes "remap " ∷ mapping_text names m ∷ codes " prev " ∷ rest_text names prev
    ∷ codes " next " ∷ rest_text names next ∷ keep_text keep ∷ [])
step_text names (Map m) = texts_joined (codes "map " ∷ mapping_text names m ∷ [])

-- a line for each of these, or the word empty
abbrev pub lines_reply : {X : Type 0} → (X → List ℕ) → List X → List ℕ
lines_reply text [] = reply (codes "empty" ∷ [])
lines_reply text (x ∷ xs) = flat_map (λ y. reply (text y ∷ [])) (x ∷ xs)

abbrev pub ok_reply : List ℕ
ok_reply = reply (codes "ok" ∷ [])

abbrev pub trimmed_reply : List ℕ
trimmed_reply = reply (codes "trimmed" ∷ [])

abbrev pub refused_reply : Fault → List ℕ
refused_reply fault = reply (codes "refused " ∷ fault_text fault ∷ [])

-- how many mappings of a buffer there are, in the list and in undo values
abbrev pub uses_reply : ℕ → ℕ → List ℕ
uses_reply uses kept = reply (codes "uses " ∷ decimal uses ∷ codes " kept " ∷ decimal kept ∷ [])

-- these numbers in decimal, with a space between
abbrev pub spaced : List ℕ → List ℕ
spaced [] = []
spaced (n ∷ []) = decimal n
spaced (n ∷ (m ∷ ns)) = decimal n ++ codes " " ++ spaced (m ∷ ns)

-- how many tables there are, by level
abbrev pub tables_reply : List ℕ → List ℕ
tables_reply counts = reply (spaced counts ∷ [])

-- where an address leads, and how that may be accessed
abbrev pub place_text : List (List ℕ) → Place → List ℕ
place_text names place = texts_joined (target_text names place.target ∷ codes " " ∷ flags_text place.flags ∷ [])

abbrev pub place_reply : List (List ℕ) → Option Place → List ℕ
place_reply names None = reply (codes "none" ∷ [])
place_reply names (Some place) = reply (place_text names place ∷ [])

-- the name of a declared timeline
abbrev pub timeline_text : List (List ℕ) → ℕ → List ℕ
timeline_text timelines place = unwrap_or (slice_get timelines place) []

-- the number of a timeline
abbrev pub number_reply : List (List ℕ) → ℕ → ℕ → List ℕ
number_reply timelines place number = reply (timeline_text timelines place ∷ codes " " ∷ decimal number ∷ [])

-- a request is accepted as this entry, or refused at this operation, or a point of its waits lacks
abbrev pub outcome_text : List (List ℕ) → Outcome → List ℕ
outcome_text timelines (Accepted entry) = texts_joined (codes "accepted " ∷ decimal entry ∷ [])
outcome_text timelines (Refused op fault) = texts_joined (codes "refused " ∷ decimal op ∷ codes " " ∷ fault_text fault ∷ [])
outcome_text timelines (NotReady point have) = texts_joined (
    codes "notready " ∷ timeline_text timelines point.timeline ∷ codes " " ∷ decimal point.value
    ∷ codes " have " ∷ decimal have ∷ [])

-- a line for each, of its number and itself, of which the first has this number
abbrev pub numbered_lines : {X : Type 0} → (ℕ → X → List ℕ) → ℕ → List X → List ℕ
numbered_lines line number [] = []
numbered_lines line number (x ∷ xs) = line number x ++ numbered_lines line (number + 1) xs

-- an outcome with its number
abbrev pub outcome_line : List (List ℕ) → ℕ → Outcome → List ℕ
outcome_line timelines number outcome = reply (decimal number ∷ codes " " ∷ outcome_text timelines outcome ∷ [])

-- what a queue was told, of which the first outcome has this number, or the word empty
abbrev pub told_reply : List (List ℕ) → ℕ → List Outcome → List ℕ
told_reply timelines first [] = reply (codes "empty" ∷ [])
told_reply timelines first (outcome ∷ outcomes) = numbered_lines (outcome_line timelines) first (outcome ∷ outcomes)

abbrev pub liveness_text : Bool → List ℕ
liveness_text true = codes "withdrawn"
liveness_text false = codes "live"

-- an item of the journal: its number, what it is, and of a bind whether it is withdrawn
abbrev pub kind_text : ℕ → ItemKind → Bool → List ℕ
kind_text entry (Bind queue number request seen done) gone = texts_joined (
    decimal entry ∷ codes " bind " ∷ decimal queue ∷ codes " " ∷ decimal number ∷ codes " " ∷ liveness_text gone ∷ [])
kind_text entry (Withdrawal of) gone = texts_joined (decimal entry ∷ codes " withdrawal of " ∷ decimal of ∷ [])

abbrev pub item_text : (ℕ → Bool) → NumberedItem → List ℕ
item_text gone x = kind_text x.number x.item.kind (gone x.number)

-- the items of the journal, the oldest one first
abbrev pub journal_reply : JournalState → List ℕ
journal_reply j = lines_reply (item_text (is_withdrawn (entries j))) (reverse (entries j))

-- a job began: its number, and the place of each access
abbrev pub begun_reply : List (List ℕ) → ℕ → List Place → List ℕ
begun_reply names job places =
    reply (codes "job " ∷ decimal job ∷ []) ++ flat_map (λ place. reply (place_text names place ∷ [])) places

-- a word with a space, and a number
abbrev pub counted_reply : List ℕ → ℕ → List ℕ
counted_reply word number = reply (word ∷ decimal number ∷ [])

-- an entry is withdrawn by a new item
abbrev pub withdrawn_reply : ℕ → ℕ → List ℕ
withdrawn_reply entry item = reply (codes "withdrawn " ∷ decimal entry ∷ codes " as " ∷ decimal item ∷ [])

-- a rest of a mapping, if there is one, lies inside its buffer
abbrev pub IsRestInside : Option Mapping → Type 0
IsRestInside None = Unit {0}
IsRestInside (Some m) = HasBytesThatFit m

-- the mappings of a step lie inside their buffers
abbrev pub IsStepInside : Step → Type 0
IsStepInside (Unmap m keep) = HasBytesThatFit m
IsStepInside (Remap m prev next keep) = HasBytesThatFit m × IsRestInside prev × IsRestInside next
IsStepInside (Map m) = HasBytesThatFit m
