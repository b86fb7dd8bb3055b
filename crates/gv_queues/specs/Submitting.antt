-- A submitter as its driver sees it, and what is left of it when it is closed.
use Rattle.std.specs.Prelude.{◌≡◌, ℕ, ◌<◌, ◌≤◌, List, [], length, slice_index_or}
use Rattle.atomic_table.specs.Seated.{TableId}
use Rattle.gv_types.specs.declared.request.Request.{Request}

-- which channel an end is of: what no other channel shares with it, and the queue that each of its passes knows
pub record ChannelId : Type 0 where
  pub table : TableId
  pub queue : ℕ

-- its queue, its channel, how many requests it may put, how many the channel holds at most, the count of timelines, and
-- what it put
pub record SubmitterState : Type 0 where
  pub queue : ℕ
  pub channel : ChannelId
  pub limit : ℕ
  pub depth : ℕ
  pub timelines : ℕ
  pub put : List Request

-- a closed submitter: its queue, its channel, and what it put
pub record PutEndState : Type 0 where
  pub queue : ℕ
  pub channel : ChannelId
  pub put : List Request

abbrev pub put_end_of : SubmitterState → PutEndState
put_end_of s = record { queue = s.queue; channel = s.channel; put = s.put }

-- The channel may have held as many requests as it has places: so many were put. Whether it did at some moment can't be
-- said, since a pass keeps no trace of a put that was refused.
abbrev pub MayBeFull : SubmitterState → Type 0
MayBeFull s = s.depth ≤ length s.put

abbrev pub most_places : ℕ
most_places = 65536

-- where there is no channel
abbrev pub no_channel : ChannelId
no_channel = record {
  table = record { words = 0; slots = 0; views_name = 0; atom = 0; block = 0; offset = 0; slot_names = [] };
  queue = 0;
}

-- where there is no submitter
abbrev pub no_submitter : SubmitterState
no_submitter = record {
  queue = 0;
  channel = no_channel;
  limit = 0;
  depth = 0;
  timelines = 0;
  put = [];
}

abbrev pub submitter_at : List SubmitterState → ℕ → SubmitterState
submitter_at submitters queue = slice_index_or submitters queue no_submitter

-- a submitter of this queue that put nothing yet
pub record IsOpened (number most places count : ℕ) (s : SubmitterState) : Type 0 where
  pub queue : s.queue ≡ number
  pub channel : s.channel.queue ≡ number
  pub limit : s.limit ≡ most
  pub depth : s.depth ≡ places
  pub timelines : s.timelines ≡ count
  pub none : s.put ≡ []

-- these stand in the order of their queues, from 0, and put nothing yet
abbrev pub AreOpened : ℕ → ℕ → ℕ → List SubmitterState → Type 0
AreOpened limit depth timelines submitters =
    (queue : ℕ) → queue < length submitters → IsOpened queue limit depth timelines (submitter_at submitters queue)

-- the same submitter, which may have put more
abbrev pub IsSameSubmitter : SubmitterState → SubmitterState → Type 0
IsSameSubmitter old new = new ≡ record old { put = new.put }

-- at each place stands the submitter that stood there
abbrev pub AreSameSubmitters : List SubmitterState → List SubmitterState → Type 0
AreSameSubmitters old new =
    (queue : ℕ) → queue < length old → IsSameSubmitter (submitter_at old queue) (submitter_at new queue)

-- so many requests were put on each queue
abbrev pub AreCounted : (ℕ → ℕ) → List SubmitterState → Type 0
AreCounted count submitters =
    (queue : ℕ) → queue < length submitters → count queue ≡ length (submitter_at submitters queue).put
