use Rattle.gv_journal.proofs.JournalLemmas.{fits_new, fits_empty, fits_buffers, fits_with_room}
use Rattle.gv_journal.proofs.laws.fitting.Goals as goal

pub returns-clause-new : goal.returns-clause-new
returns-clause-new c = λ area limits limit. fits_new area limits limit 0

pub returns-clause-empty : goal.returns-clause-empty
returns-clause-empty c = λ s limit first kept. fits_empty s limit first kept

pub returns-clause-buffers : goal.returns-clause-buffers
returns-clause-buffers c = λ s t j same kept fits. fits_buffers s t j same kept fits

pub returns-clause-room : goal.returns-clause-room
returns-clause-room c = λ s t j same fits. fits_with_room s t j same fits
