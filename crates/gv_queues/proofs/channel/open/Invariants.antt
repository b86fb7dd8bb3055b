use Rattle.gv_queues.specs.Handover.{about_queue}
use Rattle.gv_queues.proofs.channel.open.Given as goal

abbrev pub ghosts-open_branded : goal.ghosts-open_branded
ghosts-open_branded a = record { about = about_queue a.queue a.timelines }
