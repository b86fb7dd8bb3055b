use Rattle.std.proofs.Common.{◌≡◌, ◌++◌, ◌+◌, length, vec_len, vec_capacity}
use Rattle.std.specs.Vec.Iter.{into_iter_items, into_iter_len}
use Rattle.gv_vm.specs.Headline.{Headline}
use Rattle.gv_vm.proofs.world.World.run_events.Given as goal

abbrev pub invariant-loop-event : goal.invariant-loop-event
invariant-loop-event l = record {
  events : l.yielded ++ into_iter_items l.event-iterator ≡ l.fn.events.items;
  ran : Headline l.fn.self l.yielded l.replies.items l.self;
  left : into_iter_len l.event-iterator ≡ length (into_iter_items l.event-iterator);
  room : vec_len l.replies + length (into_iter_items l.event-iterator) ≡ vec_capacity l.replies;
}
