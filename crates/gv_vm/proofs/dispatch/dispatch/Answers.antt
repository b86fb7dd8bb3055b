use Rattle.std.proofs.Common.{refl}
use Rattle.gv_vm.proofs.Roomless.{allowed, refused, applied, applied_room, roomless-unchanged}
use Rattle.gv_vm.proofs.dispatch.dispatch.Goals as goal

pub returns-in-Ok-clause-came : goal.returns-in-Ok-clause-came
returns-in-Ok-clause-came c =
    let s = c.args.space.now in
    let t = c.bind.new.space in
    let bound = c.in-Ok.ensures.item in
    record {
      allowed = allowed s c.args.journal.now c.args.ready.request.ops.items c.in-Ok.ensures.accepted;
      entry_is = c.in-Ok.ensures.number;
      saw = c.args.ready.seen;
      saw_is = refl;
      item = record { item = bound.item; items = bound.items; done = bound.done; kind = bound.kind; did = bound.did; undos = bound.undos };
      space = applied s t c.args.ready.request c.in-Ok.ensures.space;
      room = applied_room s t c.args.ready.request c.in-Ok.ensures.space;
      rewinds = c.in-Ok.ensures.back;
    }

pub returns-in-Err-clause-came : goal.returns-in-Err-clause-came
returns-in-Err-clause-came c = record {
  refused = refused c.args.space.now c.args.journal.now c.args.ready.request.ops.items c.in-Err.field-0 c.in-Err.ensures.refused;
  space = roomless-unchanged c.args.space.now c.bind.new.space c.in-Err.ensures.space_unchanged;
  journal = c.in-Err.ensures.unchanged;
}
