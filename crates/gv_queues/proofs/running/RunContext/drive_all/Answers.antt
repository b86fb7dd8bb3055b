use Rattle.std.proofs.Common.{rules, ◌≡◌, ◌∙◌, List, drop, ap, map, length}
use Rattle.gv_queues.specs.Submitting.{SubmitterState, put_end_of}
use Rattle.gv_queues.proofs.Channels.{closed_of}
use Rattle.gv_queues.proofs.QueueEnds.{puts_of, taken_whole}
use Rattle.gv_queues.proofs.running.RunContext.drive_all.Goals as goal

pub returns-clause-puts : goal.returns-clause-puts
returns-clause-puts g c =
    let opened = c.requires.opened in let new = c.drive.new.submitters in
    let even : length new ≡ length c.args.submitters.items = search rules in
    let long : c.args.submitters.len ≡ length new = search rules in
    let whole = taken_whole new (drop (length new) c.args.submitters.items) c.args.submitters.len long in
    puts_of (g.D.Driver.put_on c.drive.new.self) (g.D.Driver.may_put c.args.driver.now) opened.0 opened.1 _ c.args.submitters.items new c.close_all.result.items (c.close_all.ensures ∙ ap (λ (l : List SubmitterState). map put_end_of l) whole) even opened.2 (search rules) c.drive.ensures.counts c.drive.ensures.put

pub returns-clause-closed : goal.returns-clause-closed
returns-clause-closed g c =
    let new = c.drive.new.submitters in
    let even : length new ≡ length c.args.submitters.items = search rules in
    let long : c.args.submitters.len ≡ length new = search rules in
    let whole = taken_whole new (drop (length new) c.args.submitters.items) c.args.submitters.len long in
    closed_of c.args.submitters.items new c.close_all.result.items (c.close_all.ensures ∙ ap (λ (l : List SubmitterState). map put_end_of l) whole) even (search rules)
