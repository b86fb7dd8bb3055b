use Rattle.std.proofs.Common.{◌≡◌, ◌<◌, ◌+◌, ◌++◌, ◌∷◌, [], List, ℕ, true, false, length, get_or, take, take_all, inl, inr, sym, subst, rules}
use Rattle.std.specs.List.{All}
use Rattle.std.proofs.lemmas.List.Elements.{All-nil, All-cons, All-append}
use Rattle.gv_types.specs.declared.request.Request.{Request}
use Rattle.gv_sync.specs.Seats.{most_timelines}
use Rattle.gv_lines.specs.declared.clause.Clause.{Clause}
use Rattle.gv_threads.specs.Naming.{IsFirstBad, MayBePut}
use Rattle.gv_threads.specs.Parts.{unnumbered}
use Rattle.gv_threads.specs.Running.{AreNamed}
use Rattle.gv_threads.specs.Script.{IsFor}
use Rattle.gv_threads.proofs.UndeclaredNames.{first_bad, good_next}
use Rattle.gv_threads.proofs.OneLineMore.{named_more, unnumbered_next}
use Rattle.gv_threads.proofs.script.ThreadsScript.requests_named.Goals as goal
use Rattle.gv_threads.proofs.script.ThreadsScript.requests_named.Goals.{in-Ok+then-not-keep, in-Ok+else-not-keep, in-Err-OutOfMemory}

pub loop-number-preserved : goal.loop-number-preserved
loop-number-preserved c =
    let inv = c.loop-number.invariant in
    let k : ℕ = c.loop-number.number-index in
    let lines : List (ℕ × List Clause) = c.args.self.now.requests in
    let item : ℕ × List Clause = c.loop-number-item.result in
    let below : k < length lines = search rules in
    let is : item ≡ get_or lines k item = search rules in
    let entries : List (ℕ × Request) = c.loop-number.requests.items in
    let next : unnumbered (take (k + 1) lines) ≡ unnumbered (take k lines) ++ item.1 ∷ [] = unnumbered_next lines k item below is in
    elim c.match-request_for.branch [
      | in-Ok+then-not-keep w ↦ (
          let no : w.keep.result ≡ false = search rules in
          rw (w.requests-is, w.has_memory-is)
          (record {
            fit = subst (λ (l : List (ℕ × Request)). All (IsFor c.args.self.now.queues most_timelines) l) (sym (w.keep.ensures.same no)) inv.fit;
            good = good_next (MayBePut c.args.self.now.queues c.args.buffers.now.entries c.args.self.now.timelines) lines k item below is inv.good (c.request_for.ensures.memory (search rules));
            named = λ has. absurd (cc);
          }))
      | in-Ok+else-not-keep w ↦ (
          let yes : w.keep.result ≡ true = search rules in
          let entry : ℕ × Request = w.in-Ok.entry in
          let longer : w.keep.new.requests.items ≡ entries ++ entry ∷ [] = w.keep.ensures.kept yes in
          rw (w.requests-is, w.has_memory-is)
          (record {
            fit = subst (λ (l : List (ℕ × Request)). All (IsFor c.args.self.now.queues most_timelines) l) (sym longer)
                (All-append (IsFor c.args.self.now.queues most_timelines) entries (entry ∷ []) inv.fit (All-cons (IsFor c.args.self.now.queues most_timelines) entry [] w.in-Ok.ensures.fits (All-nil (IsFor c.args.self.now.queues most_timelines))));
            good = good_next (MayBePut c.args.self.now.queues c.args.buffers.now.entries c.args.self.now.timelines) lines k item below is inv.good (c.request_for.ensures.memory (search rules));
            named = λ has.
                subst (λ (ls : List (List Clause)). AreNamed c.args.buffers.now.entries c.args.self.now.timelines ls w.keep.new.requests.items) (sym next)
                (subst (λ (es : List (ℕ × Request)). AreNamed c.args.buffers.now.entries c.args.self.now.timelines (unnumbered (take k lines) ++ item.1 ∷ []) es) (sym longer)
                (named_more c.args.buffers.now.entries c.args.self.now.timelines (unnumbered (take k lines)) item.1 entries entry (inv.named has) w.in-Ok.ensures.named));
          }))
      | in-Err-OutOfMemory w ↦ (
          rw (w.requests-is, w.has_memory-is)
          (record { fit = inv.fit; good = good_next (MayBePut c.args.self.now.queues c.args.buffers.now.entries c.args.self.now.timelines) lines k item below is inv.good (c.request_for.ensures.memory (search rules)); named = λ has. absurd (cc) }))
    ]

pub returns-in-Err-Bad-clause-bad_line : goal.returns-in-Err-Bad-clause-bad_line
returns-in-Err-Bad-clause-bad_line c = λ line same.
    let k : ℕ = c.loop-number.number-index in
    let lines : List (ℕ × List Clause) = c.args.self.now.requests in
    let item : ℕ × List Clause = c.loop-number-item.result in
    let below : k < length lines = search rules in
    let is : item ≡ get_or lines k item = search rules in
    let here : item.0 ≡ line = cc in
    inl (subst (λ (n : ℕ). IsFirstBad (MayBePut c.args.self.now.queues c.args.buffers.now.entries c.args.self.now.timelines) lines n) here
    (first_bad (MayBePut c.args.self.now.queues c.args.buffers.now.entries c.args.self.now.timelines) lines k item below is
    c.loop-number.invariant.good (c.request_for.ensures.bad (search rules))))

pub returns-in_err-check_questions-clause-bad_line : goal.returns-in_err-check_questions-clause-bad_line
returns-in_err-check_questions-clause-bad_line c = λ line same.
    let lines : List (ℕ × List Clause) = c.args.self.now.requests in
    let all : take c.loop-number.number-index lines ≡ lines = take_all c.loop-number.number-index lines (search rules) in
    inr (
      subst (λ (ls : List (ℕ × List Clause)). All (MayBePut c.args.self.now.queues c.args.buffers.now.entries c.args.self.now.timelines) (unnumbered ls)) all c.loop-number.invariant.good,
      c.check_questions.ensures.bad_line line (search rules),
    )
