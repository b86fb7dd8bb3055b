use Rattle.std.proofs.Common.{◌≡◌, ◌∙◌, ◌++◌, ◌<◌, ◌≤◌, [], length, take, rules, arith, refl, inl, inr, length-append, length-take}
use Rattle.std.proofs.KnownBytes.{Appends-trans, Consumes-nil, Consumes-trans}
use Rattle.gv_serve.proofs.AsRun.{as_run}
use Rattle.gv_serve.proofs.AnsweredLines.{heard_nothing, nothing_pending, wrote_more, dialogue_ends, consumed_none}
use Rattle.gv_serve.specs.Dialogue.{most_reads}
use Rattle.gv_serve.proofs.dialogue.Dialogue.hold.Goals as goal

pub loop-done-init : goal.loop-done-init
loop-done-init g c = record {
  input = [];
  text = [];
  heard = heard_nothing _ _ _ c.requires.session c.requires.number c.requires.partial;
  each_gave = omega arith;
  so_far = Consumes-nil _;
  wrote = nothing_pending _ _ c.requires.output;
  read_flag = refl;
  write_flag = refl;
}

pub loop-done-preserved : goal.loop-done-preserved
loop-done-preserved g c =
    let inv = c.loop-done.invariant in
    let wrote = c.in_ok-flush.ensures in
    let read = c.in_ok-count.ensures in
    let heard = c.in_ok-answer_lines.ensures.heard in
    let given = take c.in_ok-count.count c.read.new.buffer in
    record {
      input = inv.input ++ given;
      text = inv.text ++ heard.0;
      heard = heard.1 inv.input inv.text inv.heard;
      each_gave = simp (length-append, length-take) (omega (arith, inv.each_gave, read.bound));
      so_far = Consumes-trans _ _ _ _ _ inv.so_far read.bytes.0;
      wrote = wrote_more _ _ _ _ inv.text _ heard.0 inv.wrote wrote.ok wrote.empty heard.2;
      read_flag = read.unset ∙ inv.read_flag;
      write_flag = c.in_ok-answer_lines.ensures.unset ∙ wrote.unset ∙ inv.write_flag;
    }

pub returns-then-count-eq0-clause-text : goal.returns-then-count-eq0-clause-text
returns-then-count-eq0-clause-text g c =
    let inv = c.loop-done.invariant in
    let wrote = c.in_ok-flush.ensures in
    let read = c.in_ok-count.ensures in
    let ended = c.in_ok-end.ensures.ended in
    let none : c.in_ok-count.count ≡ 0 = search rules in
    let room : 0 < length c.read.new.buffer = search rules in
    let all = dialogue_ends inv.input inv.text ended.0 _ _ ended.1 _ inv.heard ended.2 in (
      inv.input,
      inv.text ++ ended.0,
      all.0,
      consumed_none _ _ _ inv.input c.read.new.buffer c.in_ok-count.count none inv.so_far read.bytes.0,
      inl (read.bytes.1 none room),
      all.1,
      wrote_more _ _ _ _ inv.text _ ended.0 inv.wrote wrote.ok wrote.empty ended.3,
      as_run inv.input (inv.text ++ ended.0) all.0 all.1,
    )

pub returns-clause-text : goal.returns-clause-text
returns-clause-text g c =
    let inv = c.loop-done.invariant in
    let ended = c.in_ok-end-2.ensures.ended in
    let most : most_reads ≤ length inv.input = omega (arith, inv.each_gave, c.loop-done-test.false, c.loop-done.auto.done-end) in
    let all = dialogue_ends inv.input inv.text ended.0 _ _ ended.1 _ inv.heard ended.2 in (
      inv.input,
      inv.text ++ ended.0,
      all.0,
      inv.so_far,
      inr most,
      all.1,
      Appends-trans _ _ _ inv.text ended.0 inv.wrote ended.3,
      as_run inv.input (inv.text ++ ended.0) all.0 all.1,
    )
