use Rattle.gv_space.proofs.FirstPageLoops.{left_turn, left_none, left_end, fewer}
use Rattle.std.proofs.Common.{◌≡◌, ◌+◌, ◌<◌, ◌≤◌, length, ◌++◌, ◌∷◌, [], arith, sym, refl, ◌∙◌}
use Rattle.std.proofs.lemmas.List.{length-append}
use Rattle.gv_types.specs.declared.mapping.Backing.TheVariants.{Zero}
use Rattle.gv_space.specs.Counts.{less_used}
use Rattle.gv_space.proofs.CountsOneByOne.{less_used_counting, by_count_none, can_count, count_turn, count_end}
use Rattle.gv_space.proofs.ListIteration.{next_is, none_is_left}
use Rattle.gv_space.proofs.counts.count_out_run.Goals as goal

pub loop-mapping-init : goal.loop-mapping-init
loop-mapping-init c = record {
  within = omega arith;
  walked = c.into_iter-mapping-iterator.ensures.into_iter_gives;
  counted = sym (by_count_none less_used c.args.buffers.now less_used_counting);
  first_pages = λ before behind laid are. are;
  no_more = λ index. omega arith;
  rows = refl;
  can = tt;
  finite = tt;
}

pub count_out-requires : goal.count_out-requires
count_out-requires c =
    let next = next_is c.args.run c.loop-mapping.mapping-iterator c.next.new.self (length c.loop-mapping.yielded) c.in-Some.mapping.now c.loop-mapping.invariant.walked c.in-Some.ensures.steps in
    can_count less_used (λ b. b.uses) (λ b n. n ≤ b.uses) (λ n. 0 < n) less_used_counting (λ b n k less fits. omega arith)
    c.args.buffers.now c.loop-mapping.buffers c.args.run (length c.loop-mapping.yielded) c.in-Some.mapping.now c.in-Buffer.id c.in-Buffer.page
    next.within next.is (sym c.backing.ensures ∙ c.in-Buffer.is) c.requires.live c.requires.counted c.loop-mapping.invariant.counted

pub loop-mapping-preserved-in-Buffer : goal.loop-mapping-preserved-in-Buffer
loop-mapping-preserved-in-Buffer c =
    let i = length c.loop-mapping.yielded in
    let next = next_is c.args.run c.loop-mapping.mapping-iterator c.next.new.self i c.in-Some.mapping.now c.loop-mapping.invariant.walked c.in-Some.ensures.steps in
    let more : length (c.loop-mapping.yielded ++ c.in-Some.mapping ∷ []) ≡ i + 1 = length-append c.loop-mapping.yielded (c.in-Some.mapping ∷ []) in
    rw more record {
      within = (let less = next.within in omega (arith, less));
      walked = next.behind;
      counted = count_turn less_used c.args.buffers.now c.loop-mapping.buffers c.count_out.new.self c.args.run i c.in-Some.mapping.now
          _ less_used_counting next.within next.is (sym c.backing.ensures ∙ c.in-Buffer.is) c.loop-mapping.invariant.counted c.count_out.ensures;
      first_pages = λ before behind laid are.
          left_turn before behind c.args.run i c.in-Some.mapping.now next.within next.is
          c.in-Buffer.id c.in-Buffer.page c.loop-mapping.first_pages c.remove_page.new.self (sym c.backing.ensures ∙ c.in-Buffer.is) laid (rw c.first.ensures.value at c.remove_page.ensures.here) c.remove_page.ensures.others
          (c.loop-mapping.invariant.first_pages before behind laid are);
      no_more = λ index.
          (let less = fewer c.in-Buffer.id.index c.first.result c.loop-mapping.first_pages c.remove_page.new.self c.remove_page.ensures.here c.remove_page.ensures.others index in
          let so_far = c.loop-mapping.invariant.no_more index in
          omega (arith, less, so_far));
      rows = c.remove_page.ensures.length ∙ c.loop-mapping.invariant.rows;
      can = tt;
      finite = tt;
    }

pub loop-mapping-preserved : goal.loop-mapping-preserved
loop-mapping-preserved c =
    let i = length c.loop-mapping.yielded in
    let next = next_is c.args.run c.loop-mapping.mapping-iterator c.next.new.self i c.in-Some.mapping.now c.loop-mapping.invariant.walked c.in-Some.ensures.steps in
    let more : length (c.loop-mapping.yielded ++ c.in-Some.mapping ∷ []) ≡ i + 1 = length-append c.loop-mapping.yielded (c.in-Some.mapping ∷ []) in
    rw more record {
      within = (let less = next.within in omega (arith, less));
      walked = next.behind;
      counted = count_turn less_used c.args.buffers.now c.loop-mapping.buffers c.loop-mapping.buffers c.args.run i c.in-Some.mapping.now
          Zero less_used_counting next.within next.is (sym c.backing.ensures ∙ c.in_default.is) c.loop-mapping.invariant.counted refl;
      first_pages = λ before behind laid are.
          left_none before behind c.args.run i c.in-Some.mapping.now next.within next.is
          c.loop-mapping.first_pages (sym c.backing.ensures ∙ c.in_default.is) (c.loop-mapping.invariant.first_pages before behind laid are);
      no_more = c.loop-mapping.invariant.no_more;
      rows = c.loop-mapping.invariant.rows;
      can = tt;
      finite = tt;
    }

pub returns-clause-counts : goal.returns-clause-counts
returns-clause-counts c =
    count_end less_used c.args.buffers.now c.loop-mapping.buffers c.args.run (length c.loop-mapping.yielded)
    (none_is_left c.args.run c.loop-mapping.mapping-iterator (length c.loop-mapping.yielded) c.loop-mapping.invariant.walked c.in-None.ensures.steps.0) c.loop-mapping.invariant.counted

pub returns-clause-first_pages : goal.returns-clause-first_pages
returns-clause-first_pages c = λ before behind laid are.
    left_end before behind c.args.run (length c.loop-mapping.yielded) c.loop-mapping.first_pages
    (none_is_left c.args.run c.loop-mapping.mapping-iterator (length c.loop-mapping.yielded) c.loop-mapping.invariant.walked c.in-None.ensures.steps.0)
    (c.loop-mapping.invariant.first_pages before behind laid are)
