use Rattle.std.proofs.Common.{arith, ◌≡◌, ◌-◌, ◌+◌, ◌*◌, ◌/◌, ◌≤◌, ℕ, ap, ◌∙◌}
use Rattle.gv_table.specs.Levels.{pages_of, slot_pages}
use Rattle.gv_table.proofs.PagesOf.{pages_of-some, pages_of-below, index-within, index-below}
use Rattle.gv_table.proofs.RangesMeet.{meets-bounds, meets-from}
use Rattle.gv_table.proofs.levels.part_around.Goals as goal

pub returns : goal.returns
returns c =
    let p : ℕ = pages_of (c.args.level - 1) in
    let d : ℕ = c.args.range.first - c.args.first in
    let pages : c.pages_of-pages.result ≡ p = c.pages_of-pages.ensures.pages in
    let is : c.slots_in-index.result ≡ d / p = c.slots_in-index.ensures ∙ ap (λ (n : ℕ). (n - c.args.first) / p) c.first-2.ensures.value in
    let product : c.slots_in-index.result * c.pages_of-pages.result ≡ c.slots_in-index.result * p = ap (λ (n : ℕ). c.slots_in-index.result * n) pages in
    let all = pages_of-below c.args.level (omega arith) in
    let some = pages_of-some (c.args.level - 1) in
    let met = meets-bounds (slot_pages c.args.level c.args.first) c.args.range c.requires.met in
    let in_space = c.first-2.ensures.in_space in
    let here = index-within d p some in
    let low : c.slots_in-index.result * p ≤ d = rw is here.0 in
    let from : c.args.first + c.slots_in-index.result * p ≤ c.args.range.first = omega (arith, low) in
    let upto : c.args.range.first + c.args.range.count ≤ c.args.first + c.slots_in-index.result * p + p = omega (arith, product, pages) in
    record {
      part = record {
        some = omega arith;
        known = rw is (index-below d p some (omega (arith, all, met)));
        part = record { from = from; upto = upto };
      };
      met = meets-from (slot_pages (c.args.level - 1) (c.args.first + c.slots_in-index.result * p)) c.args.range
          (omega (arith, from, in_space)) (omega (arith, upto, in_space));
    }
