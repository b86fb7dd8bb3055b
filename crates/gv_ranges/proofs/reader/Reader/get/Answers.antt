use Rattle.std.proofs.Common.{arith, ◌≡◌, ◌+◌, ◌-◌, ◌%◌, ◌≤◌, ℕ, length, take, drop, get_or, ap, sym, ◌∙◌}
use Rattle.std.proofs.lemmas.List.{get_or_default}
use Rattle.gv_ranges.proofs.TakeDropLemmas.{piece-within, piece-at}
use Rattle.gv_ranges.proofs.reader.Reader.get.Goals as goal

pub returns-then-inside-self : goal.returns-then-inside-self
returns-then-inside-self c = λ d.
    let inv = c.self.invariant in
    let ms = c.args.self.now in
    let block = c.self.inside.block.now in
    let base : ℕ = c.self.inside.base in
    let index : ℕ = c.args.index in
    let ahead : block ≡ take (length block) (drop base ms) = rw (← c.self.view_is) inv.ahead in
    let within : base ≤ length ms = rw (← c.self.view_is) inv.within in
    let long : length ms ≡ c.self.inside.len = ap length (sym c.self.view_is) ∙ sym inv.all in
    let ends : base + length block ≤ length ms = piece-within ms block base within ahead in
    let inside : (index + (18446744073709551616 - base)) % 18446744073709551616 ≡ index - base = omega (arith, ends, long, within) in
    let from : base ≤ index = omega (arith, ends, long, within) in
    let same : get_or block (index - base) d ≡ get_or ms index d =
    piece-at ms block base (index - base) d ahead (omega (arith, inside)) ∙ ap (λ n. get_or ms n d) (omega (arith, from)) in
    rw inside (get_or_default block (index - base) _ d (omega (arith, inside)) ∙ same)
