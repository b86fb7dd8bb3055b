-- What is kept of a line that is not at its end yet.
use Rattle.std.proofs.Common.{◌≡◌, ℕ, ◌+◌, ◌<◌, ◌≤◌, true, false, List, [], ◌++◌, length, ap, arith, length-append}
use Rattle.gv_serve.specs.Partial.{HoldsSo, line_limit}

-- a line with too many bytes has too many still
pub over_more : (kept line more : List ℕ) → HoldsSo true kept line → HoldsSo true kept (line ++ more)
over_more kept line more over = omega (arith, length-append line more, over)

-- the bytes that are kept are too many with these
pub over_now : (kept line more none : List ℕ) → HoldsSo false kept line → length kept ≤ line_limit → line_limit < length kept + length more → HoldsSo true none (line ++ more)
over_now kept line more none same few many = omega (arith, length-append line more, many, ap length same)

-- nothing is kept of nothing alone
pub some_over : (kept line : List ℕ) → HoldsSo true kept line → line ≡ [] → ⊥
some_over kept line over none = omega (arith, over, ap length none)
