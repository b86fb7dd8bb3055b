-- What operations say of a page over what lies below them.
use Rattle.std.proofs.Common.{◌≡◌, ℕ, cond, List, [], ◌∷◌, ◌++◌, Option, refl, ap}
use Rattle.gv_types.specs.PageRange.{covers}
use Rattle.gv_types.specs.Operation.{range_of, own_part, view as view_of_ops}
use Rattle.gv_types.specs.declared.mapping.Entry.{Entry}
use Rattle.gv_types.specs.declared.operation.PageOp.{PageOp}

-- of what lies below only the page itself matters
pub view-at : (ops : List PageOp) (below other : ℕ → Option Entry) (page : ℕ) → below page ≡ other page → view_of_ops ops below page ≡ view_of_ops ops other page
view-at [] below other page same = same
view-at (op ∷ ops) below other page same =
    ap (λ (e : Option Entry). cond (covers (range_of op) page) (own_part op page) e) (view-at ops below other page same)

-- newer operations stand over older ones
pub view-append : (newer older : List PageOp) (below : ℕ → Option Entry) (page : ℕ) → view_of_ops (newer ++ older) below page ≡ view_of_ops newer (view_of_ops older below) page
view-append [] older below page = refl
view-append (op ∷ newer) older below page =
    ap (λ (e : Option Entry). cond (covers (range_of op) page) (own_part op page) e) (view-append newer older below page)
