-- Where tables of single pages stand: at level 1, and nowhere else.
use Rattle.std.specs.Prelude.{◌≡◌, ℕ, zero, suc, ◌<◌}
use denote.Struct.Props.{props}
use Rattle.gv_table.specs.declared.slot.Slot.{Slot, out-Slot}
use Rattle.gv_table.specs.declared.slot.Slot.TheOpen as layer
use Rattle.gv_table.specs.Levels.{slots_per_table}
use Rattle.gv_table.specs.Tree.{child}

-- a table whose slots are at a level is of the level's kind
abbrev pub HasKind : ℕ → layer.Slot-F Slot → Type 0
HasKind level layer.Empty = Unit {0}
HasKind level (layer.Zero flags) = Unit {0}
HasKind level (layer.Buffer flags id page) = Unit {0}
HasKind level (layer.Pages pages) = level ≡ 0
HasKind level (layer.Table slots) = 0 < level

-- the tables of a slot at a level are each of its level's kind
unfoldable pub IsShaped : ℕ → Slot → Type 0
IsShaped zero slot = Unit {0}
IsShaped (suc level) slot = HasKind level (out-Slot slot) × ((k : ℕ) → k < slots_per_table → IsShaped level (child slot k))

HasKind-prop : (level : ℕ) (l : layer.Slot-F Slot) → IsProp (HasKind level l)
HasKind-prop level layer.Empty = Prim.hlevel props
HasKind-prop level (layer.Zero flags) = Prim.hlevel props
HasKind-prop level (layer.Buffer flags id page) = Prim.hlevel props
HasKind-prop level (layer.Pages pages) = Prim.hlevel props
HasKind-prop level (layer.Table slots) = Prim.hlevel props

pub IsShaped-prop : (level : ℕ) (slot : Slot) → IsProp (IsShaped level slot)
unfolding IsShaped
IsShaped-prop zero slot = Prim.hlevel props
IsShaped-prop (suc level) slot =
    let here = HasKind-prop level (out-Slot slot) in
    let part : (k : ℕ) → IsProp (IsShaped level (child slot k)) = λ k. IsShaped-prop level (child slot k) in
    Prim.hlevel (props, here, part)
