-- What lies inside a buffer: pieces of a mapping, an edited list, and split steps.
use Rattle.std.proofs.Common.{◌≡◌, ℕ, ◌+◌, ◌-◌, ◌≤◌, ◌<◌, max, min, List, true, false, cond, Some, None, arith, refl, map, option_map, ap, sym, subst}
use Rattle.std.specs.List.{All, filter}
use Rattle.std.proofs.lemmas.List.Elements.{All-append, All-map, All-filter}
use Rattle.gv_types.specs.Page.{PAGES}
use Rattle.gv_types.specs.PageRange.{end_of, lies_in}
use Rattle.gv_types.specs.Mapping.{advanced, clip, IsMapping}
use Rattle.gv_types.specs.Operation.{range_of, own_mapping}
use Rattle.gv_types.specs.declared.mapping.Backing.{Backing}
use Rattle.gv_types.specs.declared.mapping.Backing.TheVariants.{Buffer, Zero}
use Rattle.gv_types.specs.declared.mapping.Mapping.{Mapping}
use Rattle.gv_types.specs.declared.operation.PageOp.{PageOp}
use Rattle.gv_types.specs.declared.operation.PageOp.TheVariants.{Map as MapOp, Unmap as UnmapOp, UnmapBuffer}
use Rattle.gv_ranges.specs.List.{IsLaidOut}
use Rattle.gv_ranges.specs.Edit.{edited}
use Rattle.gv_ranges.proofs.AllReplacedLemmas.{clip_is_piece, HoldsOfPieces, All-edited}
use Rattle.gv_ranges.proofs.ReplacedLemmas.{all_mappings}
use Rattle.gv_split.specs.Steps.{gives_way, step_in, step_of, steps, continues_mapping}
use Rattle.gv_split.specs.declared.step.Step.TheVariants.{Unmap, Remap, Map}
use Rattle.gv_split.specs.declared.step.Step.{Step}
use Rattle.gv_buffers.specs.Buffers.{BuffersState, Buffer as LiveBuffer, IsBuffer, pages}
use Rattle.gv_buffers.proofs.FoundLemmas.{counted_lives, found_live}
use Rattle.gv_space.specs.State.{SpaceState, IsSpace, IsValidMapping, LieInside as LieInBuffer}
use Rattle.gv_session.specs.State.{HavePagesThatFit, HasBytesThatFit}
use Rattle.gv_session.specs.Texts.{IsRestInside, IsStepInside}

-- fewer pages, further on, lie inside too
pub lie_inside-advanced : (b : Backing) (on count whole : ℕ) → on + count ≤ whole →
    HavePagesThatFit b whole → HavePagesThatFit (advanced b on) count
lie_inside-advanced (Buffer id page) on count whole fits inside = omega (arith, inside)
lie_inside-advanced Zero on count whole fits inside = tt

pub held_pieces : HoldsOfPieces HasBytesThatFit
held_pieces low high m n is held clipped =
    let piece = clip_is_piece low high m n clipped in
    let some : max low m.range.first < min high (end_of m.range) = piece.0 in
    rw piece.1 (lie_inside-advanced m.backing (max low m.range.first - m.range.first) (min high (end_of m.range) - max low m.range.first) m.range.count (omega arith) held)

pub held_edited : (ms : List Mapping) (op : PageOp) → IsLaidOut ms →
    All HasBytesThatFit ms → All HasBytesThatFit (own_mapping op) → All HasBytesThatFit (edited ms op)
held_edited ms op laid held own =
    All-edited HasBytesThatFit ms op held_pieces (all_mappings ms 0 laid) held own

held_rest : (low high : ℕ) (m : Mapping) → IsMapping m → HasBytesThatFit m → IsRestInside (clip low high m)
held_rest low high m is held =
    (elim (clip low high m) as (λ o. clip low high m ≡ o → IsRestInside o)
    [ Some n ↦ λ clipped. held_pieces low high m n is held clipped | None ↦ λ clipped. tt ]) refl

held_in : (op : PageOp) (m : Mapping) → IsMapping m → HasBytesThatFit m → IsStepInside (step_in op m)
held_in op m is held =
    (elim (lies_in m.range (range_of op)) as (λ b. IsStepInside (cond b (Unmap m (continues_mapping op m)) (Remap m (clip 0 (range_of op).first m) (clip (end_of (range_of op)) PAGES m) (continues_mapping op m)))) [
      | true ↦ held
      | false ↦ (held, held_rest 0 (range_of op).first m is held, held_rest (end_of (range_of op)) PAGES m is held)
    ])

held_step : (op : PageOp) (m : Mapping) → IsMapping m → HasBytesThatFit m → IsStepInside (step_of op m)
held_step (MapOp range backing flags) m is held = held_in (MapOp range backing flags) m is held
held_step (UnmapOp range) m is held = held_in (UnmapOp range) m is held
held_step (UnmapBuffer buffer) m is held = held

own_step : (op : PageOp) → All HasBytesThatFit (own_mapping op) → All IsStepInside (map Map (own_mapping op))
own_step op own = All-map IsStepInside Map (own_mapping op) own

-- the mappings of an operation's steps
pub held_steps : (ms : List Mapping) (op : PageOp) → IsLaidOut ms →
    All HasBytesThatFit ms → All HasBytesThatFit (own_mapping op) → All IsStepInside (steps ms op)
held_steps ms op laid held own =
    let each : All (λ (m : Mapping). IsStepInside (step_of op m)) ms =
    λ k d below. held_step op _ (all_mappings ms 0 laid k d below) (held k d below) in
    let met : All (λ (m : Mapping). IsStepInside (step_of op m)) (filter (gives_way op) ms) =
    All-filter (gives_way op) (λ (m : Mapping). IsStepInside (step_of op m)) ms each in
    All-append IsStepInside (map (step_of op) (filter (gives_way op) ms)) (map Map (own_mapping op))
    (All-map IsStepInside (step_of op) (filter (gives_way op) ms) met) (own_step op own)

-- pages inside a live buffer are no further in it than a buffer goes
lie_inside : (t : BuffersState) (b : Backing) (count : ℕ) → All (IsBuffer t.made) t.live → LieInBuffer t b count → HavePagesThatFit b count
lie_inside t (Buffer id page) count buffers inside =
    let found = found_live (IsBuffer t.made) t id buffers (counted_lives t id (λ b. b.pages) (λ size. page + count ≤ size) inside) in
    let size : pages t id ≡ Some found.0.pages = ap (option_map (λ (b : LiveBuffer). b.pages)) found.1 in
    let within : page + count ≤ found.0.pages = rw size at inside in
    omega (arith, within, found.2.few_pages)
lie_inside t Zero count buffers inside = tt

-- valid mappings lie inside their buffers
pub held_placed : (s : SpaceState) (ms : List Mapping) → IsSpace s → All (IsValidMapping s.area s.buffers) ms → All HasBytesThatFit ms
held_placed s ms space valid k d within = lie_inside s.buffers _ _ space.buffers.buffers (valid k d within).inside

-- as do those of the list
pub held_list : (s : SpaceState) → IsSpace s → All HasBytesThatFit s.mappings
held_list s space = held_placed s s.mappings space space.valid

-- and those of the steps of a plan
pub held_plan : (s : SpaceState) (op : PageOp) (list : List Step) → IsSpace s → All (IsValidMapping s.area s.buffers) (own_mapping op) → list ≡ steps s.mappings op →
    All IsStepInside list
held_plan s op list space valid is =
    subst (All IsStepInside) (sym is) (held_steps s.mappings op space.laid_out (held_list s space) (held_placed s (own_mapping op) space valid))
