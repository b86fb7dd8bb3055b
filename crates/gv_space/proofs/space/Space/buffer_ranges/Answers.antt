use Rattle.std.proofs.Common.{◌≡◌, ℕ, ◌<◌, List, sym, ◌∙◌, ap, subst}
use Rattle.gv_types.specs.declared.mapping.Mapping.{Mapping}
use Rattle.std.specs.List.{All}
use Rattle.gv_types.specs.PageRange.{IsInSpace}
use Rattle.gv_space.specs.Counts.{count_of, ranges_of}
use Rattle.gv_space.proofs.BufferRanges.{ranges_in_space}
use Rattle.gv_space.specs.Inside.{space_of}
use Rattle.gv_space.specs.State.{SpaceState}
use Rattle.gv_buffers.specs.Buffers.{IsLive}
use Rattle.gv_space.proofs.ByCountLemmas.{live_from_placed}
use Rattle.gv_space.proofs.FirstPageFound.{firsts, places_of}
use Rattle.gv_space.proofs.UsesFound.{uses_found, uses_lives}
use Rattle.gv_space.proofs.space.Space.buffer_ranges.Goals as goal

pub ranges_of-requires-clause-count : goal.ranges_of-requires-clause-count
ranges_of-requires-clause-count c =
    let s : SpaceState = space_of c.self.inside in
    uses_found s.buffers c.args.id s.mappings c.in-Some.count c.self.invariant.space.used (sym c.uses.ensures.value ∙ c.in-Some.is)
    ∙ ap (λ (t : SpaceState). count_of c.args.id t.mappings) c.self.view_is
    ∙ ap (λ (ms : List Mapping). count_of c.args.id ms) (sym c.list.ensures.value)

pub ranges_of-requires-clause-first_pages : goal.ranges_of-requires-clause-first_pages
ranges_of-requires-clause-first_pages c = λ known.
    let s : SpaceState = space_of c.self.inside in
    let counted : c.in-Some.count ≡ count_of c.args.id s.mappings =
    uses_found s.buffers c.args.id s.mappings c.in-Some.count c.self.invariant.space.used (sym c.uses.ensures.value ∙ c.in-Some.is) in
    let lives : IsLive s.buffers c.args.id = uses_lives s.buffers c.args.id c.in-Some.count (sym c.uses.ensures.value ∙ c.in-Some.is) in
    let are : c.first_pages-first_pages.result.now ≡ firsts c.args.id s.mappings =
    places_of s.buffers c.self.inside.mapped.names c.args.id s.mappings c.self.inside.first_pages c.first_pages-first_pages.result.now c.in-Some.count c.self.invariant.named lives
    (live_from_placed s.area s.buffers s.mappings c.self.invariant.space.valid) c.self.invariant.first_pages c.first_pages-first_pages.ensures counted known in
    are ∙ ap (λ (t : SpaceState). firsts c.args.id t.mappings) c.self.view_is ∙ ap (firsts c.args.id) (sym c.list.ensures.value)

pub returns-in_err-ranges_of-clause-some : goal.returns-in_err-ranges_of-clause-some
returns-in_err-ranges_of-clause-some c = λ _.
    let s : SpaceState = space_of c.self.inside in
    let counted : c.in-Some.count ≡ count_of c.args.id c.args.self.now.mappings =
    uses_found s.buffers c.args.id s.mappings c.in-Some.count c.self.invariant.space.used (sym c.uses.ensures.value ∙ c.in-Some.is)
    ∙ ap (λ (t : SpaceState). count_of c.args.id t.mappings) c.self.view_is in
    subst (λ (n : ℕ). 0 < n) counted c.in_err-ranges_of.ensures.some

pub returns-clause-in_space : goal.returns-clause-in_space
returns-clause-in_space c =
    let are : c.in_ok-ranges_of.field-0.items ≡ ranges_of c.args.id c.list.result.now.mappings = c.in_ok-ranges_of.ensures.ranges in
    subst (All IsInSpace) (sym are) (ranges_in_space c.args.id c.list.result.now.mappings (rw c.list.ensures.value c.list.ensures.space.laid_out))
