use Rattle.gv_types.specs.declared.mapping.BufferId.{BufferId}
use Rattle.std.proofs.Common.{length, ◌≡◌, arith, sym, subst, ap, ◌∙◌}
use Rattle.gv_ranges.specs.List.{RangeListState}
use Rattle.gv_space.specs.ListWithTable.{list_of}
use Rattle.gv_space.specs.ListFirstPages.{AreFirstPages}
use Rattle.gv_space.proofs.FirstPageLists.{first_pages-alike, rows_made}
use Rattle.gv_space.specs.State.{SpaceState, AreKept, IsSpace}
use Rattle.gv_space.specs.Inside.{space_of}
use Rattle.gv_space.proofs.TableNames.{named-same}
use Rattle.gv_space.proofs.LivesLemmas.{AreKept-made}
use Rattle.gv_space.proofs.LiveNames.{named_placed, apart_placed, named_made}
use Rattle.gv_space.proofs.SpaceInvariant.{IsSpace-made}
use Rattle.gv_space.proofs.space.Space.create.Goals as goal

pub reserve_name-requires-clause-named : goal.reserve_name-requires-clause-named
reserve_name-requires-clause-named c =
    let s : SpaceState = space_of c.self.inside in
    named_placed s.area s.buffers c.self.inside.mapped.names s.mappings c.self.invariant.space.buffers c.self.invariant.named c.self.invariant.space.valid

pub name-requires-clause-named : goal.name-requires-clause-named
name-requires-clause-named c =
    let s : SpaceState = space_of c.self.inside in
    let list_is : c.reserve_name.new.self.mappings ≡ s.mappings = ap (λ (l : RangeListState). l.mappings) c.reserve_name.ensures.list in
    rw list_is
    (named-same c.self.inside.mapped.names c.reserve_name.new.self.names s.mappings c.reserve_name.ensures.same
    (named_placed s.area s.buffers c.self.inside.mapped.names s.mappings c.self.invariant.space.buffers c.self.invariant.named c.self.invariant.space.valid))

pub name-requires-clause-apart : goal.name-requires-clause-apart
name-requires-clause-apart c =
    let s : SpaceState = space_of c.self.inside in
    let list_is : c.reserve_name.new.self.mappings ≡ s.mappings = ap (λ (l : RangeListState). l.mappings) c.reserve_name.ensures.list in
    rw list_is (apart_placed s.area s.buffers c.in-Ok.id.index s.mappings c.in-Ok.ensures.ok.free c.self.invariant.space.valid)

pub invariant_of-self-in-Ok : goal.invariant_of-self-in-Ok
invariant_of-self-in-Ok c =
    let s : SpaceState = space_of c.self.inside in
    let list_is : list_of c.name.new.self ≡ list_of c.self.inside.mapped = c.name.ensures.list ∙ c.reserve_name.ensures.list in
    record {
      space = subst (λ (l : RangeListState). IsSpace (record s { mappings = l.mappings; room = l.room; buffers = c.create.new.self })) (sym list_is)
          (IsSpace-made s c.create.new.self c.in-Ok.id c.args.pages c.in-Ok.ensures.ok c.in-Ok.ensures.table c.self.invariant.space);
      named = named_made s.buffers c.create.new.self c.in-Ok.id c.args.pages c.reserve_name.new.self.names c.name.new.self.names c.in-Ok.ensures.ok
          (λ id lives. c.reserve_name.ensures.same id.index id (c.self.invariant.named id lives)) c.name.ensures.named c.name.ensures.others;
      first_pages = subst (λ (l : RangeListState). AreFirstPages l.mappings c.reserve.new.self) (sym list_is)
          (first_pages-alike s.mappings c.self.inside.first_pages c.reserve.new.self c.reserve.ensures.same c.self.invariant.first_pages);
      rows = rows_made s.buffers c.create.new.self c.in-Ok.id c.args.pages (length c.self.inside.first_pages) (length c.reserve.new.self) c.in-Ok.ensures.ok
          (omega (arith, c.in_ok-reserve.ensures.ok, c.next_index-index.ensures.index, ap (λ (i : BufferId). i.index) c.in-Ok.ensures.ok.id_is)) c.reserve.ensures.no_fewer c.self.invariant.rows;
    }

pub returns-in-Ok-clause-kept : goal.returns-in-Ok-clause-kept
returns-in-Ok-clause-kept c = λ kept are_kept.
    let s : SpaceState = space_of c.self.inside in
    let list_is : list_of c.name.new.self ≡ list_of c.self.inside.mapped = c.name.ensures.list ∙ c.reserve_name.ensures.list in
    let was : AreKept s kept = subst (λ (t : SpaceState). AreKept t kept) (sym c.self.view_is) are_kept in
    subst (λ (l : RangeListState). AreKept (record s { mappings = l.mappings; room = l.room; buffers = c.create.new.self }) kept) (sym list_is)
    (AreKept-made s c.create.new.self c.in-Ok.id c.args.pages kept c.in-Ok.ensures.ok was)
