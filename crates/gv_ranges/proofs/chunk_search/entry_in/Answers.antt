use Rattle.std.proofs.Common.{◌∙◌, List, ap, sym}
use Rattle.std.proofs.lemmas.Bool.{eqb-true}
use Rattle.gv_types.specs.declared.mapping.Mapping.{Mapping}
use Rattle.gv_ranges.specs.List.{at}
use Rattle.gv_ranges.proofs.LookupLemmas.{at_past}
use Rattle.gv_ranges.proofs.ChunkedListLemmas.{at-chunk, at-no_chunks, laid_out-chunk}
use Rattle.gv_ranges.proofs.chunk_search.entry_in.Goals as goal
use Rattle.gv_ranges.proofs.chunk_search.entry_in.Goals.{then-page-ge-SPACE_PAGES-via-then-page-ge-SPACE_PAGES, then-page-ge-SPACE_PAGES-via-else-page-ge-SPACE_PAGES+then-is_empty}

pub returns-then-page-ge-SPACE_PAGES : goal.returns-then-page-ge-SPACE_PAGES
returns-then-page-ge-SPACE_PAGES c =
    elim c.then-page-ge-SPACE_PAGES.branch [
      | then-page-ge-SPACE_PAGES-via-then-page-ge-SPACE_PAGES w ↦ sym (at_past _ 0 c.args.page c.requires.laid_out w.if-page-ge-SPACE_PAGES.true)
      | then-page-ge-SPACE_PAGES-via-else-page-ge-SPACE_PAGES+then-is_empty w ↦ sym (at-no_chunks c.args.used.chunks.now c.args.page (eqb-true _ _ (sym w.if-is_empty.ensures)))
    ]

pub entry_at-requires : goal.entry_at-requires
entry_at-requires c =
    laid_out-chunk c.args.used.chunks.now c.chunk_of_page-chunk.result c.index-used-chunk.result c.deref.result.now c.requires.laid_out c.chunk_of_page-chunk.ensures.within
    c.deref.ensures.value

pub returns : goal.returns
returns c =
    c.entry_at.ensures ∙ (ap (λ (ms : List Mapping). at ms c.args.page) c.deref.ensures.value
    ∙ sym (at-chunk c.args.used.chunks.now c.args.page c.chunk_of_page-chunk.result c.index-used-chunk.result c.chunk_of_page-chunk.ensures.within c.chunk_of_page-chunk.ensures.ended c.chunk_of_page-chunk.ensures.later))
