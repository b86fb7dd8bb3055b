use Rattle.std.proofs.Common.{◌∙◌, ap, sym, arith}
use Rattle.std.specs.Option.{option_to_list}
use Rattle.gv_types.specs.Page.{PAGES}
use Rattle.std.proofs.lemmas.Bool.{eqb-false}
use Rattle.gv_ranges.proofs.RestLemmas.{rest_of_last}
use Rattle.gv_ranges.proofs.rest.next_rest.Goals as goal

pub returns : goal.returns
returns c =
    ap option_to_list c.clip.ensures ∙
    sym (rest_of_last c.args.mappings.now c.args.page PAGES c.index-mappings-mappings.result (omega (arith, eqb-false _ _ (sym c.if-is_empty.ensures))) c.requires.laid_out c.requires.before c.index-mappings-mappings.is)
