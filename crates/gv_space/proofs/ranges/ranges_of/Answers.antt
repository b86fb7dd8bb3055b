use Rattle.std.proofs.Common.{arith, ◌≡◌, List, take, map, ap, ◌∙◌}
use Rattle.std.proofs.lemmas.Result.{IfOk-weaker}
use Rattle.std.proofs.lemmas.List.{take_all}
use Rattle.std.specs.List.{filter}
use Rattle.gv_types.specs.Mapping.{is_of}
use Rattle.gv_types.specs.declared.mapping.Mapping.{Mapping}
use Rattle.gv_space.specs.Counts.{ranges_of}
use Rattle.gv_space.proofs.ranges.ranges_of.Goals as goal

pub returns-clause-ranges : goal.returns-clause-ranges
returns-clause-ranges c =
    let of : List Mapping = filter (λ (m : Mapping). is_of c.args.id m.backing) c.args.list.now.mappings in
    let all : take c.args.count of ≡ of = take_all c.args.count of (omega (arith, c.requires)) in
    IfOk-weaker c.first_ranges.result
    (λ list. list.items ≡ map (λ (m : Mapping). m.range) (take c.args.count of))
    (λ list. list.items ≡ ranges_of c.args.id c.args.list.now.mappings)
    (λ list is. is ∙ ap (map (λ (m : Mapping). m.range)) all)
    c.first_ranges.ensures
