use Rattle.std.proofs.Common.{◌≡◌, ℕ, ◌+◌, map, get_or, refl, sym, ap, ◌∙◌, arith}
use Rattle.std.proofs.lemmas.List.{length-set, length-map}
use Rattle.gv_c.specs.Reading.{look_in}
use Rattle.gv_c.proofs.Written.{over_nil, over_all, over_whole, at_map, write_one}
use Rattle.gv_c.proofs.reading.look_all.Goals as goal

pub loop-k-init : goal.loop-k-init
loop-k-init c = record { long = refl; is = sym (over_nil c.args.translations.now) }

pub loop-k-preserved : goal.loop-k-preserved
loop-k-preserved c =
    let f = look_in c.args.walks c.args.vm.now.space.mappings in
    let xs = c.args.addresses.now in
    let k = c.loop-k.k in
    let long = length-map xs f in
    record {
      long = length-set c.loop-k.translations k c.look.result ∙ c.loop-k.invariant.long;
      is =
          write_one c.args.translations.now c.loop-k.translations (map f xs) 0 k c.look.result c.loop-k.invariant.is
          (omega (arith, c.loop-k.invariant.long)) (omega (arith, long)) (let e : k ≡ 0 + k = omega arith in
          c.look.ensures ∙ sym (at_map f xs k c.look.result _ (omega arith)) ∙ ap (λ (n : ℕ). get_or (map f xs) n c.look.result) e);
    }

pub returns : goal.returns
returns c =
    let f = look_in c.args.walks c.args.vm.now.space.mappings in
    let xs = c.args.addresses.now in
    let old = c.args.translations.now in
    let long = length-map xs f in
    c.loop-k.invariant.is ∙ over_all old (map f xs) c.loop-k.k (omega (arith, long, c.requires)) ∙ over_whole old (map f xs) (omega (arith, long, c.requires))
