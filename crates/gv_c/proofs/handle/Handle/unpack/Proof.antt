-- `unpack` tests the pointer, and gives it back with its type where it is not null.
use Rattle.std.proofs.Common.{List, [], ◌∷◌, ◌++◌, refl, ◌∙◌, lit<}
use mir.Val.{Val, vptr, vnull, vcons, vnil}
use prog.Wp.{WpFn}
use base.Fml.{ftrue}
use types.Kit.{‵, raw, ◌⊛◌, at_ret, ◌$◌, ◌∵◌, !, qed, done, move, keep, split, fsplit, fjoin, use0, use1, suffices, group}
use types.Run.{enter, of_opd, lit, bin, stop, fld, no_more, and_then, first, branches, exec, returns}
use types.ByLocal.{alloc_all, pass_all, free_all, look_at, get, get_in, sets, sets_last, env}
use types.Part.{agg, sub, whole}
use types.Match.{live}
use contract.Running.{tables}
use denote.Exit.{yes}
use denote.RattleType.{RattleType, owns}
use denote.RawPtr.{block_ptr, null_ptr, ptr_val, tests_null}
use denote.Param.{layout}
use denote.Signature.{plain}
use denote.Steps.{nothing}
use denote.Triple.Walked.{Stays, walk_of, says, stay_dropped, Goes-dropped, ends_at}
use Rattle.core.specs.contracts.option.Option as option
use Rattle.core.specs.declared.option.Option.TheVariants.{None, Some}
use Rattle.core.proofs.option.Made.{Some-of, none_of}
use Rattle.core.proofs.alloc.Shapes.{after}
use Rattle.core.proofs.atomic.Steps.{Ptr-Good}
use Rattle.core.proofs.cell.Inside.{Good}
use Rattle.std_alloc.proofs.ResultValues.{and_tt}
use Rattle.std.proofs.raw_atomic.Walks.{proved_at}
use Rattle.gv_c.proofs.Pairs.{both, both_good, pair_out, pair_in, at_values}
use Rattle.gv_c.proofs.Handles.{Z, LZ, RawBox, handle_cases}
use Rattle.gv_c.specs.contracts.handle.Handle.{the_row as Handle}
use Rattle.gv_c.specs.contracts.handle.Handle.unpack as f
use Rattle.gv_c.proofs.handle.Handle.unpack.Statement.{statement}
use Rattle.gv_c.proofs.handle.Handle.unpack.Code as code

abbrev stayed : Stays f.ended.signature.params f.ended.kept
stayed = (stay_dropped (plain (λ _. Handle)) yes, tt)

pub unpack_spec : {M : Type 1} → statement M
unpack_spec 𝓤 𝓛 𝓜 𝓡 wired =
    let c = f.clauses 𝓛 𝓜.mem 𝓡.returns in let W = walk_of 𝓛 f.ended stayed c in let 𝓣 = tables 𝓤 𝓛.H 𝓜 𝓡 𝓡.env in
    proved_at 𝓛 f.ended stayed c 𝓜 𝓡 (Goes-dropped 𝓛 0 (plain (λ _. Handle)) yes (λ κs x w. refl), tt)
    f.Key.name code.function (code.unfolded 𝓤 𝓛.H 𝓜 𝓡 wired) (λ y are.
    let d = y.0.3.0 in let a = d.alloc in let Run = λ (ws : List Val). WpFn 𝓤 𝓛.H 𝓣.C 𝓣.Λ code.function ws (W.post y) in
    qed 𝓛 ((‵ ftrue ⊛ ‵ (owns (Handle ∷ []) y.0.3 y.0.4)) ∷ raw ((c y.0.0 y.0.3).requires y.1) ∷ []) ∵
    split ! $ move ! (1 ∷ []) $ fsplit ! $ keep ! (0 ∷ []) $ fsplit ! $ pair_out Z LZ ! d.at a y.0.4.0 (λ h words good. move ! (1 ∷ []) $
    let last = after 4 (code.function).body in let Out : RattleType = option.the_row RawBox in
    handle_cases ! a d.at d.value
    (λ null is.
    suffices ! (Run (both vnull h ∷ [])) (at_values 𝓤 Run (λ i. (words ∙ (λ j. both (ptr_val (is j)) h ∷ [])) i ++ [])) $
    -- [the allocator; the locals]
    enter ! _ _ _ _ _ $ alloc_all ! (λ l. pass_all ! refl (both_good Z null_ptr h good, tt) $
    sets ! (of_opd ! (get_in ! (fld ! refl (stop !)) (sub ! 0 refl (whole !)))) refl (Ptr-Good null_ptr) $
    sets ! (of_opd ! (get_in ! (fld ! refl (stop !)) (sub ! 1 refl (whole !)))) refl good $
    sets ! (bin ! (get ! refl) (lit ! tt) tt) refl (tt, tt) $ first ! $ branches ! (get ! refl)
    (λ _. sets_last ! (agg ! (and_then ! (lit ! tt) (no_more !))) refl (tt, (record { fits = lit< tt }, tt)) $
    exec ! 𝓣.C 𝓣.Λ (env code.Mir.locals l) last (at_ret _ (W.post y)) $
    sets ! (of_opd ! (get ! refl)) refl (tt, (record { fits = lit< tt }, tt)) $
    returns ! (look_at ! 0 refl) $ free_all ! refl $ keep ! [] $
    suffices ! _ (ends_at 𝓛 f.ended stayed c y (live 0 vnil) None (tt, tt) (tt, tt)) $ says ! null $
    use0 𝓛 (‵ (Out.own_val None (live 0 vnil ∷ []))) (none_of 𝓛 RawBox) $
    nothing ! $ nothing ! $ fjoin ! $ nothing ! $ group ! 3 $ done !)
    (λ wrong. absurd wrong)))
    (λ x b o there is tests.
    let p = block_ptr b o in let typed = both_good Z p h good in
    suffices ! (Run (both (vptr b o) h ∷ [])) (at_values 𝓤 Run (λ i. (words ∙ (λ j. both (ptr_val (is j)) h ∷ [])) i ++ [])) $
    -- [the box's memory; the allocator; the locals]
    enter ! _ _ _ _ _ $ alloc_all ! (λ l. pass_all ! refl (typed, tt) $
    sets ! (of_opd ! (get_in ! (fld ! refl (stop !)) (sub ! 0 refl (whole !)))) refl (Ptr-Good p) $
    sets ! (of_opd ! (get_in ! (fld ! refl (stop !)) (sub ! 1 refl (whole !)))) refl good $
    sets ! (bin ! (get ! refl) (lit ! tt) (tests_null p tests)) refl (tt, tt) $ first ! $ branches ! (get ! refl)
    (λ wrong. absurd wrong)
    (λ _. let made = both (vptr b o) h in let v = live 1 (vcons made vnil) in let good_v : Good (layout Out) v = (and_tt _ typed.0, (record { fits = lit< tt }, (typed.1, tt))) in
    sets ! (of_opd ! (get ! refl)) refl (Ptr-Good p) $
    sets ! (agg ! (and_then ! (get ! refl) (and_then ! (get ! refl) (no_more !)))) refl typed $
    sets_last ! (agg ! (and_then ! (lit ! tt) (and_then ! (get ! refl) (no_more !)))) refl good_v $
    exec ! 𝓣.C 𝓣.Λ (env code.Mir.locals l) last (at_ret _ (W.post y)) $
    sets ! (of_opd ! (get ! refl)) refl good_v $
    move ! (1 ∷ 0 ∷ []) $ pair_in Z LZ ! p a h $ fjoin ! $
    let d' : RawBox.Denot = record { at = p; alloc = a; value = x } in
    use1 𝓛 (‵ (Out.own_val (Some d') (v ∷ []))) (Some-of 𝓛 RawBox d' made) $
    returns ! (look_at ! 0 refl) $ free_all ! refl $
    suffices ! _ (ends_at 𝓛 f.ended stayed c y v (Some d') (tt, tt) (tt, tt)) $ says ! there $
    nothing ! $ nothing ! $ fjoin ! $ nothing ! $ group ! 3 $ done !)))))
