-- `none` makes a handle of a null pointer.
use Rattle.std.proofs.Common.{List, [], ◌∷◌, ◌++◌, refl}
use mir.Val.{Val, vnull}
use prog.Wp.{WpFn}
use base.Fml.{ftrue}
use types.Kit.{‵, raw, ◌⊛◌, ◌$◌, ◌∵◌, !, qed, done, move, keep, split, fsplit, fjoin, feq_i, suffices, group}
use types.Run.{enter, lit, no_more, and_then, returns}
use types.ByLocal.{alloc_all, pass_all, free_all, look_at, get, sets}
use types.Part.{agg}
use contract.Running.{tables}
use denote.Exit.{yes}
use denote.RattleType.{owns}
use denote.RawPtr.{Ptr, null_ptr}
use denote.Signature.{plain}
use denote.Steps.{nothing}
use denote.Triple.Walked.{Stays, walk_of, says, stay_dropped, Goes-dropped, ends_at}
use Rattle.std.specs.Prelude.{None}
use Rattle.std.proofs.raw_atomic.Walks.{proved_at}
use Rattle.gv_c.proofs.Pairs.{both, both_good, one_value, pair_in, at_values}
use Rattle.gv_c.proofs.Handles.{Z, LZ}
use Rattle.gv_c.specs.contracts.handle.Handle.none as f
use Rattle.gv_c.proofs.handle.Handle.none.Statement.{statement}
use Rattle.gv_c.proofs.handle.Handle.none.Code as code

abbrev stayed : Stays f.ended.signature.params f.ended.kept
stayed = (stay_dropped (plain (λ _. Z)) yes, tt)

pub none_spec : {M : Type 1} → statement M
none_spec 𝓤 𝓛 𝓜 𝓡 wired =
    let c = f.clauses 𝓛 𝓜.mem 𝓡.returns in let W = walk_of 𝓛 f.ended stayed c in let 𝓣 = tables 𝓤 𝓛.H 𝓜 𝓡 𝓡.env in
    proved_at 𝓛 f.ended stayed c 𝓜 𝓡 (Goes-dropped 𝓛 0 (plain (λ _. Z)) yes (λ κs x w. refl), tt)
    f.Key.name code.function (code.unfolded 𝓤 𝓛.H 𝓜 𝓡 wired) (λ y are.
    let a = y.0.3.0 in let Run = λ (ws : List Val). WpFn 𝓤 𝓛.H 𝓣.C 𝓣.Λ code.function ws (W.post y) in
    qed 𝓛 ((‵ ftrue ⊛ ‵ (owns (Z ∷ []) y.0.3 y.0.4)) ∷ raw ((c y.0.0 y.0.3).requires y.1) ∷ []) ∵ split ! $ move ! (1 ∷ []) $ fsplit ! $ keep ! (0 ∷ []) $
    one_value Z LZ ! a y.0.4.0 (λ h words good.
    suffices ! (Run (h ∷ [])) (at_values 𝓤 Run (λ i. words i ++ [])) $
    -- [the allocator; the locals]
    enter ! _ _ _ _ _ $ alloc_all ! (λ l. pass_all ! refl (good, tt) $
    pair_in Z LZ ! null_ptr a h $ feq_i ! Ptr null_ptr null_ptr refl $ move ! (1 ∷ 0 ∷ []) $ fjoin ! $
    sets ! (agg ! (and_then ! (lit ! tt) (and_then ! (get ! refl) (no_more !)))) refl (both_good Z null_ptr h good) $
    returns ! (look_at ! 0 refl) $ free_all ! refl $
    suffices ! _ (ends_at 𝓛 f.ended stayed c y (both vnull h) (record { at = null_ptr; alloc = a; value = None }) (tt, tt) (tt, tt)) $ says ! refl $
    nothing ! $ nothing ! $ fjoin ! $ nothing ! $ group ! 3 $ done !)))
