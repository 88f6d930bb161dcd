-- The walk of a function with no statement: what a shared map holds shows that it is the view of a list with room below 2^63.
use Rattle.std.proofs.Common.{◌<◌, ◌^◌, [], ◌∷◌, length, refl, ap, arith}
use Rattle.std.proofs.raw_atomic.Walks.{proved}
use base.Logic.{id⊢}
use base.Fml.{Lft, ftrue, flft}
use mir.Syntax.{named}
use mir.Val.{vunit}
use contract.Monad.{fact_i}
use types.Logic.{Logic}
use types.Kit.{feq_i, ‵, ◌⊛◌, ◌$◌, ◌∵◌, !, qed, by, move, drop, use1, split, fsplit, fpick, join, frame, done, suffices, keep}
use types.Run.{enter, of_opd, unit_lit, returns}
use types.ByLocal.{alloc_all, pass_all, free_all, look_at, sets}
use denote.Exit.{yes}
use denote.Laws.{Shows}
use denote.Memory.{shared_of}
use denote.Ref.{ShrRef, shr_vals, shr_Tells}
use denote.Signature.{plain}
use denote.Steps.{nothing, peeks}
use denote.Triple.Walked.{Stays, walk_of, says, stay_none_ref, Goes-none_ref, ends_at}
use seplogic.Ra.Ura.{Ura}
use Rattle.fir_reset.specs.contracts.reset_map.ResetMap.{the_row}
use Rattle.fir_leaf_table.specs.contracts.resets.is_short as f
use Rattle.fir_leaf_table.proofs.resets.is_short.Statement.{statement}
use Rattle.fir_leaf_table.proofs.resets.is_short.Code as code

abbrev stayed : Stays f.ended.signature.params f.ended.kept
stayed = (stay_none_ref (0 ∷ []) tt (plain (λ _. the_row)) yes, tt)

shows_short : {M : Type 1} {𝓤 : Ura M} (𝓛 : Logic 𝓤) (κ : Lft) → Shows 𝓛 (ShrRef (named 0) κ the_row) (λ x vs. length x.now < 2 ^ 63)
shows_short {M} {𝓤} 𝓛 κ x vs =
    qed 𝓛 (‵ ((ShrRef (named 0) κ the_row).own_val x vs) ∷ []) ∵ fsplit ! $ drop ! $
    use1 𝓛 (‵ (shared_of the_row x.now x.ref_ptr.0 x.ref_ptr.1 κ)) (id⊢ 𝓤 _) $
    fpick ! (λ h.
    let long = ap length h.1.0 in
    let ok = h.0.asynchronous.ok in
    let small = h.0.asynchronous.small in
    by ! (fact_i 𝓤 (length x.now < 2 ^ 63) _ (omega (arith, long, ok, small))))

pub is_short_spec : {M : Type 1} → statement M
is_short_spec 𝓤 𝓛 𝓜 𝓡 wired =
    let c = f.clauses 𝓛 𝓜.mem 𝓡.returns in let W = walk_of 𝓛 f.ended stayed c in
    proved 𝓛 f.ended stayed c 𝓜 𝓡 (Goes-none_ref 𝓛 1 (0 ∷ []) tt (plain (λ _. the_row)) yes, tt)
    f.Key.name code.function (code.unfolded 𝓤 𝓛.H 𝓜 𝓡 wired)
    (λ κs. (shr_vals, tt)) (λ κs. (shr_Tells (named 0) κs.0 the_row, tt)) (λ κs qs bounds a _ are.
    let x = a.0 in let vs = shr_vals x in
    let y : W.Ghost = ((κs, qs, bounds, a, (vs, tt)), tt) in
    qed 𝓛 (((‵ (flft κs.0 qs.0) ⊛ ‵ ftrue) ⊛ ‵ ((ShrRef (named 0) κs.0 the_row).own_val x vs) ⊛ ‵ ftrue) ∷ ‵ ftrue ∷ []) ∵
    split ! $ split ! $ move ! (2 ∷ []) $ split ! $
    peeks ! (ShrRef (named 0) κs.0 the_row) _ (shows_short 𝓛 κs.0) x vs (λ short.
    keep ! (0 ∷ 2 ∷ []) $
    enter ! _ _ _ _ _ $ alloc_all ! (λ l. pass_all ! refl ((tt, tt), tt) $
    sets ! (of_opd ! (unit_lit !)) refl (tt, tt) $
    returns ! (look_at ! 0 refl) $ free_all ! refl $
    suffices ! _ (ends_at 𝓛 f.ended stayed c y vunit tt (tt, tt) (tt, tt)) $ says ! short $
    nothing ! $ move ! (1 ∷ 0 ∷ []) $ join ! $ nothing ! $ move ! (2 ∷ 0 ∷ []) $ join ! $ frame ! $ frame ! $
    feq_i ! _ (vunit ∷ []) _ refl $ done !)))
