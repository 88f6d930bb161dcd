use Rattle.std.proofs.Common.{◌≡◌, ◌+◌, ◌<◌, ℕ, suc, List, Some, get_or, length, refl, sym, ap, ◌∙◌, subst, arith}
use Rattle.std.specs.Prelude.{IfOk, slice_get, option_map}
use Rattle.std.proofs.lemmas.Option.{slice_get-get_or, slice_get-map}
use Rattle.fir_ast.specs.Types.{reset}
use Rattle.fir_ast.specs.Circuits.{CircuitTree}
use Rattle.fir_ast.specs.declared.place.Place.{Place}
use Rattle.fir_meaning.specs.LeafPaths as path
use Rattle.fir_infer_resets.specs.declared.item.Step.{Step}
use Rattle.fir_infer_resets.specs.declared.joined.Joined.{Joined}
use Rattle.fir_reset.specs.working.ElementPaths.{any_element, firsts_behind}
use Rattle.fir_infer_resets.specs.working.Holding.{path_of, step_of, Holds, HasNumber, reset_end}
use Rattle.fir_reset.specs.working.LeafClasses.{class_of}
use Rattle.fir_meaning.specs.ResetItems.{leaf_item}
use Rattle.fir_meaning.specs.ResetJoins.{Join}
use Rattle.fir_meaning.specs.ResetWalks.{IsLeafOf, Joined as AreJoined}
use Rattle.fir_infer_resets.proofs.FirstsBehind.{kept_same, leaf_behind, next_beside}
use Rattle.fir_infer_resets.proofs.HeldGraphs.{still_there}
use Rattle.fir_infer_resets.proofs.joined.Joined.next_reset.Goals as goal

step_at : (steps : List Step) (i : ℕ) (default s : Step) → i < length steps → get_or steps i default ≡ s → slice_get (path_of steps) i ≡ Some (step_of s)
step_at steps i default s within is = slice_get-map step_of steps i ∙ ap (option_map step_of) (slice_get-get_or steps i default within ∙ ap (λ (x : Step). Some x) is)

-- where the step is the same with the first element for it
same_next : (c : CircuitTree) (js : List Join) (old : Joined) (before : Holds c js old) (number x i : ℕ) (leaf : path.LeafPath) (place : Place) (s : path.Step)
    → slice_get before.ends x ≡ Some (reset_end number (firsts_behind i leaf) place) → slice_get leaf i ≡ Some s → any_element s ≡ s
    → HasNumber before (reset_end number (firsts_behind (i + 1) leaf) place) old x
same_next c js old before number x i leaf place s is at same =
    let on : suc i ≡ i + 1 = omega arith in
    let kept : firsts_behind i leaf ≡ firsts_behind (i + 1) leaf = sym (kept_same i leaf s at same) ∙ ap (λ k. firsts_behind k leaf) on in
    still_there c js old before (reset_end number (firsts_behind (i + 1) leaf) place) x (is ∙ ap (λ p. Some (reset_end number p place)) kept)

pub returns-in_default : goal.returns-in_default
returns-in_default c circuit js before names clear l is =
    same_next circuit js c.args.self.now before c.args.module_number c.args.number c.args.position (path_of c.args.path.now) c.args.place (path.named c.in_default.field-0.now) is
    (step_at c.args.path.now c.args.position _ _ c.requires c.in_default.is) refl

pub returns-then-index-eq0 : goal.returns-then-index-eq0
returns-then-index-eq0 c circuit js before names clear l is =
    same_next circuit js c.args.self.now before c.args.module_number c.args.number c.args.position (path_of c.args.path.now) c.args.place (path.element c.in-Element.index) is
    (step_at c.args.path.now c.args.position _ _ c.requires c.in-Element.is) (ap path.element (sym c.if-index-eq0.true))

pub returns : goal.returns
returns c circuit js before names clear l is =
    let new = c.reset_beside.new.self in
    let leaf = path_of c.args.path.now in
    let number = c.args.module_number in
    let place = c.args.place in
    let i = c.args.position in
    let on : suc i ≡ i + 1 = omega arith in
    let same : firsts_behind (suc i) leaf ≡ firsts_behind (i + 1) leaf = ap (λ k. firsts_behind k leaf) on in
    let steps : firsts_behind (suc i) leaf ≡ path_of c.as_slice.result.now = same ∙ sym (ap path_of c.as_slice.ensures.value ∙ c.in_ok-steps.ensures) in
    let other = reset_end number (firsts_behind i leaf) place in
    let beside = next_beside circuit names clear number leaf reset place l i c.in-Element.index (step_at c.args.path.now i _ _ c.requires c.in-Element.is) in
    subst (λ p. IfOk c.reset_beside.result (HasNumber before (reset_end number p place) new)) (sym steps ∙ same)
    (c.reset_beside.ensures circuit js before other names
    (subst (λ p. IsLeafOf circuit (reset_end number p place)) steps (leaf_behind circuit names clear number leaf reset place l (suc i)))
    is refl
    (ap (λ p. class_of circuit (leaf_item number p)) (sym steps) ∙ beside.class)
    (subst (λ p. AreJoined circuit (reset_end number p place) other) steps beside.joined))
