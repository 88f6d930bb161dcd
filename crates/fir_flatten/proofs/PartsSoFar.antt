-- The modules of a circuit with their nets, one after another.
use Rattle.std.proofs.Common.{◌≡◌, ℕ, ◌+◌, ◌<◌, ◌≤◌, ◌⊎◌, List, [], ◌∷◌, ◌++◌, length, Some, refl, sym, ap, subst, ◌∙◌, inl, inr, arith}
use Rattle.std.specs.Prelude.{slice_get}
use Rattle.std.proofs.lemmas.Bool.{cases_lt}
use Rattle.std.proofs.lemmas.List.{length_push}
use Rattle.std.proofs.lemmas.Option.{none-some, same_Some, slice_get_within}
use Rattle.fir_base.proofs.Elements.{get_behind, get_left}
use Rattle.fir_ast.specs.Circuits.{CircuitTree}
use Rattle.fir_meaning.specs.ModuleScenes.{Scene}
use Rattle.fir_meaning.specs.Scenes.{IsSceneOf}
use Rattle.fir_meaning.specs.working.LeafedModules.{leafed_module}
use Rattle.fir_flatten.specs.declared.design_net.ModulePart.{ModulePart}
use Rattle.fir_flatten.specs.working.CircuitParts.{HasParts}
use Rattle.fir_flatten.specs.working.DesignNets.{IsPartOf}

abbrev pub IsPartAt : CircuitTree → ℕ → ModulePart → Type 0
IsPartAt c number p = (s : Scene) → IsSceneOf c number s → IsPartOf (leafed_module s) p

-- those of the modules before a number
pub record PartsSoFar (c : CircuitTree) (parts : List ModulePart) (k : ℕ) : Type 0 where
  pub count : length parts ≡ k
  pub within : k ≤ length c.modules
  pub each : (number : ℕ) (p : ModulePart) → slice_get parts number ≡ Some p → IsPartAt c number p

pub no_part : (c : CircuitTree) → PartsSoFar c [] 0
no_part c = record { count = refl; within = omega arith; each = λ number p at. absurd (none-some p at) }

pub one_more_part : (c : CircuitTree) (parts : List ModulePart) (k : ℕ) (new : ModulePart) → k < length c.modules → IsPartAt c k new → PartsSoFar c parts k
    → PartsSoFar c (parts ++ new ∷ []) (k + 1)
one_more_part c parts k new short is_part h = record {
  count = omega (arith, length_push parts new, h.count);
  within = omega (arith, short);
  each = λ number p at. by number p at (cases_lt number (length parts));
}
  where
    by : (number : ℕ) (p : ModulePart) → slice_get (parts ++ new ∷ []) number ≡ Some p → (number < length parts) ⊎ (length parts ≤ number)
        → IsPartAt c number p
    by number p at (inl before) = h.each number p (sym (get_left parts (new ∷ []) number before) ∙ at)
    by number p at (inr past) =
        let long = slice_get_within (parts ++ new ∷ []) number p at in
        let last : length parts ≡ number = omega (arith, long, past, length_push parts new) in
        let same : new ≡ p = same_Some new p (sym (get_behind parts [] new) ∙ ap (slice_get (parts ++ new ∷ [])) last ∙ at) in
        subst (λ x. IsPartAt c number x) same (subst (λ i. IsPartAt c i new) (sym h.count ∙ last) is_part)

pub all_parts : (c : CircuitTree) (parts : List ModulePart) (k : ℕ) → length c.modules ≤ k → PartsSoFar c parts k → HasParts c parts
all_parts c parts k past h = λ scenes have. record {
  count = omega (arith, h.count, h.within, past, have.count);
  each = λ x s p there at. h.each x p at s (have.each x s there);
}
