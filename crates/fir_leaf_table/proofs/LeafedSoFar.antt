-- The modules of a circuit one after another.
use Rattle.std.proofs.Common.{◌≡◌, ℕ, zero, suc, ◌+◌, ◌<◌, ◌≤◌, ◌⊎◌, List, [], ◌∷◌, ◌++◌, length, Some, refl, sym, ap, subst, ◌∙◌, inl, inr, arith}
use Rattle.std.specs.Prelude.{slice_get}
use Rattle.std.proofs.lemmas.Bool.{cases_lt}
use Rattle.std.proofs.lemmas.List.{length_push}
use Rattle.std.proofs.lemmas.Option.{none-some, same_Some, slice_get_within}
use Rattle.fir_base.specs.Lists.{In}
use Rattle.fir_base.proofs.Elements.{get_behind, get_left}
use Rattle.fir_ast.specs.Circuits.{CircuitTree, ModuleTree}
use Rattle.fir_meaning.specs.SizedDeclarations.{NumberedModule, Numbering, behind_module, first_numbers, modules_from}
use Rattle.fir_meaning.specs.ModuleScenes.{Scene}
use Rattle.fir_meaning.specs.working.LeafedModules.{leafed_module}
use Rattle.fir_leaf_circuit.specs.declared.leaf_module.LeafModule.{LeafModule}
use Rattle.fir_leaf_circuit.specs.working.Leafed.{AreLeafed}
use Rattle.fir_leaf_table.specs.working.ModuleWalks.{AreWithinLimit, IsWithinLimit}
use Rattle.fir_meaning.specs.Scenes.{IsSceneOf}
use Rattle.fir_leaf_circuit.specs.working.Seen.{HasView}

abbrev pub Views : CircuitTree → ℕ → LeafModule → Type 0
Views c number m = (s : Scene) → IsSceneOf c number s → IsWithinLimit c.modules s.own.inside → HasView m (leafed_module s)

-- those of the modules before a number
pub record LeafedSoFar (c : CircuitTree) (ms : List LeafModule) (k : ℕ) : Type 0 where
  pub count : length ms ≡ k
  pub within : k ≤ length c.modules
  pub each : (number : ℕ) (m : LeafModule) → slice_get ms number ≡ Some m → Views c number m

pub leafed_none : (c : CircuitTree) → LeafedSoFar c [] 0
leafed_none c = record { count = refl; within = omega arith; each = λ number m at. absurd (none-some m at) }

pub leafed_more : (c : CircuitTree) (ms : List LeafModule) (k : ℕ) (new : LeafModule) → k < length c.modules → Views c k new
    → LeafedSoFar c ms k → LeafedSoFar c (ms ++ new ∷ []) (k + 1)
leafed_more c ms k new short views h = record {
  count = omega (arith, length_push ms new, h.count);
  within = omega (arith, short);
  each = λ number m at. by number m at (cases_lt number (length ms));
}
  where
    by : (number : ℕ) (m : LeafModule) → slice_get (ms ++ new ∷ []) number ≡ Some m → (number < length ms) ⊎ (length ms ≤ number)
        → Views c number m
    by number m at (inl before) = h.each number m (sym (get_left ms (new ∷ []) number before) ∙ at)
    by number m at (inr past) =
        let long = slice_get_within (ms ++ new ∷ []) number m at in
        let last : length ms ≡ number = omega (arith, long, past, length_push ms new) in
        let same : new ≡ m = same_Some new m (sym (get_behind ms [] new) ∙ ap (slice_get (ms ++ new ∷ [])) last ∙ at) in
        subst (λ x. Views c number x) same (subst (λ i. Views c i new) (sym h.count ∙ last) views)

-- a numbered module is one of the circuit
numbered_among : (modules : List ModuleTree) (numbers : Numbering) (ms : List ModuleTree) (k : ℕ) (n : NumberedModule)
    → slice_get (modules_from modules numbers ms) k ≡ Some n → In ms n.inside
numbered_among modules numbers [] k n at = absurd (none-some n at)
numbered_among modules numbers (x ∷ ms) zero n at =
    inl (ap (λ (y : NumberedModule). y.inside) (same_Some (record { modules = modules; inside = x; start = numbers }) n at))
numbered_among modules numbers (x ∷ ms) (suc k) n at = inr (numbered_among modules (behind_module modules numbers x) ms k n at)

pub leafed_whole : (c : CircuitTree) (ms : List LeafModule) (k : ℕ) → length c.modules ≤ k → LeafedSoFar c ms k
    → AreWithinLimit c → AreLeafed c ms
leafed_whole c ms k past h limited = record {
  count = omega (arith, h.count, h.within, past);
  each = λ number m s at scene.
      h.each number m at s scene (limited s.own.inside (numbered_among c.modules (first_numbers c.modules) c.modules number s.own scene.own));
}
