-- The nets of the modules of a circuit, one after another, and what they give.
use Rattle.std.proofs.Common.{◌≡◌, ℕ, ◌+◌, ◌<◌, ◌≤◌, ◌⊎◌, List, [], ◌∷◌, ◌++◌, length, Some, sym, ap, subst, ◌∙◌, inl, inr, arith}
use Rattle.std.specs.Prelude.{slice_get}
use Rattle.std.proofs.lemmas.Bool.{cases_lt}
use Rattle.std.proofs.lemmas.List.{length_push}
use Rattle.std.proofs.lemmas.Option.{same_Some, slice_get_within}
use Rattle.fir_base.proofs.Elements.{get_behind, get_left}
use Rattle.fir_ast.specs.Circuits.{CircuitTree}
use Rattle.fir_meaning.specs.ModuleScenes.{Scene}
use Rattle.fir_meaning.specs.working.LeafedModules.{leafed_module}
use Rattle.fir_meaning.specs.working.LeafModules.{LeafModule as View}
use Rattle.fir_meaning.specs.Scenes.{IsSceneOf}
use Rattle.fir_leaf_circuit.specs.declared.leaf_module.LeafModule.{LeafModule}
use Rattle.fir_leaf_circuit.specs.working.Leafed.{AreLeafed}
use Rattle.fir_leaf_circuit.specs.working.Seen.{HasView}
use Rattle.fir_leaf_types.specs.working.TypedModules.{IsModuleTyped}
use Rattle.fir_connect.specs.working.RoleLaws.{RolesAreWorth, RolesReadTheSame}
use Rattle.fir_whens.specs.declared.module_net.ModuleNet.{ModuleNet}
use Rattle.fir_whens.specs.working.ModuleFaults.{AreAllDriven}
use Rattle.fir_whens.specs.working.ModuleNets.{AreAllTyped, IsNetOf}
use Rattle.fir_whens.specs.working.NetCircuits.{AreNets, NetsGive}

abbrev pub IsNetAt : CircuitTree → ℕ → ModuleNet → Type 0
IsNetAt c number net = (s : Scene) → IsSceneOf c number s → IsNetOf (leafed_module s) net

-- those of the modules before a number
pub record NetsSoFar (c : CircuitTree) (nets : List ModuleNet) (k : ℕ) : Type 0 where
  pub count : length nets ≡ k
  pub each : (number : ℕ) (net : ModuleNet) → slice_get nets number ≡ Some net → IsNetAt c number net

pub one_more_net : (c : CircuitTree) (nets : List ModuleNet) (k : ℕ) (new : ModuleNet) → IsNetAt c k new → NetsSoFar c nets k
    → NetsSoFar c (nets ++ new ∷ []) (k + 1)
one_more_net c nets k new is_net h = record {
  count = omega (arith, length_push nets new, h.count);
  each = λ number net at. by number net at (cases_lt number (length nets));
}
  where
    by : (number : ℕ) (net : ModuleNet) → slice_get (nets ++ new ∷ []) number ≡ Some net → (number < length nets) ⊎ (length nets ≤ number)
        → IsNetAt c number net
    by number net at (inl before) = h.each number net (sym (get_left nets (new ∷ []) number before) ∙ at)
    by number net at (inr past) =
        let long = slice_get_within (nets ++ new ∷ []) number net at in
        let last : length nets ≡ number = omega (arith, long, past, length_push nets new) in
        let same : new ≡ net = same_Some new net (sym (get_behind nets [] new) ∙ ap (slice_get (nets ++ new ∷ [])) last ∙ at) in
        subst (λ x. IsNetAt c number x) same (subst (λ i. IsNetAt c i new) (sym h.count ∙ last) is_net)

-- that of a module of the code
pub net_there : (c : CircuitTree) (ms : List LeafModule) (k : ℕ) (m : LeafModule) (net : ModuleNet) → AreLeafed c ms → AreAllTyped c
    → slice_get ms k ≡ Some m → ((meant : View) → HasView m meant → IsModuleTyped meant → IsNetOf meant net) → IsNetAt c k net
net_there c ms k m net leafed typed at is_net s scene = is_net (leafed_module s) (leafed.each k m s at scene) (typed k s scene)

-- what they give
pub nets_give : (c : CircuitTree) (nets : List ModuleNet) → RolesAreWorth → RolesReadTheSame → AreAllTyped c → AreAllDriven c → AreNets c nets → NetsGive c nets
nets_give c nets worth reads typed driven are = record {
  values = λ number net s numbers clocks at scene small. (
    are.each number net s at scene,
    worth (leafed_module s) numbers clocks (typed number s scene) (driven number s scene) small,
  );
  reads = λ number s x scene. reads (leafed_module s) x;
}
