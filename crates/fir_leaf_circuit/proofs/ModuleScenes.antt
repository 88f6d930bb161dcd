-- Each module of a circuit that has its widths has a scene.
use Rattle.std.proofs.Common.{◌≡◌, ℕ, zero, suc, List, [], ◌∷◌, Bool, Some, refl}
use Rattle.std.specs.Prelude.{slice_get}
use Rattle.std.proofs.lemmas.Option.{none-some}
use Rattle.fir_base.proofs.Elements.{there}
use Rattle.fir_ast.specs.Circuits.{CircuitTree, ModuleTree}
use Rattle.fir_meaning.specs.working.NameGroups.{HasNames}
use Rattle.fir_meaning.specs.SizedDeclarations.{NumberedModule, Numbering, behind_module, first_numbers, modules_from}
use Rattle.fir_meaning.specs.TypeGroup.{type_faults}
use Rattle.fir_meaning.specs.working.WidthLaws.{FitsAll}
use Rattle.fir_reset.specs.working.Inferred.{AreInferred}
use Rattle.fir_meaning.specs.working.Scenes.{HasScenes}
use Rattle.fir_leaf_circuit.proofs.ResetPaths.{are_resets, is_async_in}

-- the module of a number with the numbers of its leaves
numbered_there : (modules : List ModuleTree) (numbers : Numbering) (ms : List ModuleTree) (k : ℕ) (m : ModuleTree) → slice_get ms k ≡ Some m
    → (n : NumberedModule) × (slice_get (modules_from modules numbers ms) k ≡ Some n)
numbered_there modules numbers [] k m at = absurd (none-some m at)
numbered_there modules numbers (x ∷ ms) zero m at = (record { modules = modules; inside = x; start = numbers }, refl)
numbered_there modules numbers (x ∷ ms) (suc k) m at = numbered_there modules (behind_module modules numbers x) ms k m at

pub module_scenes : (c : CircuitTree) → HasNames c → type_faults c ≡ [] → FitsAll c → (found : List Bool) → AreInferred c found
    → HasScenes c
module_scenes c names clear fits found inferred = λ number within.
    let m = there c.modules number within in
    let n = numbered_there c.modules (first_numbers c.modules) c.modules number m.0 m.1 in (
      record { own = n.0; widths = fits.widths; is_async = is_async_in c names clear found inferred number m.0 m.1 },
      record { own = n.1; widths = fits.are; resets = are_resets c names clear found inferred number m.0 m.1 },
    )
