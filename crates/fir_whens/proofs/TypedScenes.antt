-- The modules of a circuit have types: its widths are the least, and so those of each scene.
use Rattle.std.proofs.Common.{◌≡◌, [], subst}
use Rattle.fir_ast.specs.Circuits.{CircuitTree}
use Rattle.fir_meaning.specs.LegalFaults.{legal_faults}
use Rattle.fir_meaning.specs.working.NameGroups.{HasNames}
use Rattle.fir_meaning.specs.OverFaults.{over_faults}
use Rattle.fir_meaning.specs.TypeGroup.{type_faults}
use Rattle.fir_meaning.specs.WidthExpressions.{Widths}
use Rattle.fir_meaning.specs.WidthRules.{rules}
use Rattle.fir_meaning.specs.working.WidthLaws.{FitsAll, OneLeast}
use Rattle.fir_leaf_types.specs.working.TypedModules.{LeafedModulesAreTyped}
use Rattle.fir_whens.specs.working.ModuleNets.{AreAllTyped}

pub all_typed : (c : CircuitTree) → LeafedModulesAreTyped → OneLeast → HasNames c → type_faults c ≡ [] → FitsAll c → AreAllTyped c
all_typed c modules_typed one_least names types fits module_number s scene =
    let same : fits.widths ≡ s.widths = λ i k. one_least (rules c) fits.widths s.widths fits.are scene.widths k i in
    modules_typed c module_number s names types scene (subst (λ (w : Widths). over_faults c w ≡ []) same fits.over)
    (subst (λ (w : Widths). legal_faults c w ≡ []) same fits.legal)
