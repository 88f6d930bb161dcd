-- The memories of a circuit have types: its widths are the least, and so those of each scene.
use Rattle.std.proofs.Common.{◌≡◌, [], subst}
use Rattle.fir_ast.specs.Circuits.{CircuitTree}
use Rattle.fir_meaning.specs.working.NameGroups.{HasNames}
use Rattle.fir_meaning.specs.OverFaults.{over_faults}
use Rattle.fir_meaning.specs.TypeGroup.{type_faults}
use Rattle.fir_meaning.specs.WidthExpressions.{Widths}
use Rattle.fir_meaning.specs.WidthRules.{rules}
use Rattle.fir_meaning.specs.working.WidthLaws.{FitsAll, OneLeast}
use Rattle.fir_memory_types.specs.working.Laws.{LeafedMemoriesAreTyped}
use Rattle.fir_flatten.specs.working.DesignParts.{AreAllMemoriesTyped}

pub all_memories_typed : (c : CircuitTree) → LeafedMemoriesAreTyped → OneLeast → HasNames c → type_faults c ≡ [] → FitsAll c → AreAllMemoriesTyped c
all_memories_typed c typed one_least names types fits module_number s scene =
    let same : fits.widths ≡ s.widths = λ i k. one_least (rules c) fits.widths s.widths fits.are scene.widths k i in
    typed c module_number s names types scene (subst (λ (w : Widths). over_faults c w ≡ []) same fits.over)
