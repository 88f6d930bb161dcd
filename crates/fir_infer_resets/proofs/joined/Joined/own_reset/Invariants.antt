use Rattle.std.proofs.Common.{◌≡◌, List, []}
use Rattle.fir_ast.specs.Circuits.{CircuitTree}
use Rattle.fir_meaning.specs.working.NameGroups.{HasNames}
use Rattle.fir_meaning.specs.TypeGroup.{type_faults}
use Rattle.fir_reset.specs.working.DeclaredLeaves.{IsNoInstance}
use Rattle.fir_reset.specs.working.ElementPaths.{firsts_behind}
use Rattle.fir_infer_resets.specs.working.Holding.{path_of, Holds, HasNumber, reset_end}
use Rattle.fir_meaning.specs.ResetJoins.{Join}
use Rattle.fir_meaning.specs.ResetWalks.{IsLeafOf}
use Rattle.fir_infer_resets.proofs.joined.Joined.own_reset.Given as goal

abbrev pub invariant-loop-position : goal.invariant-loop-position
invariant-loop-position l =
    (c : CircuitTree) (js : List Join) (before : Holds c js l.fn.self) → HasNames c → type_faults c ≡ [] → IsLeafOf c (reset_end l.module_number (path_of l.path) l.place)
    → IsNoInstance c l.module_number (path_of l.path) → HasNumber before (reset_end l.module_number (firsts_behind l.position (path_of l.path)) l.place) l.self l.number
