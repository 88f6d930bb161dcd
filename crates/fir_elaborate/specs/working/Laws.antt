-- The modules of a circuit are in order (FIRRTL spec, "Instances").
use Rattle.std.specs.Prelude.{◌≡◌, []}
use Rattle.fir_base.specs.Lists.{In}
use Rattle.fir_ast.specs.Circuits.{CircuitTree}
use Rattle.fir_meaning.specs.ModuleScenes.{Scene}
use Rattle.fir_meaning.specs.SizedDeclarations.{numbered_modules}
use Rattle.fir_meaning.specs.TypeGroup.{type_faults}
use Rattle.fir_meaning.specs.working.LeafedModules.{leafed_module}
use Rattle.fir_meaning.specs.working.NameGroups.{HasNames}
use Rattle.fir_elaborate.specs.working.OrderedModules.{IsOrdered}

-- where no fault of names or types stands in it
abbrev pub ModulesAreOrdered : Type 0
ModulesAreOrdered =
    (c : CircuitTree) (s : Scene) → HasNames c → type_faults c ≡ [] → In (numbered_modules c) s.own → IsOrdered (leafed_module s)
