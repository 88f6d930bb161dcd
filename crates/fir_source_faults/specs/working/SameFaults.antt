-- E24 stands over numbered leaves exactly where it stands by paths (FIRRTL spec, "Initialization of Components").
use Rattle.std.specs.Prelude.{◌≡◌, []}
use Rattle.fir_ast.specs.Circuits.{CircuitTree}
use Rattle.fir_pass.specs.working.Groups.{SameGroup}
use Rattle.fir_meaning.specs.working.NameGroups.{HasNames}
use Rattle.fir_meaning.specs.SourceUndrivenGroup.{undriven_group}
use Rattle.fir_meaning.specs.TypeGroup.{type_faults}
use Rattle.fir_meaning.specs.working.UndrivenGroup as leafed

-- undriven leaves
abbrev pub SameUndrivenGroups : Type 0
SameUndrivenGroups = (c : CircuitTree) → HasNames c → type_faults c ≡ [] → SameGroup (leafed.undriven_group c) (undriven_group c)
