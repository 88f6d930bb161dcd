-- The widths of all leaves that are declared, in the order of their numbers: the ports of all modules first, and then what the bodies declare.
use Rattle.std.specs.Prelude.{ℕ, ◌+◌, List, [], ◌∷◌, ◌++◌, flat_map, Some}
use Rattle.fir_ast.specs.Circuits.{ModuleTree, CircuitTree}
use Rattle.fir_meaning.specs.Components.{Component, port, instance, Declaration, Declarations}
use Rattle.fir_meaning.specs.Visibility.{declarations}
use Rattle.fir_meaning.specs.ComponentTypes.{instance_bundle}
use Rattle.fir_meaning.specs.WidthExpressions.{Width}
use Rattle.fir_meaning.specs.SizedTypes.{numbered}
use Rattle.fir_meaning.specs.SizedDeclarations.{Numbering, port_numbers, sized_component, numbered_with, NumberedModule, numbered_modules}
use Rattle.fir_width.specs.working.FlatWidths.{flat}

-- of the ports of these modules, where those of the first have numbers from a number on
abbrev pub port_widths : ℕ → List ModuleTree → List Width
port_widths first [] = []
port_widths first (m ∷ ms) = flat (numbered (Some first) (instance_bundle m)) ++ port_widths (first + port_numbers m) ms

-- ports stand in front of all bodies, and an instance has the leaves of its module
abbrev pub own_widths : List ModuleTree → Numbering → Declaration → Component → List Width
own_widths modules numbers d (port direction t) = []
own_widths modules numbers d (instance name) = []
own_widths modules numbers d c = flat (sized_component modules numbers d.named.place c)

abbrev pub body_widths : List ModuleTree → Numbering → Declarations → List Width
body_widths modules numbers [] = []
body_widths modules numbers (d ∷ ds) = own_widths modules numbers d d.component ++ body_widths modules (numbered_with modules numbers d) ds

abbrev pub module_widths : NumberedModule → List Width
module_widths m = body_widths m.modules m.start (declarations m.inside)

abbrev pub leaf_widths : CircuitTree → List Width
leaf_widths c = port_widths 0 c.modules ++ flat_map module_widths (numbered_modules c)
