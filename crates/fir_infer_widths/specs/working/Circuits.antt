-- What the walk over a whole circuit has made.
use Rattle.std.specs.Prelude.{ℕ, List, ◌++◌, flat_map, take}
use Rattle.fir_ast.specs.Circuits.{CircuitTree}
use Rattle.fir_ast.specs.Types.{DataType}
use Rattle.fir_meaning.specs.Visibility.{at_head, behind_ports}
use Rattle.fir_meaning.specs.SizedDeclarations.{NumberedModule, numbered_modules}
use Rattle.fir_meaning.specs.WidthExpressions.{Rule, Width}
use Rattle.fir_meaning.specs.WidthRules.{rules, rules_in_block}
use Rattle.fir_infer_widths.specs.declared.circuit.Walked.{Walked}
use Rattle.fir_infer_widths.specs.declared.walk.Walk.{Walk}
use Rattle.fir_width.specs.working.DeclaredWidths.{leaf_widths}
use Rattle.fir_infer_widths.specs.working.Numbered.{Keeps}
use Rattle.fir_infer_widths.specs.working.SpotFaults.{AreSpots}
use Rattle.fir_infer_widths.specs.working.Spots.{spots, spots_in_module}

-- the leaves that are declared have the first numbers; the bounds are those of the circuit's rules, and the spots its spots
pub record IsWalked (c : CircuitTree) (ts : List DataType) (walked : Walked) : Type 0 where
  pub more : List Width
  pub keeps : Keeps (leaf_widths c ++ more) (rules c) walked.arena
  pub are : AreSpots c ts (leaf_widths c ++ more) walked.spots.items (spots c)

-- and before the module of a number
abbrev pub rules_in_module : NumberedModule → List Rule
rules_in_module m = rules_in_block m (behind_ports at_head m.inside.ports) m.inside.body

pub record WalkedSoFar (c : CircuitTree) (ts : List DataType) (number : ℕ) (walk : Walk) : Type 0 where
  pub more : List Width
  pub keeps : Keeps (leaf_widths c ++ more) (flat_map rules_in_module (take number (numbered_modules c))) walk.arena
  pub are : AreSpots c ts (leaf_widths c ++ more) walk.spots.items (flat_map spots_in_module (take number (numbered_modules c)))
