-- The leaves of a type as the code has them: whether each is flipped, and what it holds.
use Rattle.std.specs.Prelude.{◌≡◌, List, [], map, Bool, Option, Some, None}
use Rattle.fir_ast.specs.Types.{DataType}
use Rattle.fir_meaning.specs.TypeLeaves.{TypeLeaf, type_leaves}
use Rattle.fir_meaning.specs.LeafTypes.{LeafType}
use Rattle.fir_leaf_circuit.specs.declared.leaf.LeafType.{LeafType as TypeOfCode}
use Rattle.fir_leaf_table.specs.declared.type_leaves.TypeLeaf.{TypeLeaf as LeafOfCode}
use Rattle.fir_leaf_circuit.specs.working.Seen.{type_seen}

abbrev pub flips_of : List TypeLeaf → List Bool
flips_of ls = map (λ l. l.flip) ls

abbrev pub flips_seen : List LeafOfCode → List Bool
flips_seen ls = map (λ l. l.flip) ls

abbrev pub holds_seen : List LeafOfCode → List LeafType
holds_seen ls = map (λ l. type_seen l.holds) ls

abbrev pub types_seen : List TypeOfCode → List LeafType
types_seen ts = map type_seen ts

-- those of what has that type and holds this; what has no type has none
abbrev pub AreLeavesOf : List LeafOfCode → Option DataType → List LeafType → Type 0
AreLeavesOf ls None holds = ls ≡ []
AreLeavesOf ls (Some t) holds = (flips_seen ls ≡ flips_of (type_leaves t)) × (holds_seen ls ≡ holds)
