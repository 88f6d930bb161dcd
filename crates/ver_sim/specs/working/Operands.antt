-- Operands by number.
use Rattle.std.specs.Prelude.{◌≡◌, ℕ, List, [], ◌∷◌, flat_map, slice_index}
use Rattle.fir_base.specs.Lists.{In}
use Rattle.ver_ast.specs.declared.tree.Verilog.{Verilog}
use Rattle.ver_ast.specs.Atoms.{AtomTree}
use Rattle.ver_ast.specs.AtomValues.{atom_value}
use Rattle.ver_ast.specs.Names.{atom_names}
use Rattle.ver_ast.specs.Nets.{nets}
use Rattle.ver_order.specs.working.Laws.{FitNets}
use Rattle.ver_sim.specs.declared.operand.Operand.{Operand}
use Rattle.ver_sim.specs.declared.operand.Operand.TheVariants as operand
use Rattle.ver_sim.specs.working.Valued.{env_of, IsPlaceAmong}
use Rattle.ver_sim.specs.working.Pieces.{piece_places, pieces_number}

abbrev pub operand_number : List ℕ → Operand → ℕ
operand_number values (operand.Net place) = slice_index values place
operand_number values (operand.Constant number) = number
operand_number values (operand.Pieces pieces) = pieces_number values pieces.items 0

-- the places that an operand reads
abbrev pub operand_places : Operand → List ℕ
operand_places (operand.Net place) = place ∷ []
operand_places (operand.Constant number) = []
operand_places (operand.Pieces pieces) = flat_map piece_places pieces.items

-- it has the operand's value wherever each net has a value of its width, and reads no other nets
pub record IsOperandOf (v : Verilog) (o : Operand) (a : AtomTree) : Type 0 where
  pub same : (values : List ℕ) → FitNets v (env_of v values) → operand_number values o ≡ atom_value (nets v) (env_of v values) a
  pub reads : (q : ℕ) → In (operand_places o) q → IsPlaceAmong v (atom_names a) q
