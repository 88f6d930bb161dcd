-- Operands of a tree by number, with their widths.
use Rattle.std.specs.Prelude.{◌≡◌}
use Rattle.ver_ast.specs.declared.tree.Verilog.{Verilog}
use Rattle.ver_ast.specs.Atoms.{AtomTree}
use Rattle.ver_ast.specs.AtomWidths.{atom_width}
use Rattle.ver_ast.specs.Nets.{nets}
use Rattle.ver_sim.specs.declared.read.Read.{Read}
use Rattle.ver_sim.specs.working.Operands.{IsOperandOf}

pub record IsReadOf (v : Verilog) (r : Read) (a : AtomTree) : Type 0 where
  pub operand_is : IsOperandOf v r.operand a
  pub width_is : r.width ≡ atom_width (nets v) a
