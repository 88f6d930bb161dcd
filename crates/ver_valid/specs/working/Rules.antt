-- The rules of operands' widths, as the code has them.
use Rattle.std.specs.Prelude.{ℕ, List}
use Rattle.ver_ast.specs.Atoms.{AtomTree}
use Rattle.ver_ast.specs.AtomWidths.{atom_width}
use Rattle.ver_ast.specs.Nets.{SizedNet}
use Rattle.ver_ast.specs.SoundSides.{IsOperand, OperandRule, arithmetic, shift, comparison, KeepsRule}
use Rattle.ver_valid.specs.declared.side.Rule.{Rule}
use Rattle.ver_valid.specs.declared.side.Rule.TheVariants.{Arithmetic, Shift, Comparison}

abbrev pub rule_of : Rule → OperandRule
rule_of Arithmetic = arithmetic
rule_of Shift = shift
rule_of Comparison = comparison

-- two operands beside a target of w bits
abbrev pub ArePaired : List SizedNet → OperandRule → ℕ → AtomTree → AtomTree → Type 0
ArePaired nets rule w a b = IsOperand nets a × IsOperand nets b × KeepsRule rule w (atom_width nets a) (atom_width nets b)
