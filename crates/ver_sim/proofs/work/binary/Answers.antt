use Rattle.std.proofs.Common.{ℕ, sym, ap, ◌∙◌, ◌+◌, ◌*◌, ◌%◌, ◌^◌}
use Rattle.std.specs.Prelude.{Some}
use Rattle.ver_ast.specs.declared.tree.BinaryOp.{BinaryOp}
use Rattle.ver_ast.specs.SideValues.{binary_value}
use Rattle.ver_sim.proofs.CutNumbers.{cut_first}
use Rattle.ver_sim.proofs.work.binary.Goals as goal

pub returns-in-Shl : goal.returns-in-Shl
returns-in-Shl c =
    ap Some (c.low_bits-in-Shl.ensures ∙ ap (λ (n : ℕ). n % 2 ^ c.args.width) c.shifted_up.ensures ∙ cut_first (c.args.a * 2 ^ c.args.b) c.args.width c.requires)
    ∙ ap (λ (op : BinaryOp). binary_value op c.args.width c.args.a c.args.b) (sym c.in-Shl.is)

pub returns-in-Mul : goal.returns-in-Mul
returns-in-Mul c =
    ap Some (c.low_bits-in-Mul.ensures ∙ cut_first (c.args.a * c.args.b) c.args.width c.requires)
    ∙ ap (λ (op : BinaryOp). binary_value op c.args.width c.args.a c.args.b) (sym c.in-Mul.is)

pub returns-in-Add : goal.returns-in-Add
returns-in-Add c =
    ap Some (c.low_bits.ensures ∙ cut_first (c.args.a + c.args.b) c.args.width c.requires)
    ∙ ap (λ (op : BinaryOp). binary_value op c.args.width c.args.a c.args.b) (sym c.in-Add.is)
