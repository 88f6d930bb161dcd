-- Which operands and right sides are sound (IEEE 1364-2005, 5.1.14, 5.2.1, 5.4).
-- A name is a net's; a select stands within a net that has a range; a constant fits its width; each operand has 1 to 128 bits, and at most 256 braces are
-- open in it. Operands of arithmetic, and the first one of a shift, have the target's width, those of a comparison have one width; the target of a comparison
-- and of a reduction, and a condition, have one bit.
use Rattle.std.specs.Prelude.{◌≡◌, ℕ, ◌+◌, ◌*◌, ◌^◌, ◌<◌, ◌≤◌, max, List}
use Rattle.std.specs.List.{AllByRecursion}
use Rattle.fir_base.specs.Lists.{In}
use Rattle.ver_ast.specs.declared.tree.Rhs.{Rhs}
use Rattle.ver_ast.specs.declared.tree.Rhs.TheVariants as rhs
use Rattle.ver_ast.specs.declared.tree.UnaryOp.{UnaryOp}
use Rattle.ver_ast.specs.declared.tree.UnaryOp.TheVariants as unary
use Rattle.ver_ast.specs.declared.tree.BinaryOp.{BinaryOp}
use Rattle.ver_ast.specs.declared.tree.BinaryOp.TheVariants as binary
use Rattle.ver_ast.specs.declared.tree.SignedOp.{SignedOp}
use Rattle.ver_ast.specs.declared.tree.SignedOp.TheVariants as signed
use Rattle.ver_ast.specs.Atoms.{AtomTree, net, constant, bit_select, part_select, concat, repeat, AtomTrees, no_atoms, atom_before}
use Rattle.ver_ast.specs.Names.{rhs_atoms}
use Rattle.ver_ast.specs.AtomWidths.{atom_width, joined_width}
use Rattle.ver_ast.specs.Nets.{SizedNet, Variable, width_among}

abbrev mutual
  pub IsSound : List SizedNet → AtomTree → Type 0
  IsSound nets (net n) = 1 ≤ width_among nets n
  IsSound nets (constant width value) = (1 ≤ width) × (width ≤ 128) × (value < 2 ^ width)
  IsSound nets (bit_select n i) = (2 ≤ width_among nets n) × (i < width_among nets n)
  IsSound nets (part_select n hi lo) = (2 ≤ width_among nets n) × (lo ≤ hi) × (hi < width_among nets n)
  IsSound nets (concat a more) = IsSound nets a × AreSound nets more × (atom_width nets a + joined_width nets more ≤ 128)
  IsSound nets (repeat count a) = IsSound nets a × (1 ≤ count) × (count * atom_width nets a ≤ 128)

  pub AreSound : List SizedNet → AtomTrees → Type 0
  AreSound nets no_atoms = Unit {0}
  AreSound nets (atom_before a more) = IsSound nets a × AreSound nets more

-- how many braces are open at most
abbrev mutual
  pub atom_depth : AtomTree → ℕ
  atom_depth (net n) = 0
  atom_depth (constant width value) = 0
  atom_depth (bit_select n i) = 0
  atom_depth (part_select n hi lo) = 0
  atom_depth (concat a more) = 1 + max (atom_depth a) (joined_depth more)
  atom_depth (repeat count a) = 2 + atom_depth a

  pub joined_depth : AtomTrees → ℕ
  joined_depth no_atoms = 0
  joined_depth (atom_before a more) = max (atom_depth a) (joined_depth more)

pub record IsOperand (nets : List SizedNet) (a : AtomTree) : Type 0 where
  pub sound : IsSound nets a
  pub shallow : atom_depth a ≤ 256

-- an operand of w bits
pub record HasWidth (nets : List SizedNet) (w : ℕ) (a : AtomTree) : Type 0 where
  pub operand : IsOperand nets a
  pub wide : atom_width nets a ≡ w

-- which widths u and v operands may have beside a target of width w
pub data OperandRule : Type 0 where
  arithmetic : OperandRule
  shift : OperandRule
  comparison : OperandRule

abbrev pub KeepsRule : OperandRule → ℕ → ℕ → ℕ → Type 0
KeepsRule arithmetic w u v = (u ≡ w) × (v ≡ w)
KeepsRule shift w u v = u ≡ w
KeepsRule comparison w u v = (w ≡ 1) × (u ≡ v)

abbrev pub binary_rule : BinaryOp → OperandRule
binary_rule binary.Add = arithmetic
binary_rule binary.Sub = arithmetic
binary_rule binary.Mul = arithmetic
binary_rule binary.Div = arithmetic
binary_rule binary.Rem = arithmetic
binary_rule binary.And = arithmetic
binary_rule binary.Or = arithmetic
binary_rule binary.Xor = arithmetic
binary_rule binary.Shl = shift
binary_rule binary.Shr = shift
binary_rule binary.Eq = comparison
binary_rule binary.Neq = comparison
binary_rule binary.Lt = comparison
binary_rule binary.Leq = comparison
binary_rule binary.Gt = comparison
binary_rule binary.Geq = comparison

abbrev pub signed_rule : SignedOp → OperandRule
signed_rule signed.Div = arithmetic
signed_rule signed.Rem = arithmetic
signed_rule signed.Lt = comparison
signed_rule signed.Leq = comparison
signed_rule signed.Gt = comparison
signed_rule signed.Geq = comparison

abbrev pub KeepsUnary : UnaryOp → ℕ → ℕ → Type 0
KeepsUnary unary.Not w u = u ≡ w
KeepsUnary unary.And w u = w ≡ 1
KeepsUnary unary.Or w u = w ≡ 1
KeepsUnary unary.Xor w u = w ≡ 1

-- the operands' widths beside a target of width w
abbrev pub HasSideWidths : List SizedNet → List Variable → ℕ → Rhs → Type 0
HasSideWidths nets arrays w (rhs.Atom a) = atom_width nets a ≡ w
HasSideWidths nets arrays w (rhs.Unary op a) = KeepsUnary op w (atom_width nets a)
HasSideWidths nets arrays w (rhs.Binary a op b) = KeepsRule (binary_rule op) w (atom_width nets a) (atom_width nets b)
HasSideWidths nets arrays w (rhs.Signed a op b) = KeepsRule (signed_rule op) w (atom_width nets a) (atom_width nets b)
HasSideWidths nets arrays w (rhs.SignedShift a b) = KeepsRule shift w (atom_width nets a) (atom_width nets b)
HasSideWidths nets arrays w (rhs.Conditional c a b) = (atom_width nets c ≡ 1) × (atom_width nets a ≡ w) × (atom_width nets b ≡ w)
HasSideWidths nets arrays w (rhs.Word m a) = (k : Variable) × In arrays k × (k.name ≡ m) × (k.width ≡ w)

pub record IsSoundSide (nets : List SizedNet) (arrays : List Variable) (w : ℕ) (r : Rhs) : Type 0 where
  pub operands : AllByRecursion (IsOperand nets) (rhs_atoms r)
  pub widths : HasSideWidths nets arrays w r
