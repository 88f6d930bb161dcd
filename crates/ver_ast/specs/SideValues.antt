-- The values of right sides (IEEE 1364-2005, 5.1.5 to 5.1.13, 5.5).
-- Arithmetic is modulo 2 ^ w; signed operators read two's complement, divide towards zero, and the remainder has the sign of the first operand. A zero
-- divisor, a signed quotient that does not fit, and a word past the end of its array have no value.
use Rattle.std.specs.Prelude.{ℕ, ◌+◌, ◌-◌, ◌*◌, ◌/◌, ◌%◌, ◌^◌, List, Bool, true, not, ◌&&◌, ◌==◌, if◌then◌else◌, slice_get, nat_lt, nat_le, Option, Some, None, ℤ, pos, neg_ℤ, int_lt, int_le, int_div, int_rem, bit_and, bit_or, bit_xor, count_ones}
use Rattle.std.specs.Ordering.{int_eq}
use Rattle.fir_bits.specs.Values.{complement}
use Rattle.fir_bits.specs.Integers.{reading, bits_of, shifted_down}
use Rattle.fir_bits.specs.Operators.{flag}
use Rattle.fir_base.specs.Ticks.{Env}
use Rattle.ver_ast.specs.declared.tree.Rhs.{Rhs}
use Rattle.ver_ast.specs.declared.tree.Rhs.TheVariants as rhs
use Rattle.ver_ast.specs.declared.tree.UnaryOp.{UnaryOp}
use Rattle.ver_ast.specs.declared.tree.UnaryOp.TheVariants as unary
use Rattle.ver_ast.specs.declared.tree.BinaryOp.{BinaryOp}
use Rattle.ver_ast.specs.declared.tree.BinaryOp.TheVariants as binary
use Rattle.ver_ast.specs.declared.tree.SignedOp.{SignedOp}
use Rattle.ver_ast.specs.declared.tree.SignedOp.TheVariants as signed
use Rattle.ver_ast.specs.Atoms.{AtomTree}
use Rattle.ver_ast.specs.Nets.{SizedNet}
use Rattle.ver_ast.specs.Stores.{Store}
use Rattle.ver_ast.specs.AtomWidths.{atom_width}
use Rattle.ver_ast.specs.AtomValues.{atom_value}

-- an operand of u bits
abbrev pub unary_value : UnaryOp → ℕ → ℕ → ℕ
unary_value unary.Not u a = complement u a
unary_value unary.And u a = flag (a == 2 ^ u - 1)
unary_value unary.Or u a = flag (not (a == 0))
unary_value unary.Xor u a = count_ones a % 2

-- a value over a divisor
abbrev pub over : ℕ → ℕ → Option ℕ
over b value = if b == 0 then None else Some value

-- a target of w bits
abbrev pub binary_value : BinaryOp → ℕ → ℕ → ℕ → Option ℕ
binary_value binary.Add w a b = Some ((a + b) % 2 ^ w)
binary_value binary.Sub w a b = Some ((a + (2 ^ w - b)) % 2 ^ w)
binary_value binary.Mul w a b = Some (a * b % 2 ^ w)
binary_value binary.Div w a b = over b (a / b)
binary_value binary.Rem w a b = over b (a % b)
binary_value binary.And w a b = Some (bit_and a b)
binary_value binary.Or w a b = Some (bit_or a b)
binary_value binary.Xor w a b = Some (bit_xor a b)
binary_value binary.Shl w a b = Some (a * 2 ^ b % 2 ^ w)
binary_value binary.Shr w a b = Some (a / 2 ^ b)
binary_value binary.Eq w a b = Some (flag (a == b))
binary_value binary.Neq w a b = Some (flag (not (a == b)))
binary_value binary.Lt w a b = Some (flag (nat_lt a b))
binary_value binary.Leq w a b = Some (flag (nat_le a b))
binary_value binary.Gt w a b = Some (flag (nat_lt b a))
binary_value binary.Geq w a b = Some (flag (nat_le b a))

-- whether u bits of two's complement hold the number
abbrev pub fits_signed : ℕ → ℤ → Bool
fits_signed u x = int_le (neg_ℤ (pos (2 ^ (u - 1)))) x && int_lt x (pos (2 ^ (u - 1)))

abbrev pub signed_quotient : ℕ → ℤ → Option ℕ
signed_quotient u x = if fits_signed u x then Some (bits_of u x) else None

-- the numbers of operands of u bits
abbrev pub signed_value : SignedOp → ℕ → ℤ → ℤ → Option ℕ
signed_value signed.Div u x y = if int_eq y (pos 0) then None else signed_quotient u (int_div x y)
signed_value signed.Rem u x y = if int_eq y (pos 0) then None else Some (bits_of u (int_rem x y))
signed_value signed.Lt u x y = Some (flag (int_lt x y))
signed_value signed.Leq u x y = Some (flag (int_le x y))
signed_value signed.Gt u x y = Some (flag (int_lt y x))
signed_value signed.Geq u x y = Some (flag (int_le y x))

-- the number of an operand that is read as signed
abbrev pub signed_number : List SizedNet → Env → AtomTree → ℤ
signed_number nets env a = reading true (atom_width nets a) (atom_value nets env a)

-- the value of a right side whose target has w bits
abbrev pub rhs_value : List SizedNet → Store → Env → ℕ → Rhs → Option ℕ
rhs_value nets store env w (rhs.Atom a) = Some (atom_value nets env a)
rhs_value nets store env w (rhs.Unary op a) = Some (unary_value op (atom_width nets a) (atom_value nets env a))
rhs_value nets store env w (rhs.Binary a op b) = binary_value op w (atom_value nets env a) (atom_value nets env b)
rhs_value nets store env w (rhs.Signed a op b) = signed_value op (atom_width nets a) (signed_number nets env a) (signed_number nets env b)
rhs_value nets store env w (rhs.SignedShift a b) = Some (bits_of w (shifted_down (signed_number nets env a) (atom_value nets env b)))
rhs_value nets store env w (rhs.Conditional c a b) = Some (if atom_value nets env c == 1 then atom_value nets env a else atom_value nets env b)
rhs_value nets store env w (rhs.Word m a) = slice_get (store m) (atom_value nets env a)
