-- The right sides that mean operations (IEEE 1364-2005, 5.1).
-- Operands are extended or cut to the width that the operator asks for. Arithmetic and shifts are done at the result's width, comparisons at the greater one of the
-- operands'. A division has three nets before its own: whether the divisor is zero, the divisor or else 1, and the quotient or remainder.
use Rattle.std.specs.Prelude.{ℕ, ◌-◌, max, List, [], ◌∷◌, ◌++◌, slice_index_or, nat_eq, if◌then◌else◌}
use Rattle.fir_bits.specs.declared.operators.PrimOp.{PrimOp}
use Rattle.fir_bits.specs.declared.operators.PrimOp.TheVariants as op
use Rattle.ver_ast.specs.declared.tree.Rhs.{Rhs}
use Rattle.ver_ast.specs.declared.tree.Rhs.TheVariants as rhs
use Rattle.ver_ast.specs.declared.tree.UnaryOp.{UnaryOp}
use Rattle.ver_ast.specs.declared.tree.UnaryOp.TheVariants as unary
use Rattle.ver_ast.specs.declared.tree.BinaryOp.{BinaryOp}
use Rattle.ver_ast.specs.declared.tree.BinaryOp.TheVariants as binary
use Rattle.ver_ast.specs.declared.tree.SignedOp.{SignedOp}
use Rattle.ver_ast.specs.declared.tree.SignedOp.TheVariants as signed
use Rattle.ver_ast.specs.Atoms.{AtomTree, net, constant}
use Rattle.ver_build.specs.declared.held.Held.{Held}
use Rattle.ver_build.specs.declared.right_sides.Inner.{Inner}
use Rattle.ver_build.specs.working.Held.{no_bits, whole_net}
use Rattle.ver_build.specs.working.Operands.{zeros, parts, side_by_side, atom_at, field, shifted, amount}

abbrev pub joined : List AtomTree → Rhs
joined atoms = rhs.Atom (side_by_side atoms)

abbrev pub copied : ℕ → Held → Rhs
copied r a = rhs.Atom (atom_at r a)

abbrev pub computed : BinaryOp → ℕ → Held → Held → Rhs
computed o r a b = rhs.Binary (atom_at r a) o (atom_at r b)

-- the width at which operands are compared
abbrev pub compared_width : Held → Held → ℕ
compared_width a b = max 1 (max a.width b.width)

-- an operator between a value and an operand of that width: the signed one where the value is an SInt
abbrev pub between : SignedOp → BinaryOp → ℕ → Held → AtomTree → Rhs
between s o w a b = if a.signed then rhs.Signed (atom_at w a) s b else rhs.Binary (atom_at w a) o b

abbrev pub compared : SignedOp → BinaryOp → Held → Held → Rhs
compared s o a b = let w = compared_width a b in between s o w a (atom_at w b)

-- one bit of all bits of a value; of no bits it is known
abbrev pub reduced : UnaryOp → ℕ → Held → Rhs
reduced o none a = if nat_eq a.width 0 then rhs.Atom (constant 1 none) else rhs.Unary o (atom_at a.width a)

-- zeros below, to the result's width
abbrev pub shifted_up : ℕ → Held → Rhs
shifted_up r a = joined (parts a ++ zeros (r - a.width))

abbrev pub shifted_down : ℕ → Held → Held → Rhs
shifted_down r a b = if a.signed then rhs.SignedShift (atom_at r a) (amount b) else rhs.Binary (atom_at r a) binary.Shr (amount b)

-- the high n bits
abbrev pub head : ℕ → ℕ → Held → Rhs
head r n a = joined (field r (a.width - 1) (a.width - n) a)

-- the right side of an operation with a result of r bits, from two operands and two integers; a division has more than one
abbrev pub one_rhs : PrimOp → ℕ → Held → Held → ℕ → ℕ → Rhs
one_rhs op.Add r a b n m = computed binary.Add r a b
one_rhs op.Sub r a b n m = computed binary.Sub r a b
one_rhs op.Mul r a b n m = computed binary.Mul r a b
one_rhs op.Lt r a b n m = compared signed.Lt binary.Lt a b
one_rhs op.Leq r a b n m = compared signed.Leq binary.Leq a b
one_rhs op.Gt r a b n m = compared signed.Gt binary.Gt a b
one_rhs op.Geq r a b n m = compared signed.Geq binary.Geq a b
one_rhs op.Eq r a b n m = computed binary.Eq (compared_width a b) a b
one_rhs op.Neq r a b n m = computed binary.Neq (compared_width a b) a b
one_rhs op.Shl r a b n m = shifted_up r a
one_rhs op.Shr r a b n m = joined (shifted r n a)
one_rhs op.Dshl r a b n m = rhs.Binary (atom_at r a) binary.Shl (amount b)
one_rhs op.Dshr r a b n m = shifted_down r a b
one_rhs op.Neg r a b n m = rhs.Binary (constant r 0) binary.Sub (atom_at r a)
one_rhs op.Not r a b n m = rhs.Unary unary.Not (atom_at r a)
one_rhs op.And r a b n m = computed binary.And r a b
one_rhs op.Or r a b n m = computed binary.Or r a b
one_rhs op.Xor r a b n m = computed binary.Xor r a b
one_rhs op.Andr r a b n m = reduced unary.And 1 a
one_rhs op.Orr r a b n m = reduced unary.Or 0 a
one_rhs op.Xorr r a b n m = reduced unary.Xor 0 a
one_rhs op.Cat r a b n m = joined (parts a ++ parts b)
one_rhs op.Bits r a b n m = joined (field r n m a)
one_rhs op.Head r a b n m = head r n a
one_rhs _ r a b n m = copied r a

-- how many nets an operation has before its own
abbrev pub helper_count : PrimOp → ℕ
helper_count op.Div = 3
helper_count op.Rem = 3
helper_count _ = 0

-- the width at which a division with a result of r bits is done
abbrev pub division_width : ℕ → Held → Held → ℕ
division_width r a b = max r (max a.width b.width)

abbrev pub zero_test : ℕ → Held → Rhs
zero_test w b = rhs.Binary (atom_at w b) binary.Eq (constant w 0)

abbrev pub divisor : ℕ → List ℕ → Held → Rhs
divisor w is_zero b = rhs.Conditional (net is_zero) (constant w 1) (atom_at w b)

abbrev pub guarded : ℕ → List ℕ → Held → Rhs
guarded r is_zero value = rhs.Conditional (net is_zero) (constant r 0) (atom_at r value)

-- the names of the nets before an operation's own
abbrev pub helper : List (List ℕ) → ℕ → List ℕ
helper names k = slice_index_or names k []

-- the nets of a division whose result has r bits
abbrev pub division_inners : SignedOp → BinaryOp → ℕ → Held → Held → List (List ℕ) → List ℕ → List Inner
division_inners s o r a b helpers name =
    let w = division_width r a b in
    let is_zero = helper helpers 0 in
    let by = helper helpers 1 in
    let value = helper helpers 2 in
    record { name = is_zero; width = 1; rhs = zero_test w b }
    ∷ record { name = by; width = w; rhs = divisor w is_zero b }
    ∷ record { name = value; width = w; rhs = between s o w a (net by) }
    ∷ record { name = name; width = r; rhs = guarded r is_zero (whole_net value a.signed w) } ∷ []

-- the nets of an operation on two operands, whose own has that name
abbrev pub operation_inners : PrimOp → ℕ → Held → Held → ℕ → ℕ → List (List ℕ) → List ℕ → List Inner
operation_inners op.Div r a b n m helpers name = division_inners signed.Div binary.Div r a b helpers name
operation_inners op.Rem r a b n m helpers name = division_inners signed.Rem binary.Rem r a b helpers name
operation_inners o r a b n m helpers name = record { name = name; width = r; rhs = one_rhs o r a b n m } ∷ []

abbrev pub first_held : List Held → Held
first_held hs = slice_index_or hs 0 no_bits

abbrev pub second_held : List Held → Held
second_held hs = slice_index_or hs 1 no_bits

abbrev pub third_held : List Held → Held
third_held hs = slice_index_or hs 2 no_bits

-- of a condition and two values
abbrev pub mux_rhs : ℕ → List Held → Rhs
mux_rhs r hs = rhs.Conditional (atom_at 1 (first_held hs)) (atom_at r (second_held hs)) (atom_at r (third_held hs))
