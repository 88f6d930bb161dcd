-- Which operation a word spells (FIRRTL spec, "Primitive Operations").
use Rattle.std.specs.Prelude.{ℕ, List, [], ◌∷◌, Option}
use Rattle.std.specs.List.{find}
use Rattle.std.specs.Str.{bytes_eq}
use Rattle.fir_bits.specs.declared.operators.PrimOp.{PrimOp}
use Rattle.fir_bits.specs.declared.operators.PrimOp.TheVariants.{Add, Sub, Mul, Div, Rem, Lt, Leq, Gt, Geq, Eq, Neq, Pad, Shl, Shr, Dshl, Dshr, Cvt, Neg, Not, And, Or, Xor, Andr, Orr, Xorr, Cat, Bits, Head, Tail, AsUInt, AsSInt, AsAsyncReset}
use Rattle.fir_bits.specs.OperatorWords.{operator_word}

-- all operations
abbrev pub operators : List PrimOp
operators =
    Add ∷ Sub ∷ Mul ∷ Div ∷ Rem ∷ Lt ∷ Leq ∷ Gt ∷ Geq ∷ Eq ∷ Neq ∷ Pad ∷ Shl ∷ Shr ∷ Dshl ∷ Dshr ∷ Cvt ∷ Neg ∷ Not ∷
    And ∷ Or ∷ Xor ∷ Andr ∷ Orr ∷ Xorr ∷ Cat ∷ Bits ∷ Head ∷ Tail ∷ AsUInt ∷ AsSInt ∷ AsAsyncReset ∷ []

-- the operation of the word
abbrev pub operator_of : List ℕ → Option PrimOp
operator_of word = find (λ op. bytes_eq word (operator_word op)) operators
