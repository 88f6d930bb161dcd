-- Tokens that spell the types and expressions of the circuit `Gen`.
use Rattle.std.proofs.Common.{◌≡◌, ℕ, ◌+◌, ◌^◌, ◌<◌, true, false, List, [], ◌∷◌, Some, codes, refl, sym, ap, ◌∙◌, inl, arith}
use Rattle.std.specs.Prelude.{decimal}
use Rattle.std.proofs.lemmas.Bool.{lt-ltb}
use Rattle.fir_base.specs.Digits.{decimal_value}
use Rattle.fir_bits.specs.declared.operators.PrimOp.{PrimOp}
use Rattle.fir_bits.specs.declared.operators.PrimOp.TheVariants.{Add, Bits}
use Rattle.fir_bits.specs.OperatorWords.{operator_word}
use Rattle.fir_bits.specs.Forms.{form_of, operands, integers}
use Rattle.fir_ast.specs.declared.place.Place.{Place}
use Rattle.fir_ast.specs.declared.expressions.Literal.{Literal}
use Rattle.fir_ast.specs.Types.{uint}
use Rattle.fir_ast.specs.Expressions.{literal, operation, expression, no_expressions}
use Rattle.fir_parse.specs.declared.lexeme.Mark.TheVariants.{OpenRound, CloseRound, Less, Greater, Comma}
use Rattle.fir_parse.specs.Lexemes.{Terminal, word, integer, mark}
use Rattle.fir_parse.specs.Limits.{everywhere}
use Rattle.fir_parse.specs.Numbers.{Numeral, has_sign, integer_value, is_allowed}
use Rattle.fir_parse.specs.Pieces.{Int}
use Rattle.fir_parse.specs.TypeForms.{IsWidth, IsType}
use Rattle.fir_parse.specs.ExpressionForms.{IsNumber, IsExpression}
use Rattle.fir_parse.proofs.FormsFound.{token_at}
use Rattle.fir_gen.specs.working.GenTree.{plain, two, sum_at}
use Rattle.fir_gen_spelled.proofs.Chains.{◌▹◌}
use Rattle.fir_gen_spelled.proofs.Decimals.{decimal_is, value_of_digits}

-- ---- integers and types

pub int_spelled : (n : ℕ) (s : List ℕ) (p : Place) (ts : List Terminal) → has_sign s ≡ false → decimal_value s ≡ n → n < 2 ^ 128
    → Int everywhere n (token_at (integer s) p ∷ ts) ts
int_spelled n s p ts no_sign value small = (p, (ts, (s, no_sign, value, refl), (λ here. small, refl)))

pub width_spelled : (n : ℕ) (s : List ℕ) (p q r : Place) (ts : List Terminal) → has_sign s ≡ false → decimal_value s ≡ n → n < 2 ^ 128
    → IsWidth everywhere (Some n) (token_at (mark Less) p ∷ token_at (integer s) q ∷ token_at (mark Greater) r ∷ ts) ts
width_spelled n s p q r ts no_sign value small = (_, (p, refl)) ▹ (_, int_spelled n s q _ no_sign value small) ▹ (r, refl)

pub uint_spelled : (d n : ℕ) (s : List ℕ) (o p q r : Place) (ts : List Terminal) → has_sign s ≡ false → decimal_value s ≡ n → n < 2 ^ 128
    → IsType everywhere d (uint (Some n))
    (token_at (word (codes "UInt")) o ∷ token_at (mark Less) p ∷ token_at (integer s) q ∷ token_at (mark Greater) r ∷ ts) ts
uint_spelled d n s o p q r ts no_sign value small = (_, (o, refl)) ▹ width_spelled n s p q r ts no_sign value small

-- ---- the number of a register, as a literal

abbrev pub number_literal : Place → ℕ → Literal
number_literal p k = record { place = p; signed = false; width = Some 16; negative = false; magnitude = k }

abbrev numeral : ℕ → Numeral
numeral m = record { negative = false; magnitude = m }

value_of_decimal : (k : ℕ) → k < 2 ^ 64 → integer_value (decimal k) ≡ numeral k
value_of_decimal k h = let is = decimal_is k h in value_of_digits (decimal k) is.digits ∙ ap numeral is.value

number_allowed : (k : ℕ) → k < 2 ^ 64 → is_allowed false (Some (numeral k)) ≡ true
number_allowed k h = rw (lt-ltb k (2 ^ 128) (omega arith)) refl

number_spelled : (k : ℕ) (p q : Place) (ts : List Terminal) → k < 2 ^ 64
    → IsNumber everywhere (number_literal p k) (token_at (integer (decimal k)) q ∷ ts) ts
number_spelled k p q ts h = (
  Some (numeral k),
  refl,
  (ts, inl (decimal k, q, ap (λ m. Some m) (sym (value_of_decimal k h)), refl), (λ here. number_allowed k h, refl)),
)

pub literal_spelled : (d k : ℕ) (p a b c o i z : Place) (ts : List Terminal) → d < 256 → k < 2 ^ 64
    → IsExpression everywhere d (literal (number_literal p k))
    (token_at (word (codes "UInt")) p ∷ token_at (mark Less) a ∷ token_at (integer (codes "16")) b ∷ token_at (mark Greater) c
    ∷ token_at (mark OpenRound) o ∷ token_at (integer (decimal k)) i ∷ token_at (mark CloseRound) z ∷ ts) ts
literal_spelled d k p a b c o i z ts h small =
    (_, refl) ▹ (_, width_spelled 16 (codes "16") a b c _ refl refl (omega arith)) ▹ (_, (o, refl)) ▹ (_, (λ here. h, refl))
    ▹ (_, number_spelled k p i _ small) ▹ (z, refl)

-- ---- operations

pub plain_spelled : (d : ℕ) (p : Place) (w : List ℕ) (ts : List Terminal) → IsExpression everywhere d (plain p w) (token_at (word w) p ∷ ts) ts
plain_spelled d p w ts = (ts, refl, refl)

-- of two names
pub pair_spelled : (d : ℕ) (op : PrimOp) (u v : List ℕ) (p o a c b z : Place) (ts : List Terminal) → d < 256 → 2 ≡ operands (form_of op)
    → 0 ≡ integers (form_of op)
    → IsExpression everywhere d (operation p op (two (plain a u) (plain b v)) [])
    (token_at (word (operator_word op)) p ∷ token_at (mark OpenRound) o ∷ token_at (word u) a ∷ token_at (mark Comma) c ∷ token_at (word v) b
    ∷ token_at (mark CloseRound) z ∷ ts) ts
pair_spelled d op u v p o a c b z ts h two_operands no_integers =
    (_, refl) ▹ (_, (o, refl)) ▹ (_, (λ here. h, refl))
    ▹ (_, (_, plain_spelled (d + 1) a u _) ▹ (_, (c, refl)) ▹ (_, plain_spelled (d + 1) b v _) ▹ refl) ▹ (_, refl)
    ▹ (_, ((two_operands, no_integers), refl)) ▹ (_, (z, refl)) ▹ (λ here. omega arith, refl)

-- the sum of two names, without its carry
pub sum_spelled : (d : ℕ) (u v : List ℕ) (p o q r a c b z k i y : Place) (ts : List Terminal) → d < 255
    → IsExpression everywhere d (sum_at p q (plain a u) (plain b v))
    (token_at (word (codes "tail")) p ∷ token_at (mark OpenRound) o ∷ token_at (word (codes "add")) q ∷ token_at (mark OpenRound) r
    ∷ token_at (word u) a ∷ token_at (mark Comma) c ∷ token_at (word v) b ∷ token_at (mark CloseRound) z ∷ token_at (mark Comma) k
    ∷ token_at (integer (codes "1")) i ∷ token_at (mark CloseRound) y ∷ ts) ts
sum_spelled d u v p o q r a c b z k i y ts h =
    (_, refl) ▹ (_, (o, refl)) ▹ (_, (λ here. omega arith, refl))
    ▹ (_, (_, pair_spelled (d + 1) Add u v q r a c b z _ (omega arith) refl refl) ▹ refl)
    ▹ (_, (_, (k, refl)) ▹ (_, int_spelled 1 (codes "1") i _ refl refl (omega arith)) ▹ refl) ▹ (_, ((refl, refl), refl)) ▹ (_, (y, refl))
    ▹ (λ here. omega arith, refl)

-- the lowest bit of a name
pub lowest_spelled : (d : ℕ) (u : List ℕ) (p o a c i e j z : Place) (ts : List Terminal) → d < 256
    → IsExpression everywhere d (operation p Bits (expression (plain a u) no_expressions) (0 ∷ 0 ∷ []))
    (token_at (word (codes "bits")) p ∷ token_at (mark OpenRound) o ∷ token_at (word u) a ∷ token_at (mark Comma) c
    ∷ token_at (integer (codes "0")) i ∷ token_at (mark Comma) e ∷ token_at (integer (codes "0")) j ∷ token_at (mark CloseRound) z ∷ ts) ts
lowest_spelled d u p o a c i e j z ts h =
    (_, refl) ▹ (_, (o, refl)) ▹ (_, (λ here. h, refl)) ▹ (_, (_, plain_spelled (d + 1) a u _) ▹ refl)
    ▹ (_, (_, (c, refl)) ▹ (_, zero_spelled i _) ▹ (_, (e, refl)) ▹ (_, zero_spelled j _) ▹ refl) ▹ (_, ((refl, refl), refl)) ▹ (_, (z, refl))
    ▹ (λ here. omega arith, refl)
  where
    zero_spelled : (r : Place) (us : List Terminal) → Int everywhere 0 (token_at (integer (codes "0")) r ∷ us) us
    zero_spelled r us = int_spelled 0 (codes "0") r us refl refl (omega arith)
