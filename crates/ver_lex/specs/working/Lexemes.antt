-- Which token of the definitions a token of the code is (IEEE 1364-2005, 3.4 to 3.8).
-- A number past what a tree counts is the largest one that it counts; a constant's number of 2 ^ 128 or more is none.
use Rattle.std.specs.Prelude.{◌≡◌, ℕ, ◌^◌, Option, Some, None, min}
use Rattle.ver_ast.specs.declared.tree.Constant.{Constant}
use Rattle.ver_ast.specs.Tokens.{VToken, word, digit_zero, number, constant, sign, double, signed_shift, signed_word, question_digit}
use Rattle.ver_ast.specs.AtomForms.{constant_number}
use Rattle.ver_ast.specs.Pieces.{PlacedToken}
use Rattle.ver_ast.specs.Spells.{counted, IsInType}
use Rattle.ver_lex.specs.declared.lexeme.Lexeme.{Lexeme}
use Rattle.ver_lex.specs.declared.lexeme.Lexeme.TheVariants as lexeme
use Rattle.ver_lex.specs.declared.lexeme.Next.{Next}

-- the constant of a tree that stands for this width and this number
pub record IsCountedConstant (c : Constant) (width value : ℕ) : Type 0 where
  pub width_is : c.width ≡ counted width
  pub number_is : constant_number c ≡ min value (2 ^ 128)
  pub in_type : IsInType c.number

abbrev pub Sees : Lexeme → VToken → Type 0
Sees (lexeme.Word s) t = t ≡ word s.now
Sees lexeme.Zero t = t ≡ digit_zero
Sees (lexeme.Number n) t = (m : ℕ) × (t ≡ number m) × (n ≡ counted m)
Sees (lexeme.Constant c) t = (width : ℕ) × (value : ℕ) × (t ≡ constant width value) × IsCountedConstant c width value
Sees (lexeme.Sign b) t = t ≡ sign b
Sees (lexeme.Double a b) t = t ≡ double a b
Sees lexeme.SignedShift t = t ≡ signed_shift
Sees lexeme.SignedWord t = t ≡ signed_word
Sees lexeme.QuestionDigit t = t ≡ question_digit

-- the token at an index, where one stands there
abbrev pub NextAt : Option Next → Option PlacedToken → Type 0
NextAt None None = Unit {0}
NextAt (Some n) (Some t) = Sees n.lexeme t.token × (n.place ≡ t.place)
NextAt _ _ = ⊥
