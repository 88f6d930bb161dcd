-- Behind an expression all words are spelled as words that were before.
use Rattle.std.proofs.Common.{ℕ, ◌+◌, max, List, [], ◌∷◌, Option, inl, inr}
use Rattle.fir_ast.specs.declared.expressions.Literal.{Literal}
use Rattle.fir_ast.specs.Expressions.{Expression, reference, literal, operation, mux, validif, Parts, no_parts, subfield, subindex, subaccess, Expressions, no_expressions, expression}
use Rattle.fir_ast.specs.Statements.{SinkReference}
use Rattle.fir_parse.specs.Limits.{everywhere}
use Rattle.fir_parse.specs.Numbers.{Numeral}
use Rattle.fir_parse.specs.Heights.{height}
use Rattle.fir_parse.specs.ExpressionForms.{IsNumeral, IsNumber, IsLiteral, AreIntegers, IsExpression, AreParts, AreOperands, AreMoreOperands, IsSink}
use Rattle.fir_spelled.proofs.WordPieces.{KeepsWords, keeps, token, somewhere, nothing, given, next}
use Rattle.fir_spelled.proofs.TypesKeepWords.{int_at, int, field_name, width}

numeral : (n : Option Numeral) → KeepsWords (IsNumeral n)
numeral n = keeps (λ a b x. elim x [ inl y ↦ (token).front a b y.3 | inr y ↦ (token).front a b y.3 ])

number : (l : Literal) → KeepsWords (IsNumber everywhere l)
number l = keeps (λ a b x. (next (numeral x.0) given).front a b x.2)

literal_keeps : (d : ℕ) (l : Literal) → KeepsWords (IsLiteral everywhere d l)
literal_keeps d l = next token (next (width l.width) (next somewhere (next given (next (number l) somewhere))))

integers : (ns : List ℕ) → KeepsWords (AreIntegers everywhere ns)
integers [] = nothing
integers (n ∷ ns) = next somewhere (next int (integers ns))

mutual
  pub expression_keeps : (d : ℕ) (e : Expression) → KeepsWords (IsExpression everywhere d e)
  expression_keeps d (reference p w ps) = next token (parts_keep d 1 ps)
  expression_keeps d (literal l) = literal_keeps d l
  expression_keeps d (operation p op es ns) =
      next token (next somewhere (next given (next (operands_keep (d + 1) es) (next (integers ns) (next given (next somewhere given))))))
  expression_keeps d (mux p c a b) =
      next token (next somewhere (next given (next (expression_keeps (d + 1) c) (next somewhere (next (expression_keeps (d + 1) a) (next somewhere (next (expression_keeps (d + 1) b) (next somewhere given))))))))
  expression_keeps d (validif p c a) =
      next token (next somewhere (next given (next (expression_keeps (d + 1) c) (next somewhere (next (expression_keeps (d + 1) a) (next somewhere given))))))

  pub parts_keep : (d h : ℕ) (ps : Parts) → KeepsWords (AreParts everywhere d h ps)
  parts_keep d h no_parts = nothing
  parts_keep d h (subfield q p n rest) = next token (next field_name (next given (parts_keep d (h + 1) rest)))
  parts_keep d h (subindex q p n rest) = next token (next given (next int_at (next somewhere (next given (parts_keep d (h + 1) rest)))))
  parts_keep d h (subaccess q e rest) =
      next token (next given (next (expression_keeps (d + 1) e) (next somewhere (next given (parts_keep d (max h (height e) + 1) rest)))))

  operands_keep : (d : ℕ) (es : Expressions) → KeepsWords (AreOperands everywhere d es)
  operands_keep d no_expressions = nothing
  operands_keep d (expression e rest) = next (expression_keeps d e) (more_operands_keep d rest)

  more_operands_keep : (d : ℕ) (es : Expressions) → KeepsWords (AreMoreOperands everywhere d es)
  more_operands_keep d no_expressions = nothing
  more_operands_keep d (expression e rest) = next somewhere (next (expression_keeps d e) (more_operands_keep d rest))

pub sink_keeps : (d : ℕ) (s : SinkReference) → KeepsWords (IsSink everywhere d s)
sink_keeps d s = next token (parts_keep d 1 s.parts)
