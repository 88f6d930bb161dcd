-- Which tokens spell which expression (FIRRTL spec, "Expressions"), within so many open blocks and brackets:
--   ref     = name { "." fieldname | "[" int "]" | "[" expr "]" }
--   expr    = ref | literal | op "(" expr { "," expr } { "," int } ")" | "mux" "(" expr "," expr "," expr ")" | "validif" "(" expr "," expr ")"
--   literal = ("UInt" | "SInt") [ "<" int ">" ] "(" (int | string) ")"
-- An operator has the operands and integers of its form.
use Rattle.std.specs.Prelude.{◌≡◌, ℕ, ◌+◌, ◌<◌, ◌≤◌, max, List, [], ◌∷◌, length, Bool, true, false, Option, Some, codes}
use Rattle.fir_bits.specs.OperatorWords.{operator_word}
use Rattle.fir_bits.specs.Forms.{form_of, operands, integers}
use Rattle.fir_ast.specs.declared.place.Place.{Place}
use Rattle.fir_ast.specs.declared.expressions.Literal.{Literal}
use Rattle.fir_ast.specs.Expressions.{Expression, reference, literal, operation, mux, validif, Parts, no_parts, subfield, subindex, subaccess, Expressions, no_expressions, expression}
use Rattle.fir_ast.specs.Statements.{SinkReference}
use Rattle.fir_parse.specs.declared.lexeme.Mark.TheVariants.{OpenRound, CloseRound, OpenSquare, CloseSquare, Comma, Dot}
use Rattle.fir_parse.specs.Lexemes.{Terminal, word, integer, text, mark}
use Rattle.fir_parse.specs.Numbers.{Numeral, integer_value, text_value, is_allowed, literal_of}
use Rattle.fir_parse.specs.Heights.{height}
use Rattle.fir_parse.specs.Limits.{Limits, numbers, nesting, Within}
use Rattle.fir_parse.specs.Pieces.{◌▸◌, Either, Given, Nothing, TokenAt, Sign, FieldName, Int, IntAt}
use Rattle.fir_parse.specs.TypeForms.{IsWidth}

abbrev pub literal_word : Bool → List ℕ
literal_word false = codes "UInt"
literal_word true = codes "SInt"

-- an integer or a string of this number
abbrev pub IsNumeral : Option Numeral → List Terminal → List Terminal → Type 0
IsNumeral n before behind =
    Either (λ a b. (s : List ℕ) × (p : Place) × (n ≡ Some (integer_value s)) × TokenAt (integer s) p a b)
    (λ a b. (s : List ℕ) × (p : Place) × (n ≡ text_value s) × TokenAt (text s) p a b) before behind

-- the number of a literal
abbrev pub IsNumber : Limits → Literal → List Terminal → List Terminal → Type 0
IsNumber limits l before behind =
    (n : Option Numeral) × (l ≡ literal_of l.place l.signed l.width n) × (IsNumeral n ▸ Within limits numbers (is_allowed l.signed n ≡ true)) before behind

abbrev pub IsLiteral : Limits → ℕ → Literal → List Terminal → List Terminal → Type 0
IsLiteral limits d l =
    TokenAt (word (literal_word l.signed)) l.place ▸ IsWidth limits l.width ▸ Sign OpenRound ▸ Within limits nesting (d < 256) ▸ IsNumber limits l
    ▸ Sign CloseRound

abbrev pub count : Expressions → ℕ
count no_expressions = 0
count (expression e rest) = count rest + 1

-- integers, each behind a comma
abbrev pub AreIntegers : Limits → List ℕ → List Terminal → List Terminal → Type 0
AreIntegers limits [] = Nothing
AreIntegers limits (n ∷ ns) = Sign Comma ▸ Int limits n ▸ AreIntegers limits ns

abbrev mutual
  pub IsExpression : Limits → ℕ → Expression → List Terminal → List Terminal → Type 0
  IsExpression limits d (reference p w ps) = TokenAt (word w) p ▸ AreParts limits d 1 ps
  IsExpression limits d (literal l) = IsLiteral limits d l
  IsExpression limits d (operation p op es ns) =
      TokenAt (word (operator_word op)) p ▸ Sign OpenRound ▸ Within limits nesting (d < 256) ▸ AreOperands limits (d + 1) es ▸ AreIntegers limits ns
      ▸ Given ((count es ≡ operands (form_of op)) × (length ns ≡ integers (form_of op))) ▸ Sign CloseRound
      ▸ Within limits nesting (height (operation p op es ns) ≤ 256)
  IsExpression limits d (mux p c a b) =
      TokenAt (word (codes "mux")) p ▸ Sign OpenRound ▸ Within limits nesting (d < 256) ▸ IsExpression limits (d + 1) c ▸ Sign Comma
      ▸ IsExpression limits (d + 1) a ▸ Sign Comma ▸ IsExpression limits (d + 1) b ▸ Sign CloseRound ▸ Within limits nesting (height (mux p c a b) ≤ 256)
  IsExpression limits d (validif p c a) =
      TokenAt (word (codes "validif")) p ▸ Sign OpenRound ▸ Within limits nesting (d < 256) ▸ IsExpression limits (d + 1) c ▸ Sign Comma
      ▸ IsExpression limits (d + 1) a ▸ Sign CloseRound ▸ Within limits nesting (height (validif p c a) ≤ 256)

  -- what follows a name, or what has that height
  pub AreParts : Limits → ℕ → ℕ → Parts → List Terminal → List Terminal → Type 0
  AreParts limits d h no_parts = Nothing
  AreParts limits d h (subfield q p n rest) =
      TokenAt (mark Dot) q ▸ FieldName (record { place = p; name = n }) ▸ Within limits nesting (h + 1 ≤ 256) ▸ AreParts limits d (h + 1) rest
  AreParts limits d h (subindex q p n rest) =
      TokenAt (mark OpenSquare) q ▸ Within limits nesting (d < 256) ▸ IntAt limits n p ▸ Sign CloseSquare ▸ Within limits nesting (h + 1 ≤ 256)
      ▸ AreParts limits d (h + 1) rest
  AreParts limits d h (subaccess q e rest) =
      TokenAt (mark OpenSquare) q ▸ Within limits nesting (d < 256) ▸ IsExpression limits (d + 1) e ▸ Sign CloseSquare
      ▸ Within limits nesting (max h (height e) + 1 ≤ 256) ▸ AreParts limits d (max h (height e) + 1) rest

  pub AreOperands : Limits → ℕ → Expressions → List Terminal → List Terminal → Type 0
  AreOperands limits d no_expressions = Nothing
  AreOperands limits d (expression e rest) = IsExpression limits d e ▸ AreMoreOperands limits d rest

  pub AreMoreOperands : Limits → ℕ → Expressions → List Terminal → List Terminal → Type 0
  AreMoreOperands limits d no_expressions = Nothing
  AreMoreOperands limits d (expression e rest) = Sign Comma ▸ IsExpression limits d e ▸ AreMoreOperands limits d rest

-- a reference that is driven
abbrev pub IsSink : Limits → ℕ → SinkReference → List Terminal → List Terminal → Type 0
IsSink limits d s = TokenAt (word s.name) s.place ▸ AreParts limits d 1 s.parts
