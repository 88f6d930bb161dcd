-- Expressions and references (FIRRTL spec, "Expressions"):
--   ref     = name { "." fieldname | "[" int "]" | "[" expr "]" }
--   expr    = ref | literal | op "(" expr { "," expr } { "," int } ")" | "mux" "(" expr "," expr "," expr ")" | "validif" "(" expr "," expr ")"
--   literal = ("UInt" | "SInt") [ "<" int ">" ] "(" (int | string) ")"
-- An operator has the operands and integers of its form. A word is an operator or a literal only before `(` or, for `UInt` and `SInt`, `<`.
use Rattle.std.specs.Prelude.{ℕ, ◌+◌, max, List, [], ◌∷◌, Bool, true, false, not, Option, Some, None, if◌then◌else◌}
use Rattle.fir_bits.specs.declared.operators.PrimOp.{PrimOp}
use Rattle.fir_bits.specs.declared.operators.Form.{Form}
use Rattle.fir_bits.specs.declared.operators.Form.TheVariants.{Pair, Shift, Single, WithInteger, WithRange}
use Rattle.fir_bits.specs.Forms.{form_of}
use Rattle.fir_ast.specs.declared.place.Place.{Place}
use Rattle.fir_ast.specs.declared.expressions.Literal.{Literal}
use Rattle.fir_ast.specs.Expressions.{Expression, reference, literal, operation, mux, validif, Parts, no_parts, subfield, subindex, subaccess, Expressions, no_expressions, expression}
use Rattle.fir_ast.specs.Statements.{SinkReference}
use Rattle.fir_parse.specs.declared.lexeme.Mark.TheVariants.{Less, Greater, OpenRound, CloseRound, OpenSquare, CloseSquare, Comma, Dot}
use Rattle.fir_parse.specs.declared.words.Applied.{Applied}
use Rattle.fir_parse.specs.declared.words.Applied.TheVariants as applied
use Rattle.fir_parse.specs.Lexemes.{Lexeme, word, mark, integer, text}
use Rattle.fir_parse.specs.working.Words.{applied_of}
use Rattle.fir_base.specs.Digits.{decimal_value}
use Rattle.fir_parse.specs.Numbers.{Numeral, integer_value, text_value, has_sign, is_in_range, is_allowed, literal_of}
use Rattle.fir_parse.specs.Heights.{height}
use Rattle.fir_parse.specs.working.Symbols.{IndexTree, plain_index, computed_index, a_mark, a_field_name, a_natural, an_expression, behind_word, parts, an_index, a_literal}
use Rattle.fir_parse.specs.working.States.{State, limit, number_at, wants, Step, takes, without, refuses, unsupported, opens, ends_form}

-- ")", where a form of this height ends
abbrev pub closing_plan : ℕ → (Unit {0} → State) → State
closing_plan h k = wants (a_mark CloseRound) (λ q. ends_form h q (k tt))

abbrev pub closes_form : Expression → (Expression → State) → State
closes_form e k = closing_plan (height e) (λ u. k e)

-- "," expr
abbrev pub next_operand : ℕ → (Expression → State) → State
next_operand d k = wants (a_mark Comma) (λ q. wants (an_expression d) k)

-- "," int
abbrev pub next_integer : (ℕ → State) → State
next_integer k = wants (a_mark Comma) (λ q. wants a_natural (λ n. k n.number))

abbrev pub one_operand : Expression → Expressions
one_operand a = expression a no_expressions

abbrev pub two_operands : Expression → Expression → Expressions
two_operands a b = expression a (expression b no_expressions)

-- the operands and integers of an operator, behind its parenthesis
abbrev pub by_form : Form → ℕ → Place → PrimOp → (Expression → State) → State
by_form Pair d p op k = wants (an_expression d) (λ a. next_operand d (λ b. closes_form (operation p op (two_operands a b) []) k))
by_form Shift d p op k = wants (an_expression d) (λ a. next_operand d (λ b. closes_form (operation p op (two_operands a b) []) k))
by_form Single d p op k = wants (an_expression d) (λ a. closes_form (operation p op (one_operand a) []) k)
by_form WithInteger d p op k = wants (an_expression d) (λ a. next_integer (λ n. closes_form (operation p op (one_operand a) (n ∷ [])) k))
by_form WithRange d p op k = wants (an_expression d) (λ a. next_integer (λ n. next_integer (λ m. closes_form (operation p op (one_operand a) (n ∷ m ∷ [])) k)))

abbrev pub operator_rest : ℕ → Place → PrimOp → (Expression → State) → State
operator_rest d p op k = by_form (form_of op) d p op k

abbrev pub mux_rest : ℕ → Place → (Expression → State) → State
mux_rest d p k = wants (an_expression d) (λ c. next_operand d (λ a. next_operand d (λ b. closes_form (mux p c a b) k)))

abbrev pub validif_rest : ℕ → Place → (Expression → State) → State
validif_rest d p k = wants (an_expression d) (λ c. next_operand d (λ a. closes_form (validif p c a) k))

-- the number of a literal and its closing parenthesis
abbrev pub literal_rest : Place → Bool → Option ℕ → (Expression → State) → State
literal_rest p signed width k = wants (a_literal p signed width) (λ l. wants (a_mark CloseRound) (λ q. k (literal l)))

-- behind a word and its parenthesis, within so many open blocks and brackets
abbrev pub applied_rest : Applied → ℕ → Place → List ℕ → Place → Step Expression
applied_rest (applied.Operator op) d p w q = takes (λ k. opens d q (operator_rest (d + 1) p op k))
applied_rest applied.Mux d p w q = takes (λ k. opens d q (mux_rest (d + 1) p k))
applied_rest applied.Validif d p w q = takes (λ k. opens d q (validif_rest (d + 1) p k))
applied_rest applied.UInt d p w q = takes (λ k. opens d q (literal_rest p false None k))
applied_rest applied.SInt d p w q = takes (λ k. opens d q (literal_rest p true None k))
applied_rest applied.Missing d p w q = unsupported p w
applied_rest applied.Name d p w q = without (reference p w no_parts)

-- a literal with a width, behind its `<`
abbrev pub sized_rest : Bool → ℕ → Place → Step Expression
sized_rest signed d p =
    takes (λ k. wants a_natural (λ n. wants (a_mark Greater) (λ r. wants (a_mark OpenRound) (λ q. opens d q (literal_rest p signed (Some n.number) k)))))

abbrev pub sized_by : Applied → ℕ → Place → List ℕ → Step Expression
sized_by applied.UInt d p w = sized_rest false d p
sized_by applied.SInt d p w = sized_rest true d p
sized_by _ d p w = without (reference p w no_parts)

-- "." fieldname, behind its dot, and the parts that follow; the form ends at the field's name
abbrev pub dot_rest : ℕ → ℕ → Place → (Parts → State) → State
dot_rest d h p k = wants a_field_name (λ f. ends_form (h + 1) f.place (wants (parts d (h + 1)) (λ ps. k (subfield p f.place f.name ps))))

-- the height of what was indexed, with its index
abbrev pub indexed_height : ℕ → IndexTree → ℕ
indexed_height h (plain_index p n) = h + 1
indexed_height h (computed_index e) = max h (height e) + 1

abbrev pub indexed : Place → IndexTree → Parts → Parts
indexed p (plain_index q n) ps = subindex p q n ps
indexed p (computed_index e) ps = subaccess p e ps

-- "[" int "]" or "[" expr "]", behind its bracket, and the parts that follow; the form ends at the closing bracket
abbrev pub index_rest : ℕ → ℕ → Place → (Parts → State) → State
index_rest d h p k =
    opens d p (wants (an_index (d + 1)) (λ i. wants (a_mark CloseSquare) (λ q. ends_form (indexed_height h i) q (wants (parts d (indexed_height h i)) (λ ps. k (indexed p i ps))))))

-- a name and what follows it
abbrev pub reference_rest : ℕ → Place → List ℕ → (SinkReference → State) → State
reference_rest d p w k = wants (parts d 1) (λ ps. k (record { place = p; name = w; parts = ps }))

abbrev pub parts_step : ℕ → ℕ → Lexeme → Place → Step Parts
parts_step d h (mark Dot) p = takes (λ k. dot_rest d h p k)
parts_step d h (mark OpenSquare) p = takes (λ k. index_rest d h p k)
parts_step d h _ p = without no_parts

abbrev pub behind_word_step : ℕ → Place → List ℕ → Lexeme → Place → Step Expression
behind_word_step d p w (mark OpenRound) q = applied_rest (applied_of w) d p w q
behind_word_step d p w (mark Less) q = sized_by (applied_of w) d p w
behind_word_step d p w (mark Dot) q = takes (λ k. dot_rest d 1 q (λ ps. k (reference p w ps)))
behind_word_step d p w (mark OpenSquare) q = takes (λ k. index_rest d 1 q (λ ps. k (reference p w ps)))
behind_word_step d p w _ q = without (reference p w no_parts)

abbrev pub expression_step : ℕ → Lexeme → Place → Step Expression
expression_step d (word w) p = takes (λ k. wants (behind_word d p w) k)
expression_step d _ p = refuses

abbrev pub index_step : ℕ → Lexeme → Place → Step IndexTree
index_step d (integer s) p = if has_sign s then refuses else takes (λ k. limit (not (is_in_range (decimal_value s))) (number_at p) (k (plain_index p (decimal_value s))))
index_step d (word w) p = takes (λ k. wants (behind_word d p w) (λ e. k (computed_index e)))
index_step d _ p = refuses

abbrev pub numbered : Place → Bool → Option ℕ → Option Numeral → Place → Step Literal
numbered p signed width n q = takes (λ k. limit (not (is_allowed signed n)) (number_at q) (k (literal_of p signed width n)))

abbrev pub literal_step : Place → Bool → Option ℕ → Lexeme → Place → Step Literal
literal_step p signed width (integer s) q = numbered p signed width (Some (integer_value s)) q
literal_step p signed width (text s) q = numbered p signed width (text_value s) q
literal_step p signed width _ q = refuses
