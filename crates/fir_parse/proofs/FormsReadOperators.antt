-- Tokens that spell the operands and integers of an operator are read as those of its form.
use Rattle.std.proofs.Common.{◌≡◌, ℕ, ◌≤◌, List, [], ◌∷◌, length, refl, ◌∙◌, arith}
use Rattle.fir_bits.specs.declared.operators.PrimOp.{PrimOp}
use Rattle.fir_bits.specs.declared.operators.Form.{Form}
use Rattle.fir_bits.specs.declared.operators.Form.TheVariants.{Pair, Shift, Single, WithInteger, WithRange}
use Rattle.fir_ast.specs.declared.place.Place.{Place}
use Rattle.fir_ast.specs.Expressions.{Expression, operation, Expressions, no_expressions, expression}
use Rattle.fir_parse.specs.declared.lexeme.Mark.TheVariants.{CloseRound, Comma}
use Rattle.fir_parse.specs.Lexemes.{Terminal, mark}
use Rattle.fir_parse.specs.Heights.{height}
use Rattle.fir_parse.specs.Pieces.{Sign}
use Rattle.fir_bits.specs.Forms.{operands, integers}
use Rattle.fir_parse.specs.ExpressionForms.{count, AreIntegers, AreMoreOperands}
use Rattle.fir_parse.specs.working.States.{State}
use Rattle.fir_parse.specs.working.ExpressionRules.{closes_form, next_operand, next_integer, by_form}
use Rattle.fir_parse.specs.working.Reading.{read_on}
use Rattle.fir_parse.proofs.Completions.{TailEnds}
use Rattle.fir_parse.proofs.FormsReadPieces.{tail_ends_at, reads_same, read_sign, read_natural, read_ends}
use Rattle.fir_parse.proofs.FormsReadReferences.{ExpressionRead}
use Rattle.fir_parse.specs.Limits.{Limits, nesting, Within}

module _ (limits : Limits) where
  -- operands, each behind a comma
  abbrev pub MoreOperandsRead : ℕ → Expressions → List Terminal → List Terminal → Type 0
  MoreOperandsRead d no_expressions a b = a ≡ b
  MoreOperandsRead d (expression e rest) a b =
      (m : List Terminal) × (n : List Terminal) × Sign Comma a m × ExpressionRead limits d e m n × MoreOperandsRead d rest n b

  abbrev pub OperandsRead : ℕ → Expressions → List Terminal → List Terminal → Type 0
  OperandsRead d no_expressions a b = a ≡ b
  OperandsRead d (expression e rest) a b = (m : List Terminal) × ExpressionRead limits d e a m × MoreOperandsRead d rest m b

  -- an operand ends before a comma or a parenthesis
  pub sign_ends : (a b : List Terminal) → Sign CloseRound a b → TailEnds a
  sign_ends a b (p, e) = tail_ends_at limits (mark CloseRound) p a b e refl

  pub comma_ends : (a b : List Terminal) → Sign Comma a b → TailEnds a
  comma_ends a b (p, e) = tail_ends_at limits (mark Comma) p a b e refl

  ends_along : (a b : List Terminal) → a ≡ b → TailEnds b → TailEnds a
  ends_along a b e f = rw e f

  pub operands_end : (d : ℕ) (es : Expressions) (a b : List Terminal) → AreMoreOperands limits d es a b → TailEnds b → TailEnds a
  operands_end d no_expressions a b x f = ends_along a b x f
  operands_end d (expression e rest) a b (m, c, y) f = comma_ends a m c

  pub integers_end : (ns : List ℕ) (a b : List Terminal) → AreIntegers limits ns a b → TailEnds b → TailEnds a
  integers_end [] a b x f = ends_along a b x f
  integers_end (n ∷ ns) a b (m, c, y) f = comma_ends a m c

  -- the closing parenthesis, where the form ends
  pub read_closing_sign : (x : Expression) (a m b : List Terminal) → Sign CloseRound a m → Within limits nesting (height x ≤ 256) m b → (end : Place) (k : Expression → State) → read_on limits end (closes_form x k) a ≡ read_on limits end (k x) b
  read_closing_sign x a m b (p, e) g end k = read_sign limits CloseRound a m (p, e) end _ ∙ read_ends limits (height x) p (k x) m b g end

  pub read_next_operand : (d : ℕ) (e : Expression) (a m b : List Terminal) → Sign Comma a m → ExpressionRead limits d e m b → (end : Place) (k : Expression → State) → read_on limits end (next_operand d k) a ≡ read_on limits end (k e) b
  read_next_operand d e a m b c r end k = read_sign limits Comma a m c end _ ∙ r end k

  next_integer_read : (n : ℕ) (ns : List ℕ) (a b : List Terminal) (x : AreIntegers limits (n ∷ ns) a b) (end : Place) (k : ℕ → State) → read_on limits end (next_integer k) a ≡ read_on limits end (k n) x.2.0
  next_integer_read n ns a b (m, c, (m1, (p, i), y)) end k =
      read_sign limits Comma a m c end _ ∙ read_natural limits n p m m1 i end _

  -- two operands
  read_two : (d : ℕ) (p : Place) (op : PrimOp) (es : Expressions) (ns : List ℕ) (a b c m e : List Terminal) → count es ≡ 2 → length ns ≡ 0 → OperandsRead d es a b → AreIntegers limits ns b c → Sign CloseRound c m → Within limits nesting (height (operation p op es ns) ≤ 256) m e → (end : Place) (k : Expression → State) → read_on limits end (by_form Pair d p op k) a ≡ read_on limits end (k (operation p op es ns)) e
  read_two d p op (expression x (expression y no_expressions)) [] a b c m e h g (m1, rx, (m2, m3, comma, ry, same)) z sign tall end k =
      rx end _ ∙ read_next_operand d y m1 m2 m3 comma ry end _ ∙ reads_same limits _ m3 c (same ∙ z) end ∙ read_closing_sign (operation p op (expression x (expression y no_expressions)) []) c m e sign tall end k
  read_two d p op (expression x (expression y no_expressions)) (n ∷ ns) a b c m e h g r z sign tall end k = absurd (omega arith)
  read_two d p op (expression x (expression y (expression w es))) ns a b c m e h g r z sign tall end k = absurd (omega arith)
  read_two d p op (expression x no_expressions) ns a b c m e h g r z sign tall end k = absurd (omega arith)
  read_two d p op no_expressions ns a b c m e h g r z sign tall end k = absurd (omega arith)

  read_single : (d : ℕ) (p : Place) (op : PrimOp) (es : Expressions) (ns : List ℕ) (a b c m e : List Terminal) → count es ≡ 1 → length ns ≡ 0 → OperandsRead d es a b → AreIntegers limits ns b c → Sign CloseRound c m → Within limits nesting (height (operation p op es ns) ≤ 256) m e → (end : Place) (k : Expression → State) → read_on limits end (by_form Single d p op k) a ≡ read_on limits end (k (operation p op es ns)) e
  read_single d p op (expression x no_expressions) [] a b c m e h g (m1, rx, same) z sign tall end k =
      rx end _ ∙ reads_same limits _ m1 c (same ∙ z) end ∙ read_closing_sign (operation p op (expression x no_expressions) []) c m e sign tall end k
  read_single d p op (expression x no_expressions) (n ∷ ns) a b c m e h g r z sign tall end k = absurd (omega arith)
  read_single d p op (expression x (expression y es)) ns a b c m e h g r z sign tall end k = absurd (omega arith)
  read_single d p op no_expressions ns a b c m e h g r z sign tall end k = absurd (omega arith)

  read_with_integer : (d : ℕ) (p : Place) (op : PrimOp) (es : Expressions) (ns : List ℕ) (a b c m e : List Terminal) → count es ≡ 1 → length ns ≡ 1 → OperandsRead d es a b → AreIntegers limits ns b c → Sign CloseRound c m → Within limits nesting (height (operation p op es ns) ≤ 256) m e → (end : Place) (k : Expression → State) → read_on limits end (by_form WithInteger d p op k) a ≡ read_on limits end (k (operation p op es ns)) e
  read_with_integer d p op (expression x no_expressions) (n ∷ []) a b c m e h g (m1, rx, same) (m2, comma, (m3, (q, i), z)) sign tall end k =
      rx end _ ∙ reads_same limits _ m1 b same end ∙ next_integer_read n [] b c (m2, comma, (m3, (q, i), z)) end _ ∙ reads_same limits _ m3 c z end
      ∙ read_closing_sign (operation p op (expression x no_expressions) (n ∷ [])) c m e sign tall end k
  read_with_integer d p op (expression x no_expressions) (n ∷ o ∷ ns) a b c m e h g r z sign tall end k = absurd (omega arith)
  read_with_integer d p op (expression x no_expressions) [] a b c m e h g r z sign tall end k = absurd (omega arith)
  read_with_integer d p op (expression x (expression y es)) ns a b c m e h g r z sign tall end k = absurd (omega arith)
  read_with_integer d p op no_expressions ns a b c m e h g r z sign tall end k = absurd (omega arith)

  read_with_range : (d : ℕ) (p : Place) (op : PrimOp) (es : Expressions) (ns : List ℕ) (a b c m e : List Terminal) → count es ≡ 1 → length ns ≡ 2 → OperandsRead d es a b → AreIntegers limits ns b c → Sign CloseRound c m → Within limits nesting (height (operation p op es ns) ≤ 256) m e → (end : Place) (k : Expression → State) → read_on limits end (by_form WithRange d p op k) a ≡ read_on limits end (k (operation p op es ns)) e
  read_with_range d p op (expression x no_expressions) (n ∷ o ∷ []) a b c m e h g (m1, rx, same) (m2, comma, (m3, (q, i), (m4, second, (m5, (r, j), z)))) sign tall end k =
      rx end _ ∙ reads_same limits _ m1 b same end ∙ next_integer_read n (o ∷ []) b c (m2, comma, (m3, (q, i), (m4, second, (m5, (r, j), z)))) end _
      ∙ next_integer_read o [] m3 c (m4, second, (m5, (r, j), z)) end _ ∙ reads_same limits _ m5 c z end
      ∙ read_closing_sign (operation p op (expression x no_expressions) (n ∷ o ∷ [])) c m e sign tall end k
  read_with_range d p op (expression x no_expressions) (n ∷ o ∷ i ∷ ns) a b c m e h g r z sign tall end k = absurd (omega arith)
  read_with_range d p op (expression x no_expressions) (n ∷ []) a b c m e h g r z sign tall end k = absurd (omega arith)
  read_with_range d p op (expression x no_expressions) [] a b c m e h g r z sign tall end k = absurd (omega arith)
  read_with_range d p op (expression x (expression y es)) ns a b c m e h g r z sign tall end k = absurd (omega arith)
  read_with_range d p op no_expressions ns a b c m e h g r z sign tall end k = absurd (omega arith)

  -- as many of each as the form has
  pub read_form : (f : Form) (d : ℕ) (p : Place) (op : PrimOp) (es : Expressions) (ns : List ℕ) (a b c m e : List Terminal) → count es ≡ operands f → length ns ≡ integers f → OperandsRead d es a b → AreIntegers limits ns b c → Sign CloseRound c m → Within limits nesting (height (operation p op es ns) ≤ 256) m e → (end : Place) (k : Expression → State) → read_on limits end (by_form f d p op k) a ≡ read_on limits end (k (operation p op es ns)) e
  read_form Pair = read_two
  read_form Shift = read_two
  read_form Single = read_single
  read_form WithInteger = read_with_integer
  read_form WithRange = read_with_range
