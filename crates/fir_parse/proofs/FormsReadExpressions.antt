-- Tokens that spell an expression are read as that expression.
use Rattle.std.proofs.Common.{◌≡◌, ℕ, ◌+◌, ◌<◌, ◌≤◌, max, List, length, codes, Option, Some, None, refl, ap, ◌∙◌, inl, inr}
use Rattle.fir_bits.specs.declared.operators.PrimOp.{PrimOp}
use Rattle.fir_bits.specs.Forms.{form_of, operands, integers}
use Rattle.fir_bits.specs.OperatorWords.{operator_word}
use Rattle.fir_ast.specs.declared.place.Place.{Place}
use Rattle.fir_ast.specs.Expressions.{Expression, reference, literal, operation, mux, validif, Parts, no_parts, subfield, subindex, subaccess, Expressions, no_expressions, expression}
use Rattle.fir_parse.specs.declared.lexeme.Mark.TheVariants.{Less, OpenRound, CloseRound, CloseSquare, Comma}
use Rattle.fir_parse.specs.Lexemes.{Terminal, mark}
use Rattle.fir_parse.specs.Heights.{height}
use Rattle.fir_parse.specs.Pieces.{Given, Sign}
use Rattle.fir_parse.specs.TypeForms.{IsWidth}
use Rattle.fir_parse.specs.ExpressionForms.{count, literal_word, IsExpression, AreParts, AreOperands, AreMoreOperands, AreIntegers}
use Rattle.fir_parse.specs.working.Symbols.{behind_word}
use Rattle.fir_parse.specs.working.States.{State, wants, opens}
use Rattle.fir_parse.specs.working.ExpressionRules.{applied_rest, operator_rest, mux_rest, validif_rest}
use Rattle.fir_parse.specs.working.Reading.{read_on}
use Rattle.fir_parse.proofs.Completions.{TailEnds}
use Rattle.fir_parse.proofs.SpelledWords.{operator_read}
use Rattle.fir_parse.proofs.FormsReadPieces.{takes_token, tail_ends_at, read_sign, read_field_name, read_opens, read_ends}
use Rattle.fir_parse.proofs.FormsReadLiterals.{read_literal_width, read_literal_rest}
use Rattle.fir_parse.proofs.FormsReadReferences.{ExpressionRead, BeginsWithMark, mark_begins, parts_begin, WordRead, whole_expression, PartsRead, read_parts, read_reference, read_plain_index, read_computed_index}
use Rattle.fir_parse.proofs.FormsReadOperators.{MoreOperandsRead, OperandsRead, sign_ends, comma_ends, operands_end, integers_end, read_closing_sign, read_next_operand, read_form}
use Rattle.fir_parse.specs.Limits.{Limits, nesting, Within}

module _ (limits : Limits) where
  -- an operator behind its word
  read_operator : (d : ℕ) (p : Place) (op : PrimOp) (es : Expressions) (ns : List ℕ) (m1 m2 m3 m4 m5 m6 m7 b : List Terminal) → Sign OpenRound m1 m2 → Within limits nesting (d < 256) m2 m3 → OperandsRead limits (d + 1) es m3 m4 → AreIntegers limits ns m4 m5 → Given ((count es ≡ operands (form_of op)) × (length ns ≡ integers (form_of op))) m5 m6 → Sign CloseRound m6 m7 → Within limits nesting (height (operation p op es ns) ≤ 256) m7 b → (end : Place) (k : Expression → State) → read_on limits end (wants (behind_word d p (operator_word op)) k) m1 ≡ read_on limits end (k (operation p op es ns)) b
  read_operator d p op es ns m1 m2 m3 m4 m5 m6 m7 b (q, e) g r i ((h, l), same) (c, x) tall end k =
      let w : List ℕ = operator_word op in
      takes_token limits (behind_word d p w) (λ f. opens d q (operator_rest (d + 1) p op f)) (mark OpenRound) q m1 m2 e (ap (λ x. applied_rest x d p w q) (operator_read op)) end k
      ∙ read_opens limits d q _ m2 m3 g end ∙ read_form limits (form_of op) (d + 1) p op es ns m3 m4 m5 m7 b h l r i (c, same ∙ x) tall end k

  read_mux : (d : ℕ) (p : Place) (x y z : Expression) (m1 m2 m3 m4 m5 m6 m7 m8 m9 b : List Terminal) → Sign OpenRound m1 m2 → Within limits nesting (d < 256) m2 m3 → ExpressionRead limits (d + 1) x m3 m4 → Sign Comma m4 m5 → ExpressionRead limits (d + 1) y m5 m6 → Sign Comma m6 m7 → ExpressionRead limits (d + 1) z m7 m8 → Sign CloseRound m8 m9 → Within limits nesting (height (mux p x y z) ≤ 256) m9 b → (end : Place) (k : Expression → State) → read_on limits end (wants (behind_word d p (codes "mux")) k) m1 ≡ read_on limits end (k (mux p x y z)) b
  read_mux d p x y z m1 m2 m3 m4 m5 m6 m7 m8 m9 b (q, e) g rx c1 ry c2 rz sign tall end k =
      takes_token limits (behind_word d p (codes "mux")) (λ f. opens d q (mux_rest (d + 1) p f)) (mark OpenRound) q m1 m2 e refl end k ∙ read_opens limits d q _ m2 m3 g end
      ∙ rx end _ ∙ read_next_operand limits (d + 1) y m4 m5 m6 c1 ry end _ ∙ read_next_operand limits (d + 1) z m6 m7 m8 c2 rz end _ ∙ read_closing_sign limits (mux p x y z) m8 m9 b sign tall end k

  read_validif : (d : ℕ) (p : Place) (x y : Expression) (m1 m2 m3 m4 m5 m6 m7 b : List Terminal) → Sign OpenRound m1 m2 → Within limits nesting (d < 256) m2 m3 → ExpressionRead limits (d + 1) x m3 m4 → Sign Comma m4 m5 → ExpressionRead limits (d + 1) y m5 m6 → Sign CloseRound m6 m7 → Within limits nesting (height (validif p x y) ≤ 256) m7 b → (end : Place) (k : Expression → State) → read_on limits end (wants (behind_word d p (codes "validif")) k) m1 ≡ read_on limits end (k (validif p x y)) b
  read_validif d p x y m1 m2 m3 m4 m5 m6 m7 b (q, e) g rx c ry sign tall end k =
      takes_token limits (behind_word d p (codes "validif")) (λ f. opens d q (validif_rest (d + 1) p f)) (mark OpenRound) q m1 m2 e refl end k ∙ read_opens limits d q _ m2 m3 g end
      ∙ rx end _ ∙ read_next_operand limits (d + 1) y m4 m5 m6 c ry end _ ∙ read_closing_sign limits (validif p x y) m6 m7 b sign tall end k

  square_ends : (a b : List Terminal) → Sign CloseSquare a b → TailEnds a
  square_ends a b (p, e) = tail_ends_at limits (mark CloseSquare) p a b e refl

  round_begins : (a b : List Terminal) → Sign OpenRound a b → BeginsWithMark limits a
  round_begins a b (p, e) = mark_begins limits OpenRound p a b e

  width_begins : (w : Option ℕ) (a m b : List Terminal) → IsWidth limits w a m → Sign OpenRound m b → BeginsWithMark limits a
  width_begins None a m b x (p, e) = mark_begins limits OpenRound p a b (x ∙ e)
  width_begins (Some n) a m b (m1, (p, e), x) q = mark_begins limits Less p a m1 e

  mutual
    pub expression_read : (d : ℕ) (e : Expression) (a b : List Terminal) → IsExpression limits d e a b → TailEnds b → WordRead limits d e a b
    expression_read d (reference p w ps) a b (m, x, y) f = (p, w, m, x, parts_begin limits d 1 ps m b (parts_read d 1 ps m b y f), read_reference limits d p w ps m b (parts_read d 1 ps m b y f) f)
    expression_read d (literal l) a b (m1, x, (m2, w, (m3, q, (m4, g, (m5, n, c))))) f =
        (l.place, literal_word l.signed, m1, x, λ g2. width_begins l.width m1 m2 m3 w q, λ end k. read_literal_width limits d l.place l.signed l.width m1 m2 m3 m4 w q g end k ∙ read_literal_rest limits l m4 m5 b n c end k)
    expression_read d (operation p op es ns) a b (m1, x, (m2, q, (m3, g, (m4, y, (m5, i, (m6, (h, same), (m7, (c, e), z))))))) f =
        let ends : TailEnds m5 = sign_ends limits m5 m7 (c, same ∙ e) in
        (p, operator_word op, m1, x, λ t. round_begins m1 m2 q, read_operator d p op es ns m1 m2 m3 m4 m5 m6 m7 b q g (operands_read (d + 1) es m3 m4 y (integers_end limits ns m4 m5 i ends)) i (h, same) (c, e) z)
    expression_read d (mux p t u v) a b (m1, x, (m2, q, (m3, g, (m4, y, (m5, c1, (m6, z, (m7, c2, (m8, w, (m9, c, h))))))))) f = (
      p,
      codes "mux",
      m1,
      x,
      λ g2. round_begins m1 m2 q,
      read_mux d p t u v m1 m2 m3 m4 m5 m6 m7 m8 m9 b q g
          (whole_expression limits (d + 1) t m3 m4 (expression_read (d + 1) t m3 m4 y (comma_ends limits m4 m5 c1))) c1
          (whole_expression limits (d + 1) u m5 m6 (expression_read (d + 1) u m5 m6 z (comma_ends limits m6 m7 c2))) c2
          (whole_expression limits (d + 1) v m7 m8 (expression_read (d + 1) v m7 m8 w (sign_ends limits m8 m9 c))) c h,
    )
    expression_read d (validif p t u) a b (m1, x, (m2, q, (m3, g, (m4, y, (m5, c1, (m6, z, (m7, c, h))))))) f = (
      p,
      codes "validif",
      m1,
      x,
      λ g2. round_begins m1 m2 q,
      read_validif d p t u m1 m2 m3 m4 m5 m6 m7 b q g
          (whole_expression limits (d + 1) t m3 m4 (expression_read (d + 1) t m3 m4 y (comma_ends limits m4 m5 c1))) c1
          (whole_expression limits (d + 1) u m5 m6 (expression_read (d + 1) u m5 m6 z (sign_ends limits m6 m7 c))) c h,
    )

    pub parts_read : (d h : ℕ) (ps : Parts) (a b : List Terminal) → AreParts limits d h ps a b → TailEnds b → PartsRead limits d h ps a b
    parts_read d h no_parts a b x f = inl (refl, x)
    parts_read d h (subfield q p n rest) a b (m, x, (m1, name, (m2, g, y))) f =
        inr (inl (q, m, x, λ end k. read_field_name limits (record { place = p; name = n }) m m1 name end _ ∙ read_ends limits (h + 1) p _ m1 m2 g end ∙ read_parts limits d (h + 1) rest m2 b (parts_read d (h + 1) rest m2 b y f) f end _))
    parts_read d h (subindex q p n rest) a b (m, x, (m1, g, (m2, i, (m3, (r, c), (m4, l, y))))) f =
        inr (inr (
          q,
          m,
          x,
          λ end k. read_opens limits d q _ m m1 g end ∙ read_plain_index limits (d + 1) n p m1 m2 i end _ ∙ read_sign limits CloseSquare m2 m3 (r, c) end _
              ∙ read_ends limits (h + 1) r _ m3 m4 l end ∙ read_parts limits d (h + 1) rest m4 b (parts_read d (h + 1) rest m4 b y f) f end _,
        ))
    parts_read d h (subaccess q e rest) a b (m, x, (m1, g, (m2, i, (m3, (r, c), (m4, l, y))))) f =
        inr (inr (
          q,
          m,
          x,
          λ end k. read_opens limits d q _ m m1 g end ∙ read_computed_index limits (d + 1) e m1 m2 (expression_read (d + 1) e m1 m2 i (square_ends m2 m3 (r, c))) end _ ∙ read_sign limits CloseSquare m2 m3 (r, c) end _
              ∙ read_ends limits (max h (height e) + 1) r _ m3 m4 l end ∙ read_parts limits d (max h (height e) + 1) rest m4 b (parts_read d (max h (height e) + 1) rest m4 b y f) f end _,
        ))

    operands_read : (d : ℕ) (es : Expressions) (a b : List Terminal) → AreOperands limits d es a b → TailEnds b → OperandsRead limits d es a b
    operands_read d no_expressions a b x f = x
    operands_read d (expression e rest) a b (m, x, y) f =
        (m, whole_expression limits d e a m (expression_read d e a m x (operands_end limits d rest m b y f)), more_operands_read d rest m b y f)

    more_operands_read : (d : ℕ) (es : Expressions) (a b : List Terminal) → AreMoreOperands limits d es a b → TailEnds b → MoreOperandsRead limits d es a b
    more_operands_read d no_expressions a b x f = x
    more_operands_read d (expression e rest) a b (m, c, (n, x, y)) f =
        (m, n, c, whole_expression limits d e m n (expression_read d e m n x (operands_end limits d rest n b y f)), more_operands_read d rest n b y f)

  pub read_whole_expression : (d : ℕ) (e : Expression) (a b : List Terminal) → IsExpression limits d e a b → TailEnds b → ExpressionRead limits d e a b
  read_whole_expression d e a b x f = whole_expression limits d e a b (expression_read d e a b x f)
