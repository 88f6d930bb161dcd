-- Tokens that are read as an expression spell it.
use Rattle.std.proofs.Common.{◌≡◌, ℕ, ◌+◌, ◌<◌, ◌≤◌, true, false, not, List, [], ◌∷◌, length, codes, refl}
use Rattle.fir_bits.specs.declared.operators.PrimOp.{PrimOp}
use Rattle.fir_bits.specs.declared.operators.Form.{Form}
use Rattle.fir_bits.specs.declared.operators.Form.TheVariants.{Pair, Shift, Single, WithInteger, WithRange}
use Rattle.fir_bits.specs.Forms.{form_of, operands, integers}
use Rattle.fir_bits.specs.OperatorWords.{operator_word}
use Rattle.fir_ast.specs.declared.place.Place.{Place}
use Rattle.fir_ast.specs.Expressions.{Expression, reference, operation, mux, validif, Expressions, no_expressions, expression}
use Rattle.fir_ast.specs.Circuits.{CircuitTree}
use Rattle.fir_parse.specs.declared.lexeme.Mark.TheVariants.{Less, OpenRound, CloseRound, OpenSquare, Dot}
use Rattle.fir_parse.specs.declared.words.Applied.{Applied}
use Rattle.fir_parse.specs.declared.words.Applied.TheVariants as applied
use Rattle.fir_parse.specs.Lexemes.{Lexeme, Terminal, word, mark, integer}
use Rattle.fir_parse.specs.working.Words.{applied_of}
use Rattle.fir_base.specs.Digits.{decimal_value}
use Rattle.fir_parse.specs.Numbers.{has_sign, is_in_range}
use Rattle.fir_parse.specs.Heights.{height}
use Rattle.fir_parse.specs.Pieces.{Sign}
use Rattle.fir_parse.specs.ExpressionForms.{count, IsExpression, AreOperands, AreIntegers}
use Rattle.fir_parse.specs.working.Symbols.{IndexTree, plain_index, computed_index, behind_word}
use Rattle.fir_parse.specs.working.States.{State, wants, limit, number_at, opens}
use Rattle.fir_parse.specs.working.ExpressionRules.{by_form, mux_rest, validif_rest, applied_rest, sized_by, behind_word_step, expression_step, index_step}
use Rattle.fir_parse.proofs.FormsFound.{token_at, Is, IsIndex, Derives, Found, Extends, within, no_taller}
use Rattle.fir_parse.proofs.FormsFoundWords.{IsApplied, applied_word}
use Rattle.fir_parse.proofs.FormsFoundTypes.{token_of}
use Rattle.fir_parse.proofs.FormsFoundReferences.{in_bounds, found_dot, found_index, found_reference, found_plain_literal, found_sized_literal}
use Rattle.std.proofs.lemmas.Bool.{cond_both}
use Rattle.fir_parse.specs.Limits.{Limits, nesting}

module _ (limits : Limits) where
  -- behind a word and its parenthesis
  abbrev applied_to : List ℕ → Place → Place → List Terminal → List Terminal
  applied_to w p q ts = token_at (word w) p ∷ token_at (mark OpenRound) q ∷ ts

  operation_spelled : (d : ℕ) (p : Place) (w : List ℕ) (op : PrimOp) (es : Expressions) (ns : List ℕ) (f : Form) (q : Place) (ts m n b : List Terminal) → w ≡ operator_word op → (limits nesting ts ≡ true → d < 256) → AreOperands limits (d + 1) es ts m → AreIntegers limits ns m n → Sign CloseRound n b → form_of op ≡ f → count es ≡ operands f → length ns ≡ integers f → (limits nesting b ≡ true → height (operation p op es ns) ≤ 256) → IsExpression limits d (operation p op es ns) (applied_to w p q ts) b
  operation_spelled d p w op es ns f q ts m n b e lt x y s form h l tall =
      (token_at (mark OpenRound) q ∷ ts, token_of (operator_word op) w p (token_at (mark OpenRound) q ∷ ts) e, (ts, (q, refl), (ts, (lt, refl), (m, x, (n, y, (n, ((rw form h, rw form l), refl), (b, s, (tall, refl))))))))

  found_form : (f : Form) (d : ℕ) (p : Place) (w : List ℕ) (op : PrimOp) (q : Place) (ts : List Terminal) → w ≡ operator_word op → (limits nesting ts ≡ true → d < 256) → form_of op ≡ f → (k : Expression → State) (c : CircuitTree) → Derives limits (by_form f (d + 1) p op k) c ts → Found limits (Is limits (behind_word d p w)) k c (token_at (mark OpenRound) q ∷ ts)
  found_form Pair d p w op q ts e lt form k c (a, m1, x, (q1, m2, s1, (b, m3, y, (q2, m4, s2, (le, more))))) =
      let es : Expressions = expression a (expression b no_expressions) in
      (operation p op es [], m4, operation_spelled d p w op es [] Pair q ts m3 m3 m4 e lt (m1, x, (m2, (q1, s1), (m3, y, refl))) refl (q2, s2) form refl refl (no_taller (height (operation p op es [])) le), more)
  found_form Shift d p w op q ts e lt form k c (a, m1, x, (q1, m2, s1, (b, m3, y, (q2, m4, s2, (le, more))))) =
      let es : Expressions = expression a (expression b no_expressions) in
      (operation p op es [], m4, operation_spelled d p w op es [] Shift q ts m3 m3 m4 e lt (m1, x, (m2, (q1, s1), (m3, y, refl))) refl (q2, s2) form refl refl (no_taller (height (operation p op es [])) le), more)
  found_form Single d p w op q ts e lt form k c (a, m1, x, (q2, m4, s2, (le, more))) =
      let es : Expressions = expression a no_expressions in
      (operation p op es [], m4, operation_spelled d p w op es [] Single q ts m1 m1 m4 e lt (m1, x, refl) refl (q2, s2) form refl refl (no_taller (height (operation p op es [])) le), more)
  found_form WithInteger d p w op q ts e lt form k c (a, m1, x, (q1, m2, s1, (n, m3, i, (q2, m4, s2, (le, more))))) =
      let es : Expressions = expression a no_expressions in
      let ns : List ℕ = n.number ∷ [] in
      (operation p op es ns, m4, operation_spelled d p w op es ns WithInteger q ts m1 m3 m4 e lt (m1, x, refl) (m2, (q1, s1), (m3, (n.place, i), refl)) (q2, s2) form refl refl (no_taller (height (operation p op es ns)) le), more)
  found_form WithRange d p w op q ts e lt form k c (a, m1, x, (q1, m2, s1, (n, m3, i, (q3, m5, s3, (o, m6, j, (q2, m4, s2, (le, more))))))) =
      let es : Expressions = expression a no_expressions in
      let ns : List ℕ = n.number ∷ o.number ∷ [] in
      (operation p op es ns, m4, operation_spelled d p w op es ns WithRange q ts m1 m6 m4 e lt (m1, x, refl) (m2, (q1, s1), (m3, (n.place, i), (m5, (q3, s3), (m6, (o.place, j), refl)))) (q2, s2) form refl refl (no_taller (height (operation p op es ns)) le), more)

  found_operator : (d : ℕ) (p : Place) (w : List ℕ) (op : PrimOp) (q : Place) (ts : List Terminal) → w ≡ operator_word op → (k : Expression → State) (c : CircuitTree) → Derives limits (opens d q (by_form (form_of op) (d + 1) p op k)) c ts → Found limits (Is limits (behind_word d p w)) k c (token_at (mark OpenRound) q ∷ ts)
  found_operator d p w op q ts e k c (lt, more) = found_form (form_of op) d p w op q ts e (within d lt) refl k c more

  found_mux : (d : ℕ) (p : Place) (w : List ℕ) (q : Place) (ts : List Terminal) → w ≡ codes "mux" → (k : Expression → State) (c : CircuitTree) → Derives limits (opens d q (mux_rest (d + 1) p k)) c ts → Found limits (Is limits (behind_word d p w)) k c (token_at (mark OpenRound) q ∷ ts)
  found_mux d p w q ts e k c (lt, (t, m1, x, (q1, m2, s1, (u, m3, y, (q2, m4, s2, (v, m5, z, (q3, m6, s3, (le, more)))))))) =
      (mux p t u v, m6, (token_at (mark OpenRound) q ∷ ts, token_of (codes "mux") w p (token_at (mark OpenRound) q ∷ ts) e, (ts, (q, refl), (ts, (within d lt, refl), (m1, x, (m2, (q1, s1), (m3, y, (m4, (q2, s2), (m5, z, (m6, (q3, s3), (no_taller (height (mux p t u v)) le, refl)))))))))), more)

  found_validif : (d : ℕ) (p : Place) (w : List ℕ) (q : Place) (ts : List Terminal) → w ≡ codes "validif" → (k : Expression → State) (c : CircuitTree) → Derives limits (opens d q (validif_rest (d + 1) p k)) c ts → Found limits (Is limits (behind_word d p w)) k c (token_at (mark OpenRound) q ∷ ts)
  found_validif d p w q ts e k c (lt, (t, m1, x, (q1, m2, s1, (u, m3, y, (q3, m6, s3, (le, more)))))) =
      (validif p t u, m6, (token_at (mark OpenRound) q ∷ ts, token_of (codes "validif") w p (token_at (mark OpenRound) q ∷ ts) e, (ts, (q, refl), (ts, (within d lt, refl), (m1, x, (m2, (q1, s1), (m3, y, (m6, (q3, s3), (no_taller (height (validif p t u)) le, refl)))))))), more)

  extends_applied : (v : Applied) (d : ℕ) (p : Place) (w : List ℕ) (q : Place) (ts : List Terminal) → IsApplied w v → Extends limits (Is limits (behind_word d p w)) (token_at (mark OpenRound) q) ts (applied_rest v d p w q)
  extends_applied (applied.Operator op) d p w q ts h = found_operator d p w op q ts h
  extends_applied applied.Mux d p w q ts h = found_mux d p w q ts h
  extends_applied applied.Validif d p w q ts h = found_validif d p w q ts h
  extends_applied applied.UInt d p w q ts h = found_plain_literal limits d p q false (applied_to w p q ts) ts (token_of (codes "UInt") w p (token_at (mark OpenRound) q ∷ ts) h)
  extends_applied applied.SInt d p w q ts h = found_plain_literal limits d p q true (applied_to w p q ts) ts (token_of (codes "SInt") w p (token_at (mark OpenRound) q ∷ ts) h)
  extends_applied applied.Missing d p w q ts h = tt
  extends_applied applied.Name d p w q ts h = (token_at (mark OpenRound) q ∷ ts, refl, refl)

  extends_sized : (v : Applied) (d : ℕ) (p : Place) (w : List ℕ) (q : Place) (ts : List Terminal) → IsApplied w v → Extends limits (Is limits (behind_word d p w)) (token_at (mark Less) q) ts (sized_by v d p w)
  extends_sized applied.UInt d p w q ts h = found_sized_literal limits d p q false (token_at (word w) p ∷ token_at (mark Less) q ∷ ts) ts (token_of (codes "UInt") w p (token_at (mark Less) q ∷ ts) h)
  extends_sized applied.SInt d p w q ts h = found_sized_literal limits d p q true (token_at (word w) p ∷ token_at (mark Less) q ∷ ts) ts (token_of (codes "SInt") w p (token_at (mark Less) q ∷ ts) h)
  extends_sized _ d p w q ts h = (token_at (mark Less) q ∷ ts, refl, refl)

  pub extends_behind_word : (d : ℕ) (p : Place) (w : List ℕ) (l : Lexeme) (q : Place) (ts : List Terminal) → Extends limits (Is limits (behind_word d p w)) (token_at l q) ts (behind_word_step d p w l q)
  extends_behind_word d p w (mark OpenRound) q ts = extends_applied (applied_of w) d p w q ts (applied_word w)
  extends_behind_word d p w (mark Less) q ts = extends_sized (applied_of w) d p w q ts (applied_word w)
  extends_behind_word d p w (mark Dot) q ts = λ k c x. found_reference limits d p w (token_at (mark Dot) q ∷ ts) k c (found_dot limits d 1 q ts (λ ps. k (reference p w ps)) c x)
  extends_behind_word d p w (mark OpenSquare) q ts = λ k c x. found_reference limits d p w (token_at (mark OpenSquare) q ∷ ts) k c (found_index limits d 1 q ts (λ ps. k (reference p w ps)) c x)
  extends_behind_word d p w l q ts = (token_at l q ∷ ts, refl, refl)

  found_word : (d : ℕ) (p : Place) (w : List ℕ) (ts : List Terminal) (k : Expression → State) (c : CircuitTree) → Derives limits (wants (behind_word d p w) k) c ts → Found limits (IsExpression limits d) k c (token_at (word w) p ∷ ts)
  found_word d p w ts k c (e, rest, x, more) = (e, rest, x, more)

  pub extends_expression : (d : ℕ) (l : Lexeme) (p : Place) (ts : List Terminal) → Extends limits (IsExpression limits d) (token_at l p) ts (expression_step d l p)
  extends_expression d (word w) p ts = found_word d p w ts
  extends_expression d _ p ts = tt

  found_plain_index : (d : ℕ) (s : List ℕ) (p : Place) (ts : List Terminal) → has_sign s ≡ false → (k : IndexTree → State) (c : CircuitTree) → Derives limits (limit (not (is_in_range (decimal_value s))) (number_at p) (k (plain_index p (decimal_value s)))) c ts → Found limits (IsIndex limits d) k c (token_at (integer s) p ∷ ts)
  found_plain_index d s p ts u k c (h, more) = (plain_index p (decimal_value s), ts, (ts, (s, u, refl, refl), (in_bounds (decimal_value s) h, refl)), more)

  found_computed_index : (d : ℕ) (p : Place) (w : List ℕ) (ts : List Terminal) (k : IndexTree → State) (c : CircuitTree) → Derives limits (wants (behind_word d p w) (λ e. k (computed_index e))) c ts → Found limits (IsIndex limits d) k c (token_at (word w) p ∷ ts)
  found_computed_index d p w ts k c (e, rest, x, more) = (computed_index e, rest, x, more)

  pub extends_index : (d : ℕ) (l : Lexeme) (p : Place) (ts : List Terminal) → Extends limits (IsIndex limits d) (token_at l p) ts (index_step d l p)
  extends_index d (integer s) p ts = cond_both (has_sign s) _ _ (Extends limits (IsIndex limits d) (token_at (integer s) p) ts) (λ h. tt) (found_plain_index d s p ts)
  extends_index d (word w) p ts = found_computed_index d p w ts
  extends_index d _ p ts = tt
