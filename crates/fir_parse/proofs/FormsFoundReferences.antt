-- Tokens that are read as what follows a name, or as a literal, spell it.
use Rattle.std.proofs.Common.{◌≡◌, ℕ, ◌+◌, ◌^◌, ◌<◌, Bool, true, false, not, List, ◌∷◌, Option, Some, None, refl, sym, inl, inr, subst}
use Rattle.std.proofs.lemmas.Bool.{ltb-true}
use Rattle.fir_ast.specs.declared.place.Place.{Place}
use Rattle.fir_ast.specs.declared.expressions.Literal.{Literal}
use Rattle.fir_ast.specs.Expressions.{Expression, reference, literal, Parts, subfield, subindex, subaccess}
use Rattle.fir_ast.specs.Circuits.{CircuitTree}
use Rattle.fir_parse.specs.declared.lexeme.Mark.TheVariants.{Less, OpenRound, CloseRound, OpenSquare, Dot}
use Rattle.fir_parse.specs.Lexemes.{Lexeme, Terminal, word, mark, integer, text}
use Rattle.fir_parse.specs.Numbers.{Numeral, is_in_range, is_allowed, integer_value, text_value, literal_of}
use Rattle.fir_parse.specs.Pieces.{◌▸◌, TokenAt, Sign}
use Rattle.fir_parse.specs.TypeForms.{IsWidth}
use Rattle.fir_parse.specs.ExpressionForms.{literal_word, IsNumeral, IsLiteral, IsExpression, AreParts}
use Rattle.fir_parse.specs.working.Symbols.{plain_index, computed_index, a_literal}
use Rattle.fir_parse.specs.working.States.{State, opens}
use Rattle.fir_parse.specs.working.ExpressionRules.{literal_rest, dot_rest, index_rest, indexed_height, parts_step, numbered, literal_step, sized_rest}
use Rattle.fir_parse.proofs.FormsFound.{token_at, Is, Derives, Found, Extends, within, no_taller}
use Rattle.fir_parse.specs.Limits.{Limits, numbers, nesting, Within}

pub holds : {C : Type 0} (b : Bool) → (C → not b ≡ false) → C → b ≡ true
holds true h c = refl
holds false h c = let no = h c in absurd (cc)

pub in_bounds : {C : Type 0} (n : ℕ) → (C → not (is_in_range n) ≡ false) → C → n < 2 ^ 128
in_bounds n h c = ltb-true n (2 ^ 128) (holds (is_in_range n) h c)

module _ (limits : Limits) where
  -- a dot or a bracket, and what follows it
  pub found_dot : (d h : ℕ) (p : Place) (ts : List Terminal) (k : Parts → State) (c : CircuitTree) → Derives limits (dot_rest d h p k) c ts → Found limits (AreParts limits d h) k c (token_at (mark Dot) p ∷ ts)
  found_dot d h p ts k c (f, m, name, (le, (ps, rest, x, more))) =
      (subfield p f.place f.name ps, rest, (ts, refl, (m, name, (m, (no_taller (h + 1) le, refl), x))), more)

  pub found_index : (d h : ℕ) (p : Place) (ts : List Terminal) (k : Parts → State) (c : CircuitTree) → Derives limits (index_rest d h p k) c ts → Found limits (AreParts limits d h) k c (token_at (mark OpenSquare) p ∷ ts)
  found_index d h p ts k c (lt, (plain_index q n, m, i, (r, m2, s, (le, (ps, rest, x, more))))) =
      (subindex p q n ps, rest, (ts, refl, (ts, (within d lt, refl), (m, i, (m2, (r, s), (m2, (no_taller (h + 1) le, refl), x))))), more)
  found_index d h p ts k c (lt, (computed_index e, m, i, (r, m2, s, (le, (ps, rest, x, more))))) =
      (subaccess p e ps, rest, (ts, refl, (ts, (within d lt, refl), (m, i, (m2, (r, s), (m2, (no_taller (indexed_height h (computed_index e)) le, refl), x))))), more)

  pub extends_parts : (d h : ℕ) (l : Lexeme) (p : Place) (ts : List Terminal) → Extends limits (AreParts limits d h) (token_at l p) ts (parts_step d h l p)
  extends_parts d h (mark Dot) p ts = found_dot d h p ts
  extends_parts d h (mark OpenSquare) p ts = found_index d h p ts
  extends_parts d h _ p ts = refl

  -- a name and what follows it
  pub found_reference : (d : ℕ) (p : Place) (w : List ℕ) (a : List Terminal) (k : Expression → State) (c : CircuitTree) → Found limits (AreParts limits d 1) (λ ps. k (reference p w ps)) c a → Found limits (λ e b z. IsExpression limits d e (token_at (word w) p ∷ b) z) k c a
  found_reference d p w a k c (ps, rest, x, more) = (reference p w ps, rest, (a, refl, x), more)

  -- literals
  literal_spelled : (d : ℕ) (p : Place) (signed : Bool) (width : Option ℕ) (n : Option Numeral) (l : Literal) (a m1 m2 m3 m4 b : List Terminal) → TokenAt (word (literal_word signed)) p a m1 → IsWidth limits width m1 m2 → Sign OpenRound m2 m3 → (limits nesting m3 ≡ true → d < 256) → l ≡ literal_of p signed width n → (IsNumeral n ▸ Within limits numbers (is_allowed signed n ≡ true)) m3 m4 → Sign CloseRound m4 b → IsLiteral limits d l a b
  literal_spelled d p signed width None l a m1 m2 m3 m4 b t w o lt same x s =
      let P : Literal → Type 0 = λ y. IsLiteral limits d y a b in
      subst P (sym same) (m1, t, (m2, w, (m3, o, (m3, (lt, refl), (m4, (None, refl, x), s)))))
  literal_spelled d p signed width (Some n) l a m1 m2 m3 m4 b t w o lt same x s =
      let P : Literal → Type 0 = λ y. IsLiteral limits d y a b in
      subst P (sym same) (m1, t, (m2, w, (m3, o, (m3, (lt, refl), (m4, (Some n, refl, x), s)))))

  found_literal : (d : ℕ) (p : Place) (signed : Bool) (width : Option ℕ) (a m1 m2 m3 : List Terminal) → TokenAt (word (literal_word signed)) p a m1 → IsWidth limits width m1 m2 → Sign OpenRound m2 m3 → (limits nesting m3 ≡ true → d < 256) → (k : Expression → State) (c : CircuitTree) → Derives limits (literal_rest p signed width k) c m3 → Found limits (IsExpression limits d) k c a
  found_literal d p signed width a m1 m2 m3 t w o lt k c (l, m4, (n, same, x), (q, rest, s, more)) =
      (literal l, rest, literal_spelled d p signed width n l a m1 m2 m3 m4 rest t w o lt same x (q, s), more)

  -- behind its word and a parenthesis
  pub found_plain_literal : (d : ℕ) (p q : Place) (signed : Bool) (a ts : List Terminal) → TokenAt (word (literal_word signed)) p a (token_at (mark OpenRound) q ∷ ts) → (k : Expression → State) (c : CircuitTree) → Derives limits (opens d q (literal_rest p signed None k)) c ts → Found limits (IsExpression limits d) k c a
  found_plain_literal d p q signed a ts t k c (lt, more) = found_literal d p signed None a (token_at (mark OpenRound) q ∷ ts) (token_at (mark OpenRound) q ∷ ts) ts t refl (q, refl) (within d lt) k c more

  -- behind its word and a sign
  pub found_sized_literal : (d : ℕ) (p q : Place) (signed : Bool) (a ts : List Terminal) → TokenAt (word (literal_word signed)) p a (token_at (mark Less) q ∷ ts) → Extends limits (λ e b z. IsExpression limits d e a z) (token_at (mark Less) q) ts (sized_rest signed d p)
  found_sized_literal d p q signed a ts t k c (n, m, i, (r, m2, s, (o, m3, x, (lt, more)))) =
      found_literal d p signed (Some n.number) a (token_at (mark Less) q ∷ ts) m2 m3 t (ts, (q, refl), (m, (n.place, i), (r, s))) (o, x) (within d lt) k c more

  extends_numbered : (p : Place) (signed : Bool) (width : Option ℕ) (n : Option Numeral) (l : Lexeme) (q : Place) (ts : List Terminal) → IsNumeral n (token_at l q ∷ ts) ts → Extends limits (Is limits (a_literal p signed width)) (token_at l q) ts (numbered p signed width n q)
  extends_numbered p signed width n l q ts x k c (h, more) = (literal_of p signed width n, ts, (n, refl, (ts, x, (holds (is_allowed signed n) h, refl))), more)

  pub extends_literal : (p : Place) (signed : Bool) (width : Option ℕ) (l : Lexeme) (q : Place) (ts : List Terminal) → Extends limits (Is limits (a_literal p signed width)) (token_at l q) ts (literal_step p signed width l q)
  extends_literal p signed width (integer s) q ts = extends_numbered p signed width (Some (integer_value s)) (integer s) q ts (inl (s, q, refl, refl))
  extends_literal p signed width (text s) q ts = extends_numbered p signed width (text_value s) (text s) q ts (inr (s, q, refl, refl))
  extends_literal p signed width _ q ts = tt
