-- Tokens that spell a literal are read as that literal, behind its word.
use Rattle.std.proofs.Common.{◌≡◌, ℕ, ◌<◌, Bool, true, false, not, List, Option, Some, None, refl, sym, ap, ◌∙◌, inl, inr}
use Rattle.fir_ast.specs.declared.place.Place.{Place}
use Rattle.fir_ast.specs.declared.expressions.Literal.{Literal}
use Rattle.fir_ast.specs.Expressions.{Expression, literal}
use Rattle.fir_parse.specs.declared.lexeme.Mark.TheVariants.{Less, Greater, OpenRound, CloseRound}
use Rattle.fir_parse.specs.Lexemes.{Terminal, Lexeme, integer, text, mark}
use Rattle.fir_parse.specs.Numbers.{Numeral, integer_value, text_value, is_allowed, literal_of}
use Rattle.fir_parse.specs.Pieces.{Sign, TokenAt}
use Rattle.fir_parse.specs.TypeForms.{IsWidth}
use Rattle.fir_parse.specs.ExpressionForms.{literal_word, IsNumeral, IsNumber}
use Rattle.fir_parse.specs.working.Symbols.{behind_word, a_literal}
use Rattle.fir_parse.specs.working.States.{State, wants, opens, limit, number_at}
use Rattle.fir_parse.specs.working.ExpressionRules.{literal_rest, literal_step, numbered}
use Rattle.fir_parse.specs.working.Reading.{read_on}
use Rattle.fir_parse.proofs.Limiting.{limit_kept}
use Rattle.fir_parse.proofs.FormsReadPieces.{takes_token, reads_same, read_sign, read_natural, read_opens}
use Rattle.fir_parse.specs.Limits.{Limits, numbers, nesting, Within}

module _ (limits : Limits) where
  -- the width or none, and the parenthesis
  pub read_literal_width : (d : ℕ) (p : Place) (signed : Bool) (width : Option ℕ) (a m n b : List Terminal) → IsWidth limits width a m → Sign OpenRound m n → Within limits nesting (d < 256) n b → (end : Place) (k : Expression → State) → read_on limits end (wants (behind_word d p (literal_word signed)) k) a ≡ read_on limits end (literal_rest p signed width k) b
  read_literal_width d p false None a m n b w (q, e) g end k = takes_token limits (behind_word d p (literal_word false)) (λ f. opens d q (literal_rest p false None f)) (mark OpenRound) q a n (w ∙ e) refl end k ∙ read_opens limits d q _ n b g end
  read_literal_width d p true None a m n b w (q, e) g end k = takes_token limits (behind_word d p (literal_word true)) (λ f. opens d q (literal_rest p true None f)) (mark OpenRound) q a n (w ∙ e) refl end k ∙ read_opens limits d q _ n b g end
  read_literal_width d p false (Some z) a m n b (m1, (r, x), (m2, (t, i), s)) (q, e) g end k =
      takes_token limits (behind_word d p (literal_word false)) _ (mark Less) r a m1 x refl end k ∙ read_natural limits z t m1 m2 i end _ ∙ read_sign limits Greater m2 m s end _ ∙ read_sign limits OpenRound m n (q, e) end _ ∙ read_opens limits d q _ n b g end
  read_literal_width d p true (Some z) a m n b (m1, (r, x), (m2, (t, i), s)) (q, e) g end k =
      takes_token limits (behind_word d p (literal_word true)) _ (mark Less) r a m1 x refl end k ∙ read_natural limits z t m1 m2 i end _ ∙ read_sign limits Greater m2 m s end _ ∙ read_sign limits OpenRound m n (q, e) end _ ∙ read_opens limits d q _ n b g end

  -- a number that the literal may have
  read_number : (p : Place) (signed : Bool) (width : Option ℕ) (l : Lexeme) (q : Place) (n o : Option Numeral) (a b : List Terminal) → TokenAt l q a b → literal_step p signed width l q ≡ numbered p signed width o q → n ≡ o → (limits numbers b ≡ true → is_allowed signed n ≡ true) → (end : Place) (k : Literal → State) → read_on limits end (wants (a_literal p signed width) k) a ≡ read_on limits end (k (literal_of p signed width n)) b
  read_number p signed width l q n o a b e h same ok end k =
      takes_token limits (a_literal p signed width) (λ f. limit (not (is_allowed signed o)) (number_at q) (f (literal_of p signed width o))) l q a b e h end k
      ∙ limit_kept limits (not (is_allowed signed o)) (number_at q) _ end b (λ c. ap (λ x. not (is_allowed signed x)) (sym same) ∙ ap not (ok c))
      ∙ ap (λ x. read_on limits end (k (literal_of p signed width x)) b) (sym same)

  read_numeral : (p : Place) (signed : Bool) (width : Option ℕ) (n : Option Numeral) (a b : List Terminal) → IsNumeral n a b → (limits numbers b ≡ true → is_allowed signed n ≡ true) → (end : Place) (k : Literal → State) → read_on limits end (wants (a_literal p signed width) k) a ≡ read_on limits end (k (literal_of p signed width n)) b
  read_numeral p signed width n a b (inl (s, q, h, e)) ok end k = read_number p signed width (integer s) q n (Some (integer_value s)) a b e refl h ok end k
  read_numeral p signed width n a b (inr (s, q, h, e)) ok end k = read_number p signed width (text s) q n (text_value s) a b e refl h ok end k

  -- the number and the closing parenthesis
  pub read_literal_rest : (l : Literal) (a m b : List Terminal) → IsNumber limits l a m → Sign CloseRound m b → (end : Place) (k : Expression → State) → read_on limits end (literal_rest l.place l.signed l.width k) a ≡ read_on limits end (k (literal l)) b
  read_literal_rest l a m b (n, same, (m1, x, (ok, e))) c end k =
      read_numeral l.place l.signed l.width n a m1 x ok end _ ∙ reads_same limits _ m1 m e end ∙ read_sign limits CloseRound m b c end _ ∙ ap (λ y. read_on limits end (k (literal y)) b) (sym same)
