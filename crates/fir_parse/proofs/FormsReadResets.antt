-- Tokens that spell the reset of a register are read as that.
use Rattle.std.proofs.Common.{◌≡◌, ℕ, ◌+◌, List, Option, Some, None, codes, refl, ◌∙◌, inl, inr}
use Rattle.fir_ast.specs.declared.place.Place.{Place}
use Rattle.fir_ast.specs.Statements.{Reset}
use Rattle.fir_parse.specs.declared.lexeme.Mark.TheVariants.{Arrow, OpenRound, CloseRound, Comma, Colon}
use Rattle.fir_parse.specs.Lexemes.{Terminal, word, mark, line_end}
use Rattle.fir_parse.specs.StatementForms.{IsResetPair, IsRegisterReset}
use Rattle.fir_parse.specs.working.Symbols.{a_mark, a_closing, a_reset, behind_with}
use Rattle.fir_parse.specs.working.States.{State, wants}
use Rattle.fir_parse.specs.working.StatementRules.{ends_line, reset_rest}
use Rattle.fir_parse.specs.working.Reading.{read_on}
use Rattle.fir_parse.proofs.Completions.{TailEnds}
use Rattle.fir_parse.proofs.FormsReadPieces.{takes_token, tail_ends_at, read_sign, read_word, read_line_end, read_opening, read_closing, read_opens}
use Rattle.fir_parse.proofs.FormsReadOperators.{sign_ends, comma_ends}
use Rattle.fir_parse.proofs.FormsReadExpressions.{read_whole_expression}
use Rattle.fir_parse.specs.Limits.{Limits}

module _ (limits : Limits) where
  read_pair : (d : ℕ) (r : Reset) (a b : List Terminal) → IsResetPair limits d r a b → (end : Place) (k : Reset → State) → read_on limits end (reset_rest d r.place k) a ≡ read_on limits end (k r) b
  read_pair d r a b (m1, w, (m2, s, (m3, (p, o), (m4, g, (m5, x, (m6, c, (m7, y, z))))))) end k =
      read_word limits (codes "reset") a m1 w end _ ∙ read_sign limits Arrow m1 m2 s end _ ∙ read_sign limits OpenRound m2 m3 (p, o) end _ ∙ read_opens limits d p _ m3 m4 g end
      ∙ read_whole_expression limits (d + 1) r.condition m4 m5 x (comma_ends limits m5 m6 c) end _ ∙ read_sign limits Comma m5 m6 c end _
      ∙ read_whole_expression limits (d + 1) r.init m6 m7 y (sign_ends limits m7 b z) end _ ∙ read_sign limits CloseRound m7 b z end _

  pub read_reset : (d : ℕ) (r : Option Reset) (a b : List Terminal) → IsRegisterReset limits d r a b → (end : Place) (k : Option Reset → State) → read_on limits end (wants (a_reset d) k) a ≡ read_on limits end (k r) b
  read_reset d None a b (p, e) end k = takes_token limits (a_reset d) _ line_end p a b e refl end k
  read_reset d (Some r) a b (m1, w, (m2, c, inl (m3, (q, o), (m4, g, (m5, x, (m6, s, l)))))) end k =
      takes_token limits (a_reset d) (λ f. wants (a_mark Colon) (λ q. wants (behind_with d r.place) (λ x. f (Some x)))) (word (codes "with")) r.place a m1 w refl end k ∙ read_sign limits Colon m1 m2 c end _
      ∙ takes_token limits (behind_with d r.place) _ (mark OpenRound) q m2 m3 o refl end _ ∙ read_opens limits d q _ m3 m4 g end ∙ read_pair (d + 1) r m4 m5 x end (λ y. wants (a_mark CloseRound) (λ t. ends_line y (λ z. k (Some z)))) ∙ read_sign limits CloseRound m5 m6 s end _ ∙ read_line_end limits m6 b l end _
  read_reset d (Some r) a b (m1, w, (m2, c, inr (m3, (q, o), (m4, v, (m5, x, (m6, l, c2)))))) end k =
      takes_token limits (a_reset d) (λ f. wants (a_mark Colon) (λ q. wants (behind_with d r.place) (λ x. f (Some x)))) (word (codes "with")) r.place a m1 w refl end k ∙ read_sign limits Colon m1 m2 c end _
      ∙ takes_token limits (behind_with d r.place) _ line_end q m2 m3 o refl end _ ∙ read_opening limits m3 m4 v end _ ∙ read_pair d r m4 m5 x end (λ y. ends_line y (λ z. wants a_closing (λ t. k (Some z)))) ∙ read_line_end limits m5 m6 l end _ ∙ read_closing limits m6 b c2 end _

  pub reset_ends : (d : ℕ) (r : Option Reset) (a b : List Terminal) → IsRegisterReset limits d r a b → TailEnds a
  reset_ends d None a b (p, e) = tail_ends_at limits line_end p a b e refl
  reset_ends d (Some r) a b (m, e, x) = tail_ends_at limits (word (codes "with")) r.place a m e refl
