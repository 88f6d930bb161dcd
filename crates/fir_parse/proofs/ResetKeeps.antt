-- The steps of resets keep the guards.
use Rattle.std.proofs.Common.{ℕ, ◌+◌, refl, Some, codes, inl}
use Rattle.std.specs.Str.{bytes_eq}
use Rattle.fir_ast.specs.declared.place.Place.{Place}
use Rattle.fir_ast.specs.Statements.{Reset}
use Rattle.fir_parse.specs.declared.lexeme.Mark.TheVariants.{CloseRound, OpenRound, Colon}
use Rattle.fir_parse.specs.Lexemes.{Lexeme, word, mark, line_end}
use Rattle.fir_parse.specs.working.Symbols.{a_mark, a_closing, behind_with}
use Rattle.fir_parse.specs.working.States.{State, wants, takes, refuses}
use Rattle.fir_parse.specs.working.StatementRules.{ends_line, reset_rest, reset_step, with_step}
use Rattle.fir_parse.proofs.Guards.{unlimited, Guarded, After, loosened}
use Rattle.fir_parse.proofs.Keeping.{at, elsewhere, Keeps, always, keeps_if, keeps_taken}

guarded_reset : (d : ℕ) (w : Place) (k : Reset → State) → ((r : Reset) → After unlimited (k r)) → Guarded (reset_rest d w k)
guarded_reset d w k h = λ p. (λ q. (λ r. (λ c. (λ s. (λ i. (λ t. loosened t _ (h _), refl), tt), refl), (refl, tt)), tt), tt)

pub keeps_reset : (d : ℕ) (l : Lexeme) (p : Place) → Keeps (always unlimited) elsewhere (at l p) (reset_step d l p)
keeps_reset d line_end p = keeps_taken elsewhere (at line_end p) _
keeps_reset d (word w) p =
    keeps_if (always unlimited) elsewhere (at (word w) p) (bytes_eq w (codes "with")) (takes (λ k. wants (a_mark Colon) (λ q. wants (behind_with d p) (λ r. k (Some r))))) refuses (λ k after. (λ q. (λ r. after _, tt), tt)) tt
keeps_reset d _ p = tt

pub keeps_with : (d : ℕ) (w : Place) (l : Lexeme) (p : Place) → Keeps (always unlimited) elsewhere (at l p) (with_step d w l p)
keeps_with d w (mark OpenRound) p =
    λ k after. (guarded_reset (d + 1) w (λ r. wants (a_mark CloseRound) (λ q. ends_line r k)) (λ r. (λ q. (λ s. loosened s _ (after r), tt), tt)), inl (refl, refl))
keeps_with d w line_end p =
    λ k after. (λ q. (guarded_reset d w (λ r. ends_line r (λ s. wants a_closing (λ t. k s))) (λ r. (λ s. (λ t. after r, tt), tt)), refl), tt)
keeps_with d w _ p = tt
