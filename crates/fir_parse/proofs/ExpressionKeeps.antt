-- The steps of expressions keep the guards.
use Rattle.std.proofs.Common.{◌≡◌, ℕ, Bool, true, false, refl, List, Option, Some, None, not, ◌+◌, inl, inr}
use Rattle.fir_base.specs.Lists.{In}
use Rattle.fir_bits.specs.declared.operators.PrimOp.{PrimOp}
use Rattle.fir_bits.specs.declared.operators.Form.{Form}
use Rattle.fir_bits.specs.declared.operators.Form.TheVariants.{Pair, Shift, Single, WithInteger, WithRange}
use Rattle.fir_bits.specs.Forms.{form_of}
use Rattle.fir_ast.specs.declared.place.Place.{Place}
use Rattle.fir_ast.specs.Expressions.{Expression, reference, Parts}
use Rattle.fir_parse.specs.declared.lexeme.Mark.TheVariants.{Less, OpenRound, OpenSquare, Dot}
use Rattle.fir_parse.specs.declared.words.Applied.{Applied}
use Rattle.fir_parse.specs.declared.words.Applied.TheVariants as applied
use Rattle.fir_parse.specs.Lexemes.{Lexeme, Terminal, word, mark, integer, text}
use Rattle.fir_parse.specs.MissingForms.{missing_operators, word_at}
use Rattle.fir_parse.specs.working.Words.{applied_of}
use Rattle.fir_base.specs.Digits.{decimal_value}
use Rattle.fir_parse.specs.Numbers.{has_sign, is_in_range}
use Rattle.fir_parse.specs.working.Symbols.{plain_index}
use Rattle.fir_parse.specs.working.States.{State, limit, number_at, takes, refuses}
use Rattle.fir_parse.specs.working.ExpressionRules.{by_form, literal_rest, applied_rest, sized_rest, sized_by, dot_rest, index_rest, parts_step, behind_word_step, expression_step, index_step, literal_step}
use Rattle.fir_parse.proofs.Guards.{unlimited, firm, IsUnlimited, Guarded, After, freed, loosened, bounded, firm_is_unlimited}
use Rattle.fir_parse.proofs.Keeping.{at, Spot, an_expression_begins, neither, misses_none, elsewhere, optional, Keeps, always, keeps_if, unlimited_after_number}
use Rattle.fir_parse.proofs.FormsFoundWords.{IsApplied, applied_word}

-- where an expression begins
abbrev pub expression_spot : Spot
expression_spot = record { kind = an_expression_begins; may_be_empty = false; misses = misses_none }

-- behind the first word of one, at that token
abbrev pub word_spot : List ℕ → Place → Terminal → Spot
word_spot v q t = record { kind = neither; may_be_empty = true; misses = λ p w. (word_at v q ≡ word_at w p) × (t.lexeme ≡ mark OpenRound) × In missing_operators w }

guarded_form : (f : Form) (d : ℕ) (p : Place) (op : PrimOp) (k : Expression → State) → ((e : Expression) → After firm (k e)) → Guarded (by_form f d p op k)
guarded_form Pair d p op k after = λ a. (λ q. (λ b. (λ r. bounded r _ (freed _ (after _)), refl), tt), refl)
guarded_form Shift d p op k after = λ a. (λ q. (λ b. (λ r. bounded r _ (freed _ (after _)), refl), tt), refl)
guarded_form Single d p op k after = λ a. (λ r. bounded r _ (freed _ (after _)), refl)
guarded_form WithInteger d p op k after = λ a. (λ q. (λ n. (λ r. bounded r _ (freed _ (after _)), tt), tt), refl)
guarded_form WithRange d p op k after = λ a. (λ q. (λ n. (λ s. (λ m. (λ r. bounded r _ (freed _ (after _)), tt), tt), tt), tt), refl)

form_begins : (f : Form) (d : ℕ) (p : Place) (op : PrimOp) (k : Expression → State) → IsUnlimited (by_form f d p op k)
form_begins Pair d p op k = tt
form_begins Shift d p op k = tt
form_begins Single d p op k = tt
form_begins WithInteger d p op k = tt
form_begins WithRange d p op k = tt

guarded_literal : (p : Place) (signed : Bool) (width : Option ℕ) (k : Expression → State) → ((e : Expression) → After firm (k e)) → Guarded (literal_rest p signed width k)
guarded_literal p signed width k after = λ l. (λ q. loosened q _ (freed _ (after _)), tt)

keeps_applied : (a : Applied) (d : ℕ) (p : Place) (w : List ℕ) (q : Place) → IsApplied w a → Keeps (always firm) (word_spot w p (at (mark OpenRound) q)) (at (mark OpenRound) q) (applied_rest a d p w q)
keeps_applied (applied.Operator op) d p w q e = λ k after. (guarded_form (form_of op) (d + 1) p op k after, inl (refl, form_begins (form_of op) (d + 1) p op k))
keeps_applied applied.Mux d p w q e = λ k after. (λ c. (λ r. (λ a. (λ s. (λ b. (λ t. bounded t _ (freed _ (after _)), refl), tt), refl), tt), refl), inl (refl, tt))
keeps_applied applied.Validif d p w q e = λ k after. (λ c. (λ r. (λ a. (λ t. bounded t _ (freed _ (after _)), refl), tt), refl), inl (refl, tt))
keeps_applied applied.UInt d p w q e = λ k after. (guarded_literal p false None k after, inl (refl, tt))
keeps_applied applied.SInt d p w q e = λ k after. (guarded_literal p true None k after, inl (refl, tt))
keeps_applied applied.Missing d p w q e = (refl, refl, e)
keeps_applied applied.Name d p w q e = (tt, refl)

keeps_sized : (spot : Spot) (t : Terminal) (signed : Bool) (d : ℕ) (p : Place) → Keeps (always firm) spot t (sized_rest signed d p)
keeps_sized spot t signed d p = λ k after. (λ n. (λ r. (λ q. (guarded_literal p signed (Some n.number) k after, (refl, tt)), tt), tt), tt)

keeps_sized_by : (v : List ℕ) (q : Place) (t : Terminal) (a : Applied) (d : ℕ) (p : Place) (w : List ℕ) → Keeps (always firm) (word_spot v q t) t (sized_by a d p w)
keeps_sized_by v q t applied.UInt d p w = keeps_sized (word_spot v q t) t false d p
keeps_sized_by v q t applied.SInt d p w = keeps_sized (word_spot v q t) t true d p
keeps_sized_by v q t _ d p w = (tt, refl)

-- the parts behind a dot
pub guarded_dot : (d h : ℕ) (p : Place) (k : Parts → State) → ((ps : Parts) → After firm (k ps)) → Guarded (dot_rest d h p k)
guarded_dot d h p k after = λ f. (λ ps. after _, (refl, refl))

-- the parts behind a bracket
pub guarded_index : (d h : ℕ) (p : Place) (k : Parts → State) → ((ps : Parts) → After firm (k ps)) → Guarded (index_rest d h p k)
guarded_index d h p k after = λ i. (λ q. (λ ps. after _, (refl, tt)), refl)

pub keeps_parts : (d h : ℕ) (l : Lexeme) (p : Place) → Keeps (always firm) optional (at l p) (parts_step d h l p)
keeps_parts d h (mark Dot) p = λ k after. (guarded_dot d h p k after, tt)
keeps_parts d h (mark OpenSquare) p = λ k after. (guarded_index d h p k after, inl (refl, tt))
keeps_parts d h _ p = (tt, refl)

pub keeps_behind_word : (d : ℕ) (p : Place) (w : List ℕ) (l : Lexeme) (q : Place) → Keeps (always firm) (word_spot w p (at l q)) (at l q) (behind_word_step d p w l q)
keeps_behind_word d p w (mark OpenRound) q = keeps_applied (applied_of w) d p w q (applied_word w)
keeps_behind_word d p w (mark Less) q = keeps_sized_by w p (at (mark Less) q) (applied_of w) d p w
keeps_behind_word d p w (mark Dot) q = λ k after. (guarded_dot d 1 q (λ ps. k (reference p w ps)) (λ ps. after (reference p w ps)), tt)
keeps_behind_word d p w (mark OpenSquare) q = λ k after. (guarded_index d 1 q (λ ps. k (reference p w ps)) (λ ps. after (reference p w ps)), inl (refl, tt))
keeps_behind_word d p w _ q = (tt, refl)

pub keeps_expression : (d : ℕ) (l : Lexeme) (p : Place) → Keeps (always firm) expression_spot (at l p) (expression_step d l p)
keeps_expression d (word w) p = λ k after. (after, (refl, refl))
keeps_expression d _ p = tt

pub keeps_index : (d : ℕ) (l : Lexeme) (p : Place) → Keeps (always firm) expression_spot (at l p) (index_step d l p)
keeps_index d (integer s) p =
    keeps_if (always firm) expression_spot (at (integer s) p) (has_sign s) refuses (takes (λ k. limit (not (is_in_range (decimal_value s))) (number_at p) (k (plain_index p (decimal_value s))))) tt
    (λ k after. ((after _).0, inr (refl, unlimited_after_number (at (integer s) p) _ (firm_is_unlimited _ (after _).1))))
keeps_index d (word w) p = λ k after. (λ e. after _, (refl, refl))
keeps_index d _ p = tt

pub keeps_literal : (p : Place) (signed : Bool) (width : Option ℕ) (l : Lexeme) (q : Place) → Keeps (always unlimited) elsewhere (at l q) (literal_step p signed width l q)
keeps_literal p signed width (integer s) q = λ k after. ((after _).0, inr (refl, unlimited_after_number (at (integer s) q) _ (after _).1))
keeps_literal p signed width (text s) q = λ k after. ((after _).0, inr (refl, unlimited_after_number (at (text s) q) _ (after _).1))
keeps_literal p signed width _ q = tt
