-- The number of a literal.
use Rattle.std.proofs.Common.{◌≡◌, ℕ, Bool, true, false, not, List, ◌∷◌, Option, Some, None, Result, Ok, Err, drop, refl, sym, ap, ◌∙◌, Bor}
use Rattle.fir_ast.specs.declared.place.Place.{Place}
use Rattle.fir_ast.specs.declared.expressions.Literal.{Literal}
use Rattle.fir_parse.specs.declared.integer.Integer.{Integer}
use Rattle.fir_parse.specs.declared.lexeme.Lexeme.{Lexeme as LexemeRef}
use Rattle.fir_parse.specs.declared.lexeme.Lexeme.TheVariants as code
use Rattle.fir_parse.specs.declared.stop.Stop.{Stop}
use Rattle.fir_parse.specs.Lexemes.{Terminal, Lexeme}
use Rattle.fir_parse.specs.working.Seen.{seen}
use Rattle.fir_parse.specs.Numbers.{Numeral, is_in_range, is_allowed, literal_of}
use Rattle.fir_parse.specs.working.Ranges.{numeral_within, IsNumbered}
use Rattle.fir_parse.specs.working.States.{number_at, limit, wants, refuses}
use Rattle.fir_parse.specs.working.Symbols.{a_literal}
use Rattle.fir_parse.specs.working.ExpressionRules.{numbered}
use Rattle.fir_parse.specs.working.Reading.{read_on, step}
use Rattle.fir_parse.specs.working.Reads.{Reads}
use Rattle.fir_parse.proofs.Plans.{takes_first, limit_kept, limit_passed}
use Rattle.fir_parse.specs.Limits.{everywhere}

pub other_literal : (p : Place) (signed : Bool) (width : Option ℕ) (l : LexemeRef) (q : Place) → ((x : Integer) → l ≡ code.Integer x → ⊥) → ((x : Bor (List ℕ)) → l ≡ code.Text x → ⊥) → step (a_literal p signed width) (seen l) q ≡ refuses
other_literal p signed width (code.Integer x) q h g = absurd (h x refl)
other_literal p signed width (code.Text x) q h g = absurd (g x refl)
other_literal p signed width _ q h g = refl

by_range : (p : Place) (signed : Bool) (width : Option ℕ) (n : Numeral) (q : Place) (b : Bool) (r : Result Literal Stop) → is_in_range n.magnitude ≡ b → IsNumbered p signed width (numeral_within (Some n)) q r → IsNumbered p signed width (Some n) q r
by_range p signed width n q true r e h = rw e at h
by_range p signed width n q false (Ok l) e h = let g = rw e at h in absurd (let f = g.0 in cc)
by_range p signed width n q false (Err s) e h = let g = rw e at h in (rw e refl, g.1)

-- a numeral that is out of range is refused as none is
pub numbered_as_spelled : (p : Place) (signed : Bool) (width : Option ℕ) (n : Option Numeral) (q : Place) (r : Result Literal Stop) → IsNumbered p signed width (numeral_within n) q r → IsNumbered p signed width n q r
numbered_as_spelled p signed width None q r h = h
numbered_as_spelled p signed width (Some n) q r h = by_range p signed width n q (is_in_range n.magnitude) r refl h

-- a token that has a numeral, or none of a good form, is read
pub reads_numeral : (p : Place) (signed : Bool) (width : Option ℕ) (n : Option Numeral) (l : Lexeme) (q : Place) (a b : List Terminal) (r : Result Literal Stop) → a ≡ record { lexeme = l; place = q } ∷ drop 1 a → b ≡ drop 1 a → step (a_literal p signed width) l q ≡ numbered p signed width n q → IsNumbered p signed width n q r → Reads (wants (a_literal p signed width)) (λ x. x) a b r
reads_numeral p signed width n l q a b (Ok x) e f t h = λ end k.
    takes_first (a_literal p signed width) (λ k. limit (not (is_allowed signed n)) (number_at q) (k (literal_of p signed width n))) l q a b e f t end k
    ∙ limit_kept (not (is_allowed signed n)) (number_at q) (k (literal_of p signed width n)) end b (ap not h.0)
    ∙ ap (λ x. read_on everywhere end (k x) b) (sym h.1)
reads_numeral p signed width n l q a b (Err s) e f t h = rw h.1 (λ end k.
    takes_first (a_literal p signed width) (λ k. limit (not (is_allowed signed n)) (number_at q) (k (literal_of p signed width n))) l q a b e f t end k
    ∙ limit_passed (not (is_allowed signed n)) (number_at q) (k (literal_of p signed width n)) end b (ap not h.0))
