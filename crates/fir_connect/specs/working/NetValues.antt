-- The values of terms of a net, and the clocks that they give (FIRRTL spec, "Primitive Operations", "Multiplexers", "Clock Type").
use Rattle.std.specs.Prelude.{ℕ, List, [], ◌∷◌, if◌then◌else◌, Option, None}
use Rattle.fir_bits.specs.Operators.{outcome}
use Rattle.fir_bits.specs.declared.values.Num.{Num}
use Rattle.fir_meaning.specs.Values.{at_width, is_high, number_of}
use Rattle.fir_meaning.specs.working.TermValues.{Holds}
use Rattle.fir_connect.specs.working.NetTerms.{NetTerm, NetTerms, value, leaf, operation, mux, no_terms, term}

module _ (holds : Holds) (numbers : ℕ → ℕ) where
  abbrev mutual
    pub term_value : NetTerm → Num
    term_value (value v) = v
    term_value (leaf x) = number_of (holds x) (numbers x)
    term_value (operation op ts ks t) = outcome op (term_values ts) ks
    term_value (mux c a b t) =
        number_of t (if is_high (term_value c ∷ []) then at_width (term_value a) t.width else at_width (term_value b) t.width)

    pub term_values : NetTerms → List Num
    term_values no_terms = []
    term_values (term t ts) = term_value t ∷ term_values ts

  -- a number gives no clock
  abbrev pub term_clock : (ℕ → Option ℕ) → NetTerm → Option ℕ
  term_clock clocks (leaf x) = clocks x
  term_clock clocks (mux c a b t) = if is_high (term_value c ∷ []) then term_clock clocks a else term_clock clocks b
  term_clock clocks _ = None
