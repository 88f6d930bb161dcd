-- The values of terms (FIRRTL spec, "Primitive Operations", "Multiplexers", "Sub-accesses"), and the clocks that they give (FIRRTL spec, "Clock Type").
-- A read through an index that is out of range is zero; of no leaf a clock is none. Clock leaves have a value of their own: the number of a clock, or none.
use Rattle.std.specs.Prelude.{ℕ, ◌+◌, ◌*◌, List, [], ◌∷◌, Bool, nat_lt, if◌then◌else◌, Option, Some, None, option_map}
use Rattle.fir_bits.specs.declared.types.NumTy.{NumTy}
use Rattle.fir_bits.specs.declared.values.Num.{Num}
use Rattle.fir_bits.specs.Operators.{no_operand, outcome}
use Rattle.fir_meaning.specs.Values.{number_of, literal_value, is_high, choice, value_or_zero}
use Rattle.fir_meaning.specs.working.Terms.{Term, Picks, Terms, zeros, absent, literal, read, operation, mux, validif, no_picks, pick, no_terms, term}

-- the type of each leaf; a clock counts as of no bits
abbrev pub Holds : Type 0
Holds = ℕ → NumTy

-- a number for each leaf, and a clock for each; a number has no clock, and the number of a clock is 0
pub record Env : Type 0 where
  pub numbers : ℕ → ℕ
  pub clocks : ℕ → Option ℕ

-- so many elements further, where the index is in range
abbrev pub picked : ℕ → ℕ → ℕ → Option ℕ → Option ℕ
picked i n each b = if nat_lt i n then option_map (λ k. k + i * each) b else None

abbrev pub value_at : Option ℕ → (ℕ → ℕ) → ℕ
value_at None numbers = 0
value_at (Some k) numbers = numbers k

abbrev pub clock_at : Option ℕ → (ℕ → Option ℕ) → Option ℕ
clock_at None clocks = None
clock_at (Some k) clocks = clocks k

module _ (holds : Holds) (numbers : ℕ → ℕ) where
  abbrev mutual
    pub eval : Term → Num
    eval zeros = no_operand
    eval (absent t ps) = number_of t 0
    eval (literal l) = literal_value l
    eval (read b ps) = number_of (holds b) (value_at (leaf_of b ps) numbers)
    eval (operation op ts ks) = outcome op (eval_each ts) ks
    eval (mux c a b) = choice (is_high (eval c ∷ [])) (eval a) (eval b)
    eval (validif c a) = value_or_zero (is_high (eval c ∷ [])) (eval a)

    -- the leaf that the indices pick, or none where one is out of range
    pub leaf_of : ℕ → Picks → Option ℕ
    leaf_of b no_picks = Some b
    leaf_of b (pick ps p i n each) = picked (eval i).value.number n each (leaf_of b ps)

    pub eval_each : Terms → List Num
    eval_each no_terms = []
    eval_each (term t ts) = eval t ∷ eval_each ts

  -- whether a condition is 1
  abbrev pub is_true : Term → Bool
  is_true c = is_high (eval c ∷ [])

-- the clock that a term gives
abbrev pub clock_of : Holds → Env → Term → Option ℕ
clock_of holds env (read b ps) = clock_at (leaf_of holds env.numbers b ps) env.clocks
clock_of holds env _ = None
