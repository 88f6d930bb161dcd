-- What lowered terms are worth: the same values, clocks and reads as the terms over leaves, where these have types.
use Rattle.std.specs.Prelude.{◌≡◌, ◌↔◌, ℕ, Option}
use Rattle.fir_base.specs.Lists.{In}
use Rattle.fir_bits.specs.declared.types.NumTy.{NumTy}
use Rattle.fir_meaning.specs.LeafTypes.{LeafType, a_clock, number, number_type}
use Rattle.fir_meaning.specs.working.TermReads.{reads}
use Rattle.fir_meaning.specs.working.TermValues.{Holds, clock_of, eval}
use Rattle.fir_meaning.specs.working.Terms.{Term, zeros}
use Rattle.fir_leaf_types.specs.working.TypedTerms.{HasType}
use Rattle.fir_connect.specs.working.NetTerms.{term_type}
use Rattle.fir_connect.specs.working.NetReads.{net_reads}
use Rattle.fir_connect.specs.working.NetValues.{term_clock, term_value}
use Rattle.fir_connect.specs.working.Lowered.{lowered}

abbrev pub types_of : (ℕ → LeafType) → Holds
types_of held x = number_type (held x)

-- one value, at the type of the term
abbrev pub LoweredIsWorth : Type 0
LoweredIsWorth =
    (held : ℕ → LeafType) (numbers : ℕ → ℕ) (t : Term) (u : NumTy) → HasType held t (number u)
    → term_value (types_of held) numbers (lowered (types_of held) t) ≡ eval (types_of held) numbers t

abbrev pub LoweredHasType : Type 0
LoweredHasType =
    (held : ℕ → LeafType) (t : Term) (u : NumTy) → HasType held t (number u) → (t ≡ zeros → ⊥) → term_type (types_of held) (lowered (types_of held) t) ≡ u

abbrev pub LoweredClocks : Type 0
LoweredClocks =
    (held : ℕ → LeafType) (numbers : ℕ → ℕ) (clocks : ℕ → Option ℕ) (t : Term) → HasType held t a_clock
    → term_clock (types_of held) numbers clocks (lowered (types_of held) t) ≡ clock_of (types_of held) (record { numbers = numbers; clocks = clocks }) t

abbrev pub LoweredReads : Type 0
LoweredReads = (holds : Holds) (t : Term) (y : ℕ) → In (net_reads (lowered holds t)) y ↔ In (reads t) y
