-- What a statement gives to a leaf: zero where it is `is invalid`, and else a term of a type of the leaf's kind.
use Rattle.std.proofs.Common.{◌≡◌, ℕ, inl, inr, ◌⊎◌}
use Rattle.fir_bits.specs.declared.types.NumTy.{NumTy}
use Rattle.fir_meaning.specs.LeafTypes.{LeafType, a_clock, number}
use Rattle.fir_meaning.specs.working.TermValues.{Holds}
use Rattle.fir_meaning.specs.working.Terms.{Term, zeros, absent, literal, read, operation, mux, validif}
use Rattle.fir_leaf_types.specs.working.TypedBlocks.{IsSameKind, MayGive}
use Rattle.fir_leaf_types.specs.working.TypedTerms.{HasType}
use Rattle.fir_connect.specs.working.NetTerms.{NetTerm}
use Rattle.fir_connect.specs.working.Lowered.{lowered, zero_of}
use Rattle.fir_connect.specs.working.Drivers.{given}

-- what holds of zero and of the other terms holds of what is given
module _ (holds : Holds) (x : ℕ) (May : Term → Type 0) (P : Term → NetTerm → Type 0) (of_zeros : P zeros (zero_of (holds x)))
    (of_others : (e : Term) → (e ≡ zeros → ⊥) → May e → P e (lowered holds e)) where
  pub of_given : (e : Term) → May e → P e (given holds x e)
  of_given zeros may = of_zeros
  of_given (absent t ps) may = of_others (absent t ps) (λ e. absurd cc) may
  of_given (literal l) may = of_others (literal l) (λ e. absurd cc) may
  of_given (read b ps) may = of_others (read b ps) (λ e. absurd cc) may
  of_given (operation op ts ks) may = of_others (operation op ts ks) (λ e. absurd cc) may
  of_given (mux c a b) may = of_others (mux c a b) (λ e. absurd cc) may
  of_given (validif c a) may = of_others (validif c a) (λ e. absurd cc) may

-- a term that may be given to a leaf that holds a number is a number of its signedness
pub record GivenNumber (held : ℕ → LeafType) (u : NumTy) (e : Term) : Type 0 where
  pub data_type : NumTy
  pub has : HasType held e (number data_type)
  pub kind : data_type.signed ≡ u.signed

module _ (held : ℕ → LeafType) (e : Term) (some : e ≡ zeros → ⊥) where
  pub given_number : (u : NumTy) → MayGive held e (number u) → GivenNumber held u e
  given_number u may = by may.data_type may.has may.kind
    where
      by : (t : LeafType) → (e ≡ zeros) ⊎ HasType held e t → IsSameKind t (number u) → GivenNumber held u e
      by (number t) (inl z) kind = absurd (some z)
      by (number t) (inr has) kind = record { data_type = t; has = has; kind = kind }
      by a_clock has kind = absurd kind

  -- and one that may be given to a clock leaf is a clock
  pub given_clock : MayGive held e a_clock → HasType held e a_clock
  given_clock may = by may.data_type may.has may.kind
    where
      by : (t : LeafType) → (e ≡ zeros) ⊎ HasType held e t → IsSameKind t a_clock → HasType held e a_clock
      by (number t) has kind = absurd kind
      by a_clock (inl z) kind = absurd (some z)
      by a_clock (inr has) kind = has
