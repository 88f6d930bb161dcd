-- The types of terms over leaves (FIRRTL spec, "Expressions", "Primitive Operations", "Multiplexers", "Sub-accesses").
use Rattle.std.specs.Prelude.{◌≡◌, ℕ, ◌≤◌, max, List, [], ◌∷◌, false, Ok}
use Rattle.fir_base.specs.Lists.{In}
use Rattle.fir_bits.specs.working.Types.{typed}
use Rattle.fir_bits.specs.declared.types.NumTy.{NumTy}
use Rattle.fir_meaning.specs.Values.{literal_type}
use Rattle.fir_meaning.specs.working.TermReads.{reached}
use Rattle.fir_meaning.specs.working.Terms.{Term, Picks, Terms, zeros, absent, literal, read, operation, mux, validif, no_picks, pick, no_terms, term}
use Rattle.fir_meaning.specs.LeafTypes.{LeafType, number, number_type}

abbrev pub one_bit : LeafType
one_bit = number (record { signed = false; width = 1 })

-- a number of no more than 128 bits, or a clock
abbrev pub IsNarrow : LeafType → Type 0
IsNarrow t = (number_type t).width ≤ 128

-- by what each leaf holds
module _ (held : ℕ → LeafType) where
  -- every leaf that indices may pick holds the same
  abbrev pub AreAlike : List ℕ → LeafType → Type 0
  AreAlike ks t = (k : ℕ) → In ks k → held k ≡ t

  -- what `is invalid` drives stands in no term
  abbrev mutual
    pub HasType : Term → LeafType → Type 0
    HasType zeros t = ⊥
    HasType (absent u ps) t = (number_type t ≡ u) × IsNarrow t × AreIndices ps
    HasType (literal l) t = (t ≡ number (literal_type l)) × IsNarrow t
    HasType (read b ps) t = (held b ≡ t) × IsNarrow t × AreAlike (reached b ps) t × AreIndices ps
    HasType (operation op ts ks) t = (us : List NumTy) × (u : NumTy) × HaveTypes ts us × (typed op us ks ≡ Ok u) × (t ≡ number u)
    HasType (mux c a b) t =
        HasType c one_bit × (u : NumTy) × (v : NumTy) × HasType a (number u) × HasType b (number v) × (u.signed ≡ v.signed)
        × (t ≡ number (record { signed = u.signed; width = max u.width v.width }))
    HasType (validif c a) t = HasType c one_bit × (u : NumTy) × HasType a (number u) × (t ≡ number u)

    pub HaveTypes : Terms → List NumTy → Type 0
    HaveTypes no_terms [] = Unit {0}
    HaveTypes (term t ts) (u ∷ us) = HasType t (number u) × HaveTypes ts us
    HaveTypes _ _ = ⊥

    -- each index is a UInt
    pub AreIndices : Picks → Type 0
    AreIndices no_picks = Unit {0}
    AreIndices (pick ps p i n each) = AreIndices ps × (width : ℕ) × HasType i (number (record { signed = false; width = width }))
