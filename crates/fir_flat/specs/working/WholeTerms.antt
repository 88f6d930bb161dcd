-- Terms of a net whose parts have the types that they are said to have, and read leaves that hold numbers (FIRRTL spec, "Primitive Operations", "Multiplexers").
use Rattle.std.specs.Prelude.{◌≡◌, ℕ, ◌<◌, ◌≤◌, List, [], ◌∷◌, Ok}
use Rattle.std.specs.List.{AllByRecursion}
use Rattle.fir_bits.specs.working.Types.{typed}
use Rattle.fir_bits.specs.declared.types.NumTy.{NumTy}
use Rattle.fir_meaning.specs.LeafTypes.{LeafType, number}
use Rattle.fir_connect.specs.working.LoweredLaws.{types_of}
use Rattle.fir_connect.specs.working.NetTerms.{NetTerm, NetTerms, leaf, mux, no_terms, operation, term, term_type, term_types, value}
use Rattle.fir_net.specs.working.IsNet.{IsChoice}

-- of no more than 128 bits
abbrev pub AreNarrow : List NumTy → Type 0
AreNarrow = AllByRecursion (λ (t : NumTy). t.width ≤ 128)

-- by what each of so many leaves holds; a value is whole where it is a node
module _ (held : ℕ → LeafType) (count : ℕ) where
  abbrev mutual
    pub IsWhole : NetTerm → Type 0
    IsWhole (value v) = Unit {0}
    IsWhole (leaf x) = (x < count) × ((t : NumTy) × (held x ≡ number t))
    IsWhole (operation op ts ks t) =
        AreWhole ts × (AreNarrow (term_types (types_of held) ts) → typed op (term_types (types_of held) ts) ks ≡ Ok t)
    IsWhole (mux c a b t) =
        IsWhole c × IsWhole a × IsWhole b
        × IsChoice t (term_type (types_of held) c ∷ term_type (types_of held) a ∷ term_type (types_of held) b ∷ [])

    pub AreWhole : NetTerms → Type 0
    AreWhole no_terms = Unit {0}
    AreWhole (term t ts) = IsWhole t × AreWhole ts
