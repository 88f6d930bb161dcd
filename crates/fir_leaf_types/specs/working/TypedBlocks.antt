-- The types of what statements drive over leaves (FIRRTL spec, "Connects", "Conditionals").
use Rattle.std.specs.Prelude.{◌≡◌, ◌⊎◌, ℕ}
use Rattle.fir_meaning.specs.working.Terms.{Term, zeros}
use Rattle.fir_meaning.specs.working.TermReads.{reached}
use Rattle.fir_meaning.specs.working.LeafBlocks.{LeafStatement, LeafBlock, drive, when, instance, done, then}
use Rattle.fir_meaning.specs.LeafTypes.{LeafType, number, a_clock}
use Rattle.fir_leaf_types.specs.working.TypedTerms.{AreAlike, AreIndices, HasType, one_bit}

-- numbers of one signedness, or clocks
abbrev pub IsSameKind : LeafType → LeafType → Type 0
IsSameKind (number t) (number u) = t.signed ≡ u.signed
IsSameKind a_clock a_clock = Unit {0}
IsSameKind _ _ = ⊥

module _ (held : ℕ → LeafType) where
  -- what may be given to a leaf of a type: what `is invalid` drives, or what has a type of its kind, whatever the width
  pub record MayGive (e : Term) (t : LeafType) : Type 0 where
    pub data_type : LeafType
    pub has : (e ≡ zeros) ⊎ HasType held e data_type
    pub kind : IsSameKind data_type t

  abbrev mutual
    pub IsTyped : LeafStatement → Type 0
    IsTyped (drive p b ps e) = MayGive e (held b) × AreAlike held (reached b ps) (held b) × AreIndices held ps
    IsTyped (when p c a b) = HasType held c one_bit × AreTyped a × AreTyped b
    IsTyped (instance i) = Unit {0}

    pub AreTyped : LeafBlock → Type 0
    AreTyped done = Unit {0}
    AreTyped ((then) s b) = IsTyped s × AreTyped b
