-- The ports of a memory by the clocks that they have (FIRRTL spec, "Memories").
use Rattle.std.specs.Prelude.{◌≡◌, ℕ, List, ◌∷◌, ◌++◌, Option, Some, None, slice_get}
use Rattle.fir_base.specs.Lists.{In}
use Rattle.fir_memory_clocks.specs.declared.two_clocks.TwoClocks.{TwoClocks}

module _ (HasClock : ℕ → ℕ → Type 0) (ports : List ℕ) where
  -- one port is the first that has a clock, and the other the first whose clock differs from that
  pub record AreTwoClocks (clock other_clock : ℕ) : Type 0 where
    pub before : List ℕ
    pub one : ℕ
    pub between : List ℕ
    pub other : ℕ
    pub after : List ℕ
    pub ports_are : ports ≡ before ++ one ∷ between ++ other ∷ after
    pub none_before : (x root : ℕ) → In before x → HasClock x root → ⊥
    pub one_has : HasClock one clock
    pub same_between : (x root : ℕ) → In between x → HasClock x root → root ≡ clock
    pub other_has : HasClock other other_clock
    pub differ : clock ≡ other_clock → ⊥

  -- all that have a clock have the same
  abbrev pub HaveOneClock : Type 0
  HaveOneClock = (x y one other : ℕ) → In ports x → In ports y → HasClock x one → HasClock y other → one ≡ other

  abbrev pub IsFirstPair : Option TwoClocks → Type 0
  IsFirstPair None = HaveOneClock
  IsFirstPair (Some t) = AreTwoClocks t.clock t.other_clock

-- by the roots of leaves
abbrev pub HasRootIn : List (Option ℕ) → ℕ → ℕ → Type 0
HasRootIn roots x root = slice_get roots x ≡ Some (Some root)

-- of two ports that both have clocks, where these differ
abbrev pub IsDiffering : Option ℕ → Option ℕ → Option TwoClocks → Type 0
IsDiffering one other None = (a b : ℕ) → one ≡ Some a → other ≡ Some b → a ≡ b
IsDiffering one other (Some t) = (one ≡ Some t.clock) × (other ≡ Some t.other_clock) × (t.clock ≡ t.other_clock → ⊥)

abbrev pub first_of : Option ℕ → Option ℕ → Option ℕ
first_of None other = other
first_of (Some x) other = Some x
