-- Which registers of a net have a block: those with a reset, and those that something drives and the drivers of whose clock end at a clock input.
use Rattle.std.specs.Prelude.{◌≡◌, ◌↔◌, ◌⊎◌, ℕ, List, [], ◌∷◌, flat_map, Bool, IsTrue, slice_get, Option, Some, None, IsSome}
use Rattle.fir_net.specs.declared.leaf.Register.{Register}
use Rattle.fir_net.specs.declared.leaf.Role.{Role}
use Rattle.fir_net.specs.declared.leaf.Role.TheVariants as role
use Rattle.fir_net.specs.declared.leaf.Leaf.{Leaf}
use Rattle.fir_net.specs.declared.net.FlatNet.{FlatNet}
use Rattle.fir_net.specs.working.Settled.{clock_driver}

abbrev pub role_register : Role → List Register
role_register (role.Register r) = r ∷ []
role_register _ = []

abbrev pub word_register : Option Leaf → List Register
word_register None = []
word_register (Some l) = role_register l.role

-- the registers that are the words of the state, in order
abbrev pub net_registers : FlatNet → List Register
net_registers net = flat_map (λ k. word_register (slice_get net.leaves k)) net.state

-- the leaf of that number is a clock input, or is driven by a clock leaf whose drivers end at one
pub data EndsAtInput (net : FlatNet) : ℕ → Type 0 where
  input : (k : ℕ) (l : Leaf) → slice_get net.leaves k ≡ Some l → l.role ≡ role.Clock → EndsAtInput net k
  handed_on : (k j : ℕ) (l : Leaf) → slice_get net.leaves k ≡ Some l → clock_driver l.role ≡ Some (Some j) → EndsAtInput net j → EndsAtInput net k

abbrev pub HasBlock : FlatNet → Register → Type 0
HasBlock net r = IsSome r.reset ⊎ (IsSome r.next × EndsAtInput net r.clock)

-- for each register whether it has one
abbrev pub AreMarked : FlatNet → List Register → List Bool → Type 0
AreMarked net [] [] = Unit {0}
AreMarked net (r ∷ rs) (b ∷ bs) = (IsTrue b ↔ HasBlock net r) × AreMarked net rs bs
AreMarked net _ _ = ⊥
