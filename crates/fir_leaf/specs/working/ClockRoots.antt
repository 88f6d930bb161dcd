-- Where a clock leaf has its clock from (FIRRTL spec, "Clock Type", "Connects").
-- A clock leaf with one live statement, or a node, takes what that names. The chain ends at a clock input, or at an invalid, or never ends.
-- No value stands in these definitions.
use Rattle.std.specs.Prelude.{◌≡◌, ℕ, ◌<◌, List, [], ◌∷◌, length, Option, Some, None, ◌⊎◌}
use Rattle.fir_meaning.specs.working.Terms.{Term, no_picks, read, zeros}
use Rattle.fir_meaning.specs.working.Choices.{Live, lives_all}
use Rattle.fir_meaning.specs.working.LeafModules.{Role, computed, leaf_at, sink, source}
use Rattle.fir_meaning.specs.LeafTypes.{a_clock}
use Rattle.fir_meaning.specs.working.LeafCircuits.{LeafCircuit, depth_of, role_of}
use Rattle.fir_meaning.specs.working.LeafStates.{place_in}

pub record IsClockLeaf (c : LeafCircuit) (x : ℕ) : Type 0 where
  pub within : x < length c.leaves
  pub is_clock : (leaf_at c.leaves x).holds ≡ a_clock

-- the statements that are live for a leaf
abbrev pub lives_of : LeafCircuit → ℕ → List Live
lives_of c x = lives_all (depth_of c x) x c.body 0

pub record HasOneLive (c : LeafCircuit) (x : ℕ) (t : Term) : Type 0 where
  pub live : Live
  pub only : lives_of c x ≡ live ∷ []
  pub gives : live.given ≡ t

-- the one term that gives the leaf its clock
abbrev pub GivesClock : LeafCircuit → ℕ → Role → Term → Type 0
GivesClock c x sink t = HasOneLive c x t
GivesClock c x (computed u) t = u ≡ t
GivesClock c x _ t = ⊥

-- each leaf is given the clock of the next, and the last one is named
abbrev pub IsChain : LeafCircuit → ℕ → List ℕ → ℕ → Type 0
IsChain c x [] final = x ≡ final
IsChain c x (y ∷ ys) final = GivesClock c x (role_of c x) (read y no_picks) × IsClockLeaf c y × IsChain c y ys final

-- an input, which is the root, or a leaf that is invalid, which has none
abbrev pub IsEnd : LeafCircuit → ℕ → Role → Option ℕ → Type 0
IsEnd c x source root = root ≡ Some x
IsEnd c x role root = GivesClock c x role zeros × (root ≡ None)

pub record HasRoot (c : LeafCircuit) (x : ℕ) (root : Option ℕ) : Type 0 where
  pub walk : List ℕ
  pub final : ℕ
  pub chain : IsChain c x walk final
  pub ends : IsEnd c final (role_of c final) root

-- the clock of a root
abbrev pub root_clock : LeafCircuit → Option ℕ → Option ℕ
root_clock c None = None
root_clock c (Some x) = place_in c.clock_inputs 0 x

-- so many steps lead from one leaf to another
pub record Follows (c : LeafCircuit) (x n y : ℕ) : Type 0 where
  pub walk : List ℕ
  pub long : length walk ≡ n
  pub chain : IsChain c x walk y

abbrev pub NeverEnds : LeafCircuit → ℕ → Type 0
NeverEnds c x = (n : ℕ) → (y : ℕ) × Follows c x n y

-- a clock leaf has this root, or it has none: its chain ends at an invalid or never ends
abbrev pub IsRootOf : LeafCircuit → ℕ → Option ℕ → Type 0
IsRootOf c x None = HasRoot c x None ⊎ NeverEnds c x
IsRootOf c x (Some y) = HasRoot c x (Some y)
