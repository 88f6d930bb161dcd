-- E25: a clock leaf with two live statements, or a clock that a dynamic index picks (FIRRTL spec, "Clock Type", "Last Connect Semantics").
-- It stands at the leaf's declaration; for a register's own clock at the register, by its path. The evidence is the first in the text of the dynamic indices
-- that pick a clock in the live statements, in the node or in the register's clock, its place twice, or else the first two live statements, of which an
-- invalid is one.
use Rattle.std.specs.Prelude.{◌≡◌, ℕ, ◌<◌, List, [], ◌∷◌, ◌++◌, flat_map, length, false, ◌⊎◌}
use Rattle.fir_base.specs.Lists.{In}
use Rattle.fir_ast.specs.declared.place.Place.{Place}
use Rattle.fir_ast.specs.Faults.{Fault}
use Rattle.fir_meaning.specs.SourceClocks.{clock_fault}
use Rattle.fir_meaning.specs.Lack.{is_before}
use Rattle.fir_meaning.specs.working.Terms.{Term, Picks, absent, no_picks, pick, read}
use Rattle.fir_meaning.specs.working.Choices.{Live}
use Rattle.fir_meaning.specs.LeafTypes.{LeafType, a_clock, number}
use Rattle.fir_meaning.specs.working.LeafModules.{Role, computed, leaf_at, register, sink}
use Rattle.fir_meaning.specs.working.LeafCircuits.{LeafCircuit, role_of}
use Rattle.fir_meaning.specs.working.LeafNames.{component_of_leaf, path_of_leaf, place_of_leaf}
use Rattle.fir_leaf.specs.working.ClockRoots.{lives_of}

-- where the indices stand
abbrev pub index_places : Picks → List Place
index_places no_picks = []
index_places (pick ps p i n each) = index_places ps ++ p ∷ []

-- where the indices stand that pick the leaf that a term gives, also in a vector without elements
abbrev pub picking_places : Term → List Place
picking_places (read b ps) = index_places ps
picking_places (absent t ps) = index_places ps
picking_places _ = []

-- where the indices of a live statement stand, of the leaf's side and of the other
abbrev pub live_places : Live → List Place
live_places l = index_places l.through ++ picking_places l.given

-- where the indices stand that pick a clock for a leaf, by what it holds and its role
abbrev pub clock_places : LeafCircuit → ℕ → LeafType → Role → List Place
clock_places c x a_clock sink = flat_map live_places (lives_of c x)
clock_places c x a_clock (computed t) = picking_places t
clock_places c x holds (register clock reset) = picking_places clock
clock_places c x _ _ = []

-- a clock leaf is told by its path, and a register by its own
abbrev pub clock_path : LeafCircuit → ℕ → LeafType → List ℕ
clock_path c x a_clock = path_of_leaf c x
clock_path c x (number t) = component_of_leaf c x

-- one of the places, before which none of them stands
pub record IsFirstPlace (p : Place) (ps : List Place) : Type 0 where
  pub among : In ps p
  pub none_before : (q : Place) → In ps q → is_before q p ≡ false

pub record ShowsPickedClock (c : LeafCircuit) (x : ℕ) (f : Fault) : Type 0 where
  pub index : Place
  pub first : IsFirstPlace index (clock_places c x (leaf_at c.leaves x).holds (role_of c x))
  pub is : f ≡ clock_fault (place_of_leaf c x) (clock_path c x (leaf_at c.leaves x).holds) index index

pub record ShowsTwoLive (c : LeafCircuit) (x : ℕ) (f : Fault) : Type 0 where
  pub is_clock : (leaf_at c.leaves x).holds ≡ a_clock
  pub is_sink : role_of c x ≡ sink
  pub none_picks : flat_map live_places (lives_of c x) ≡ []
  pub first : Live
  pub second : Live
  pub rest : List Live
  pub lives : lives_of c x ≡ first ∷ second ∷ rest
  pub is : f ≡ clock_fault (place_of_leaf c x) (path_of_leaf c x) first.place second.place

-- one of the two at some leaf
pub record ShowsClockFault (c : LeafCircuit) (f : Fault) : Type 0 where
  pub leaf : ℕ
  pub within : leaf < length c.leaves
  pub shows : ShowsPickedClock c leaf f ⊎ ShowsTwoLive c leaf f
