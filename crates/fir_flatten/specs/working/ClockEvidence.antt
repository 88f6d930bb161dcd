-- The places that are told of what is wrong with the clock of a leaf (FIRRTL spec, "Clock Type", "Last Connect Semantics").
use Rattle.std.specs.Prelude.{◌≡◌, ◌⊎◌, ◌↔◌, ℕ, List, [], ◌∷◌, Option, Some, None}
use Rattle.fir_ast.specs.declared.place.Place.{Place}
use Rattle.fir_ast.specs.Faults.{Fault}
use Rattle.fir_meaning.specs.LeafTypes.{LeafType, a_clock}
use Rattle.fir_meaning.specs.SourceClocks.{clock_fault}
use Rattle.fir_meaning.specs.working.Choices.{Live}
use Rattle.fir_meaning.specs.working.LeafCircuits.{LeafCircuit, role_of}
use Rattle.fir_meaning.specs.working.LeafModules.{Role, leaf_at, sink}
use Rattle.fir_meaning.specs.working.LeafNames.{place_of_leaf}
use Rattle.fir_leaf.specs.working.ClockFaults.{IsFirstPlace, ShowsPickedClock, ShowsTwoLive, clock_path, clock_places}
use Rattle.fir_leaf.specs.working.ClockRoots.{lives_of}
use Rattle.fir_flatten.specs.declared.clock_evidence.Evidence.{Evidence}

-- the place of an index, twice
abbrev pub twice : Place → Evidence
twice p = record { one = p; other = p }

-- those of the first two live statements, in the order of the text
abbrev pub first_two : List Live → Option Evidence
first_two (l ∷ m ∷ ls) = Some (record { one = l.place; other = m.place })
first_two _ = None

abbrev pub lives_told : LeafType → Role → List Live → Option Evidence
lives_told a_clock sink ls = first_two ls
lives_told _ _ ls = None

-- the first of the indices that pick the clock; without indices something else
pub record Tells (indices : List Place) (otherwise e : Option Evidence) : Type 0 where
  pub picked : (p : Place) → IsFirstPlace p indices → e ≡ Some (twice p)
  pub unpicked : indices ≡ [] → e ≡ otherwise

-- what is told of a leaf by its number: the first index that picks its clock, or else its first two live statements, or nothing
abbrev pub IsEvidenceOf : LeafCircuit → ℕ → Option Evidence → Type 0
IsEvidenceOf c x =
    Tells (clock_places c x (leaf_at c.leaves x).holds (role_of c x)) (lives_told (leaf_at c.leaves x).holds (role_of c x) (lives_of c x))

-- E25 stands at a leaf
abbrev pub ShowsClockFaultAt : LeafCircuit → ℕ → Fault → Type 0
ShowsClockFaultAt c x f = ShowsPickedClock c x f ⊎ ShowsTwoLive c x f

-- with these places
abbrev pub IsToldBy : LeafCircuit → ℕ → Option Evidence → Fault → Type 0
IsToldBy c x None f = ⊥
IsToldBy c x (Some e) f = f ≡ clock_fault (place_of_leaf c x) (clock_path c x (leaf_at c.leaves x).holds) e.one e.other

abbrev pub EvidenceIsOfFault : Type 0
EvidenceIsOfFault = (c : LeafCircuit) (x : ℕ) (e : Option Evidence) (f : Fault) → IsEvidenceOf c x e → ShowsClockFaultAt c x f ↔ IsToldBy c x e f
