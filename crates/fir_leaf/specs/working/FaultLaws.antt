-- Laws about the faults of leaf circuits: chains of clocks are walks of dependence, and where no E25 stands a clock comes from one term.
use Rattle.std.specs.Prelude.{◌≡◌, ℕ, List, ◌∷◌, IsTrue}
use Rattle.fir_base.specs.Lists.{In}
use Rattle.fir_ast.specs.Faults.{Fault}
use Rattle.fir_meaning.specs.working.Terms.{Term, absent, no_picks, read, zeros}
use Rattle.fir_meaning.specs.working.TermReads.{is_picked}
use Rattle.fir_meaning.specs.working.Choices.{Choice, Live}
use Rattle.fir_meaning.specs.working.UndrivenChoices.{IsUndriven}
use Rattle.fir_meaning.specs.working.LeafModules.{Role, computed, sink}
use Rattle.fir_meaning.specs.working.LeafCircuits.{LeafCircuit, depth_of, role_of}
use Rattle.fir_leaf.specs.working.ClockRoots.{GivesClock, IsChain, IsClockLeaf, lives_of}
use Rattle.fir_meaning.specs.working.CircuitDependence.{IsWalk}
use Rattle.fir_leaf.specs.working.ClockFaults.{ShowsClockFault}
use Rattle.fir_meaning.specs.working.LoopFaults.{ShowsLoop}

-- a chain of clocks is a walk of dependence
abbrev pub ChainIsWalk : Type 0
ChainIsWalk = (c : LeafCircuit) (x : ℕ) (ys : List ℕ) (final : ℕ) → IsChain c x ys final → IsWalk c x ys final

-- where some walk of dependence comes back, E28 stands
abbrev pub ClosedWalkShowsLoop : Type 0
ClosedWalkShowsLoop = (c : LeafCircuit) (x y : ℕ) (ys : List ℕ) → IsWalk c x (y ∷ ys) x → (f : Fault) × ShowsLoop c f

-- so it does where a chain of clocks comes back
abbrev pub RingShowsLoop : Type 0
RingShowsLoop = (c : LeafCircuit) (x y : ℕ) (ys : List ℕ) → IsChain c x (y ∷ ys) x → (f : Fault) × ShowsLoop c f

-- what may give a clock: an invalid, a leaf, or one that is not there, behind an index
abbrev pub IsClockTerm : Term → Type 0
IsClockTerm zeros = Unit {0}
IsClockTerm (read y ps) = Unit {0}
IsClockTerm (absent t ps) = IsTrue (is_picked ps)
IsClockTerm _ = ⊥

-- an invalid, or a leaf without indices
abbrev pub IsPlainClock : Term → Type 0
IsPlainClock zeros = Unit {0}
IsPlainClock (read y no_picks) = Unit {0}
IsPlainClock _ = ⊥

-- by its role: a sink that each choice drives, or a node, to which terms for clocks are given
abbrev pub IsGiven : LeafCircuit → ℕ → Role → Type 0
IsGiven c x sink = ((f : Choice) → IsUndriven (depth_of c x) x c.body f → ⊥) × ((l : Live) → In (lives_of c x) l → IsClockTerm l.given)
IsGiven c x (computed t) = IsClockTerm t
IsGiven c x _ = ⊥

-- exactly one term gives the leaf its clock, and it names one leaf or is an invalid
pub record HasStep (c : LeafCircuit) (x : ℕ) : Type 0 where
  pub given : Term
  pub gives : GivesClock c x (role_of c x) given
  pub only : (other : Term) → GivesClock c x (role_of c x) other → other ≡ given
  pub plain : IsPlainClock given

-- where no E25 stands, a clock leaf that is given a clock under every choice is given it by one term
abbrev pub FaultlessHasStep : Type 0
FaultlessHasStep =
    (c : LeafCircuit) (x : ℕ) → ((f : Fault) → ShowsClockFault c f → ⊥) → IsClockLeaf c x → IsGiven c x (role_of c x) → HasStep c x
