-- Leaves whose clock is not clear from the net of their module: it is not that of one leaf, nor an invalid (FIRRTL spec, "Clock Type", "Registers"). They are
-- just those at which E25 stands.
use Rattle.std.specs.Prelude.{◌≡◌, ℕ, ◌<◌, length, true}
use Rattle.fir_ast.specs.Faults.{Fault}
use Rattle.fir_meaning.specs.LeafTypes.{LeafType, a_clock, number}
use Rattle.fir_meaning.specs.working.LeafModules.{LeafModule, Role, register, role_at}
use Rattle.fir_meaning.specs.working.TermReads.{is_picked}
use Rattle.fir_meaning.specs.working.Terms.{Term, absent}
use Rattle.fir_meaning.specs.working.UndrivenLeaves.{AreDriven}
use Rattle.fir_leaf.specs.working.ModuleCircuits.{module_circuit}
use Rattle.fir_leaf_types.specs.working.TypedModules.{IsModuleTyped, held_in}
use Rattle.fir_connect.specs.working.NetRoles.{NetRole, computed, driven, net_role_at}
use Rattle.fir_connect.specs.working.NetRoles as net
use Rattle.fir_connect.specs.working.NetTerms.{NetTerm, leaf, value}
use Rattle.fir_flatten.specs.working.ClockEvidence.{ShowsClockFaultAt}

abbrev pub IsNoLeaf : NetTerm → Type 0
IsNoLeaf (leaf x) = ⊥
IsNoLeaf _ = Unit {0}

-- neither a leaf nor a value
abbrev pub IsChosen : NetTerm → Type 0
IsChosen (value v) = ⊥
IsChosen (leaf x) = ⊥
IsChosen _ = Unit {0}

-- by what the leaf holds, and its role in the net
abbrev pub IsUnclearAs : LeafType → NetRole → Type 0
IsUnclearAs a_clock (driven t) = IsChosen t
IsUnclearAs a_clock (computed t) = IsChosen t
IsUnclearAs (number u) (net.register clock reset t) = IsNoLeaf clock
IsUnclearAs _ _ = ⊥

abbrev pub IsUnclear : LeafModule → ℕ → Type 0
IsUnclear m x = IsUnclearAs (held_in m x) (net_role_at m x)

-- a register's clock that is not there, in a vector without elements, stands behind an index
abbrev pub StandsBehind : Term → Type 0
StandsBehind (absent t ps) = is_picked ps ≡ true
StandsBehind _ = Unit {0}

abbrev pub HasClockBehind : Role → Type 0
HasClockBehind (register clock reset) = StandsBehind clock
HasClockBehind _ = Unit {0}

abbrev pub UnclearShows : Type 0
UnclearShows =
    (m : LeafModule) (x : ℕ) → IsModuleTyped m → AreDriven m → x < length m.leaves → HasClockBehind (role_at m x) → IsUnclear m x
    → (f : Fault) × ShowsClockFaultAt (module_circuit m) x f

abbrev pub FaultIsUnclear : Type 0
FaultIsUnclear =
    (m : LeafModule) (x : ℕ) (f : Fault) → IsModuleTyped m → x < length m.leaves → ShowsClockFaultAt (module_circuit m) x f → IsUnclear m x
