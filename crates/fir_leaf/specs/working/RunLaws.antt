-- Laws about leaf circuits over ticks, and about where their clocks come from.
use Rattle.std.specs.Prelude.{◌≡◌, ℕ, ◌<◌, List, ◌∷◌, length, Option, Some}
use Rattle.fir_base.specs.Lists.{In}
use Rattle.fir_base.specs.Ticks.{Tick, FitEach}
use Rattle.fir_bits.specs.Values.{IsBitVector}
use Rattle.fir_ast.specs.declared.statements.ReadUnderWrite.{ReadUnderWrite}
use Rattle.fir_meaning.specs.working.Terms.{Term, no_picks, read}
use Rattle.fir_meaning.specs.working.TermValues.{Env, eval}
use Rattle.fir_meaning.specs.working.Choices.{Live}
use Rattle.fir_meaning.specs.working.LeafModules.{LeafReset, Reading, Writing, leaf_at, pipe, register}
use Rattle.fir_meaning.specs.LeafTypes.{LeafType, a_clock, number}
use Rattle.fir_meaning.specs.working.LeafCircuits.{LeafCircuit, role_of, type_of_leaf}
use Rattle.fir_meaning.specs.working.LeafStates.{array_of, array_width, shape}
use Rattle.fir_meaning.specs.working.LeafSettled.{Settled}
use Rattle.fir_meaning.specs.working.LeafNext.{next}
use Rattle.fir_meaning.specs.working.LeafAllows.{AreTicks, HasRun, One}
use Rattle.fir_leaf.specs.working.ClockRoots.{GivesClock, HasRoot, IsChain, IsClockLeaf, IsRootOf, NeverEnds, lives_of, root_clock}

-- the state after a tick has the circuit's shape
abbrev pub KeepsShape : LeafCircuit → Type 0
KeepsShape c = (state : List ℕ) (tick : Tick) (env : Env) → Settled c state tick env → FitEach (shape c).state (next c state tick env)

abbrev pub IsNumber : LeafType → Type 0
IsNumber (number t) = Unit {0}
IsNumber a_clock = ⊥

-- words, pipes and writes are of leaves that are numbers, and of one width with the arrays that they name
pub record IsFormed (c : LeafCircuit) : Type 0 where
  pub words : (x : ℕ) → In c.words x → (x < length c.leaves) × IsNumber (leaf_at c.leaves x).holds
  pub pipes : (x : ℕ) (r : Reading) (k : ℕ) (under : ReadUnderWrite) → role_of c x ≡ pipe r k under → array_width c r.array ≡ (type_of_leaf c x).width
  pub writings : (k : ℕ) (w : Writing) → In (array_of c k).writings w
      → (w.given < length c.leaves) × IsNumber (leaf_at c.leaves w.given).holds × ((type_of_leaf c w.given).width ≡ array_width c k)

-- what live statements and inits give are values of their widths
pub record TermsFit (c : LeafCircuit) (env : Env) : Type 0 where
  pub given : (x : ℕ) (l : Live) → In (lives_of c x) l → IsBitVector (eval (type_of_leaf c) env.numbers l.given).value
  pub inits : (x : ℕ) (clock : Term) (r : LeafReset) → role_of c x ≡ register clock (Some r)
      → IsBitVector (eval (type_of_leaf c) env.numbers r.init).value

-- where live statements give values of their widths, the state keeps its shape
abbrev pub FormedKeepsShape : Type 0
FormedKeepsShape =
    (c : LeafCircuit) → IsFormed c → ((state : List ℕ) (tick : Tick) (env : Env) → Settled c state tick env → TermsFit c env) → KeepsShape c

-- where one choice of values is settled at each tick, there is exactly one run of every length from each state of the shape
abbrev pub OneHasRun : Type 0
OneHasRun =
    (c : LeafCircuit) → One c → KeepsShape c → (state : List ℕ) (ticks : List Tick) → FitEach (shape c).state state → AreTicks c ticks
    → HasRun c state ticks

-- in all settled values a clock leaf has the clock of its root: no value, state or tick moves it
abbrev pub RootIsClock : Type 0
RootIsClock =
    (c : LeafCircuit) (state : List ℕ) (tick : Tick) (env : Env) (x : ℕ) (root : Option ℕ)
    → Settled c state tick env → IsClockLeaf c x → HasRoot c x root → env.clocks x ≡ root_clock c root

-- a leaf has one root at most
abbrev pub HasOneRoot : Type 0
HasOneRoot = (c : LeafCircuit) (x : ℕ) (r s : Option ℕ) → HasRoot c x r → HasRoot c x s → r ≡ s

-- a chain that comes back never ends
abbrev pub RingNeverEnds : Type 0
RingNeverEnds = (c : LeafCircuit) (x y : ℕ) (ys : List ℕ) → IsChain c x (y ∷ ys) x → NeverEnds c x

-- a leaf that is given the clock of another has its root
abbrev pub RootBefore : Type 0
RootBefore =
    (c : LeafCircuit) (x y : ℕ) (root : Option ℕ)
    → GivesClock c x (role_of c x) (read y no_picks) → IsClockLeaf c y → IsRootOf c y root → IsRootOf c x root

-- a leaf has one answer at most: a root, or none
abbrev pub OneRootOf : Type 0
OneRootOf = (c : LeafCircuit) (x : ℕ) (r s : Option ℕ) → IsRootOf c x r → IsRootOf c x s → r ≡ s
