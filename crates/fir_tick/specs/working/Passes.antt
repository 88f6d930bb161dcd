-- What the passes of a tick leave: numbers in the places of inputs, registers and pipes, outputs, and the words after the edges.
use Rattle.std.specs.Prelude.{ℕ, ◌<◌, ◌≤◌, ◌^◌, List, [], ◌∷◌, length, slice_set, nat_eq, if◌then◌else◌, Bool, Option, Some, None}
use Rattle.fir_bits.specs.Values.{BitVector}
use Rattle.fir_net.specs.declared.leaf.ResetKind.{ResetKind}
use Rattle.fir_net.specs.declared.leaf.ResetKind.TheVariants.{Synchronous, Asynchronous}
use Rattle.fir_net.specs.declared.net.FlatNet.{FlatNet}
use Rattle.fir_net.specs.working.Next.{ticks}
use Rattle.fir_work.specs.declared.task.Task.{Task}
use Rattle.fir_work.specs.working.Numbers.{number_at}
use Rattle.fir_work.specs.working.Tasks.{CanRun, worked}
use Rattle.fir_tick.specs.declared.plan.InputPlan.{InputPlan}
use Rattle.fir_tick.specs.declared.plan.OutputPlan.{OutputPlan}
use Rattle.fir_tick.specs.declared.plan.RegisterPlan.{RegisterPlan}
use Rattle.fir_tick.specs.declared.plan.ResetPlan.{ResetPlan}

abbrev pub vector_of : ℕ → ℕ → BitVector
vector_of width number = record { width = width; number = number }

-- a value of no ones
abbrev pub zero_of : ℕ → BitVector
zero_of width = vector_of width 0

abbrev pub output_zero : OutputPlan → BitVector
output_zero p = zero_of p.width

-- numbers of these widths
abbrev pub values_of : List ℕ → List ℕ → List BitVector
values_of [] ns = []
values_of (w ∷ ws) [] = []
values_of (w ∷ ws) (n ∷ ns) = vector_of w n ∷ values_of ws ns

abbrev pub input_leaf : InputPlan → ℕ
input_leaf p = p.leaf

abbrev pub input_width : InputPlan → ℕ
input_width p = p.width

abbrev pub register_leaf : RegisterPlan → ℕ
register_leaf p = p.leaf

abbrev pub register_width : RegisterPlan → ℕ
register_width p = p.width

abbrev pub output_width : OutputPlan → ℕ
output_width p = p.width

-- numbers in their places among these
abbrev pub placed : List ℕ → List ℕ → List ℕ → List ℕ
placed [] vs ns = ns
placed (k ∷ ks) [] ns = ns
placed (k ∷ ks) (v ∷ vs) ns = placed ks vs (slice_set ns k v)

abbrev pub with_inputs : List InputPlan → List ℕ → List ℕ → List ℕ
with_inputs [] vs ns = ns
with_inputs (p ∷ ps) [] ns = ns
with_inputs (p ∷ ps) (v ∷ vs) ns = with_inputs ps vs (slice_set ns p.leaf v)

abbrev pub with_state : List RegisterPlan → List BitVector → List ℕ → List ℕ
with_state [] vs ns = ns
with_state (p ∷ ps) [] ns = ns
with_state (p ∷ ps) (v ∷ vs) ns = with_state ps vs (slice_set ns p.leaf v.number)

-- the place is there
abbrev pub IsWithin : ℕ → InputPlan → Type 0
IsWithin room p = p.leaf < room

abbrev pub IsPlaced : ℕ → RegisterPlan → Type 0
IsPlaced room p = p.leaf < room

-- the output can be shown
pub record IsShown (ns : List ℕ) (p : OutputPlan) : Type 0 where
  pub leaf : p.leaf < length ns
  pub narrow : p.width ≤ 128
  pub below : number_at ns p.leaf < 2 ^ p.width

abbrev pub output_value : List ℕ → OutputPlan → BitVector
output_value ns p = vector_of p.width (number_at ns p.leaf)

-- what drives a register, or the number that it holds
abbrev pub next_number : FlatNet → List ℕ → ℕ → Option Task → ℕ
next_number net ns now None = now
next_number net ns now (Some t) = worked net t ns

-- what a register takes while its reset is 1
abbrev pub init_number : FlatNet → List ℕ → ℕ → ResetKind → Task → ℕ
init_number net ns now Synchronous init = worked net init ns
init_number net ns now Asynchronous init = now

-- what it takes at an edge
abbrev pub taken_number : FlatNet → List ℕ → ℕ → Option ResetPlan → Option Task → ℕ
taken_number net ns now None next = next_number net ns now next
taken_number net ns now (Some r) next = if nat_eq (number_at ns r.condition) 1 then init_number net ns now r.kind r.init else next_number net ns now next

abbrev pub edge_number : FlatNet → List ℕ → Bool → RegisterPlan → ℕ
edge_number net ns edge p = if edge then taken_number net ns (number_at ns p.leaf) p.reset p.next else number_at ns p.leaf

abbrev pub register_value : FlatNet → List ℕ → List ℕ → RegisterPlan → BitVector
register_value net ns named p = vector_of p.width (edge_number net ns (ticks named p.clock) p)

-- the task can be run, and gives a number of that width
pub record Gives (net : FlatNet) (ns : List ℕ) (width : ℕ) (t : Task) : Type 0 where
  pub runs : CanRun net t ns
  pub below : worked net t ns < 2 ^ width

abbrev pub CanBeTaken : FlatNet → List ℕ → ℕ → Option Task → Type 0
CanBeTaken net ns width None = Unit {0}
CanBeTaken net ns width (Some t) = Gives net ns width t

abbrev pub CanReset : FlatNet → List ℕ → ℕ → Option ResetPlan → Type 0
CanReset net ns width None = Unit {0}
CanReset net ns width (Some r) = (r.condition < length ns) × Gives net ns width r.init

-- the register can take an edge
pub record CanTake (net : FlatNet) (ns : List ℕ) (p : RegisterPlan) : Type 0 where
  pub leaf : p.leaf < length ns
  pub narrow : p.width ≤ 128
  pub below : number_at ns p.leaf < 2 ^ p.width
  pub reset : CanReset net ns p.width p.reset
  pub next : CanBeTaken net ns p.width p.next

abbrev pub IsNarrowOutput : OutputPlan → Type 0
IsNarrowOutput p = p.width ≤ 128

abbrev pub IsNarrowRegister : RegisterPlan → Type 0
IsNarrowRegister p = p.width ≤ 128
