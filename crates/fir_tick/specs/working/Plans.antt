-- What a tick does with each leaf that has bits: the place of each among the leaves, and what a register or a pipe takes at which clock.
use Rattle.std.specs.Prelude.{◌≡◌, ℕ, ◌+◌, ◌≤◌, List, [], ◌∷◌, ◌++◌, nat_eq, true, false, if◌then◌else◌, slice_get, Option, Some, None}
use Rattle.std.specs.List.{AllZip}
use Rattle.fir_net.specs.declared.reads.Read.{Read}
use Rattle.fir_net.specs.declared.leaf.Reset.{Reset}
use Rattle.fir_net.specs.declared.leaf.Register.{Register}
use Rattle.fir_net.specs.declared.leaf.Role.{Role}
use Rattle.fir_net.specs.declared.leaf.Role.TheVariants as role
use Rattle.fir_net.specs.declared.leaf.Leaf.{Leaf}
use Rattle.fir_net.specs.declared.net.FlatNet.{FlatNet}
use Rattle.fir_net.specs.working.Settled.{registers}
use Rattle.fir_work.specs.declared.task.Task.{Task}
use Rattle.fir_work.specs.working.Numbers.{place}
use Rattle.fir_work.specs.working.Tasks.{IsFitTask}
use Rattle.fir_tick.specs.declared.plan.InputPlan.{InputPlan}
use Rattle.fir_tick.specs.declared.plan.OutputPlan.{OutputPlan}
use Rattle.fir_tick.specs.declared.plan.RegisterPlan.{RegisterPlan}
use Rattle.fir_tick.specs.declared.plan.ResetPlan.{ResetPlan}
use Rattle.fir_tick.specs.declared.plan.Plan.{Plan}
use Rattle.fir_tick.specs.working.PipePlans.{ArePipePlans}
use Rattle.fir_tick.specs.working.Roots.{root_at, AreRoots}
use Rattle.fir_tick.specs.working.WritePlans.{array_writes, IsWritePlan}

-- a leaf of no bits is in no list of values
abbrev pub planned : {P : Type 0} → ℕ → P → List P
planned width p = if nat_eq width 0 then [] else (p ∷ [])

abbrev pub input_plan : Role → ℕ → ℕ → List InputPlan
input_plan role.Input width k = planned width (record { leaf = k; width = width })
input_plan _ width k = []

abbrev pub output_plan : Role → ℕ → ℕ → List OutputPlan
output_plan (role.Output r) width k = planned width (record { leaf = k; width = width })
output_plan _ width k = []

-- the plans of the leaves, which are numbered from k on
abbrev pub plans_by : {P : Type 0} → (Role → ℕ → ℕ → List P) → ℕ → List Leaf → List P
plans_by plan k [] = []
plans_by plan k (l ∷ ls) = plan l.role l.width k ++ plans_by plan (k + 1) ls

-- what gives that which drives a register of that width
abbrev pub IsNextPlan : FlatNet → ℕ → Option Read → Option Task → Type 0
IsNextPlan net width None None = Unit {0}
IsNextPlan net width None (Some t) = ⊥
IsNextPlan net width (Some r) None = ⊥
IsNextPlan net width (Some r) (Some t) = IsFitTask net r width t

pub record IsResetOf (net : FlatNet) (width : ℕ) (r : Reset) (p : ResetPlan) : Type 0 where
  pub kind : p.kind ≡ r.kind
  pub condition : p.condition ≡ place net r.condition
  pub init : IsFitTask net r.init width p.init

abbrev pub IsResetPlan : FlatNet → ℕ → Option Reset → Option ResetPlan → Type 0
IsResetPlan net width None None = Unit {0}
IsResetPlan net width None (Some p) = ⊥
IsResetPlan net width (Some r) None = ⊥
IsResetPlan net width (Some r) (Some p) = IsResetOf net width r p

-- it takes what that register takes
pub record TakesAs (net : FlatNet) (roots : List (Option ℕ)) (register : Register) (p : RegisterPlan) : Type 0 where
  pub clock : p.clock ≡ root_at roots register.clock
  pub reset : IsResetPlan net p.width register.reset p.reset
  pub next : IsNextPlan net p.width register.next p.next

-- it takes nothing: what a pipe takes is read of the state
pub record TakesNothing (p : RegisterPlan) : Type 0 where
  pub clock : p.clock ≡ None
  pub reset : p.reset ≡ None
  pub next : p.next ≡ None

abbrev pub TakesBy : FlatNet → List (Option ℕ) → RegisterPlan → Role → Type 0
TakesBy net roots p (role.Register d) = TakesAs net roots d p
TakesBy net roots p (role.Pipe q) = TakesNothing p
TakesBy net roots p _ = ⊥

-- the plan of the register or the pipe whose leaf has that number
pub record IsRegisterPlan (net : FlatNet) (roots : List (Option ℕ)) (p : RegisterPlan) (k : ℕ) : Type 0 where
  pub leaf : Leaf
  pub at : slice_get net.leaves k ≡ Some leaf
  pub place : p.leaf ≡ k
  pub width : leaf.width ≡ p.width
  pub narrow : p.width ≤ 128
  pub takes : TakesBy net roots p leaf.role

pub record IsPlan (net : FlatNet) (p : Plan) : Type 0 where
  pub inputs : p.inputs.items ≡ plans_by input_plan 0 net.leaves
  pub outputs : p.outputs.items ≡ plans_by output_plan 0 net.leaves
  pub roots : List (Option ℕ)
  pub are_roots : AreRoots net roots
  pub registers : AllZip (IsRegisterPlan net roots) p.registers.items (registers net)
  pub before_writes : ArePipePlans net roots false 0 net.state p.before_writes.items
  pub writes : AllZip (IsWritePlan net roots) p.writes.items (array_writes net)
  pub after_writes : ArePipePlans net roots true 0 net.state p.after_writes.items
