-- The steps of a tick: each gives what one leaf or node is worth, by a task or by a word of the state; they stand in an order of the net, in which some need
-- none.
use Rattle.std.specs.Prelude.{◌≡◌, ℕ, ◌+◌, ◌≤◌, List, [], ◌∷◌, ◌++◌, length, Option, Some, None}
use Rattle.std.specs.List.{AllByRecursion}
use Rattle.std.specs.Option.{option_to_list}
use Rattle.fir_base.specs.Ticks.{FitEach}
use Rattle.fir_bits.specs.declared.values.Num.{Num}
use Rattle.fir_net.specs.declared.array.ArrayRead.{ArrayRead}
use Rattle.fir_net.specs.declared.reads.Read.{Read}
use Rattle.fir_net.specs.declared.leaf.ResetKind.{ResetKind}
use Rattle.fir_net.specs.declared.leaf.ResetKind.TheVariants.{Synchronous, Asynchronous}
use Rattle.fir_net.specs.declared.leaf.Reset.{Reset}
use Rattle.fir_net.specs.declared.leaf.Role.{Role}
use Rattle.fir_net.specs.declared.leaf.Role.TheVariants as role
use Rattle.fir_net.specs.declared.net.FlatNet.{FlatNet}
use Rattle.fir_net.specs.working.Dependence.{reads_of}
use Rattle.fir_net.specs.working.IsOrder.{IsOrder}
use Rattle.fir_net.specs.working.Settled.{shape}
use Rattle.fir_work.specs.declared.task.Task.{Task}
use Rattle.fir_work.specs.working.Numbers.{Fits, number_at, place, value_in}
use Rattle.fir_work.specs.working.Tasks.{CanRun, IsFitTask, IsShownTask, worked}
use Rattle.fir_tick.specs.declared.steps.Step.{Step}
use Rattle.fir_tick.specs.declared.steps.StepWork.{StepWork}
use Rattle.fir_tick.specs.declared.steps.StepWork.TheVariants as work
use Rattle.fir_tick.specs.working.ArrayReads.{word_found, IsWordRead}
use Rattle.fir_tick.specs.working.Settling.{worth}

-- what a step gives from these words of the state and these numbers
abbrev pub given : FlatNet → List ℕ → StepWork → List ℕ → ℕ
given net state (work.Task t) ns = worked net t ns
given net state (work.Word r) ns = word_found r state ns

-- it can be taken where the state has so many words
abbrev pub CanGive : FlatNet → ℕ → StepWork → List ℕ → Type 0
CanGive net room (work.Task t) ns = CanRun net t ns
CanGive net room (work.Word r) ns = r.span.begin + r.span.words ≤ room

-- the step gives what a leaf or a node is worth, wherever what that hangs on has its width
pub record IsStepOf (net : FlatNet) (v : Read) (s : Step) : Type 0 where
  pub is : s.place ≡ place net v
  pub runs : (state ns : List ℕ) → FitEach (shape net).state state → AllByRecursion (Fits net ns) (reads_of net v) → CanGive net (length state) s.work ns
  pub gives : (state ns : List ℕ) → AllByRecursion (Fits net ns) (reads_of net v) → given net state s.work ns ≡ worth net state ns (value_in net ns) v

-- it is worth what was put there
pub record Stays (net : FlatNet) (v : Read) : Type 0 where
  pub stays : (state ns : List ℕ) (value : Read → Num) → worth net state ns value v ≡ number_at ns (place net v)

abbrev pub IsWorkOf : FlatNet → Read → Option Step → Type 0
IsWorkOf net v None = Stays net v
IsWorkOf net v (Some s) = IsStepOf net v s

abbrev pub AreSteps : FlatNet → List Read → List Step → Type 0
AreSteps net [] steps = steps ≡ []
AreSteps net (v ∷ order) steps = (work : Option Step) × (rest : List Step) × IsWorkOf net v work × (steps ≡ option_to_list work ++ rest) × AreSteps net order rest

-- the steps of an order of the net
pub record IsStepped (net : FlatNet) (steps : List Step) : Type 0 where
  pub order : List Read
  pub ordered : IsOrder net order
  pub are : AreSteps net order steps

-- the work of a leaf, by its role
abbrev pub IsKindWork : FlatNet → ℕ → ℕ → ResetKind → Read → Read → Option Task → Type 0
IsKindWork net leaf width Asynchronous condition init (Some t) = IsShownTask net leaf width condition init t
IsKindWork net leaf width Asynchronous condition init None = ⊥
IsKindWork net leaf width Synchronous condition init task = task ≡ None

abbrev pub IsRegisterWork : FlatNet → ℕ → ℕ → Option Reset → Option Task → Type 0
IsRegisterWork net leaf width None task = task ≡ None
IsRegisterWork net leaf width (Some r) task = IsKindWork net leaf width r.kind r.condition r.init task

abbrev pub IsFitWork : FlatNet → Read → ℕ → Option Task → Type 0
IsFitWork net r width None = ⊥
IsFitWork net r width (Some t) = IsFitTask net r width t

-- of this task, or none
abbrev pub IsTaskWork : (Option Task → Type 0) → Option StepWork → Type 0
IsTaskWork Is None = Is None
IsTaskWork Is (Some (work.Task t)) = Is (Some t)
IsTaskWork Is (Some (work.Word r)) = ⊥

abbrev pub IsReadWork : FlatNet → ArrayRead → Option StepWork → Type 0
IsReadWork net a None = ⊥
IsReadWork net a (Some (work.Task t)) = ⊥
IsReadWork net a (Some (work.Word r)) = IsWordRead net a r

abbrev pub IsLeafWork : FlatNet → ℕ → ℕ → Role → Option StepWork → Type 0
IsLeafWork net leaf width (role.Output r) w = IsTaskWork (IsFitWork net r width) w
IsLeafWork net leaf width (role.Wire r) w = IsTaskWork (IsFitWork net r width) w
IsLeafWork net leaf width (role.Register r) w = IsTaskWork (IsRegisterWork net leaf width r.reset) w
IsLeafWork net leaf width (role.Reading r) w = IsReadWork net r w
IsLeafWork net leaf width _ w = w ≡ None
