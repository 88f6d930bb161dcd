-- What a tick does with each pipe: where its word stands, which word it reads, and which clock it follows.
use Rattle.std.specs.Prelude.{◌≡◌, ℕ, ◌+◌, List, [], ◌∷◌, ◌++◌, Bool, false, slice_get, Option, Some, None}
use Rattle.std.specs.Bool.{beq}
use Rattle.std.specs.Option.{option_to_list}
use Rattle.fir_net.specs.declared.array.Pipe.{Pipe}
use Rattle.fir_net.specs.declared.leaf.Role.{Role}
use Rattle.fir_net.specs.declared.leaf.Role.TheVariants as role
use Rattle.fir_net.specs.declared.leaf.Leaf.{Leaf}
use Rattle.fir_net.specs.declared.net.FlatNet.{FlatNet}
use Rattle.fir_tick.specs.declared.pipe_plans.PipePlan.{PipePlan}
use Rattle.fir_tick.specs.working.ArrayReads.{IsWordRead}
use Rattle.fir_tick.specs.working.Roots.{root_at}

-- whether a leaf is a pipe that takes new words, or old ones
abbrev pub is_pipe : Bool → Role → Bool
is_pipe is_new (role.Pipe p) = beq p.is_new is_new
is_pipe is_new _ = false

-- the plan of a pipe, whose leaf has that number and whose word stands at that place of the state
pub record IsPipePlan (net : FlatNet) (roots : List (Option ℕ)) (is_new : Bool) (place k : ℕ) (p : PipePlan) : Type 0 where
  pub leaf : Leaf
  pub pipe : Pipe
  pub at : slice_get net.leaves k ≡ Some leaf
  pub kind : leaf.role ≡ role.Pipe pipe
  pub when : pipe.is_new ≡ is_new
  pub stands : p.place ≡ place
  pub width : p.width ≡ leaf.width
  pub clock : p.clock ≡ root_at roots pipe.clock
  pub read : IsWordRead net pipe.read p.read

-- a leaf that is no such pipe
pub record HasNoPipe (net : FlatNet) (is_new : Bool) (k : ℕ) : Type 0 where
  pub leaf : Leaf
  pub at : slice_get net.leaves k ≡ Some leaf
  pub other : is_pipe is_new leaf.role ≡ false

abbrev pub IsPipeWork : FlatNet → List (Option ℕ) → Bool → ℕ → ℕ → Option PipePlan → Type 0
IsPipeWork net roots is_new place k None = HasNoPipe net is_new k
IsPipeWork net roots is_new place k (Some p) = IsPipePlan net roots is_new place k p

-- the plans of the pipes among these leaves, whose words stand from that place on
abbrev pub ArePipePlans : FlatNet → List (Option ℕ) → Bool → ℕ → List ℕ → List PipePlan → Type 0
ArePipePlans net roots is_new place [] plans = plans ≡ []
ArePipePlans net roots is_new place (k ∷ ks) plans =
    (own : Option PipePlan) × (rest : List PipePlan) × IsPipeWork net roots is_new place k own × (plans ≡ option_to_list own ++ rest) × ArePipePlans net roots is_new (place + 1) ks rest
