-- What a module costs without its instances' modules, and which these are.
use Rattle.std.specs.Prelude.{◌≡◌, ℕ, List, [], ◌∷◌, ◌++◌, map}
use Rattle.fir_ast.specs.Statements.{Statement, instance, when, Block, done, then}
use Rattle.fir_ast.specs.Circuits.{ModuleTree, CircuitTree}
use Rattle.fir_type_table.specs.working.Saturated.{saturated}
use Rattle.fir_meaning.specs.Costs.{ModuleCosts, cost_of_module, AreCosts}

abbrev pub own_cost : List ModuleTree → ModuleTree → ℕ
own_cost modules m = cost_of_module modules (λ name. 0) m

-- the modules that statements have instances of, by name, in the order of the text
abbrev mutual
  pub instances_in : Statement → List (List ℕ)
  instances_in (instance p n other) = other.name ∷ []
  instances_in (when p c a b) = instances_in_block a ++ instances_in_block b
  instances_in _ = []

  pub instances_in_block : Block → List (List ℕ)
  instances_in_block done = []
  instances_in_block ((then) s b) = instances_in s ++ instances_in_block b

-- by the modules' numbers, each standing still at 2^64 - 1
abbrev pub own_costs : CircuitTree → List ℕ
own_costs c = map (λ m. saturated (own_cost c.modules m)) c.modules

-- by the modules' numbers, what each costs
pub record AreCostsByNumber (c : CircuitTree) (found : List ℕ) : Type 0 where
  pub costs : ModuleCosts
  pub are : AreCosts c costs
  pub each : found ≡ map (λ m. saturated (costs m.named.name)) c.modules
