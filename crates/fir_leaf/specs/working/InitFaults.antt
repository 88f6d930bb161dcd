-- E27: what gives an asynchronous register its init reaches an input or state (FIRRTL spec, "Registers").
-- It stands at the register's declaration. The walk of dependence begins with a leaf that the init reads, and ends with an input or a leaf that shows state; no
-- leaf stands on it twice.
use Rattle.std.specs.Prelude.{◌≡◌, ℕ, ◌<◌, List, ◌∷◌, map, length, Bool, true, false, Some, IsTrue}
use Rattle.fir_base.specs.Lists.{In, Distinct}
use Rattle.fir_ast.specs.Faults.{Fault}
use Rattle.fir_meaning.specs.SourceInits.{init_fault}
use Rattle.fir_meaning.specs.working.Terms.{Term}
use Rattle.fir_meaning.specs.working.TermReads.{reads}
use Rattle.fir_meaning.specs.working.LeafModules.{LeafReset, Role, computed, register, sink}
use Rattle.fir_meaning.specs.working.LeafCircuits.{LeafCircuit, role_of}
use Rattle.fir_meaning.specs.working.LeafNames.{path_of_leaf, place_of_leaf}
use Rattle.fir_meaning.specs.working.CircuitDependence.{IsWalk}

-- an input, or what shows state: a register, or what a memory gives
abbrev pub ends_init : Role → Bool
ends_init sink = false
ends_init (computed t) = false
ends_init _ = true

pub record ShowsAsyncInit (c : LeafCircuit) (f : Fault) : Type 0 where
  pub leaf : ℕ
  pub within : leaf < length c.leaves
  pub clock : Term
  pub reset : LeafReset
  pub is_register : role_of c leaf ≡ register clock (Some reset)
  pub is_async : IsTrue reset.is_async
  pub first : ℕ
  pub rest : List ℕ
  pub final : ℕ
  pub read : In (reads reset.init) first
  pub walk : IsWalk c first rest final
  pub final_within : final < length c.leaves
  pub ends : IsTrue (ends_init (role_of c final))
  pub distinct : Distinct (first ∷ rest)
  pub is : f ≡ init_fault (place_of_leaf c leaf) (map (path_of_leaf c) (first ∷ rest))
