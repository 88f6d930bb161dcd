-- What gives the leaves of each declaration their values, in the order of the text (FIRRTL spec, "Nodes", "Registers").
use Rattle.std.specs.Prelude.{◌≡◌, ℕ, ◌+◌, List, [], ◌∷◌, ◌++◌, map, Option, option_map}
use Rattle.fir_ast.specs.Statements.{Reset, Statement, wire, register, node, instance, memory, when, Block, done, then}
use Rattle.fir_ast.specs.Circuits.{ModuleTree}
use Rattle.fir_meaning.specs.Components as component
use Rattle.fir_meaning.specs.TypedScopes.{TypedScope}
use Rattle.fir_meaning.specs.TypeGroup.{scope_at}
use Rattle.fir_meaning.specs.Visibility.{Before, with_declaration, opened, reopened, behind, behind_block}
use Rattle.fir_leaf.specs.declared.node.Node.{Node as NodeOfCode}
use Rattle.fir_meaning.specs.working.Leafed.{first_term, terms}
use Rattle.fir_leaf.specs.working.Nodes.{Grows, node_term}
use Rattle.fir_meaning.specs.working.Terms.{Term}
use Rattle.fir_ground.specs.declared.driver.Driver.{Driver}
use Rattle.fir_ground.specs.declared.driver.Driver.TheVariants.{Others, Node, Register}
use Rattle.fir_ground.specs.declared.driver.ResetDriver.{ResetDriver}
use Rattle.fir_ground.specs.declared.ground.Ground.{Ground}
use Rattle.fir_ground.specs.declared.walk.Walk.{Walk}
use Rattle.fir_ground.specs.working.Grounds.{Comes}
use Rattle.fir_ground.specs.working.ResetKinds.{KindMeant, kind_of_reset, kind_seen}
use Rattle.fir_types.specs.working.Notes.{Note}

-- of a reset: its condition, what tells whether it is asynchronous, and its init
pub record ResetMeant : Type 0 where
  pub condition : Term
  pub kind : KindMeant
  pub init : List Term

-- by terms: statements, an instance or a memory; a node; a register, with its clock and its reset
pub data DriverMeant : Type 0 where
  others : DriverMeant
  node_terms : List Term → DriverMeant
  register_terms : Term → Option ResetMeant → DriverMeant

abbrev pub reset_terms : TypedScope → Reset → ResetMeant
reset_terms scope r = record {
  condition = first_term (terms scope r.condition);
  kind = kind_of_reset scope r.condition;
  init = terms scope r.init;
}

module _ (modules : List ModuleTree) where
  -- a register is known in its reset, and not in its clock
  abbrev mutual
    pub drivers_in : Before → Statement → List DriverMeant
    drivers_in before (wire p n begins t) = others ∷ []
    drivers_in before (register p n begins t c r) =
        register_terms (first_term (terms (scope_at modules before) c))
        (option_map (reset_terms (scope_at modules (with_declaration before n (component.register t)))) r) ∷ []
    drivers_in before (node p n e) = node_terms (terms (scope_at modules before) e) ∷ []
    drivers_in before (instance p n other) = others ∷ []
    drivers_in before (memory p n parts) = others ∷ []
    drivers_in before (when p c a b) =
        drivers_in_block (opened before) a ++ drivers_in_block (reopened before (behind_block (opened before) a)) b
    drivers_in before _ = []

    pub drivers_in_block : Before → Block → List DriverMeant
    drivers_in_block before done = []
    drivers_in_block before ((then) s b) = drivers_in before s ++ drivers_in_block (behind before s) b

-- what the code's drivers stand for
abbrev pub reset_seen : List NodeOfCode → ResetDriver → ResetMeant
reset_seen nodes r = record { condition = node_term nodes r.condition; kind = kind_seen r.kind; init = map (node_term nodes) r.init.items }

abbrev pub driver_seen : List NodeOfCode → Driver → DriverMeant
driver_seen nodes Others = others
driver_seen nodes (Node ids) = node_terms (map (node_term nodes) ids.items)
driver_seen nodes (Register r) = register_terms (node_term nodes r.clock) (option_map (reset_seen nodes) r.reset)

abbrev pub drivers_seen : List NodeOfCode → List Driver → List DriverMeant
drivers_seen nodes ds = map (driver_seen nodes) ds

-- the drivers that were added stand for these, whatever nodes are added later
pub record Driven (nodes : List NodeOfCode) (before after : List Driver) (meant : List DriverMeant) : Type 0 where
  pub added : List Driver
  pub is : after ≡ before ++ added
  pub seen : (later : List NodeOfCode) → Grows nodes later → drivers_seen later added ≡ meant

-- a declaration is passed, and this is its driver
pub record Declares (old new : Walk) (was is : ℕ) (driver : Driver) : Type 0 where
  pub counted : is ≡ was + 1
  pub notes : new.notes.now ≡ old.notes.now
  pub nodes : new.nodes.items ≡ old.nodes.items
  pub drivers : new.drivers.items ≡ old.drivers.items ++ driver ∷ []

-- behind the condition and the init of a reset, if there is one
pub record ExpandsReset (ground : Ground) (rest : List Note) (old new : Walk) (reset : Option ResetDriver) (meant : Option ResetMeant) : Type 0 where
  pub comes : Comes ground rest old new
  pub seen : (later : List NodeOfCode) → Grows new.nodes.items later → option_map (reset_seen later) reset ≡ meant
