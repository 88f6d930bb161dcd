-- What meets in a circuit, in the order of the text: the two sides of each connect, and each node and its expression. Its joins are those of all that meets,
-- and of instances.
use Rattle.std.specs.Prelude.{ℕ, List, [], ◌∷◌, ◌++◌, flat_map}
use Rattle.fir_ast.specs.Expressions.{Expression}
use Rattle.fir_ast.specs.Statements.{PlacedName, SinkReference, Statement, node, instance, when, connect, partial_connect, Block, done, then}
use Rattle.fir_ast.specs.Circuits.{CircuitTree}
use Rattle.fir_meaning.specs.ConnectPairs.{pairs, partial_pairs}
use Rattle.fir_meaning.specs.Visibility.{Before, opened, reopened, behind, behind_block, behind_ports, at_head}
use Rattle.fir_meaning.specs.SizedScopes.{sink_expression}
use Rattle.fir_meaning.specs.ResetJoins.{Join, ResetModule, reset_modules, connect_joins, node_joins, instance_joins, type_at_place, numbered_module}

pub data Sides : Type 0 where
  connected : SinkReference → Expression → Sides
  partly_connected : SinkReference → Expression → Sides
  named_by : PlacedName → Expression → Sides
  instanced : PlacedName → List ℕ → Sides

-- in a module, at a place
pub record Meeting : Type 0 where
  pub inside : ResetModule
  pub before : Before
  pub sides : Sides

abbrev pub joins_of : Meeting → List Join
joins_of m = of_sides m.sides
  where
    of_sides : Sides → List Join
    of_sides (connected sink e) =
        connect_joins pairs m.inside m.before sink e (type_at_place m.inside m.before (sink_expression sink)) (type_at_place m.inside m.before e)
    of_sides (partly_connected sink e) =
        connect_joins partial_pairs m.inside m.before sink e (type_at_place m.inside m.before (sink_expression sink)) (type_at_place m.inside m.before e)
    of_sides (named_by n e) = node_joins m.inside m.before n e (type_at_place m.inside m.before e)
    of_sides (instanced n name) = instance_joins m.inside n (numbered_module 0 m.inside.modules name)

abbrev pub meeting : ResetModule → Before → Sides → Meeting
meeting m before sides = record { inside = m; before = before; sides = sides }

abbrev mutual
  pub meetings_in : ResetModule → Before → Statement → List Meeting
  meetings_in m before (node p n e) = meeting m before (named_by n e) ∷ []
  meetings_in m before (instance p n other) = meeting m before (instanced n other.name) ∷ []
  meetings_in m before (when p c a b) =
      meetings_in_block m (opened before) a ++ meetings_in_block m (reopened before (behind_block (opened before) a)) b
  meetings_in m before (connect p sink e) = meeting m before (connected sink e) ∷ []
  meetings_in m before (partial_connect p sink e) = meeting m before (partly_connected sink e) ∷ []
  meetings_in m before _ = []

  pub meetings_in_block : ResetModule → Before → Block → List Meeting
  meetings_in_block m before done = []
  meetings_in_block m before ((then) s b) = meetings_in m before s ++ meetings_in_block m (behind before s) b

abbrev pub meetings : CircuitTree → List Meeting
meetings c = flat_map (λ m. meetings_in_block m (behind_ports at_head m.inside.ports) m.inside.body) (reset_modules 0 c.modules c.modules)

-- what a meeting joins itself: an instance's leaves are of the class of its module's, so nothing
abbrev pub met_joins : Meeting → List Join
met_joins m = of_sides m.sides
  where
    of_sides : Sides → List Join
    of_sides (instanced n name) = []
    of_sides _ = joins_of m
