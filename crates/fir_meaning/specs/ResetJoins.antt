-- What is joined (FIRRTL spec, "Reset Inference"): the leaves that meet in a connect, a partial connect or a node; a leaf of an instance and that of its module.
use Rattle.std.specs.Prelude.{◌≡◌, ℕ, suc, List, [], ◌∷◌, ◌++◌, map, flat_map, not, ◌&&◌, if◌then◌else◌, Option, Some, None}
use Rattle.std.specs.Str.{bytes_eq}
use Rattle.fir_ast.specs.declared.place.Place.{Place}
use Rattle.fir_ast.specs.Types.{DataType}
use Rattle.fir_ast.specs.Expressions.{Expression, reference}
use Rattle.fir_ast.specs.Statements.{PlacedName, SinkReference, Statement, node, instance, when, connect, partial_connect, Block, done, then}
use Rattle.fir_ast.specs.Circuits.{PortTree, ModuleTree, CircuitTree}
use Rattle.fir_meaning.specs.LeafPaths.{LeafPath, named, element}
use Rattle.fir_meaning.specs.TypeLeaves.{TypeLeaf, type_leaves}
use Rattle.fir_meaning.specs.ConnectPairs.{Pair, pairs, partial_pairs}
use Rattle.fir_meaning.specs.ExpressionPlaces.{place_of}
use Rattle.fir_meaning.specs.Components.{find}
use Rattle.fir_meaning.specs.Visibility.{Before, opened, reopened, behind, behind_block, behind_ports, at_head}
use Rattle.fir_meaning.specs.ExpressionTypes.{expression_type}
use Rattle.fir_meaning.specs.ComponentTypes.{instance_bundle}
use Rattle.fir_meaning.specs.TypedScopes.{Known, known}
use Rattle.fir_meaning.specs.TypeGroup.{scope_at}
use Rattle.fir_meaning.specs.SizedScopes.{sink_expression}
use Rattle.fir_meaning.specs.ResetItems.{leaf_item, End, paths_along, has_access, is_reset, declared_at, value_end, leaf_end}

pub record Join : Type 0 where
  pub one : End
  pub other : End

-- a module of a circuit, by its number
pub record ResetModule : Type 0 where
  pub modules : List ModuleTree
  pub number : ℕ
  pub inside : ModuleTree

abbrev pub type_of_known : Option Known → Option DataType
type_of_known None = None
type_of_known (Some k) = k.data_type

abbrev pub types_where : Option DataType → (DataType → List End) → List End
types_where None f = []
types_where (Some t) f = f t

-- the ends that an expression has for a leaf of its type. A leaf that an index picks counts as that of each element; where it is no Reset, also as the
-- expression
abbrev pub ends_of : ResetModule → Before → Expression → TypeLeaf → List End
ends_of m before (reference p n ps) l =
    types_where (type_of_known (known (scope_at m.modules before) n)) (λ t.
    map (λ path. leaf_end m.number (declared_at p (find before.declared n)) (path ++ l.path) l.ground_type) (paths_along (named n ∷ []) t ps))
    ++ (if has_access ps && not (is_reset l.ground_type) then value_end p l.ground_type ∷ [] else [])
ends_of m before e l = value_end (place_of e) l.ground_type ∷ []

abbrev pub each_with_each : List End → List End → List Join
each_with_each ones others = flat_map (λ a. map (λ b. record { one = a; other = b }) others) ones

abbrev pub connect_joins : (DataType → DataType → List Pair) → ResetModule → Before → SinkReference → Expression → Option DataType → Option DataType → List Join
connect_joins pairs_of m before sink e (Some t) (Some u) =
    flat_map (λ p. each_with_each (ends_of m before (sink_expression sink) p.left) (ends_of m before e p.right)) (pairs_of t u)
connect_joins pairs_of m before sink e _ _ = []

abbrev pub type_at_place : ResetModule → Before → Expression → Option DataType
type_at_place m before e = (expression_type (scope_at m.modules before) e).has

-- a node has the type of its expression
abbrev pub node_joins : ResetModule → Before → PlacedName → Expression → Option DataType → List Join
node_joins m before n e None = []
node_joins m before n e (Some t) =
    flat_map (λ l. each_with_each (leaf_end m.number n.place (named n.name ∷ l.path) l.ground_type ∷ []) (ends_of m before e l)) (type_leaves t)

-- where a port is declared, by the first step of the path of its leaf
abbrev pub port_place : Place → List PortTree → LeafPath → Place
port_place p [] path = p
port_place p (d ∷ ds) [] = p
port_place p (d ∷ ds) (element i ∷ path) = p
port_place p (d ∷ ds) (named x ∷ path) = if bytes_eq d.named.name x then d.named.place else port_place p ds (named x ∷ path)

-- the first module of a name, with its number
abbrev pub numbered_module : ℕ → List ModuleTree → List ℕ → Option (ℕ × ModuleTree)
numbered_module number [] name = None
numbered_module number (m ∷ ms) name = if bytes_eq m.named.name name then Some (number, m) else numbered_module (suc number) ms name

-- each leaf of an instance with that of its module's ports
abbrev pub instance_joins : ResetModule → PlacedName → Option (ℕ × ModuleTree) → List Join
instance_joins m n None = []
instance_joins m n (Some child) =
    map (λ l. record {
      one = leaf_end m.number n.place (named n.name ∷ l.path) l.ground_type;
      other = leaf_end child.0 (port_place n.place child.1.ports l.path) l.path l.ground_type;
    }) (type_leaves (instance_bundle child.1))

abbrev mutual
  pub joins_in : ResetModule → Before → Statement → List Join
  joins_in m before (node p n e) = node_joins m before n e (type_at_place m before e)
  joins_in m before (instance p n other) = instance_joins m n (numbered_module 0 m.modules other.name)
  joins_in m before (when p c a b) = joins_in_block m (opened before) a ++ joins_in_block m (reopened before (behind_block (opened before) a)) b
  joins_in m before (connect p sink e) =
      connect_joins pairs m before sink e (type_at_place m before (sink_expression sink)) (type_at_place m before e)
  joins_in m before (partial_connect p sink e) =
      connect_joins partial_pairs m before sink e (type_at_place m before (sink_expression sink)) (type_at_place m before e)
  joins_in m before _ = []

  pub joins_in_block : ResetModule → Before → Block → List Join
  joins_in_block m before done = []
  joins_in_block m before ((then) s b) = joins_in m before s ++ joins_in_block m (behind before s) b

abbrev pub reset_modules : ℕ → List ModuleTree → List ModuleTree → List ResetModule
reset_modules number modules [] = []
reset_modules number modules (m ∷ ms) = record { modules = modules; number = number; inside = m } ∷ reset_modules (suc number) modules ms

abbrev pub joins : CircuitTree → List Join
joins c = flat_map (λ m. joins_in_block m (behind_ports at_head m.inside.ports) m.inside.body) (reset_modules 0 c.modules c.modules)

-- the same leaf of two elements of a vector
pub record AreElements (a b : End) : Type 0 where
  pub number : ℕ
  pub vector : LeafPath
  pub one : ℕ
  pub other : ℕ
  pub rest : LeafPath
  pub one_is : a.item ≡ leaf_item number (vector ++ element one ∷ rest)
  pub other_is : b.item ≡ leaf_item number (vector ++ element other ∷ rest)
  pub ground_type : a.ground_type ≡ b.ground_type
  pub place : a.place ≡ b.place
