-- The cost of a circuit: how many ground leaves it has, and how many come together in its expressions and connects. It is what a limit of this compiler is
-- counted in (E23); the standard has no such limit.
-- A leaf costs 1 wherever its type stands. A dynamic index multiplies by the length of the vector that it goes into, which counts as 1 at least.
use Rattle.std.specs.Prelude.{◌≡◌, ℕ, ◌+◌, ◌*◌, max, List, [], ◌∷◌, map, flat_map, Option, Some, None, unwrap_or}
use Rattle.fir_base.specs.Lists.{In}
use Rattle.fir_ast.specs.Types.{DataType}
use Rattle.fir_ast.specs.Expressions.{Expression, reference, literal, operation, mux, validif, Parts, no_parts, subfield, subindex, subaccess, Expressions, no_expressions, expression}
use Rattle.fir_ast.specs.Statements.{SinkReference, Reset, MemoryPart, Statement, wire, register, node, instance, memory, when, connect, partial_connect, invalid, skip, Block, done, then}
use Rattle.fir_ast.specs.Circuits.{PortTree, ModuleTree, CircuitTree}
use Rattle.fir_meaning.specs.TypeLeaves.{leaf_count}
use Rattle.fir_meaning.specs.Components as component
use Rattle.fir_meaning.specs.Visibility.{Before, with_declaration, opened, reopened, behind, behind_block, behind_ports, at_head}
use Rattle.fir_meaning.specs.TypedScopes.{TypedScope, known}
use Rattle.fir_meaning.specs.Reaching.{field_of_type, vector_of_type}
use Rattle.fir_meaning.specs.ExpressionTypes.{expression_type}
use Rattle.fir_meaning.specs.MemoryTypes.{memory_type, data_of_part, depth_of_part, first_one}
use Rattle.fir_meaning.specs.ComponentTypes.{instance_type}
use Rattle.fir_meaning.specs.TypeGroup.{scope_at}
use Rattle.fir_meaning.specs.SizedScopes.{sink_expression}
use Rattle.fir_meaning.specs.ResetItems.{type_of_field, type_of_element, length_of_vector}
use Rattle.fir_meaning.specs.ResetJoins.{type_of_known}

abbrev pub sum_of : List ℕ → ℕ
sum_of [] = 0
sum_of (n ∷ ns) = n + sum_of ns

-- of what has no type, none
abbrev pub leaves_where : Option DataType → ℕ
leaves_where None = 0
leaves_where (Some t) = leaf_count t

-- how many elements the dynamic indices of a reference may pick, from the type of what it names first
abbrev pub picks_from : DataType → Parts → ℕ
picks_from t no_parts = 1
picks_from t (subfield first p x rest) = picks_from (type_of_field (field_of_type x t)) rest
picks_from t (subindex first p i rest) = picks_from (type_of_element (vector_of_type t)) rest
picks_from t (subaccess first e rest) = max 1 (length_of_vector (vector_of_type t)) * picks_from (type_of_element (vector_of_type t)) rest

abbrev pub picks_where : Option DataType → Parts → ℕ
picks_where None ps = 1
picks_where (Some t) ps = picks_from t ps

abbrev pub typed_leaves : TypedScope → Expression → ℕ
typed_leaves scope e = leaves_where (expression_type scope e).has

-- the leaves that a reference may name
abbrev pub named_leaves : TypedScope → SinkReference → ℕ
named_leaves scope s = typed_leaves scope (sink_expression s) * picks_where (type_of_known (known scope s.name)) s.parts

-- an expression, with its operands
abbrev mutual
  pub size : TypedScope → Expression → ℕ
  size scope (reference p n ps) = named_leaves scope (record { place = p; name = n; parts = ps }) + size_of_parts scope ps
  size scope (literal l) = 1
  size scope (operation p op es ks) = typed_leaves scope (operation p op es ks) + size_of_each scope es
  size scope (mux p c a b) = typed_leaves scope (mux p c a b) + size scope c + size scope a + size scope b
  size scope (validif p c a) = typed_leaves scope (validif p c a) + size scope c + size scope a

  -- the expressions in dynamic indices
  pub size_of_parts : TypedScope → Parts → ℕ
  size_of_parts scope no_parts = 0
  size_of_parts scope (subfield first p x rest) = size_of_parts scope rest
  size_of_parts scope (subindex first p i rest) = size_of_parts scope rest
  size_of_parts scope (subaccess first e rest) = size scope e + size_of_parts scope rest

  pub size_of_each : TypedScope → Expressions → ℕ
  size_of_each scope no_expressions = 0
  size_of_each scope (expression e es) = size scope e + size_of_each scope es

abbrev pub size_of_reset : TypedScope → Option Reset → ℕ
size_of_reset scope None = 0
size_of_reset scope (Some r) = size scope r.condition + size scope r.init

-- the words of a memory, each with its leaves
abbrev pub memory_words_of : List MemoryPart → ℕ
memory_words_of parts = unwrap_or (first_one (flat_map depth_of_part parts)) 0 * leaves_where (first_one (flat_map data_of_part parts))

-- a sink, with the expressions in its dynamic indices
abbrev pub size_of_sink : TypedScope → SinkReference → ℕ
size_of_sink scope s = named_leaves scope s + size_of_parts scope s.parts

-- what each module costs, by its name
abbrev pub ModuleCosts : Type 0
ModuleCosts = List ℕ → ℕ

-- a register is known in its reset, and not in its clock
abbrev mutual
  pub cost_of : List ModuleTree → ModuleCosts → Before → Statement → ℕ
  cost_of modules costs before (wire p n begins t) = leaf_count t
  cost_of modules costs before (register p n begins t c r) =
      leaf_count t + size (scope_at modules before) c + size_of_reset (scope_at modules (with_declaration before n (component.register t))) r
  cost_of modules costs before (node p n e) = typed_leaves (scope_at modules before) e + size (scope_at modules before) e
  cost_of modules costs before (instance p n other) = 1 + leaves_where (instance_type modules other.name) + costs other.name
  cost_of modules costs before (memory p n parts) = memory_words_of parts + leaves_where (memory_type n.place parts)
  cost_of modules costs before (when p c a b) =
      1 + size (scope_at modules before) c + cost_of_block modules costs (opened before) a
      + cost_of_block modules costs (reopened before (behind_block (opened before) a)) b
  cost_of modules costs before (connect p sink e) = size_of_sink (scope_at modules before) sink + size (scope_at modules before) e
  cost_of modules costs before (partial_connect p sink e) = size_of_sink (scope_at modules before) sink + size (scope_at modules before) e
  cost_of modules costs before (invalid p sink) = size_of_sink (scope_at modules before) sink
  cost_of modules costs before (skip p) = 0

  pub cost_of_block : List ModuleTree → ModuleCosts → Before → Block → ℕ
  cost_of_block modules costs before done = 0
  cost_of_block modules costs before ((then) s b) = cost_of modules costs before s + cost_of_block modules costs (behind before s) b

abbrev pub cost_of_ports : List PortTree → ℕ
cost_of_ports ps = sum_of (map (λ p. leaf_count p.data_type) ps)

abbrev pub cost_of_module : List ModuleTree → ModuleCosts → ModuleTree → ℕ
cost_of_module modules costs m = cost_of_ports m.ports + cost_of_block modules costs (behind_ports at_head m.ports) m.body

-- these are the costs of the modules: an instance costs what its module does
pub record AreCosts (c : CircuitTree) (costs : ModuleCosts) : Type 0 where
  pub each : (m : ModuleTree) → In c.modules m → costs m.named.name ≡ cost_of_module c.modules costs m

-- a circuit costs what its main module does, and each other module once
pub record HasCost (c : CircuitTree) (n : ℕ) : Type 0 where
  pub costs : ModuleCosts
  pub are : AreCosts c costs
  pub sum : n ≡ sum_of (map (λ m. costs m.named.name) c.modules)
