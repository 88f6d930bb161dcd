-- When each form of a circuit has a type and each connect a legal flow, form by form (FIRRTL spec, "Expressions", "References", "Connects", "Registers",
-- "Nodes", "Memories", "Conditionals"): what is to hold, with no word on faults and their order.
use Rattle.std.specs.Prelude.{◌≡◌, ℕ, ◌<◌, ◌≤◌, List, [], ◌∷◌, flat_map, Bool, true, false, IsTrue, Option, Some, None}
use Rattle.std.specs.List.{All}
use Rattle.fir_bits.specs.declared.types.NumTy.{NumTy}
use Rattle.fir_bits.specs.Forms.{form_of, takes}
use Rattle.fir_base.specs.Lists.{In}
use Rattle.fir_ast.specs.Types.{DataType, uint, clock, reset, async_reset}
use Rattle.fir_ast.specs.Expressions.{Expression, reference, literal, operation, mux, validif, Parts, no_parts, subfield, subindex, subaccess, Expressions, no_expressions, expression}
use Rattle.fir_ast.specs.Statements.{SinkReference, Reset, MemoryPart, Statement, register, node, memory, when, connect, partial_connect, invalid, Block, done, then}
use Rattle.fir_ast.specs.Circuits.{ModuleTree, CircuitTree}
use Rattle.fir_meaning.specs.Components as component
use Rattle.fir_meaning.specs.Visibility.{Before, with_declaration, opened, reopened, behind, behind_block, behind_ports, at_head}
use Rattle.fir_meaning.specs.LeafPaths.{LeafPath}
use Rattle.fir_meaning.specs.TypeLeaves.{TypeLeaf}
use Rattle.fir_meaning.specs.TypeKinds.{FieldFound, is_passive, is_numeric, is_sized, bare}
use Rattle.fir_meaning.specs.Equivalence.{is_equivalent, is_connectable, is_partly_connectable}
use Rattle.fir_meaning.specs.ConnectPairs.{Pair, pairs, partial_pairs}
use Rattle.fir_meaning.specs.Flows.{flow_under, is_source}
use Rattle.fir_meaning.specs.TypedScopes.{TypedScope, known}
use Rattle.fir_meaning.specs.Reaching.{Reached, further, at_field, at_element, at_any, field_of_type, vector_of_type, known_reached}
use Rattle.fir_meaning.specs.OperationTypes.{is_conversion, operand_kinds, result_of}
use Rattle.fir_meaning.specs.ExpressionTypes.{number_data_type, reached_by}
use Rattle.fir_meaning.specs.MemoryTypes.{data_of_part, depth_of_part}
use Rattle.fir_meaning.specs.MemoryFaults.{read_latency_of_part, write_latency_of_part, read_under_write_of_part, is_at_most_one}
use Rattle.fir_meaning.specs.TypeGroup.{scope_at}

abbrev mutual
  -- the expression has the type
  pub HasType : TypedScope → Expression → DataType → Type 0
  HasType scope (reference p n ps) t =
      (begins : Reached) × (r : Reached) × (known_reached (known scope n) ≡ Some begins) × Leads scope begins ps r × (t ≡ r.data_type)
  HasType scope (literal l) t = t ≡ number_data_type l.signed l.width
  HasType scope (operation p op es ks) t =
      (ts : List DataType) × (kinds : List NumTy) × HaveTypes scope es ts × (operand_kinds (is_conversion op) ts ≡ Some kinds)
      × IsTrue (takes (form_of op) kinds ks) × (t ≡ result_of op kinds)
  HasType scope (mux p c a b) t =
      (width : Option ℕ) × (u : DataType) × (v : DataType) × HasType scope c (uint width)
      × HasType scope a u × IsTrue (is_passive u) × IsTrue (is_numeric u)
      × HasType scope b v × IsTrue (is_passive v) × IsTrue (is_numeric v)
      × IsTrue (is_equivalent u v) × (t ≡ bare u)
  HasType scope (validif p c a) t =
      (width : Option ℕ) × (u : DataType) × HasType scope c (uint width) × HasType scope a u × IsTrue (is_passive u) × IsTrue (is_numeric u) × (t ≡ bare u)

  pub HaveTypes : TypedScope → Expressions → List DataType → Type 0
  HaveTypes scope no_expressions ts = ts ≡ []
  HaveTypes scope (expression e es) ts = (u : DataType) × (us : List DataType) × HasType scope e u × HaveTypes scope es us × (ts ≡ u ∷ us)

  -- from what a reference has reached its parts lead to what it reaches
  pub Leads : TypedScope → Reached → Parts → Reached → Type 0
  Leads scope r no_parts s = s ≡ r
  Leads scope r (subfield first q x rest) s = (f : FieldFound) × (field_of_type x r.data_type ≡ Some f) × Leads scope (at_field x r f) rest s
  Leads scope r (subindex first q i rest) s =
      (t : DataType) × (n : ℕ) × (vector_of_type r.data_type ≡ Some (t, n)) × (i < n) × Leads scope (at_element i r t) rest s
  Leads scope r (subaccess first e rest) s =
      (width : Option ℕ) × (t : DataType) × (n : ℕ) × HasType scope e (uint width) × (vector_of_type r.data_type ≡ Some (t, n))
      × Leads scope (at_any r (t, n)) rest s

abbrev pub Reaches : TypedScope → SinkReference → Reached → Type 0
Reaches scope s r = (begins : Reached) × (known_reached (known scope s.name) ≡ Some begins) × Leads scope begins s.parts r

abbrev pub MayReset : DataType → Type 0
MayReset (uint width) = Unit {0}
MayReset reset = Unit {0}
MayReset async_reset = Unit {0}
MayReset t = IsTrue false

abbrev pub ResetIsLegal : TypedScope → DataType → Option Reset → Type 0
ResetIsLegal scope t None = Unit {0}
ResetIsLegal scope t (Some r) =
    (u : DataType) × (v : DataType) × HasType scope r.condition u × MayReset u × HasType scope r.init v × IsTrue (is_equivalent t v)

-- no path leads to the leaf, or it is no source
abbrev pub MayBeDriven : Reached → TypeLeaf → Type 0
MayBeDriven r l = (path : LeafPath) → further r l.path ≡ Some path → is_source (flow_under l.flip r.flow) ≡ false

abbrev pub MayBeDrivenIn : Option Reached → TypeLeaf → Type 0
MayBeDrivenIn None l = Unit {0}
MayBeDrivenIn (Some r) l = MayBeDriven r l

-- the driven leaf of a pair: the right one where it is flipped
abbrev pub FlowsTo : Bool → Reached → Option Reached → Pair → Type 0
FlowsTo true left right p = MayBeDrivenIn right p.right
FlowsTo false left right p = MayBeDriven left p.left

abbrev pub PairFlows : Reached → Option Reached → Pair → Type 0
PairFlows left right p = FlowsTo p.left.flip left right p

abbrev pub ConnectIsLegal : (DataType → DataType → Bool) → (DataType → DataType → List Pair) → TypedScope → SinkReference → Expression → Type 0
ConnectIsLegal fits pairs_of scope sink e =
    (left : Reached) × (t : DataType) × Reaches scope sink left × HasType scope e t × IsTrue (fits left.data_type t)
    × All (PairFlows left (reached_by scope e)) (pairs_of left.data_type t)

-- each field once and in its range, and the last at most once
pub record MemoryIsLegal (parts : List MemoryPart) : Type 0 where
  pub word_type : DataType
  pub words : ℕ
  pub read : ℕ
  pub one_data : flat_map data_of_part parts ≡ word_type ∷ []
  pub passive : IsTrue (is_passive word_type)
  pub sized : IsTrue (is_sized word_type)
  pub one_depth : flat_map depth_of_part parts ≡ words ∷ []
  pub some : 1 ≤ words
  pub one_read : flat_map read_latency_of_part parts ≡ read ∷ []
  pub soon : read ≤ 1
  pub one_write : flat_map write_latency_of_part parts ≡ 1 ∷ []
  pub rule : IsTrue (is_at_most_one (flat_map read_under_write_of_part parts))

abbrev mutual
  pub IsLegal : List ModuleTree → Before → Statement → Type 0
  IsLegal modules before (register p n begins t c r) =
      IsTrue (is_numeric t) × IsTrue (is_passive t) × HasType (scope_at modules before) c clock
      × ResetIsLegal (scope_at modules (with_declaration before n (component.register t))) t r
  IsLegal modules before (node p n e) = (t : DataType) × HasType (scope_at modules before) e t × IsTrue (is_passive t)
  IsLegal modules before (memory p n parts) = MemoryIsLegal parts
  IsLegal modules before (when p c a b) =
      (width : Option ℕ) × HasType (scope_at modules before) c (uint width) × AreLegal modules (opened before) a
      × AreLegal modules (reopened before (behind_block (opened before) a)) b
  IsLegal modules before (connect p sink e) = ConnectIsLegal is_connectable pairs (scope_at modules before) sink e
  IsLegal modules before (partial_connect p sink e) = ConnectIsLegal is_partly_connectable partial_pairs (scope_at modules before) sink e
  IsLegal modules before (invalid p sink) = (r : Reached) × Reaches (scope_at modules before) sink r
  IsLegal modules before s = Unit {0}

  pub AreLegal : List ModuleTree → Before → Block → Type 0
  AreLegal modules before done = Unit {0}
  AreLegal modules before ((then) s b) = IsLegal modules before s × AreLegal modules (behind before s) b

abbrev pub IsWellTyped : CircuitTree → Type 0
IsWellTyped c = (m : ModuleTree) → In c.modules m → AreLegal c.modules (behind_ports at_head m.ports) m.body
