-- The leaf view of a module: its leaves in the order of their declarations and of the leaves of types, its arrays, and its statements over them
-- (FIRRTL spec, "Modules").
-- Widths are those of the circuit, and of the resets it is known which are asynchronous.
use Rattle.std.specs.Prelude.{ℕ, suc, List, [], ◌∷◌, ◌++◌, map, flat_map, length, Bool, if◌then◌else◌, Option, Some, None, option_map, slice_index_or}
use Rattle.fir_base.specs.declared.direction.Direction.{Direction}
use Rattle.fir_ast.specs.declared.place.Place.{Place}
use Rattle.fir_ast.specs.Types.{DataType}
use Rattle.fir_ast.specs.Expressions.{Expression}
use Rattle.fir_ast.specs.Statements.{PlacedName, Reset, Statement, wire, register, node, instance, memory, when, Block, done, then, MemoryPart}
use Rattle.fir_ast.specs.Circuits.{PortTree, ModuleTree}
use Rattle.fir_meaning.specs.LeafPaths.{LeafPath, named}
use Rattle.fir_meaning.specs.TypeLeaves.{TypeLeaf}
use Rattle.fir_meaning.specs.Flows.{flow_under, is_source, port_flow}
use Rattle.fir_meaning.specs.MemoryTypes.{data_of_part, first_one}
use Rattle.fir_meaning.specs.Components as component
use Rattle.fir_meaning.specs.Components.{Component, Declaration}
use Rattle.fir_meaning.specs.Visibility.{Before, with_declaration, opened, reopened, behind, behind_block, at_head, declarations}
use Rattle.fir_meaning.specs.TypedScopes.{TypedScope}
use Rattle.fir_meaning.specs.ResetJoins.{numbered_module, port_place}
use Rattle.fir_meaning.specs.SizedMemories.{sized_array}
use Rattle.fir_meaning.specs.working.Targets.{leaves_so_far}
use Rattle.fir_meaning.specs.working.Leafed.{first_term, terms}
use Rattle.fir_meaning.specs.working.LeafedBlocks.{leafed_all, term_at}
use Rattle.fir_meaning.specs.working.LeafMemories.{LeafMemory, arrays_from, memory_behind, memory_declared, memory_roles}
use Rattle.fir_meaning.specs.FoundTypes.{leaves_of_data}
use Rattle.fir_meaning.specs.working.LeafModules.{LeafArray, LeafDeclared, LeafModule, LeafReset, MemoryDeclared, Role, leaf_at, may_drive, sink, source}
use Rattle.fir_meaning.specs.LeafTypes.{LeafType}
use Rattle.fir_meaning.specs.working.LeafModules as role
use Rattle.fir_meaning.specs.ModuleScenes.{Scene, scope_before, Declared, type_of_declared, held_by_declared, behind_all_ports}
use Rattle.fir_meaning.specs.HeldTypes.{held_types}
use Rattle.fir_meaning.specs.AsyncResets.{is_async_reset}

-- its leaves, from that of a number on, with their places and roles
abbrev pub leaves_from : Declared → (TypeLeaf → Place) → (ℕ → TypeLeaf → Role) → ℕ → List TypeLeaf → List LeafType → List LeafDeclared
leaves_from d place role_of k (l ∷ ls) (h ∷ hs) = record {
  place = place l;
  declaration = length d.before.declared;
  instances = 0;
  path = named d.named.name ∷ l.path;
  holds = h;
  depth = d.before.depth;
  role = role_of k l;
} ∷ leaves_from d place role_of (suc k) ls hs
leaves_from d place role_of k _ _ = []

abbrev pub declared_leaves : Scene → Declared → (TypeLeaf → Place) → (ℕ → TypeLeaf → Role) → List LeafDeclared
declared_leaves s d place role_of = leaves_from d place role_of 0 (leaves_of_data (type_of_declared s d)) (held_by_declared s d)

-- most leaves stand where their component does
abbrev pub own_leaves : Scene → Before → PlacedName → Component → (ℕ → TypeLeaf → Role) → List LeafDeclared
own_leaves s before n c role_of = declared_leaves s (record { named = n; component = c; before = before }) (λ l. n.place) role_of

abbrev pub port_role : Direction → TypeLeaf → Role
port_role d l = if is_source (flow_under l.flip (port_flow d)) then source else sink

abbrev pub leaf_reset : (LeafPath → Bool) → TypedScope → ℕ → Reset → LeafReset
leaf_reset is_async scope k r = record {
  is_async = is_async_reset is_async scope r.condition;
  condition = first_term (terms scope r.condition);
  init = term_at (terms scope r.init) k;
}

-- a register is known in its reset, and not in its clock
abbrev pub register_role : Scene → Before → PlacedName → DataType → Expression → Option Reset → ℕ → TypeLeaf → Role
register_role s before n t c r k l =
    role.register (first_term (terms (scope_before s before) c))
    (option_map (leaf_reset s.is_async (scope_before s (with_declaration before n (component.register t))) k) r)

-- a leaf of an instance that the parent drives stands at the instance's name, one that it reads at the port of the module
abbrev pub instance_place : PlacedName → Option (ℕ × ModuleTree) → TypeLeaf → Place
instance_place n None l = n.place
instance_place n (Some child) l = if l.flip then n.place else port_place n.place child.1.ports l.path

abbrev pub instance_role : ℕ → TypeLeaf → Role
instance_role k l = if l.flip then sink else source

abbrev pub role_in : List Role → ℕ → TypeLeaf → Role
role_in roles k l = slice_index_or roles k source

-- a memory of the module
abbrev pub memory_before : Scene → Before → PlacedName → List MemoryPart → LeafMemory
memory_before s before n parts = memory_behind before.declared (leaves_so_far (scope_before s before)) n parts

abbrev pub memory_arrays : Scene → LeafMemory → List MemoryPart → List LeafArray
memory_arrays s m parts =
    arrays_from m 0 (leaves_of_data (first_one (flat_map data_of_part parts))) (held_types s.widths (sized_array parts))

abbrev mutual
  pub leaves_in : Scene → Before → Statement → List LeafDeclared
  leaves_in s before (wire p n begins t) = own_leaves s before n (component.wire t) (λ k l. sink)
  leaves_in s before (register p n begins t c r) = own_leaves s before n (component.register t) (register_role s before n t c r)
  leaves_in s before (node p n e) = own_leaves s before n (component.node e) (λ k l. role.computed (term_at (terms (scope_before s before) e) k))
  leaves_in s before (instance p n other) =
      declared_leaves s (record { named = n; component = component.instance other.name; before = before })
      (instance_place n (numbered_module 0 s.own.modules other.name)) instance_role
  leaves_in s before (memory p n parts) = own_leaves s before n (component.memory parts) (role_in (memory_roles (memory_before s before n parts)))
  leaves_in s before (when p c a b) =
      leaves_in_block s (opened before) a ++ leaves_in_block s (reopened before (behind_block (opened before) a)) b
  leaves_in s before _ = []

  pub leaves_in_block : Scene → Before → Block → List LeafDeclared
  leaves_in_block s before done = []
  leaves_in_block s before ((then) x b) = leaves_in s before x ++ leaves_in_block s (behind before x) b

-- the arrays of memories, and the memories
abbrev mutual
  pub arrays_in : Scene → Before → Statement → List LeafArray
  arrays_in s before (memory p n parts) = memory_arrays s (memory_before s before n parts) parts
  arrays_in s before (when p c a b) =
      arrays_in_block s (opened before) a ++ arrays_in_block s (reopened before (behind_block (opened before) a)) b
  arrays_in s before _ = []

  pub arrays_in_block : Scene → Before → Block → List LeafArray
  arrays_in_block s before done = []
  arrays_in_block s before ((then) x b) = arrays_in s before x ++ arrays_in_block s (behind before x) b

abbrev mutual
  pub memories_in : Scene → Before → Statement → List MemoryDeclared
  memories_in s before (memory p n parts) = memory_declared (memory_before s before n parts) ∷ []
  memories_in s before (when p c a b) =
      memories_in_block s (opened before) a ++ memories_in_block s (reopened before (behind_block (opened before) a)) b
  memories_in s before _ = []

  pub memories_in_block : Scene → Before → Block → List MemoryDeclared
  memories_in_block s before done = []
  memories_in_block s before ((then) x b) = memories_in s before x ++ memories_in_block s (behind before x) b

abbrev pub leaves_of_ports : Scene → Before → List PortTree → List LeafDeclared
leaves_of_ports s before [] = []
leaves_of_ports s before (p ∷ ps) =
    own_leaves s before p.named (component.port p.direction p.data_type) (λ k l. port_role p.direction l)
    ++ leaves_of_ports s (with_declaration before p.named (component.port p.direction p.data_type)) ps

abbrev pub module_leaves : Scene → List LeafDeclared
module_leaves s = leaves_of_ports s at_head s.own.inside.ports ++ leaves_in_block s (behind_all_ports s.own.inside) s.own.inside.body

-- which leaves statements may drive
abbrev pub driven_leaves : Scene → ℕ → Bool
driven_leaves s x = may_drive (leaf_at (module_leaves s) x).role

abbrev pub leafed_module : Scene → LeafModule
leafed_module s = record {
  named = s.own.inside.named;
  declared = map (λ (d : Declaration). d.named) (declarations s.own.inside);
  port_leaves = length (leaves_of_ports s at_head s.own.inside.ports);
  leaves = module_leaves s;
  arrays = arrays_in_block s (behind_all_ports s.own.inside) s.own.inside.body;
  memories = memories_in_block s (behind_all_ports s.own.inside) s.own.inside.body;
  body = leafed_all s.own.modules (driven_leaves s) (behind_all_ports s.own.inside) s.own.inside.body;
}
