-- The numbers of the leaves of a circuit, and the sized type of what is declared (FIRRTL spec, "Circuits", "Modules", "Instances").
-- The ports of all modules are numbered first, in text order, then the bodies: each declaration takes numbers that no other takes. An instance takes none and has
-- those of its module's ports, so all instances of a module share them.
use Rattle.std.specs.Prelude.{ℕ, ◌+◌, List, [], ◌∷◌, ◌++◌, if◌then◌else◌, Some}
use Rattle.std.specs.Str.{bytes_eq}
use Rattle.fir_ast.specs.declared.place.Place.{Place}
use Rattle.fir_ast.specs.Statements.{PlacedName}
use Rattle.fir_ast.specs.Circuits.{ModuleTree, CircuitTree}
use Rattle.fir_meaning.specs.Components.{Component, port, wire, register, node, instance, memory, Declaration, Declarations}
use Rattle.fir_meaning.specs.Visibility.{Before, declarations}
use Rattle.fir_meaning.specs.ComponentTypes.{instance_bundle}
use Rattle.fir_meaning.specs.SharedLeaves.{shared_count}
use Rattle.fir_meaning.specs.SizedTypes.{Sized, untyped, numbered, bare_type, renumbered}
use Rattle.fir_meaning.specs.SizedScopes.{SizedScope, sized_type}
use Rattle.fir_meaning.specs.SizedMemories.{sized_memory, memory_numbers}

abbrev pub port_numbers : ModuleTree → ℕ
port_numbers m = shared_count (instance_bundle m)

abbrev pub all_port_numbers : List ModuleTree → ℕ
all_port_numbers [] = 0
all_port_numbers (m ∷ ms) = port_numbers m + all_port_numbers ms

-- of the first module of a name, where the ports of the first of these have numbers from a number on
abbrev pub instance_from : ℕ → List ModuleTree → List ℕ → Sized
instance_from k [] name = untyped
instance_from k (m ∷ ms) name = if bytes_eq m.named.name name then numbered (Some k) (instance_bundle m) else instance_from (k + port_numbers m) ms name

abbrev pub sized_instance : List ModuleTree → List ℕ → Sized
sized_instance modules name = instance_from 0 modules name

-- the next number of a port, the next one of a body, and what is declared so far
pub record Numbering : Type 0 where
  pub port : ℕ
  pub next : ℕ
  pub scope : SizedScope

-- of a component whose name stands at the place
abbrev pub sized_component : List ModuleTree → Numbering → Place → Component → Sized
sized_component modules numbers p (port d t) = numbered (Some numbers.port) t
sized_component modules numbers p (wire t) = numbered (Some numbers.next) t
sized_component modules numbers p (register t) = numbered (Some numbers.next) t
sized_component modules numbers p (node e) = renumbered numbers.next (sized_type numbers.scope e)
sized_component modules numbers p (instance name) = sized_instance modules name
sized_component modules numbers p (memory parts) = sized_memory p parts

-- how many numbers of ports a component takes
abbrev pub taken_of_ports : Component → ℕ
taken_of_ports (port d t) = shared_count t
taken_of_ports _ = 0

-- and how many of bodies, where its name stands at the place
abbrev pub taken_of_bodies : SizedScope → Place → Component → ℕ
taken_of_bodies scope p (wire t) = shared_count t
taken_of_bodies scope p (register t) = shared_count t
taken_of_bodies scope p (node e) = shared_count (bare_type (sized_type scope e))
taken_of_bodies scope p (memory parts) = memory_numbers p parts
taken_of_bodies scope p _ = 0

abbrev pub numbered_with : List ModuleTree → Numbering → Declaration → Numbering
numbered_with modules numbers d = record {
  port = numbers.port + taken_of_ports d.component;
  next = numbers.next + taken_of_bodies numbers.scope d.named.place d.component;
  scope = numbers.scope ++ record { name = d.named.name; sized = sized_component modules numbers d.named.place d.component } ∷ [];
}

-- each declaration behind those before it
abbrev pub numbered_behind : List ModuleTree → Numbering → Declarations → Numbering
numbered_behind modules numbers [] = numbers
numbered_behind modules numbers (d ∷ ds) = numbered_behind modules (numbered_with modules numbers d) ds

-- a module among those of its circuit, and the numbers from which its leaves are counted
pub record NumberedModule : Type 0 where
  pub modules : List ModuleTree
  pub inside : ModuleTree
  pub start : Numbering

abbrev pub behind_module : List ModuleTree → Numbering → ModuleTree → Numbering
behind_module modules numbers m = record (numbered_behind modules numbers (declarations m)) { scope = [] }

abbrev pub modules_from : List ModuleTree → Numbering → List ModuleTree → List NumberedModule
modules_from modules numbers [] = []
modules_from modules numbers (m ∷ ms) =
    record { modules = modules; inside = m; start = numbers } ∷ modules_from modules (behind_module modules numbers m) ms

abbrev pub first_numbers : List ModuleTree → Numbering
first_numbers modules = record { port = 0; next = all_port_numbers modules; scope = [] }

abbrev pub numbered_modules : CircuitTree → List NumberedModule
numbered_modules c = modules_from c.modules (first_numbers c.modules) c.modules

-- the numbers before a place of a module, and what is declared there
abbrev pub numbers_at : NumberedModule → Before → Numbering
numbers_at m before = numbered_behind m.modules m.start before.declared

abbrev pub sized_at : NumberedModule → Before → SizedScope
sized_at m before = (numbers_at m before).scope

-- the type of a component that is declared at the place
abbrev pub sized_declared : NumberedModule → Before → PlacedName → Component → Sized
sized_declared m before n component = sized_component m.modules (numbers_at m before) n.place component
