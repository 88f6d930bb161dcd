-- What is declared and what is visible before a place of a module (FIRRTL spec, "Namespaces", "Conditionals").
-- A declaration is visible behind itself, in its block and in the blocks inside; names are declared over all blocks, a choice of this project.
use Rattle.std.specs.Prelude.{ℕ, ◌+◌, List, [], ◌∷◌, ◌++◌}
use Rattle.fir_ast.specs.Statements.{PlacedName, Statement, wire, register, node, instance, memory, when, Block, done, then}
use Rattle.fir_ast.specs.Circuits.{PortTree, ModuleTree}
use Rattle.fir_meaning.specs.Components.{Component, Declaration, Declarations}
use Rattle.fir_meaning.specs.Components as component

pub record Before : Type 0 where
  pub visible : Declarations
  pub declared : Declarations
  -- how many whens stand round it
  pub depth : ℕ

-- a component that is declared at the place
abbrev pub declaration_at : Before → PlacedName → Component → Declaration
declaration_at before n c = record { named = n; component = c; depth = before.depth }

abbrev pub with_declaration : Before → PlacedName → Component → Before
with_declaration before n c = record {
  visible = before.visible ++ declaration_at before n c ∷ [];
  declared = before.declared ++ declaration_at before n c ∷ [];
  depth = before.depth;
}

-- in the first block of a when
abbrev pub opened : Before → Before
opened before = record before { depth = before.depth + 1 }

-- in the second block, behind the first; behind the when
abbrev pub reopened : Before → Before → Before
reopened before inside = record inside { visible = before.visible; depth = before.depth + 1 }

abbrev pub closed : Before → Before → Before
closed before inside = record inside { visible = before.visible; depth = before.depth }

abbrev mutual
  pub behind : Before → Statement → Before
  behind before (wire p n begins t) = with_declaration before n (component.wire t)
  behind before (register p n begins t c r) = with_declaration before n (component.register t)
  behind before (node p n e) = with_declaration before n (component.node e)
  behind before (instance p n m) = with_declaration before n (component.instance m.name)
  behind before (memory p n parts) = with_declaration before n (component.memory parts)
  behind before (when p c a b) = closed before (behind_block (reopened before (behind_block (opened before) a)) b)
  behind before _ = before

  pub behind_block : Before → Block → Before
  behind_block before done = before
  behind_block before ((then) s b) = behind_block (behind before s) b

abbrev pub behind_ports : Before → List PortTree → Before
behind_ports before [] = before
behind_ports before (p ∷ ps) = behind_ports (with_declaration before p.named (component.port p.direction p.data_type)) ps

abbrev pub at_head : Before
at_head = record { visible = []; declared = []; depth = 0 }

-- all declarations of a module
abbrev pub declarations : ModuleTree → Declarations
declarations m = (behind_block (behind_ports at_head m.ports) m.body).declared
