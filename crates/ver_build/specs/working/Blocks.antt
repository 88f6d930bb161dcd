-- The blocks of registers, and the nets of their resets (IEEE 1364-2005, 9.2.2, 9.4, 9.7.2).
-- A register that something drives on a clock takes it at the clock's rising edge. One with a reset has a block in any case: while the reset is 1 the register
-- is its constant. The reset's net is the net of one bit that the condition is all of; where there is none, it is a net of its own, to which the condition is assigned.
use Rattle.std.specs.Prelude.{ℕ, List, [], ◌∷◌, Option, Some, None, unwrap_or}
use Rattle.fir_net.specs.declared.reads.Read.{Read}
use Rattle.fir_net.specs.declared.leaf.Reset.{Reset}
use Rattle.fir_net.specs.declared.leaf.Role.{Role}
use Rattle.fir_net.specs.declared.leaf.Role.TheVariants as role
use Rattle.fir_net.specs.declared.leaf.Leaf.{Leaf}
use Rattle.fir_net_names.specs.declared.name_table.NameTable.{NameTable}
use Rattle.fir_net_names.specs.working.LeafNamed.{name_at}
use Rattle.fir_inits.specs.working.InitValues.{init_at}
use Rattle.ver_ast.specs.declared.tree.Edge.{Edge}
use Rattle.ver_ast.specs.declared.tree.Resetting.{Resetting}
use Rattle.ver_ast.specs.declared.tree.Rhs.TheVariants as rhs
use Rattle.ver_ast.specs.Nets.{AlwaysBlock, plain_block, resetting_block}
use Rattle.ver_build.specs.declared.places.Places.{Places}
use Rattle.ver_build.specs.declared.right_sides.Inner.{Inner}
use Rattle.ver_build.specs.working.Operands.{atom_at}
use Rattle.ver_build.specs.working.Places.{held_of, clock_in, bit_net}

-- the net of the reset of the register with that number
abbrev pub reset_net : Places → ℕ → Reset → List ℕ
reset_net p k r = unwrap_or (bit_net (held_of p r.condition).source) (unwrap_or (name_at p.resets k) [])

-- a reset's own net, where it has one
abbrev pub own_net : Places → Option Reset → Option (List ℕ) → List Inner
own_net p (Some r) (Some name) = record { name = name; width = 1; rhs = rhs.Atom (atom_at 1 (held_of p r.condition)) } ∷ []
own_net p _ name = []

abbrev pub role_net : Places → Role → Option (List ℕ) → List Inner
role_net p (role.Register r) name = own_net p r.reset name
role_net p _ name = []

abbrev pub leaf_net : Places → Leaf → Option (List ℕ) → List Inner
leaf_net p l name = role_net p l.role name

-- the rising edge at which a register takes what drives it on that clock
abbrev pub edge_on : NameTable → Places → Option ℕ → ℕ → Option Read → List ℕ → Option Edge
edge_on t p (Some k) width (Some r) name = Some (record { clock = unwrap_or (name_at t.leaves k) []; target = name; source = atom_at width (held_of p r) })
edge_on t p _ width _ name = None

abbrev pub plain_on : Option Edge → List AlwaysBlock
plain_on None = []
plain_on (Some e) = plain_block (record { clock = e.clock; target = e.target; source = e.source }) ∷ []

abbrev pub resetting_on : Places → ℕ → ℕ → List ℕ → Reset → Option Edge → Resetting
resetting_on p k width name r edge =
    record {
      reset = reset_net p k r;
      tested = reset_net p k r;
      target = name;
      value = record { width = width; number = Some (init_at p.inits k) };
      edge = edge;
    }

-- the block of the register with that number, width and name
abbrev pub block_on : Places → ℕ → ℕ → List ℕ → Option Reset → Option Edge → List AlwaysBlock
block_on p k width name None edge = plain_on edge
block_on p k width name (Some r) edge = resetting_block (resetting_on p k width name r edge) ∷ []

abbrev pub role_block : NameTable → Places → ℕ → Role → ℕ → Option (List ℕ) → List AlwaysBlock
role_block t p k (role.Register r) width (Some name) = block_on p k width name r.reset (edge_on t p (clock_in p.leaves r.clock) width r.next name)
role_block t p k _ width _ = []

abbrev pub leaf_block : NameTable → Places → ℕ → Leaf → Option (List ℕ) → List AlwaysBlock
leaf_block t p k l name = role_block t p k l.role l.width name
