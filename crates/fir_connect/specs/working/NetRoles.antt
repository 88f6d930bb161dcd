-- What gives each leaf of a module its value in a net (FIRRTL spec, "Nodes", "Registers", "Connects", "Memories").
-- Statements are gone: what they give to a leaf is one term, its driver.
use Rattle.std.specs.Prelude.{ℕ, Bool, true, false, Option, option_map}
use Rattle.fir_ast.specs.declared.statements.ReadUnderWrite.{ReadUnderWrite}
use Rattle.fir_meaning.specs.working.LeafBlocks.{LeafBlock}
use Rattle.fir_meaning.specs.working.LeafModules.{LeafModule, LeafReset, Reading, Role, depth_at, role_at}
use Rattle.fir_meaning.specs.working.LeafModules as leafed
use Rattle.fir_meaning.specs.working.TermValues.{Holds}
use Rattle.fir_leaf_types.specs.working.TypedModules.{held_in}
use Rattle.fir_connect.specs.working.Drivers.{driver_of}
use Rattle.fir_connect.specs.working.Lowered.{lowered}
use Rattle.fir_connect.specs.working.LoweredLaws.{types_of}
use Rattle.fir_connect.specs.working.NetTerms.{NetTerm}

pub record NetReset : Type 0 where
  pub is_async : Bool
  pub condition : NetTerm
  pub init : NetTerm

-- a source; what statements drive, with the driver; a node; a register, with its clock, its reset and what it takes at an edge; what a memory's port reads at
-- once, and what it has read at the last edge of its clock
pub data NetRole : Type 0 where
  source : NetRole
  driven : NetTerm → NetRole
  computed : NetTerm → NetRole
  register : NetTerm → Option NetReset → NetTerm → NetRole
  reading : Reading → NetRole
  pipe : Reading → ℕ → ReadUnderWrite → NetRole

abbrev pub net_reset : Holds → LeafReset → NetReset
net_reset holds r = record { is_async = r.is_async; condition = lowered holds r.condition; init = lowered holds r.init }

-- of the leaf of a number, which is declared within so many whens
abbrev pub net_role : Holds → ℕ → LeafBlock → ℕ → Role → NetRole
net_role holds depth b x leafed.source = source
net_role holds depth b x leafed.sink = driven (driver_of holds depth false b x)
net_role holds depth b x (leafed.computed t) = computed (lowered holds t)
net_role holds depth b x (leafed.register clock reset) =
    register (lowered holds clock) (option_map (net_reset holds) reset) (driver_of holds depth true b x)
net_role holds depth b x (leafed.reading r) = reading r
net_role holds depth b x (leafed.pipe r clock under) = pipe r clock under

-- in the net of a module
abbrev pub net_types : LeafModule → Holds
net_types m = types_of (held_in m)

abbrev pub net_role_at : LeafModule → ℕ → NetRole
net_role_at m x = net_role (net_types m) (depth_at m x) m.body x (role_at m x)
