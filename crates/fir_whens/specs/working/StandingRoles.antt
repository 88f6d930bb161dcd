-- What gives the leaves of a module their values in its net, as the code has it, and the roles that it stands for.
use Rattle.std.specs.Prelude.{◌≡◌, ℕ, List, length, Bool, true, false, Option, Some, None, option_map, slice_get}
use Rattle.fir_bits.specs.Forms.{no_type}
use Rattle.fir_leaf.specs.declared.node.Node.{Node as LeafNode}
use Rattle.fir_leaf.specs.working.Nodes.{entries}
use Rattle.fir_leaf_circuit.specs.declared.leaf.Leaf.{Leaf}
use Rattle.fir_leaf_circuit.specs.declared.leaf.LeafRole.{LeafRole}
use Rattle.fir_leaf_circuit.specs.declared.leaf.LeafRole.TheVariants as leafed
use Rattle.fir_leaf_circuit.specs.declared.leaf.ResetRole.{ResetRole}
use Rattle.fir_leaf_circuit.specs.working.Seen.{reading_seen, role_seen}
use Rattle.fir_leaf_types.specs.working.TypedModules.{IsRoleTyped}
use Rattle.fir_meaning.specs.working.LeafBlocks.{LeafBlock}
use Rattle.fir_meaning.specs.LeafTypes.{LeafType}
use Rattle.fir_meaning.specs.working.TermValues.{Holds}
use Rattle.fir_net.specs.declared.node.Node.{Node}
use Rattle.fir_connect.specs.working.Drivers.{driver_of}
use Rattle.fir_connect.specs.working.Lowered.{zero_of}
use Rattle.fir_connect.specs.working.LoweredLaws.{types_of}
use Rattle.fir_connect.specs.working.NetRoles.{NetReset as ResetMeant, NetRole as RoleMeant, net_role}
use Rattle.fir_connect.specs.working.NetRoles as meant
use Rattle.fir_merge.specs.declared.bound.Bound.{Bound}
use Rattle.fir_merge.specs.working.Bounds.{StandsFor}
use Rattle.fir_merge.specs.working.Entries.{EntriesStand, value_in}
use Rattle.fir_whens.specs.declared.net_role.NetReset.{NetReset}
use Rattle.fir_whens.specs.declared.net_role.NetRole.{NetRole}
use Rattle.fir_whens.specs.declared.net_role.NetRole.TheVariants as code

abbrev pub is_register : LeafRole → Bool
is_register (leafed.Register clock reset) = true
is_register _ = false

abbrev pub reset_over : List LeafNode → List Bound → Bound → Option ResetRole → Option NetReset
reset_over nodes bounds nothing reset = option_map (λ (r : ResetRole). record {
  is_async = r.is_async;
  condition = value_in nodes bounds nothing r.condition;
  init = value_in nodes bounds nothing r.init;
}) reset

abbrev pub ResetStands : Holds → List Node → Option NetReset → Option ResetMeant → Type 0
ResetStands holds net None None = Unit {0}
ResetStands holds net (Some r) (Some m) =
    (r.is_async ≡ m.is_async) × StandsFor holds net r.condition m.condition × StandsFor holds net r.init m.init
ResetStands holds net _ _ = ⊥

-- by the nodes of the net
abbrev pub RoleStands : Holds → List Node → NetRole → RoleMeant → Type 0
RoleStands holds net code.Source meant.source = Unit {0}
RoleStands holds net (code.Driven b) (meant.driven t) = StandsFor holds net b t
RoleStands holds net (code.Computed b) (meant.computed t) = StandsFor holds net b t
RoleStands holds net (code.Register clock reset next) (meant.register c r t) =
    StandsFor holds net clock c × ResetStands holds net reset r × StandsFor holds net next t
RoleStands holds net (code.Reading e) (meant.reading r) = reading_seen e ≡ r
RoleStands holds net (code.Pipe e clock under) (meant.pipe r c u) = (reading_seen e ≡ r) × (clock ≡ c) × (under ≡ u)
RoleStands holds net _ _ = ⊥

-- of a leaf with a role over its module's nodes, whose bounds stand for them, and with a bound that stands for its driver
abbrev pub IsRoleOf : List LeafNode → List Bound → Bound → Bound → LeafRole → NetRole → Type 0
IsRoleOf nodes bounds nothing driver role r =
    (held : ℕ → LeafType) (net : List Node) (depth x : ℕ) (b : LeafBlock) → EntriesStand (types_of held) net bounds (entries nodes)
    → StandsFor (types_of held) net nothing (zero_of no_type) → IsRoleTyped held (held x) (role_seen nodes role)
    → StandsFor (types_of held) net driver (driver_of (types_of held) depth (is_register role) b x)
    → RoleStands (types_of held) net r (net_role (types_of held) depth b x (role_seen nodes role))

-- of leaves, each with a driver
pub record AreRolesOf (nodes : List LeafNode) (bounds : List Bound) (nothing : Bound) (drivers : List Bound) (leaves : List Leaf) (roles : List NetRole)
    : Type 0 where
  pub count : length drivers ≡ length leaves → length roles ≡ length leaves
  pub each : (x : ℕ) (leaf : Leaf) (driver : Bound) (r : NetRole) → slice_get leaves x ≡ Some leaf → slice_get drivers x ≡ Some driver
      → slice_get roles x ≡ Some r → IsRoleOf nodes bounds nothing driver leaf.role r
