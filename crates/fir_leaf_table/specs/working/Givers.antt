-- What gives the leaves of a declaration their values, and where they stand, each by its number among them and by whether it is flipped.
use Rattle.std.specs.Prelude.{ℕ, suc, List, [], ◌∷◌, map, Bool, if◌then◌else◌, option_map, slice_index_or}
use Rattle.fir_base.specs.declared.direction.Direction.{Direction}
use Rattle.fir_ast.specs.declared.place.Place.{Place}
use Rattle.fir_meaning.specs.Flows.{flow_under, is_source, port_flow}
use Rattle.fir_leaf.specs.declared.node.Node.{Node}
use Rattle.fir_meaning.specs.working.LeafedBlocks.{term_at}
use Rattle.fir_meaning.specs.working.LeafModules.{LeafDeclared, LeafReset, Role, computed, register, sink, source}
use Rattle.fir_leaf.specs.working.Nodes.{node_term}
use Rattle.fir_leaf_table.specs.declared.giver.Giver.{Giver}
use Rattle.fir_leaf_table.specs.declared.giver.Giver.TheVariants as giver
use Rattle.fir_leaf_table.specs.declared.giver.ResetGiver.{ResetGiver}
use Rattle.fir_leaf_table.specs.declared.places.Places.{Places}
use Rattle.fir_leaf_table.specs.declared.places.Places.TheVariants as place
use Rattle.fir_leaf_table.specs.declared.type_leaves.TypeLeaf.{TypeLeaf}
use Rattle.fir_leaf_circuit.specs.working.Seen.{role_seen, type_seen}

abbrev pub direction_role : Direction → Bool → Role
direction_role d flip = if is_source (flow_under flip (port_flow d)) then source else sink

abbrev pub flipped_role : Bool → Role
flipped_role flip = if flip then sink else source

abbrev pub reset_given : List Node → ℕ → ResetGiver → LeafReset
reset_given nodes k r = record { is_async = r.is_async; condition = node_term nodes r.condition; init = term_at (map (node_term nodes) r.init.now) k }

abbrev pub giver_role : List Node → Giver → ℕ → Bool → Role
giver_role nodes (giver.Port d) k flip = direction_role d flip
giver_role nodes giver.Wire k flip = sink
giver_role nodes (giver.Node ids) k flip = computed (term_at (map (node_term nodes) ids.now) k)
giver_role nodes (giver.Register clock reset) k flip = register (node_term nodes clock) (option_map (reset_given nodes k) reset)
giver_role nodes giver.Instance k flip = flipped_role flip
giver_role nodes (giver.Memory roles) k flip = slice_index_or (map (role_seen nodes) roles.now) k source

-- a leaf of an instance that is not flipped stands where its port does
abbrev pub place_of : Places → ℕ → Bool → Place
place_of (place.Own p) k flip = p
place_of (place.Ports p ports) k flip = if flip then p else slice_index_or ports.now k p

-- the leaf of a number of a declaration behind so many others
abbrev pub given_leaf : List Node → ℕ → ℕ → Places → Giver → ℕ → TypeLeaf → LeafDeclared
given_leaf nodes declaration depth places gives k l = record {
  place = place_of places k l.flip;
  declaration = declaration;
  instances = 0;
  path = [];
  holds = type_seen l.holds;
  depth = depth;
  role = giver_role nodes gives k l.flip;
}

-- its leaves, from that of a number on
abbrev pub given_from : List Node → ℕ → ℕ → Places → Giver → ℕ → List TypeLeaf → List LeafDeclared
given_from nodes declaration depth places gives k [] = []
given_from nodes declaration depth places gives k (l ∷ ls) =
    given_leaf nodes declaration depth places gives k l ∷ given_from nodes declaration depth places gives (suc k) ls
