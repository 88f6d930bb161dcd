-- The leaves of a design, and the nodes and roles that its modules put there one after the other.
use Rattle.std.specs.Prelude.{ℕ, suc, ◌-◌, List, [], ◌∷◌, ◌++◌, flat_map, length, map, Bool, Option, Some, None, replicate, slice_get, slice_set}
use Rattle.std.specs.List.{range_with_len}
use Rattle.fir_elaborate.specs.declared.elaborated.ModuleCopy.{ModuleCopy}
use Rattle.fir_leaf_circuit.specs.declared.leaf.Leaf.{Leaf}
use Rattle.fir_net.specs.declared.node.Node.{Node}
use Rattle.fir_whens.specs.declared.net_role.NetRole.{NetRole}
use Rattle.fir_whens.specs.declared.net_role.NetRole.TheVariants as role
use Rattle.fir_flatten.specs.declared.design_net.DesignLeaf.{DesignLeaf}
use Rattle.fir_flatten.specs.declared.design_net.ModulePart.{ModulePart}
use Rattle.fir_flatten.specs.declared.design_net.Values.{Values}
use Rattle.fir_flatten.specs.declared.offsets.Offsets.{Offsets}
use Rattle.fir_flatten.specs.working.MovedNets.{leaf_moved, node_moved, offsets_of, role_moved}

-- the module of a copy, if it is there
abbrev pub part_of : List ModulePart → ModuleCopy → Option ModulePart
part_of parts k = slice_get parts k.module_number

abbrev pub main_part : List ModulePart → List ModuleCopy → Option ModulePart
main_part parts [] = None
main_part parts (k ∷ ks) = part_of parts k

abbrev pub ports_of : Option ModulePart → ℕ
ports_of None = 0
ports_of (Some p) = p.part.now.port_leaves

-- a leaf of a module, behind what stands before its path
abbrev pub leaf_behind : List ℕ → Option Leaf → Option (List ℕ) → Option Bool → Option DesignLeaf
leaf_behind prefix (Some l) (Some text) (Some is_driven) =
    Some (record { path = prefix ++ text; place = l.place; holds = l.holds; is_driven = is_driven })
leaf_behind prefix _ _ _ = None

abbrev pub part_leaf : List ℕ → ModulePart → ℕ → Option DesignLeaf
part_leaf prefix p x = leaf_behind prefix (slice_get p.part.now.leaves.items x) (slice_get p.texts.items x) (slice_get p.driven.items x)

abbrev pub listed : Option DesignLeaf → List DesignLeaf
listed None = []
listed (Some l) = l ∷ []

-- those from one number up to another
unfoldable pub part_leaves : List ℕ → ModulePart → ℕ → ℕ → List DesignLeaf
part_leaves prefix p from to = flat_map (λ x. listed (part_leaf prefix p x)) (range_with_len from (to - from))

abbrev pub port_part : Option ModulePart → List DesignLeaf
port_part None = []
port_part (Some p) = part_leaves [] p 0 p.part.now.port_leaves

abbrev pub inner_part : List ℕ → Option ModulePart → List DesignLeaf
inner_part prefix None = []
inner_part prefix (Some p) = part_leaves prefix p p.part.now.port_leaves (length p.part.now.leaves.items)

abbrev pub copy_leaves : List ModulePart → ModuleCopy → List DesignLeaf
copy_leaves parts k = inner_part k.prefix (part_of parts k)

-- of the whole design
abbrev pub leaves_of : List ModulePart → List ModuleCopy → List DesignLeaf
leaves_of parts copies = port_part (main_part parts copies) ++ flat_map (copy_leaves parts) copies

-- what is outside of a module it gives no value
abbrev pub given : List NetRole → ℕ → NetRole → List NetRole
given roles x role.Source = roles
given roles x r = slice_set roles x r

-- the roles of a module from the leaf of a number on
abbrev pub given_from : Offsets → ℕ → List NetRole → List NetRole → List NetRole
given_from at x [] roles = roles
given_from at x (r ∷ rs) roles = given_from at (suc x) rs (given roles (leaf_moved at x) (role_moved at r))

pub record Given : Type 0 where
  pub nodes : List Node
  pub roles : List NetRole

abbrev pub values_seen : Values → Given
values_seen v = record { nodes = v.nodes.items; roles = v.roles.items }

abbrev pub offsets_in : ModuleCopy → ModulePart → Given → Offsets
offsets_in k p v = offsets_of k p.part.now.port_leaves (length v.nodes)

unfoldable pub put_module : ModuleCopy → ModulePart → Given → Given
put_module k p v = record {
  nodes = v.nodes ++ map (node_moved (offsets_in k p v)) p.net.now.nodes;
  roles = given_from (offsets_in k p v) 0 p.net.now.roles.items v.roles;
}

abbrev pub put_part : ModuleCopy → Option ModulePart → Given → Given
put_part k None v = v
put_part k (Some p) v = put_module k p v

abbrev pub put_copies : List ModulePart → List ModuleCopy → Given → Given
put_copies parts [] v = v
put_copies parts (k ∷ ks) v = put_copies parts ks (put_part k (part_of parts k) v)

-- so many leaves without a value
abbrev pub no_values : ℕ → Given
no_values n = record { nodes = []; roles = replicate n role.Source }
