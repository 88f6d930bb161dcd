-- The net of a module of the code is that of its leaf view: what drives its leaves and what its roles stand for.
use Rattle.std.proofs.Common.{◌≡◌, ℕ, zero, suc, ◌<◌, ◌≤◌, ◌⊎◌, List, [], ◌∷◌, Bool, length, map, Some, refl, sym, ap, subst, ◌∙◌, inl, inr, arith}
use Rattle.std.specs.Prelude.{slice_get, slice_index_or}
use Rattle.std.proofs.lemmas.Bool.{cases_lt}
use Rattle.std.proofs.lemmas.List.{get_or_past, length-map}
use Rattle.std.proofs.lemmas.Option.{get_or_from_slice_get, slice_get_within}
use Rattle.fir_base.proofs.Elements.{there}
use Rattle.fir_bits.specs.Forms.{no_type}
use Rattle.fir_bits.specs.declared.types.NumTy.{NumTy}
use Rattle.fir_leaf.specs.declared.node.Node.{Node as LeafNode}
use Rattle.fir_leaf.specs.declared.statement.LeafStmt.{LeafStmt}
use Rattle.fir_leaf.specs.working.NodeBlocks.{block_in}
use Rattle.fir_leaf.specs.working.Nodes.{entries}
use Rattle.fir_leaf.proofs.LeafPlaces.{get_mapped}
use Rattle.fir_leaf_circuit.specs.declared.leaf.Leaf.{Leaf}
use Rattle.fir_leaf_circuit.specs.declared.leaf_module.LeafModule.{LeafModule}
use Rattle.fir_leaf_circuit.specs.working.Seen.{HasView, leaf_seen, leaves_seen, role_seen, type_seen}
use Rattle.fir_leaf_types.specs.working.TypedBlocks.{AreTyped}
use Rattle.fir_leaf_types.specs.working.TypedModules.{IsModuleTyped, IsRoleTyped, held_in}
use Rattle.fir_meaning.specs.working.LeafBlocks.{LeafBlock}
use Rattle.fir_meaning.specs.working.LeafModules.{LeafDeclared, LeafModule as View, Role, depth_at, leaf_at, no_leaf, role_at}
use Rattle.fir_meaning.specs.LeafTypes.{number_type}
use Rattle.fir_meaning.specs.working.TermValues.{Holds}
use Rattle.fir_net.specs.declared.node.Node.{Node}
use Rattle.fir_connect.specs.working.Drivers.{driver_of}
use Rattle.fir_connect.specs.working.Lowered.{zero_of}
use Rattle.fir_connect.specs.working.LoweredLaws.{types_of}
use Rattle.fir_connect.specs.working.NetRoles.{net_role, net_role_at}
use Rattle.fir_driven.specs.working.Covering.{depth_in, flag_at}
use Rattle.fir_drivers.specs.working.Drivers.{AreDrivers}
use Rattle.fir_leaf_circuit.specs.working.LeafStores.{leaf_of_code}
use Rattle.fir_merge.specs.declared.bound.Bound.{Bound}
use Rattle.fir_merge.specs.working.Bounds.{StandsFor, ZeroStands, types_in}
use Rattle.fir_merge.specs.working.Entries.{EntriesStand}
use Rattle.fir_merge.specs.working.NodeTerms.{Grows}
use Rattle.fir_merge.proofs.GrownEntries.{entries_later}
use Rattle.fir_merge.proofs.GrownTerms.{grows_more}
use Rattle.fir_merge.proofs.StandingValues.{stands_later}
use Rattle.fir_whens.specs.declared.module_net.ModuleNet.{ModuleNet}
use Rattle.fir_whens.specs.declared.net_role.NetRole.{NetRole}
use Rattle.fir_whens.specs.working.CoveredModules.{depths_of}
use Rattle.fir_whens.specs.working.ModuleNets.{IsNetOf, registers_of, types_of_leaves}
use Rattle.fir_whens.specs.working.StandingRoles.{AreRolesOf, RoleStands, is_register}
use Rattle.fir_whens.proofs.CoveredViews.{as_many, same_depth, same_leaf}
use Rattle.fir_whens.proofs.SinksOfCode.{depth_seen}

types_seen : (nodes : List LeafNode) (ls : List Leaf) (x : ℕ)
    → slice_index_or (map (λ (l : Leaf). number_type (type_seen l.holds)) ls) x no_type ≡ number_type (leaf_at (leaves_seen nodes ls) x).holds
types_seen nodes [] x = refl
types_seen nodes (l ∷ ls) zero = refl
types_seen nodes (l ∷ ls) (suc x) = types_seen nodes ls x

module _ (m : LeafModule) (meant : View) (has : HasView m meant) where
  same_types : types_in (types_of_leaves m) ≡ types_of (held_in meant)
  same_types =
      let at : (x : ℕ) → types_in (types_of_leaves m) x ≡ types_of (held_in meant) x =
      λ x. types_seen m.nodes.items m.leaves.items x ∙ ap (λ (l : LeafDeclared). number_type l.holds) (same_leaf m meant has x) in
      λ i x. at x i

  all_narrow : IsModuleTyped meant → (y : ℕ) → (types_of (held_in meant) y).width ≤ 128
  all_narrow typed y = by (cases_lt y (length meant.leaves))
    where
      by : (y < length meant.leaves) ⊎ (length meant.leaves ≤ y) → (types_of (held_in meant) y).width ≤ 128
      by (inl within) = typed.narrow y within
      by (inr past) =
          let none : leaf_at meant.leaves y ≡ no_leaf = get_or_past meant.leaves y no_leaf past in
          subst (λ (l : LeafDeclared). (number_type l.holds).width ≤ 128) (sym none) (omega arith)

  module _ (x : ℕ) (leaf : Leaf) (of : slice_get m.leaves.items x ≡ Some leaf) where
    flag_is : flag_at (registers_of m) x ≡ is_register leaf.role
    flag_is =
        let flag : Leaf → Bool = λ l. is_register l.role in
        get_or_from_slice_get (map flag m.leaves.items) x (flag leaf) _ (get_mapped flag m.leaves.items x leaf of)

    role_is : role_seen m.nodes.items leaf.role ≡ role_at meant x
    role_is =
        let seen = leaf_seen m.nodes.items in
        let read : leaf_of_code m x ≡ seen leaf =
        get_or_from_slice_get (map seen m.leaves.items) x (seen leaf) no_leaf (get_mapped seen m.leaves.items x leaf of) in
        ap (λ (l : LeafDeclared). l.role) (sym read ∙ same_leaf m meant has x)

  depth_is : (x : ℕ) → depth_in (depths_of m) x ≡ depth_at meant x
  depth_is x = depth_seen m.nodes.items m.leaves.items x ∙ same_depth m meant has x

  module _ (typed : IsModuleTyped meant) (net : ModuleNet) (net_zero net_bounds : List Node) (nothing : Bound) (bounds drivers : List Bound)
      (zero_stands : ZeroStands net_zero no_type nothing) (grows : Grows net_zero net_bounds)
      (entries_stand : EntriesStand (types_in (types_of_leaves m)) net_bounds bounds (entries m.nodes.items)) (grows_on : Grows net_bounds net.nodes)
      (are : AreDrivers (types_of_leaves m) (depths_of m) (registers_of m) m.nodes.items bounds (block_in m.nodes.items m.body.items) net_bounds net.nodes
      drivers)
      (roles_are : AreRolesOf m.nodes.items bounds nothing drivers m.leaves.items net.roles.items) where
    holds : Holds
    holds = types_of (held_in meant)

    as_many_drivers : length drivers ≡ length m.leaves.items
    as_many_drivers = are.0 ∙ length-map m.leaves.items (λ (l : Leaf). number_type (type_seen l.holds))

    as_many_roles : length net.roles.items ≡ length m.leaves.items
    as_many_roles = roles_are.count as_many_drivers

    entries_there : EntriesStand holds net_bounds bounds (entries m.nodes.items)
    unfolding holds
    entries_there = subst (λ (h : Holds). EntriesStand h net_bounds bounds (entries m.nodes.items)) same_types entries_stand

    role_there : (x : ℕ) (r : NetRole) → slice_get net.roles.items x ≡ Some r → RoleStands holds net.nodes r (net_role_at meant x)
    unfolding holds
    role_there x r at =
        let within : x < length m.leaves.items = subst (λ n. x < n) as_many_roles (slice_get_within net.roles.items x r at) in
        let inside : x < length meant.leaves = subst (λ n. x < n) (as_many m meant has) within in
        let one = there m.leaves.items x within in
        let leaf = one.0 in
        let of = one.1 in
        let body = block_in m.nodes.items m.body.items in
        let depth = depth_in (depths_of m) x in
        let many : length (depths_of m) ≡ length (types_of_leaves m) =
        length-map m.leaves.items (λ (l : Leaf). l.depth) ∙ sym (length-map m.leaves.items (λ (l : Leaf). number_type (type_seen l.holds))) in
        let short : x < length (types_of_leaves m) =
        subst (λ n. x < n) (sym (length-map m.leaves.items (λ (l : Leaf). number_type (type_seen l.holds)))) within in
        let slot =
        are.1 (held_in meant) x same_types (all_narrow typed) many entries_there
        (subst (λ (b : LeafBlock). AreTyped (held_in meant) b) (sym has.body) typed.body) short in
        let role_typed : IsRoleTyped (held_in meant) (held_in meant x) (role_seen m.nodes.items leaf.role) =
        subst (λ (role : Role). IsRoleTyped (held_in meant) (held_in meant x) role) (sym (role_is x leaf of)) (typed.roles x inside) in
        let stands =
        roles_are.each x leaf slot.bound r of slot.is at (held_in meant) net.nodes depth x body
        (entries_later holds net_bounds net.nodes bounds (entries m.nodes.items) grows_on entries_there)
        (stands_later holds net_zero net.nodes nothing (zero_of no_type) (grows_more net_zero net_bounds net.nodes grows grows_on) (zero_stands holds))
        role_typed
        (subst (λ (flag : Bool). StandsFor holds net.nodes slot.bound (driver_of holds depth flag body x)) (flag_is x leaf of) slot.stands) in
        subst (λ (role : Role). RoleStands holds net.nodes r (net_role holds (depth_at meant x) meant.body x role)) (role_is x leaf of)
        (subst (λ (b : LeafBlock). RoleStands holds net.nodes r (net_role holds (depth_at meant x) b x (role_seen m.nodes.items leaf.role))) has.body
        (subst (λ (d : ℕ). RoleStands holds net.nodes r (net_role holds d body x (role_seen m.nodes.items leaf.role))) (depth_is x) stands))

    pub net_is : IsNetOf meant net
    unfolding holds
    net_is = record { count = as_many_roles ∙ as_many m meant has; each = role_there }

-- the same lists, as the code reads them
pub entries_read : (types types2 : List NumTy) (nodes nodes2 : List LeafNode) (net : List Node) (bounds : List Bound) → types ≡ types2 → nodes ≡ nodes2
    → EntriesStand (types_in types) net bounds (entries nodes) → EntriesStand (types_in types2) net bounds (entries nodes2)
entries_read types types2 nodes nodes2 net bounds t n h = rw (sym t, sym n) h

pub drivers_read : (types types2 : List NumTy) (depths depths2 : List ℕ) (registers registers2 : List Bool) (nodes nodes2 : List LeafNode)
    (bounds bounds2 : List Bound) (body body2 : List LeafStmt) (old new : List Node) (drivers : List Bound) → types ≡ types2 → depths ≡ depths2
    → registers ≡ registers2 → nodes ≡ nodes2 → bounds ≡ bounds2 → body ≡ body2
    → AreDrivers types depths registers nodes bounds (block_in nodes body) old new drivers
    → AreDrivers types2 depths2 registers2 nodes2 bounds2 (block_in nodes2 body2) old new drivers
drivers_read types types2 depths depths2 registers registers2 nodes nodes2 bounds bounds2 body body2 old new drivers t d r n b s h =
    rw (sym t, sym d, sym r, sym n, sym b, sym s) h

pub roles_read : (nodes nodes2 : List LeafNode) (bounds bounds2 : List Bound) (nothing : Bound) (drivers drivers2 : List Bound) (leaves leaves2 : List Leaf)
    (roles : List NetRole) → nodes ≡ nodes2 → bounds ≡ bounds2 → drivers ≡ drivers2 → leaves ≡ leaves2
    → AreRolesOf nodes bounds nothing drivers leaves roles → AreRolesOf nodes2 bounds2 nothing drivers2 leaves2 roles
roles_read nodes nodes2 bounds bounds2 nothing drivers drivers2 leaves leaves2 roles n b d l h = rw (sym n, sym b, sym d, sym l) h
