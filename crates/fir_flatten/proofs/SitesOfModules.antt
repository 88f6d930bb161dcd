-- What the code tells of a leaf of a module: whether its clock is unclear, and the path by which a fault tells it.
use Rattle.std.proofs.Common.{◌≡◌, ℕ, ◌<◌, List, length, get_or, slice_get, Bool, true, false, Decides, Some, option_map, refl, sym, ap, ◌∙◌, subst}
use Rattle.std.proofs.lemmas.Option.{get_or_from_slice_get, slice_get-map, slice_get_read}
use Rattle.fir_base.proofs.Elements.{there}
use Rattle.fir_bits.specs.declared.types.NumTy.{NumTy}
use Rattle.fir_leaf_circuit.specs.declared.leaf.Leaf.{Leaf}
use Rattle.fir_leaf_circuit.specs.declared.leaf.LeafType.TheVariants.{Clock, Number}
use Rattle.fir_leaf_circuit.specs.working.Seen.{leaf_seen, type_seen, unnamed}
use Rattle.fir_leaf.specs.working.ClockFaults.{clock_path}
use Rattle.fir_leaf.specs.working.ModuleCircuits.{module_circuit}
use Rattle.fir_leaf_types.specs.working.TypedModules.{held_in}
use Rattle.fir_meaning.specs.LeafPaths.{path_text}
use Rattle.fir_meaning.specs.LeafTypes.{LeafType, a_clock, number}
use Rattle.fir_meaning.specs.working.LeafModules.{LeafDeclared, LeafModule as Viewed, leaf_at, no_leaf}
use Rattle.fir_meaning.specs.working.TermValues.{Holds}
use Rattle.fir_net.specs.declared.node.Node.{Node}
use Rattle.fir_connect.specs.working.NetRoles.{NetRole as RoleMeant, net_role_at, net_types}
use Rattle.fir_merge.specs.working.NodeTerms.{ReadBefore}
use Rattle.fir_whens.specs.declared.net_role.NetRole.{NetRole}
use Rattle.fir_whens.specs.working.StandingRoles.{RoleStands}
use Rattle.fir_whens.proofs.CoveredViews.{as_many}
use Rattle.fir_flatten.specs.declared.design_net.ModulePart.{ModulePart}
use Rattle.fir_flatten.specs.working.ClearClocks.{IsUnclear, IsUnclearAs}
use Rattle.fir_flatten.specs.working.DesignNets.{IsPartOf}
use Rattle.fir_flatten.specs.working.FirstSites.{AreNamed, IsSite}
use Rattle.fir_flatten.proofs.EvidenceOfLeaves.{seen_there}

module _ (m : Viewed) (p : ModulePart) (is : IsPartOf m p) (z : ℕ) (l : Leaf) (in_leaves : z < length p.part.now.leaves.items)
    (leaf_is : l ≡ get_or p.part.now.leaves.items z l) where
  seen : leaf_seen p.part.now.nodes.items l ≡ unnamed (leaf_at m.leaves z)
  seen = seen_there p.part.now m is.view z l in_leaves leaf_is

  within : z < length m.leaves
  within = subst (λ n. z < n) (as_many p.part.now m is.view) in_leaves

  held : type_seen l.holds ≡ held_in m z
  held = ap (λ (d : LeafDeclared). d.holds) seen

  -- whether its clock is unclear
  module _ (r : NetRole) (in_roles : z < length p.net.now.roles.items) (role_is : r ≡ get_or p.net.now.roles.items z r) (nodes : List Node)
      (same : nodes ≡ p.net.now.nodes) (answer : Bool)
      (tells : (types : Holds) (q : RoleMeant) → ReadBefore 0 nodes → RoleStands types nodes r q → Decides answer (IsUnclearAs (type_seen l.holds) q)) where
    decides : Decides answer (IsUnclearAs (type_seen l.holds) (net_role_at m z))
    decides =
        tells (net_types m) (net_role_at m z) (subst (ReadBefore 0) (sym same) is.before)
        (subst (λ ns. RoleStands (net_types m) ns r (net_role_at m z)) (sym same)
        (is.is_net.each z r (slice_get_read p.net.now.roles.items (length p.net.now.roles.items) z r refl in_roles role_is)))

    pub found_unclear : (i : ℕ) → answer ≡ true → IsSite m i z (record { copy = i; leaf = z; place = l.place })
    found_unclear i e = record {
      copy = refl;
      leaf = refl;
      within = within;
      unclear = subst (λ (t : LeafType). IsUnclearAs t (net_role_at m z)) held (decides.0 e);
      place = ap (λ (d : LeafDeclared). d.place) seen;
    }

    pub found_clear : answer ≡ false → IsUnclear m z → ⊥
    found_clear e unclear =
        let yes = decides.1 (subst (λ (t : LeafType). IsUnclearAs t (net_role_at m z)) (sym held) unclear) in
        let never : false ≡ true = sym e ∙ yes in
        cc

  pub clock_text : l.holds ≡ Clock → (texts : List (List ℕ)) → texts ≡ p.texts.items
      → slice_get texts z ≡ Some (clock_path (module_circuit m) z (leaf_at m.leaves z).holds)
  clock_text e texts same =
      let h : (leaf_at m.leaves z).holds ≡ a_clock = sym held ∙ ap type_seen e in
      let d = there m.leaves z within in
      let there_is : slice_get texts z ≡ Some (path_text d.0.path) =
      ap (λ ts. slice_get ts z) (same ∙ is.texts) ∙ slice_get-map (λ (x : LeafDeclared). path_text x.path) m.leaves z
      ∙ ap (option_map (λ (x : LeafDeclared). path_text x.path)) d.1 in
      let own : leaf_at m.leaves z ≡ d.0 = get_or_from_slice_get m.leaves z d.0 no_leaf d.1 in
      there_is ∙ ap (λ (x : LeafDeclared). Some (path_text x.path)) (sym own) ∙ ap (λ t. Some (clock_path (module_circuit m) z t)) (sym h)

  pub number_text : (t : NumTy) → l.holds ≡ Number t → (names : List (List ℕ)) → AreNamed m names
      → slice_get names l.declaration ≡ Some (clock_path (module_circuit m) z (leaf_at m.leaves z).holds)
  number_text t e names named =
      let h : (leaf_at m.leaves z).holds ≡ number t = sym held ∙ ap type_seen e in
      ap (slice_get names) (ap (λ (d : LeafDeclared). d.declaration) seen) ∙ named z within ∙ ap (λ u. Some (clock_path (module_circuit m) z u)) (sym h)

-- a module without the leaf, or without its role, has none that is unclear
pub none_there : (m : Viewed) (p : ModulePart) (is : IsPartOf m p) (z : ℕ) → (z < length p.part.now.leaves.items → ⊥) → z < length m.leaves → ⊥
none_there m p is z none lt = none (subst (λ n. z < n) (sym (as_many p.part.now m is.view)) lt)

pub no_role : (m : Viewed) (p : ModulePart) (is : IsPartOf m p) (z : ℕ) → (z < length p.net.now.roles.items → ⊥) → z < length m.leaves → ⊥
no_role m p is z none lt = none (subst (λ n. z < n) (sym is.is_net.count) lt)
