-- Each leaf of a design's table is given its value by a copy of a module, or is an input of the main module.
use Rattle.std.proofs.Common.{◌≡◌, ℕ, ◌+◌, ◌<◌, ◌≤◌, Bool, true, false, not, nat_lt, length, slice_get, Some, refl, sym, ap, ◌∙◌, subst, inl, inr, arith, ◌⊎◌}
use Rattle.std.proofs.lemmas.Bool.{ltb-false, ltb-true}
use Rattle.std.proofs.lemmas.Option.{same_Some}
use Rattle.fir_base.specs.Lists.{In}
use Rattle.fir_base.proofs.Elements.{get_in}
use Rattle.fir_ast.specs.Circuits.{CircuitTree}
use Rattle.fir_meaning.specs.ModuleScenes.{Scene}
use Rattle.fir_meaning.specs.SourceDesigns.{SourceDesign}
use Rattle.fir_meaning.specs.working.Designs.{Items, made_of}
use Rattle.fir_meaning.specs.working.Flattened.{flattened}
use Rattle.fir_meaning.specs.working.LeafedModules.{leafed_module}
use Rattle.fir_meaning.specs.working.LeafModules.{LeafModule, Role, computed, may_drive, pipe, reading, register, role_at, sink, source}
use Rattle.fir_meaning.specs.working.Numberings.{Numbering, number, numbering}
use Rattle.fir_leaf.proofs.MovedTerms.{number_more, number_port}
use Rattle.fir_design.specs.working.MeaningLaws.{AreDesigns}
use Rattle.fir_design.proofs.FineScenes.{IsFineScene, fine_scene}
use Rattle.fir_design.proofs.HeldInstances.{Held, all_held_in}
use Rattle.fir_design.proofs.NumberedScenes.{scene_numbered, scene_own}
use Rattle.fir_design.proofs.PortLeaves.{ports_in}
use Rattle.fir_design_faults.proofs.PortTurns.{ports_turn}
use Rattle.fir_copies.specs.working.Copies.{Copy, copies_of}
use Rattle.fir_copies.specs.working.CopyLaws.{CopiesGiveAll, IsGiven, IsGivenBy}
use Rattle.fir_copies.proofs.CopyPlaces.{HasChild, IsInner}
use Rattle.fir_copies.proofs.InstanceLeaves.{own_leaf}
use Rattle.fir_copies.proofs.PortsHeld.{instance_own, instance_port}
use Rattle.fir_copies.proofs.WholeCopies.{each_copy, each_inner}

-- a role is that of a source, or is not
pub source_or_not : (r : Role) → (r ≡ source) ⊎ (r ≡ source → ⊥)
source_or_not source = inl refl
source_or_not sink = inr (λ e. absurd (cc))
source_or_not (computed t) = inr (λ e. absurd (cc))
source_or_not (register c r) = inr (λ e. absurd (cc))
source_or_not (reading r) = inr (λ e. absurd (cc))
source_or_not (pipe r x u) = inr (λ e. absurd (cc))

-- a port of an instance has one number in both modules
port_number : (n p : Numbering) (first port leaf : ℕ) → n.ports ≤ first → port < p.ports → p.first ≡ number n first → leaf ≡ first + port
    → number p port ≡ number n leaf
port_number n p first port leaf own within begins is =
    number_port p port within ∙ ap (λ z. z + port) begins ∙ number_more n first port (λ low. absurd (omega (arith, low, own))) ∙ ap (number n) (sym is)

module _ (c : CircuitTree) (m : LeafModule) (is : Items) (t : SourceDesign) (a : AreDesigns c (made_of m is) t) (x : ℕ)
    (at : slice_get a.scenes x ≡ Some a.main) where
  -- what an instance gives
  from_instance : (y : ℕ) (i : IsInner a.scenes (flattened (made_of m is)).leaves (copies_of x (made_of m is)) y)
      → role_at (leafed_module i.scene) i.leaf ≡ source → (k : Copy) × In (copies_of x (made_of m is)) k × IsGivenBy a.scenes k y
  from_instance y i e =
      let s = i.scene in
      let inner = leafed_module s in
      let among = get_in a.scenes i.copy.module_number s i.is in
      let fine : IsFineScene s = fine_scene c s a.names a.types (scene_numbered c a.scenes a.are s among) in
      let stand = each_copy c m is t a x at i.copy i.among in
      let from = (own_leaf c s a.names (scene_own c a.scenes a.are s among) fine i.leaf i.own i.within).from e in
      let h = from.0 in
      let same : stand.scene ≡ s = same_Some stand.scene s (sym stand.is ∙ i.is) in
      let children : (g : Held) → In (all_held_in 0 inner.body) g → HasChild (numbering inner i.copy.first i.copy.own) (copies_of x (made_of m is)) g =
      subst (λ (u : Scene). (g : Held) → In (all_held_in 0 (leafed_module u).body) g
      → HasChild (numbering (leafed_module u) i.copy.first i.copy.own) (copies_of x (made_of m is)) g) same stand.children in
      let child = children h from.1 in
      let below = each_copy c m is t a x at child.copy child.among in
      let other = leafed_module below.scene in
      let there : slice_get a.scenes h.own.module_number ≡ Some below.scene = ap (slice_get a.scenes) (sym child.module_number) ∙ below.is in
      let port = instance_port c a.names a.types a.scenes a.are s among h from.1 below.scene there i.leaf i.within (sym from.2) in
      let turned = (ports_turn c a.names a.types a.scenes a.are s among h from.1 below.scene there port.port port.within).turned in
      let n = numbering inner i.copy.first i.copy.own in
      let first : inner.port_leaves ≤ h.own.first = instance_own c a.names a.types a.scenes a.are s among h from.1 below.scene there in (
        child.copy,
        child.among,
        record {
          scene = below.scene;
          is = below.is;
          leaf = port.port;
          within = omega (arith, port.within, below.stands.ports, ports_in below.scene);
          number_is =
              port_number n (numbering other child.copy.first child.copy.own) h.own.first port.port i.leaf first port.within child.first port.is ∙ i.number_is;
          gives = λ g.
              let given : may_drive (role_at inner (h.own.first + port.port)) ≡ false =
              ap (λ z. may_drive (role_at inner z)) (sym port.is) ∙ ap may_drive e in
              let not_given : may_drive (role_at inner (h.own.first + port.port)) ≡ true = turned ∙ ap (λ r. not (may_drive r)) g in
              absurd (cc);
        },
      )

  pub given : (y : ℕ) → y < length (flattened (made_of m is)).leaves → IsGiven a.scenes a.main (copies_of x (made_of m is)) y
  given y lt = by (nat_lt y m.port_leaves) refl
    where
      main_is : m ≡ leafed_module a.main
      main_is = a.design.is.0

      of_port : y < m.port_leaves → (role_at (leafed_module a.main) y ≡ source) ⊎ (role_at (leafed_module a.main) y ≡ source → ⊥)
          → IsGiven a.scenes a.main (copies_of x (made_of m is)) y
      of_port lt (inl e) = inl (record { port = subst (λ (w : LeafModule). y < w.port_leaves) main_is lt; is_source = e })
      of_port lt (inr none_so) =
          let low : y < (leafed_module a.main).port_leaves = subst (λ (w : LeafModule). y < w.port_leaves) main_is lt in
          let none : 0 + y ≡ y = omega arith in
          inr (
            record { module_number = x; first = 0; own = m.port_leaves; array = 0 },
            inl refl,
            record {
              scene = a.main;
              is = at;
              leaf = y;
              within = omega (arith, low, ports_in a.main);
              number_is = number_port (numbering (leafed_module a.main) 0 m.port_leaves) y low ∙ none;
              gives = none_so;
            },
          )

      of_inner : (i : IsInner a.scenes (flattened (made_of m is)).leaves (copies_of x (made_of m is)) y)
          → (role_at (leafed_module i.scene) i.leaf ≡ source) ⊎ (role_at (leafed_module i.scene) i.leaf ≡ source → ⊥)
          → IsGiven a.scenes a.main (copies_of x (made_of m is)) y
      of_inner i (inl e) = inr (from_instance y i e)
      of_inner i (inr none_so) =
          inr (
            i.copy,
            i.among,
            record { scene = i.scene; is = i.is; leaf = i.leaf; within = i.within; number_is = i.number_is; gives = none_so },
          )

      by : (b : Bool) → nat_lt y m.port_leaves ≡ b → IsGiven a.scenes a.main (copies_of x (made_of m is)) y
      by true e = of_port (ltb-true y m.port_leaves e) (source_or_not (role_at (leafed_module a.main) y))
      by false e =
          let i = each_inner c m is t a x at y (ltb-false y m.port_leaves e) lt in of_inner i (source_or_not (role_at (leafed_module i.scene) i.leaf))

pub all_given : CopiesGiveAll
all_given c (made_of m is) t a x at y lt = given c m is t a x at y lt
