-- The leaves of a copy in the table of the whole: where they stand, what they hold, and what gives them their values.
use Rattle.std.proofs.Common.{◌≡◌, ℕ, ◌<◌, List, Bool, true, false, nat_lt, length, refl, sym, ap, ◌∙◌, inl, inr, ◌⊎◌}
use Rattle.std.proofs.lemmas.Bool.{ltb-false, ltb-true}
use Rattle.fir_meaning.specs.ModuleScenes.{Scene}
use Rattle.fir_meaning.specs.SourceDependence.{PlacedModule}
use Rattle.fir_meaning.specs.working.LeafedModules.{leafed_module}
use Rattle.fir_meaning.specs.working.LeafModules.{LeafDeclared, LeafModule, leaf_at, role_at, sink, source}
use Rattle.fir_meaning.specs.working.Numberings.{Numbering, moved_role, number, numbering}
use Rattle.fir_leaf.proofs.MovedTerms.{number_port}
use Rattle.fir_copies.specs.working.Copies.{Copy}
use Rattle.fir_copies.proofs.CopyPlaces.{CopyStands, HaveOneWidths}
use Rattle.fir_copies.proofs.PortRoles.{port_role_is}

module _ (scenes : List Scene) (table : List LeafDeclared) (hs : List PlacedModule) (ks : List Copy) (k : Copy) (s : CopyStands scenes table hs ks k) where
  abbrev m : LeafModule
  m = leafed_module s.scene

  abbrev n : Numbering
  n = numbering (leafed_module s.scene) k.first k.own

  -- they hold what they hold in the module
  pub copy_holds : HaveOneWidths scenes → (x : ℕ) → x < length (leafed_module s.scene).leaves
      → (leaf_at table (number (numbering (leafed_module s.scene) k.first k.own) x)).holds ≡ (leaf_at (leafed_module s.scene).leaves x).holds
  copy_holds alike x lt = by (nat_lt x m.port_leaves) refl
    where
      by : (b : Bool) → nat_lt x m.port_leaves ≡ b → (leaf_at table (number n x)).holds ≡ (leaf_at m.leaves x).holds
      by true e =
          let low = ltb-true x m.port_leaves e in
          ap (λ y. (leaf_at table y).holds) (number_port n x low) ∙ s.ports.holds alike x low
      by false e = ap (λ (l : LeafDeclared). l.holds) (s.placed x (ltb-false x m.port_leaves e) lt)

  -- what is no source in the module has its role in the whole, moved
  pub copy_role : (x : ℕ) → x < length (leafed_module s.scene).leaves → (role_at (leafed_module s.scene) x ≡ source → ⊥)
      → (leaf_at table (number (numbering (leafed_module s.scene) k.first k.own) x)).role
      ≡ moved_role (numbering (leafed_module s.scene) k.first k.own) k.array (role_at (leafed_module s.scene) x)
  copy_role x lt none = by (nat_lt x m.port_leaves) refl
    where
      of_port : x < m.port_leaves → (role_at m x ≡ source) ⊎ (role_at m x ≡ sink) → (leaf_at table (number n x)).role ≡ moved_role n k.array (role_at m x)
      of_port low (inl e) = absurd (none e)
      of_port low (inr e) =
          ap (λ y. (leaf_at table y).role) (number_port n x low) ∙ s.ports.sinks x low e ∙ sym (ap (moved_role n k.array) e)

      by : (b : Bool) → nat_lt x m.port_leaves ≡ b → (leaf_at table (number n x)).role ≡ moved_role n k.array (role_at m x)
      by true e = let low = ltb-true x m.port_leaves e in of_port low (port_role_is s.scene x low)
      by false e = ap (λ (l : LeafDeclared). l.role) (s.placed x (ltb-false x m.port_leaves e) lt)
