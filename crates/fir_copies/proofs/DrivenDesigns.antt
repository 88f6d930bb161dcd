-- The circuit of a design drives the leaves that it must drive where its modules do.
use Rattle.std.proofs.Common.{◌≡◌, ℕ, ◌<◌, Bool, true, false, length, Some, slice_get, refl, sym, ap, ◌∙◌, subst, inl, inr}
use Rattle.std.proofs.lemmas.Option.{same_Some}
use Rattle.fir_base.specs.Lists.{In}
use Rattle.fir_base.proofs.Elements.{get_in, number_of}
use Rattle.fir_ast.specs.Circuits.{CircuitTree}
use Rattle.fir_meaning.specs.ModuleScenes.{Scene}
use Rattle.fir_meaning.specs.SourceDependence.{all_modules}
use Rattle.fir_meaning.specs.SourceDesigns.{SourceDesign}
use Rattle.fir_meaning.specs.working.Choices.{Choice, covers_all}
use Rattle.fir_meaning.specs.working.Designs.{Items, made_of}
use Rattle.fir_meaning.specs.working.Flattened.{flattened}
use Rattle.fir_meaning.specs.working.LeafedModules.{leafed_module, module_leaves}
use Rattle.fir_meaning.specs.working.LeafModules.{LeafDeclared, LeafModule, Role, computed, depth_at, is_sink, leaf_at, may_drive, pipe, reading, register, role_at, sink, source}
use Rattle.fir_meaning.specs.working.Numberings.{Numbering, moved_role, number, numbering}
use Rattle.fir_meaning.specs.working.UndrivenChoices.{IsUndriven}
use Rattle.fir_meaning.specs.working.UndrivenLeaves.{AreDriven}
use Rattle.fir_leaf.proofs.FlatMeaning.{main_table}
use Rattle.fir_leaf.proofs.FlatStores.{depths}
use Rattle.fir_leaf.proofs.LiveStatements.{covered_all}
use Rattle.fir_design.specs.working.MeaningLaws.{AreDesigns}
use Rattle.fir_design_faults.proofs.MarkedPieces.{missed_all}
use Rattle.fir_connect.specs.working.CircuitModules.{as_module}
use Rattle.fir_copies.specs.working.Copies.{Copy, copies_of}
use Rattle.fir_copies.specs.working.CopyLaws.{IsGiven, IsGivenBy, IsMainInput}
use Rattle.fir_copies.specs.working.WholeDesigns.{DesignsAreDriven}
use Rattle.fir_copies.proofs.CopyDrivers.{copy_covers}
use Rattle.fir_copies.proofs.CopyLeaves.{copy_role}
use Rattle.fir_copies.proofs.GivenLeaves.{all_given}
use Rattle.fir_copies.proofs.WholeCopies.{each_copy, main_port}

-- what is a sink in the whole, and no source in the module, is a sink there
sink_moved : (n : Numbering) (array : ℕ) (r : Role) → (r ≡ source → ⊥) → is_sink (moved_role n array r) ≡ true → r ≡ sink
sink_moved n array source none e = absurd (none refl)
sink_moved n array sink none e = refl
sink_moved n array (computed t) none e = absurd (cc)
sink_moved n array (register c r) none e = absurd (cc)
sink_moved n array (reading r) none e = absurd (cc)
sink_moved n array (pipe r x u) none e = absurd (cc)

-- where no choice leaves a leaf undriven, it is covered
covered_there : (m : LeafModule) (x : ℕ) → ((choice : Choice) → IsUndriven (depth_at m x) x m.body choice → ⊥)
    → covers_all (depth_at m x) x m.body 0 ≡ true
covered_there m x h = by (covers_all (depth_at m x) x m.body 0) refl
  where
    by : (b : Bool) → covers_all (depth_at m x) x m.body 0 ≡ b → b ≡ true
    by true e = refl
    by false e = let missed = missed_all (depth_at m x) x m.body 0 e in absurd (h missed.0 missed.1)

module _ (c : CircuitTree) (m : LeafModule) (is : Items) (t : SourceDesign) (a : AreDesigns c (made_of m is) t) (x : ℕ)
    (at : slice_get a.scenes x ≡ Some a.main) (driven : (s : Scene) → In a.scenes s → AreDriven (leafed_module s)) where
  abbrev whole : LeafModule
  whole = as_module (flattened (made_of m is))

  -- an input is no sink
  input_driven : (y : ℕ) → IsMainInput (leafed_module a.main) y → is_sink (role_at (as_module (flattened (made_of m is))) y) ≡ true → ⊥
  input_driven y i e =
      let low : y < m.port_leaves = subst (λ (u : LeafModule). y < u.port_leaves) (sym a.design.is.0) i.port in
      let here : leaf_at (main_table m is) y ≡ leaf_at (leafed_module a.main).leaves y =
      main_port m is a.design.main.0 y low ∙ ap (λ (u : LeafModule). leaf_at u.leaves y) a.design.is.0 in
      let none : is_sink (role_at (as_module (flattened (made_of m is))) y) ≡ false =
      ap (λ (l : LeafDeclared). is_sink l.role) here ∙ ap is_sink i.is_source in
      absurd (cc)

  copy_driven : (y : ℕ) (k : Copy) → In (copies_of x (made_of m is)) k → IsGivenBy a.scenes k y
      → is_sink (role_at (as_module (flattened (made_of m is))) y) ≡ true → (choice : Choice)
      → IsUndriven (depth_at (as_module (flattened (made_of m is))) y) y (flattened (made_of m is)).body choice → ⊥
  copy_driven y k among g e choice undriven =
      let s = each_copy c m is t a x at k among in
      let table = (flattened (made_of m is)).leaves in
      let w = leafed_module s.scene in
      let n = numbering w k.first k.own in
      let same : g.scene ≡ s.scene = same_Some g.scene s.scene (sym g.is ∙ s.is) in
      let within : g.leaf < length w.leaves = subst (λ (u : Scene). g.leaf < length (module_leaves u)) same g.within in
      let number_is : number n g.leaf ≡ y =
      subst (λ (u : Scene). number (numbering (leafed_module u) k.first k.own) g.leaf ≡ y) same g.number_is in
      let none : role_at w g.leaf ≡ source → ⊥ = subst (λ (u : Scene). role_at (leafed_module u) g.leaf ≡ source → ⊥) same g.gives in
      let role = copy_role a.scenes table (all_modules t) (copies_of x (made_of m is)) k s g.leaf within none in
      let sinks : is_sink (moved_role n k.array (role_at w g.leaf)) ≡ true =
      ap is_sink (sym role) ∙ ap (λ z. is_sink (role_at whole z)) number_is ∙ e in
      let is_one : role_at w g.leaf ≡ sink = sink_moved n k.array (role_at w g.leaf) none sinks in
      let inside = covered_there w g.leaf (driven s.scene (get_in a.scenes k.module_number s.scene s.is) g.leaf within (ap is_sink is_one)) in
      let outside = copy_covers c m is t a (copies_of x (made_of m is)) k s g.leaf within (ap may_drive is_one) in
      let here : covers_all (depths table y) y (flattened (made_of m is)).body 0 ≡ true =
      subst (λ z. covers_all (depths table z) z (flattened (made_of m is)).body 0 ≡ true) number_is (outside ∙ inside) in
      covered_all (depths table y) y (flattened (made_of m is)).body 0 here choice undriven

  pub whole_driven : AreDriven (as_module (flattened (made_of m is)))
  whole_driven y lt e choice undriven = by (all_given c (made_of m is) t a x at y lt)
    where
      by : IsGiven a.scenes a.main (copies_of x (made_of m is)) y → ⊥
      by (inl i) = input_driven y i e
      by (inr g) = copy_driven y g.0 g.1 g.2 e choice undriven

pub designs_driven : DesignsAreDriven
designs_driven c (made_of m is) t a driven = let x = number_of a.scenes a.main a.among in whole_driven c m is t a x.0 x.1 driven
