-- A register of a module is driven in the circuit of a design where the module's own statements drive it.
use Rattle.std.proofs.Common.{◌≡◌, ℕ, ◌+◌, ◌<◌, ◌≤◌, List, Bool, true, false, length, [], ◌∷◌, map, slice_get, Some, refl, sym, ap, ◌∙◌, subst, arith}
use Rattle.std.proofs.lemmas.List.{length-drop}
use Rattle.fir_base.specs.Lists.{In}
use Rattle.fir_base.proofs.Members.{in_map}
use Rattle.fir_ast.specs.Circuits.{CircuitTree}
use Rattle.fir_copies.specs.working.Copies.{Copy, copies_of}
use Rattle.fir_copies.proofs.CopyPlaces.{CopyStands}
use Rattle.fir_copies.proofs.WholeCopies.{each_copy}
use Rattle.fir_design.proofs.NumberedScenes.{view_at}
use Rattle.fir_design.specs.working.MeaningLaws.{AreDesigns}
use Rattle.fir_design.specs.working.SourceLaws.{HasOneTree}
use Rattle.fir_design_faults.proofs.DesignDrives.{InRegion}
use Rattle.fir_design_faults.proofs.FlatDrives.{Member}
use Rattle.fir_design_faults.proofs.WholeDesigns.{design_below}
use Rattle.fir_elaborate.specs.declared.elaborated.Elaborated.{Elaborated}
use Rattle.fir_elaborate.specs.declared.elaborated.ModuleCopy.{ModuleCopy}
use Rattle.fir_elaborate.specs.working.Elaborations.{IsElaborated, copy_seen}
use Rattle.fir_leaf.proofs.MovedTerms.{number_own}
use Rattle.fir_meaning.specs.ModuleScenes.{Scene}
use Rattle.fir_meaning.specs.SourceDependence.{all_modules}
use Rattle.fir_meaning.specs.SourceDesigns.{SourceDesign}
use Rattle.fir_leaf.proofs.FlatStores.{depths}
use Rattle.fir_design_faults.proofs.FlatLives.{moved_live}
use Rattle.fir_meaning.specs.working.Choices.{Live, lives_all}
use Rattle.fir_flatten.proofs.DrivenBlocks.{HasOne, block_lives, lives_driven}
use Rattle.fir_meaning.specs.working.Designs.{Design, Items, made_of}
use Rattle.fir_meaning.specs.working.FlatDesigns.{count_below, inner_leaves}
use Rattle.fir_meaning.specs.working.Flattened.{flattened}
use Rattle.fir_meaning.specs.working.LeafCircuits.{role_of}
use Rattle.fir_meaning.specs.working.LeafModules.{LeafDeclared, LeafModule, Role, computed, depth_at, leaf_at, may_drive, pipe, reading, register, role_at, sink, source}
use Rattle.fir_meaning.specs.working.LeafedModules.{leafed_module}
use Rattle.fir_meaning.specs.working.Numberings.{Numbering, moved_role, number, numbering}
use Rattle.fir_meaning.specs.working.UndrivenChoices.{drives_any}
use Rattle.fir_flatten.specs.working.DesignNets.{IsDrivenAlike, is_register}
use Rattle.fir_flatten.specs.working.Laws.{IsDesigned}
use Rattle.fir_flatten.proofs.DesignsOfCircuits.{designs_beside, tree_of}

-- what is a register in the whole is one in its module, and may be driven there
register_there : (n : Numbering) (array : ℕ) (r : Role) → is_register (moved_role n array r) ≡ true → may_drive r ≡ true
register_there n array source e = absurd (cc)
register_there n array sink e = refl
register_there n array (computed t) e = absurd (cc)
register_there n array (register clock reset) e = refl
register_there n array (reading r) e = absurd (cc)
register_there n array (pipe r clock under) e = absurd (cc)

one_moved : (f : Live → Live) (ls : List Live) → HasOne (map f ls) → HasOne ls
one_moved f [] h = absurd h
one_moved f (l ∷ ls) h = tt

-- two that are true together are the same
both_ways : (a b : Bool) → (a ≡ true → b ≡ true) → (b ≡ true → a ≡ true) → a ≡ b
both_ways true b f g = sym (f refl)
both_ways false true f g = g refl
both_ways false false f g = refl

module _ (c : CircuitTree) (m : LeafModule) (is : Items) (t : SourceDesign) (a : AreDesigns c (made_of m is) t) (ks : List Copy) (k : Copy)
    (s : CopyStands a.scenes (flattened (made_of m is)).leaves (all_modules t) ks k) where
  abbrev w : LeafModule
  w = leafed_module s.scene

  abbrev n : Numbering
  n = numbering (leafed_module s.scene) k.first k.own

  member : Member (flattened (made_of m is)).leaves (flattened (made_of m is)).body 0
      (InRegion m 0 m.port_leaves (m.port_leaves + count_below (made_of m is))) (record { at = s.path; scene = s.scene })
  member = (design_below c m is t a).member (record { at = s.path; scene = s.scene }) s.among

  -- no path is that of two leaves
  same_number : (x : ℕ) → x < length (leafed_module s.scene).leaves
      → number member.numbers x ≡ number (numbering (leafed_module s.scene) k.first k.own) x
  same_number x lt =
      a.design.sound.once (number member.numbers x) (number n x) (member.stands.within x lt) (s.stands.within x lt)
      (member.stands.path x lt ∙ sym (s.stands.path x lt))

  -- what the module drives the whole drives
  driven_out : (x : ℕ) → x < length (leafed_module s.scene).leaves → may_drive (role_at (leafed_module s.scene) x) ≡ true
      → drives_any x (leafed_module s.scene).body ≡ true
      → drives_any (number (numbering (leafed_module s.scene) k.first k.own) x) (flattened (made_of m is)).body ≡ true
  driven_out x lt may e =
      subst (λ y. drives_any y (flattened (made_of m is)).body ≡ true) (same_number x lt) ((member.agrees x lt may).0.drives e)

  -- what the whole drives the module drives
  driven_in : (x : ℕ) → x < length (leafed_module s.scene).leaves → may_drive (role_at (leafed_module s.scene) x) ≡ true
      → drives_any (number (numbering (leafed_module s.scene) k.first k.own) x) (flattened (made_of m is)).body ≡ true
      → drives_any x (leafed_module s.scene).body ≡ true
  driven_in x lt may e =
      let table = (flattened (made_of m is)).leaves in
      let whole = (flattened (made_of m is)).body in
      let y = number member.numbers x in
      let here : drives_any y whole ≡ true = subst (λ z. drives_any z whole ≡ true) (sym (same_number x lt)) e in
      let some = block_lives (depths table y) y whole 0 here in
      let own = lives_all (depth_at w x) x w.body 0 in
      lives_driven (depth_at w x) x w.body 0
      (one_moved (moved_live member.numbers) own (subst HasOne (member.agrees x lt may).0.lives some))

  pub driven_same : (x : ℕ) → x < length (leafed_module s.scene).leaves → may_drive (role_at (leafed_module s.scene) x) ≡ true
      → drives_any (number (numbering (leafed_module s.scene) k.first k.own) x) (flattened (made_of m is)).body
      ≡ drives_any x (leafed_module s.scene).body
  driven_same x lt may =
      both_ways (drives_any (number n x) (flattened (made_of m is)).body) (drives_any x w.body) (driven_in x lt may) (driven_out x lt may)

-- a register of a copy
module _ (c : CircuitTree) (m : LeafModule) (is : Items) (t : SourceDesign) (a : AreDesigns c (made_of m is) t) (x : ℕ)
    (at : slice_get a.scenes x ≡ Some a.main) (k : ModuleCopy) (among : In (copies_of x (made_of m is)) (copy_seen k)) where
  copy_alike : IsDrivenAlike a.scenes (flattened (made_of m is)) k
  copy_alike = by (each_copy c m is t a x at (copy_seen k) among)
    where
      of_module : (s : CopyStands a.scenes (flattened (made_of m is)).leaves (all_modules t) (copies_of x (made_of m is)) (copy_seen k)) (y : ℕ)
          → y < length (inner_leaves (leafed_module s.scene)) → is_register (role_of (flattened (made_of m is)) (k.own + y)) ≡ true
          → drives_any (k.own + y) (flattened (made_of m is)).body
          ≡ drives_any ((leafed_module s.scene).port_leaves + y) (leafed_module s.scene).body
      of_module s y lt e =
          let w = leafed_module s.scene in
          let n = numbering w k.first k.own in
          let z = w.port_leaves + y in
          let le : w.port_leaves ≤ w.port_leaves + y = omega arith in
          let within : w.port_leaves + y < length w.leaves = omega (arith, lt, length-drop w.port_leaves w.leaves) in
          let number_is : number n (w.port_leaves + y) ≡ k.own + y = number_own n (w.port_leaves + y) le ∙ omega arith in
          let table = (flattened (made_of m is)).leaves in
          let role : (leaf_at table (number n z)).role ≡ moved_role n k.array (role_at w z) =
          ap (λ (l : LeafDeclared). l.role) (s.placed z le within) in
          let registers : is_register (moved_role n k.array (role_at w z)) ≡ true =
          ap is_register (sym role) ∙ ap (λ v. is_register (leaf_at table v).role) number_is ∙ e in
          let may = register_there n k.array (role_at w z) registers in
          subst (λ v. drives_any v (flattened (made_of m is)).body ≡ drives_any z w.body) number_is
          (driven_same c m is t a (copies_of x (made_of m is)) (copy_seen k) s z within may)

      by : CopyStands a.scenes (flattened (made_of m is)).leaves (all_modules t) (copies_of x (made_of m is)) (copy_seen k)
          → IsDrivenAlike a.scenes (flattened (made_of m is)) k
      by s =
          subst
          (λ (u : LeafModule). (y : ℕ) → y < length (inner_leaves u) → is_register (role_of (flattened (made_of m is)) (k.own + y)) ≡ true
          → drives_any (k.own + y) (flattened (made_of m is)).body ≡ drives_any (u.port_leaves + y) u.body)
          (sym (view_at a.scenes k.module_number s.scene s.is)) (of_module s)

pub driven_alike : HasOneTree → (c : CircuitTree) (scenes : List Scene) (main : Scene) (d : Design) → IsDesigned c scenes main d → (x : ℕ)
    → slice_get scenes x ≡ Some main → (e : Elaborated) → IsElaborated x d e → (k : ModuleCopy) → In e.copies.items k
    → IsDrivenAlike scenes (flattened d) k
driven_alike one c scenes main (made_of m is) designed x at e elaborated k among =
    let t = tree_of c scenes main (made_of m is) designed one in
    copy_alike c m is t.0 (designs_beside c scenes main (made_of m is) designed t.0 t.1) x at k
    (subst (λ ks. In ks (copy_seen k)) elaborated.copies (in_map copy_seen e.copies.items k among))
