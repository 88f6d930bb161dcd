-- In an order of the modules in which each stands behind those that it has instances of, no module holds itself, so each has a design.
use Rattle.std.proofs.Common.{◌≡◌, ℕ, zero, suc, ◌<◌, ◌≤◌, List, [], ◌∷◌, length, slice_get, Bool, true, false, if◌then◌else◌, nat_eq, Some, refl, sym, ap, ◌∙◌, subst, inl, true≢false, arith}
use Rattle.std.proofs.lemmas.Bool.{eq-eqb, eqb-true}
use Rattle.std.proofs.lemmas.List.{append-nil}
use Rattle.std.proofs.lemmas.Option.{same_Some, none-some, slice_get_within}
use Rattle.fir_base.specs.Lists.{In}
use Rattle.fir_base.proofs.Elements.{get_in}
use Rattle.fir_base.proofs.Members.{in_right}
use Rattle.fir_ast.specs.Circuits.{PortTree, CircuitTree}
use Rattle.fir_meaning.specs.TypeGroup.{scope_at}
use Rattle.fir_meaning.specs.Components as component
use Rattle.fir_meaning.specs.Visibility.{Before, at_head, behind_ports, declarations, with_declaration}
use Rattle.fir_meaning.specs.ResetJoins.{numbered_module}
use Rattle.fir_names.specs.working.ModuleOrder.{IsModuleOrder}
use Rattle.fir_meaning.specs.working.Designs.{IsDesignOf, AllInstances, IsRanked, Design, elaborated}
use Rattle.fir_meaning.specs.ModuleScenes.{Scene, behind_all_ports}
use Rattle.fir_meaning.specs.working.LeafedModules.{driven_leaves, leafed_module}
use Rattle.fir_leaf.proofs.Elaborating.{has_design}
use Rattle.fir_leaf.proofs.ScopesBegin.{begins_all}
use Rattle.fir_meaning.specs.Elaborated.{AreScenes}
use Rattle.fir_meaning.specs.working.Elaborated.{views}
use Rattle.fir_design.proofs.HeldInstances.{Held, all_held_in, all_by_held}
use Rattle.fir_design.proofs.DeclaredInstances.{AreDeclared, IsDeclared, instance_within}
use Rattle.fir_design.proofs.InstanceStatements.{block_declared}
use Rattle.fir_design.proofs.NumberedScenes.{child_numbered, each_view, module_there, scene_own}

-- the first place of a number in an order
abbrev pub place_in : List ℕ → ℕ → ℕ
place_in [] x = 0
place_in (y ∷ ys) x = if nat_eq y x then 0 else suc (place_in ys x)

place_there : (order : List ℕ) (i x : ℕ) → slice_get order i ≡ Some x → slice_get order (place_in order x) ≡ Some x
place_there [] i x e = absurd (none-some x e)
place_there (y ∷ ys) i x e = by (nat_eq y x) refl (λ n. let r = rest i e n in place_there ys r.0 x r.1)
  where
    rest : (j : ℕ) → slice_get (y ∷ ys) j ≡ Some x → nat_eq y x ≡ false → (k : ℕ) × (slice_get ys k ≡ Some x)
    rest zero h n = absurd (true≢false (sym (eq-eqb y x (same_Some y x h)) ∙ n))
    rest (suc j) h n = (j, h)

    by : (b : Bool) → nat_eq y x ≡ b → (nat_eq y x ≡ false → slice_get ys (place_in ys x) ≡ Some x)
        → slice_get (y ∷ ys) (if b then 0 else suc (place_in ys x)) ≡ Some x
    by true t more = ap Some (eqb-true y x t)
    by false n more = more n

place_short : (order : List ℕ) (x : ℕ) → place_in order x ≤ length order
place_short [] x = omega arith
place_short (y ∷ ys) x = by (nat_eq y x) (place_short ys x)
  where
    by : (b : Bool) → place_in ys x ≤ length ys → (if b then 0 else suc (place_in ys x)) ≤ suc (length ys)
    by true h = omega arith
    by false h = omega (arith, h)

-- no when stands round the first statement of a module
ports_depth : (ps : List PortTree) (before : Before) → (behind_ports before ps).depth ≡ before.depth
ports_depth [] before = refl
ports_depth (p ∷ ps) before = ports_depth ps (with_declaration before p.named (component.port p.direction p.data_type))

-- the instances of a scene's view are declarations of its module
pub view_declared : (s : Scene)
    → AreDeclared s.own.modules (scope_at s.own.modules (behind_all_ports s.own.inside)) (declarations s.own.inside)
    (length (behind_all_ports s.own.inside).declared) (length (declarations s.own.inside)) (all_held_in 0 (leafed_module s).body)
view_declared s =
    let head = behind_all_ports s.own.inside in
    block_declared s.own.modules (scope_at s.own.modules head) (declarations s.own.inside) (driven_leaves s) s.own.inside.body head 0
    (ports_depth s.own.inside.ports at_head)
    (begins_all (scope_at s.own.modules head)) ([], append-nil (declarations s.own.inside))

module _ (c : CircuitTree) (order : List ℕ) (o : IsModuleOrder c order) (scenes : List Scene) (are : AreScenes c scenes) where
  abbrev rank : ℕ → ℕ
  rank = place_in order

  placed : (i x : ℕ) → slice_get order i ≡ Some x → rank x ≡ i
  placed i x e = o.once (rank x) i x (place_there order i x e) e

  lower : (x : ℕ) (s : Scene) → slice_get scenes x ≡ Some s → (h : Held) → In (all_held_in 0 (leafed_module s).body) h
      → rank h.own.module_number < rank x
  lower x s at h i =
      let own = scene_own c scenes are s (get_in scenes x s at) in
      let d : IsDeclared s.own.modules (scope_at s.own.modules (behind_all_ports s.own.inside)) (declarations s.own.inside) h =
      (view_declared s).each h i in
      let here = module_there c scenes are x s at in
      let place = o.all x (slice_get_within c.modules x s.own.inside here) in
      let child = child_numbered c d.module_name h.own.module_number d.child
      (ap (λ ms. numbered_module 0 ms d.module_name) (sym own.modules) ∙ d.found) in
      let declared : In (declarations s.own.inside) (instance_within d.named d.module_name h.depth) =
      subst (λ ds. In ds (instance_within d.named d.module_name h.depth)) d.is (in_right d.front _ _ (inl refl)) in
      let w = o.behind place.0 x s.own.inside (instance_within d.named d.module_name h.depth) d.module_name place.1 here declared refl in
      let same : w.0 ≡ h.own.module_number = same_Some w.0 h.own.module_number (sym w.1 ∙ child.called) in
      omega (arith, placed place.0 x place.1, placed w.2.at w.0 w.2.is, ap rank same, w.2.before)

  pub is_ranked : IsRanked (views scenes) (place_in order)
  is_ranked = record {
    each =
        each_view scenes (λ x m. AllInstances (λ y. place_in order y < place_in order x) m.body) (λ x. tt)
        (λ x s at. all_by_held (λ y. place_in order y < place_in order x) 0 (leafed_module s).body (lower x s at));
  }

  pub has_one : (s : Scene) → (d : Design) × IsDesignOf (views scenes) (leafed_module s) d
  has_one s =
      let n = suc (length order) in (
        elaborated (suc n) (views scenes) (leafed_module s),
        has_design (views scenes) (place_in order) n (leafed_module s) is_ranked
            (all_by_held (λ x. place_in order x < n) 0 (leafed_module s).body (λ h i. omega (arith, place_short order h.own.module_number))),
      )
