-- The modules of a tree are those that its instances name.
use Rattle.std.proofs.Common.{◌≡◌, ℕ, suc, ◌+◌, List, [], ◌∷◌, ◌++◌, map, Bool, true, false, if◌then◌else◌, Option, Some, None, option_map, slice_get, refl, sym, ap, ◌∙◌, subst, arith, inl, inr, ⊎_elim}
use Rattle.std.specs.Str.{bytes_eq}
use Rattle.std.proofs.lemmas.Option.{slice_get-map}
use Rattle.std.proofs.lemmas.Simd.{map-map}
use Rattle.fir_base.specs.Lists.{Distinct, In}
use Rattle.fir_base.proofs.Members.{in_either, in_map, in_map_from}
use Rattle.fir_base.proofs.SameNames.{name_other, name_same}
use Rattle.fir_ast.specs.Circuits.{CircuitTree, ModuleTree}
use Rattle.fir_meaning.specs.ComponentTypes.{find_module}
use Rattle.fir_meaning.specs.Elaborated.{AreScenes}
use Rattle.fir_meaning.specs.LeafPaths.{LeafPath, named}
use Rattle.fir_meaning.specs.ModuleScenes.{Scene, behind_all_ports}
use Rattle.fir_meaning.specs.ResetJoins.{numbered_module}
use Rattle.fir_meaning.specs.SizedDeclarations.{Numbering, NumberedModule, behind_module, first_numbers, modules_from}
use Rattle.fir_meaning.specs.SourceCircuits.{PlacedLeaf, inner_leaves, leaves_of_design, leaves_of_instances, placed, role_within, within}
use Rattle.fir_meaning.specs.SourceDesigns.{AreInstances, InstanceOf, Instances, IsSourceDesignOf, SourceDesign, held, instances_of_block, made_of, no_instances, scene_of, scene_where}
use Rattle.fir_meaning.specs.SourceRoles.{SourceLeaf, SourceRole, computed, pipe, reading, register, sink, source, sources_in_block}
use Rattle.fir_source_laws.specs.working.ModuleLaws.{InstancesAreOfTheirModules, IsOfModule, MainIsOnTop, NothingInsideIsInput, module_of}

-- the first module of a name, and its place
pub record IsAt (ms : List ModuleTree) (name : List ℕ) (from : ℕ) (child : ℕ × ModuleTree) : Type 0 where
  pub found : find_module ms name ≡ Some child.1
  pub behind : ℕ
  pub there : slice_get ms behind ≡ Some child.1
  pub number : from + behind ≡ child.0

found_at : (from : ℕ) (ms : List ModuleTree) (name : List ℕ) (child : ℕ × ModuleTree) → numbered_module from ms name ≡ Some child
    → IsAt ms name from child
found_at from [] name child e = absurd (cc)
found_at from (m ∷ ms) name child e = by (bytes_eq m.named.name name) refl e (found_at (suc from) ms name child)
  where
    by : (b : Bool) → bytes_eq m.named.name name ≡ b → (if b then Some (from, m) else numbered_module (suc from) ms name) ≡ Some child
        → (numbered_module (suc from) ms name ≡ Some child → IsAt ms name (suc from) child) → IsAt (m ∷ ms) name from child
    by true t e rest =
        let same : (from, m) ≡ child = cc in
        let here : m ≡ child.1 = ap (λ (x : ℕ × ModuleTree). x.1) same in
        let first : from ≡ child.0 = ap (λ (x : ℕ × ModuleTree). x.0) same in
        record { found = rw (t, here) refl; behind = 0; there = ap Some here; number = omega (arith, first) }
    by false t e rest =
        let r = rest e in
        record { found = rw t r.found; behind = suc r.behind; there = r.there; number = omega (arith, r.number) }

inside_from : (modules : List ModuleTree) (numbers : Numbering) (ms : List ModuleTree)
    → map (λ (m : NumberedModule). m.inside) (modules_from modules numbers ms) ≡ ms
inside_from modules numbers [] = refl
inside_from modules numbers (m ∷ ms) = ap (λ rest. m ∷ rest) (inside_from modules (behind_module modules numbers m) ms)

of_circuit : (modules : List ModuleTree) (numbers : Numbering) (ms : List ModuleTree) (m : NumberedModule) → In (modules_from modules numbers ms) m
    → m.modules ≡ modules
of_circuit modules numbers [] m i = absurd i
of_circuit modules numbers (x ∷ ms) m (inl e) = ap (λ (z : NumberedModule). z.modules) (sym e)
of_circuit modules numbers (x ∷ ms) m (inr i) = of_circuit modules (behind_module modules numbers x) ms m i

module _ (c : CircuitTree) (scenes : List Scene) (are : AreScenes c scenes) where
  insides : map (λ (s : Scene). s.own.inside) scenes ≡ c.modules
  insides =
      sym (map-map (λ (m : NumberedModule). m.inside) (λ (s : Scene). s.own) scenes) ∙ ap (map (λ (m : NumberedModule). m.inside)) are
      ∙ inside_from c.modules (first_numbers c.modules) c.modules

  modules_are : (s : Scene) → In scenes s → s.own.modules ≡ c.modules
  modules_are s i =
      of_circuit c.modules (first_numbers c.modules) c.modules s.own (subst (λ ms. In ms s.own) are (in_map (λ (x : Scene). x.own) scenes s i))

  module_there : (number : ℕ) (s : Scene) → slice_get scenes number ≡ Some s → slice_get c.modules number ≡ Some s.own.inside
  module_there number s e =
      ap (λ ms. slice_get ms number) (sym insides) ∙ slice_get-map (λ (s : Scene). s.own.inside) scenes number
      ∙ ap (option_map (λ (s : Scene). s.own.inside)) e

  -- a scene that is found by a name is that of the module of that name
  scene_module : (name : List ℕ) (child : Scene) → scene_where scenes (numbered_module 0 c.modules name) ≡ Some child
      → find_module c.modules name ≡ Some child.own.inside
  scene_module name child e = by (numbered_module 0 c.modules name) refl e
    where
      by : (o : Option (ℕ × ModuleTree)) → numbered_module 0 c.modules name ≡ o → scene_where scenes o ≡ Some child
          → find_module c.modules name ≡ Some child.own.inside
      by None t e = absurd (cc)
      by (Some m) t e =
          let r = found_at 0 c.modules name m t in
          let same : r.behind ≡ m.0 = omega (arith, r.number) in
          r.found ∙ sym r.there ∙ ap (slice_get c.modules) same ∙ module_there m.0 child e

  design_module : (s : Scene) (d : SourceDesign) → IsSourceDesignOf scenes s d → s.own.inside ≡ module_of d
  design_module s (made_of t is) h = ap (λ (z : Scene). z.own.inside) (sym h.0)

  instance_module : (s : Scene) → In scenes s → (i : InstanceOf) (d : SourceDesign) (child : Scene) → scene_of scenes s i ≡ Some child
      → IsSourceDesignOf scenes child d → find_module c.modules i.other.name ≡ Some (module_of d)
  instance_module s among i d child e h =
      scene_module i.other.name child
      (ap (λ ms. scene_where scenes (numbered_module 0 ms i.other.name)) (sym (modules_are s among)) ∙ e)
      ∙ ap Some (design_module child d h)

  -- the tree below each instance in turn
  below_each : (s : Scene) → In scenes s → (more : List InstanceOf) (is : Instances) (i : InstanceOf) → AreInstances scenes s more is
      → Distinct (map (λ (i : InstanceOf). i.named.name) more) → In more i → IsOfModule c scenes is i
  below_each s among [] is i are distinct m = absurd m
  below_each s among (x ∷ more) no_instances i are distinct m = absurd are
  below_each s among (x ∷ more) (held name d rest) i h distinct (inl e) =
      let called : name ≡ i.named.name = h.0 ∙ ap (λ (z : InstanceOf). z.named.name) e in
      let found = h.1 in
      record {
        scene = found.0;
        design = d;
        is_named = rw (called, name_same i.named.name) refl;
        is_design = found.2;
        is_module = instance_module s among i d found.0 (subst (λ (z : InstanceOf). scene_of scenes s z ≡ Some found.0) e found.1) found.2;
      }
  below_each s among (x ∷ more) (held name d rest) i h distinct (inr m) =
      let r = below_each s among more rest i h.2 distinct.1 m in
      let other : bytes_eq name i.named.name ≡ false = name_other name i.named.name
      (λ e. distinct.0 (subst (In (map (λ (i : InstanceOf). i.named.name) more)) (sym e ∙ h.0) (in_map (λ (i : InstanceOf). i.named.name) more i m))) in
      record { scene = r.scene; design = r.design; is_named = rw other r.is_named; is_design = r.is_design; is_module = r.is_module }

pub instances_are : InstancesAreOfTheirModules
instances_are c scenes s is i are among h distinct m = below_each c scenes are s among (instances_of_block s.own.inside.body) is i h.1 distinct m

pub main_on_top : MainIsOnTop
main_on_top c t h =
    scene_module c h.scenes h.has.are c.named.name h.main h.has.is_main
    ∙ ap Some (design_module c h.scenes h.has.are h.main t h.is)

-- within a module nothing is a source
within_is_none : (r : SourceRole) → role_within r ≡ source → ⊥
within_is_none source e = cc
within_is_none sink e = cc
within_is_none (computed scope x q) e = cc
within_is_none (register scope clock reset q) e = cc
within_is_none (reading r) e = cc
within_is_none (pipe r clock under_write) e = cc

own_none : (at : LeafPath) (ls : List SourceLeaf) (p : PlacedLeaf) → In (placed at (map within ls)) p → p.leaf.role ≡ source → ⊥
own_none at ls p m e =
    let from = in_map_from (λ (l : SourceLeaf). record { at = at; leaf = l }) (map within ls) p m in
    let leaf = in_map_from within ls from.0 from.1 in
    within_is_none leaf.0.role
    (ap (λ (l : SourceLeaf). l.role) leaf.2 ∙ ap (λ (z : PlacedLeaf). z.leaf.role) from.2 ∙ e)

mutual
  none_inside : (at : LeafPath) (d : SourceDesign) (p : PlacedLeaf) → In (leaves_of_design at d) p → p.leaf.role ≡ source → ⊥
  none_inside at (made_of s is) p m e =
      ⊎_elim
      (λ (l : In (placed at (inner_leaves s)) p). own_none at (sources_in_block s (behind_all_ports s.own.inside) s.own.inside.body) p l e)
      (λ (r : In (leaves_of_instances at is) p). none_inside_all at is p r e)
      (in_either (placed at (inner_leaves s)) (leaves_of_instances at is) p m)

  none_inside_all : (at : LeafPath) (is : Instances) (p : PlacedLeaf) → In (leaves_of_instances at is) p → p.leaf.role ≡ source → ⊥
  none_inside_all at no_instances p m e = m
  none_inside_all at (held name d rest) p m e =
      ⊎_elim
      (λ (l : In (leaves_of_design (at ++ named name ∷ []) d) p). none_inside (at ++ named name ∷ []) d p l e)
      (λ (r : In (leaves_of_instances at rest) p). none_inside_all at rest p r e)
      (in_either (leaves_of_design (at ++ named name ∷ []) d) (leaves_of_instances at rest) p m)

pub nothing_inside_is_input : NothingInsideIsInput
nothing_inside_is_input at d p m e = none_inside at d p m e
