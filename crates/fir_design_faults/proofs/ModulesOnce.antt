-- No two modules of a tree of designs stand at one path.
use Rattle.std.proofs.Common.{◌≡◌, ℕ, List, [], ◌∷◌, ◌++◌, sym, ◌∙◌, ap, subst, append-nil, append_assoc, inl, inr, ⊎_elim}
use Rattle.std.proofs.lemmas.List.{append_cancel_left}
use Rattle.fir_base.specs.Lists.{Distinct, In}
use Rattle.fir_base.proofs.Members.{in_either}
use Rattle.fir_ast.specs.Circuits.{CircuitTree}
use Rattle.fir_meaning.specs.Elaborated.{AreScenes}
use Rattle.fir_meaning.specs.LeafPaths.{LeafPath, named}
use Rattle.fir_meaning.specs.ModuleScenes.{Scene}
use Rattle.fir_meaning.specs.SourceDependence.{PlacedModule, modules_of_design, modules_of_instances}
use Rattle.fir_meaning.specs.SourceDesigns.{AreInstances, InstanceOf, Instances, IsSourceDesignOf, SourceDesign, held, instances_of_block, made_of, no_instances}
use Rattle.fir_meaning.specs.TypeGroup.{type_faults}
use Rattle.fir_meaning.specs.working.NameGroups.{HasNames}
use Rattle.fir_design.proofs.FineScenes.{fine_scene}
use Rattle.fir_design.proofs.InnerNames.{inner_names_distinct}
use Rattle.fir_design.proofs.MemoryArrayNames.{instance_names, module_apart}
use Rattle.fir_design.proofs.NumberedScenes.{scene_numbered, scene_own}
use Rattle.fir_design_faults.proofs.DesignScenes.{scene_in}

-- the path of a module, behind that of another
pub record IsBehind (at path : LeafPath) : Type 0 where
  pub rest : LeafPath
  pub is : path ≡ at ++ rest

-- and that of a module of one of some instances
record IsBehindOne (names : List (List ℕ)) (at path : LeafPath) : Type 0 where
  name : List ℕ
  among : In names name
  rest : LeafPath
  is : path ≡ at ++ named name ∷ rest

-- the names with which paths go on
same_names : (at : LeafPath) (x y : List ℕ) (p q : LeafPath) → at ++ named x ∷ p ≡ at ++ named y ∷ q → x ≡ y
same_names at x y p q e =
    let firsts : named x ∷ p ≡ named y ∷ q = append_cancel_left at (named x ∷ p) (named y ∷ q) e in
    cc

none_behind : (at : LeafPath) (x : List ℕ) (p : LeafPath) → at ≡ at ++ named x ∷ p → ⊥
none_behind at x p e =
    let ends : [] ≡ named x ∷ p = append_cancel_left at [] (named x ∷ p) (append-nil at ∙ e) in
    absurd (cc)

module _ (scenes : List Scene) where
  mutual
    design_behind : (t : SourceDesign) (s : Scene) → IsSourceDesignOf scenes s t → (at : LeafPath) (h : PlacedModule) → In (modules_of_design at t) h
        → IsBehind at h.at
    design_behind (made_of u trees) s is at h (inl e) = record { rest = []; is = ap (λ (x : PlacedModule). x.at) (sym e) ∙ sym (append-nil at) }
    design_behind (made_of u trees) s is at h (inr m) =
        let b = instances_behind trees s (instances_of_block s.own.inside.body) is.1 at h m in
        record { rest = named b.name ∷ b.rest; is = b.is }

    instances_behind : (trees : Instances) (s : Scene) (is : List InstanceOf) → AreInstances scenes s is trees → (at : LeafPath) (h : PlacedModule)
        → In (modules_of_instances at trees) h → IsBehindOne (instance_names is) at h.at
    instances_behind no_instances s is a at h m = absurd m
    instances_behind (held name d rest) s [] a at h m = absurd a
    instances_behind (held name d rest) s (i ∷ is) a at h m =
        ⊎_elim
        (λ (l : In (modules_of_design (at ++ named name ∷ []) d) h).
        let b = design_behind d a.1.0 a.1.2 (at ++ named name ∷ []) h l in
        record { name = name; among = inl (sym a.0); rest = b.rest; is = b.is ∙ append_assoc at (named name ∷ []) b.rest })
        (λ (r : In (modules_of_instances at rest) h).
        let b = instances_behind rest s is a.2 at h r in
        record { name = b.name; among = inr b.among; rest = b.rest; is = b.is })
        (in_either (modules_of_design (at ++ named name ∷ []) d) (modules_of_instances at rest) h m)

module _ (c : CircuitTree) (names : HasNames c) (types : type_faults c ≡ []) (scenes : List Scene) (are : AreScenes c scenes) where
  mutual
    pub modules_once : (t : SourceDesign) (s : Scene) → In scenes s → IsSourceDesignOf scenes s t → (at : LeafPath) (h k : PlacedModule)
        → In (modules_of_design at t) h → In (modules_of_design at t) k → h.at ≡ k.at → h ≡ k
    modules_once (made_of u trees) s i is at h k (inl e) (inl f) same = sym e ∙ f
    modules_once (made_of u trees) s i is at h k (inl e) (inr n) same =
        let b = instances_behind scenes trees s (instances_of_block s.own.inside.body) is.1 at k n in
        absurd (none_behind at b.name b.rest (ap (λ (x : PlacedModule). x.at) e ∙ same ∙ b.is))
    modules_once (made_of u trees) s i is at h k (inr m) (inl f) same =
        let b = instances_behind scenes trees s (instances_of_block s.own.inside.body) is.1 at h m in
        absurd (none_behind at b.name b.rest (ap (λ (x : PlacedModule). x.at) f ∙ sym same ∙ b.is))
    modules_once (made_of u trees) s i is at h k (inr m) (inr n) same =
        let own = module_apart c s names (scene_own c scenes are s i) in
        let once = inner_names_distinct s (fine_scene c s names types (scene_numbered c scenes are s i)) in
        instances_once trees s (instances_of_block s.own.inside.body) is.1 (own.instances_once once) at h k m n same

    instances_once : (trees : Instances) (s : Scene) (is : List InstanceOf) → AreInstances scenes s is trees → Distinct (instance_names is) → (at : LeafPath)
        (h k : PlacedModule) → In (modules_of_instances at trees) h → In (modules_of_instances at trees) k → h.at ≡ k.at → h ≡ k
    instances_once no_instances s is a d at h k m n same = absurd m
    instances_once (held name t rest) s [] a d at h k m n same = absurd a
    instances_once (held name t rest) s (i ∷ is) a d at h k m n same =
        let below = at ++ named name ∷ [] in
        let first = modules_of_design (at ++ named name ∷ []) t in
        let others = modules_of_instances at rest in
        let apart : (x y : PlacedModule) → In first x → In others y → x.at ≡ y.at → ⊥ =
        λ x y l r e.
        let one = design_behind scenes t a.1.0 a.1.2 below x l in
        let other = instances_behind scenes rest s is a.2 at y r in
        let again : name ≡ other.name =
        same_names at name other.name one.rest other.rest (sym (one.is ∙ append_assoc at (named name ∷ []) one.rest) ∙ e ∙ other.is) in
        d.0 (subst (In (instance_names is)) (sym again ∙ a.0) other.among) in
        ⊎_elim
        (λ (l : In first h).
        ⊎_elim
        (λ (p : In first k). modules_once t a.1.0 (scene_in scenes _ a.1.0 a.1.1) a.1.2 below h k l p same)
        (λ (q : In others k). absurd (apart h k l q same)) (in_either first others k n))
        (λ (r : In others h).
        ⊎_elim
        (λ (p : In first k). absurd (apart k h p r (sym same)))
        (λ (q : In others k). instances_once rest s is a.2 d.1 at h k r q same) (in_either first others k n))
        (in_either first others h m)
