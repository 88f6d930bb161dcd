-- The names of the instances in which a module of a tree stands are words, where those of the circuit are.
use Rattle.std.proofs.Common.{List, [], ◌∷◌, ◌++◌, sym, subst, inl, inr, ⊎_elim}
use Rattle.std.specs.Prelude.{IsTrue}
use Rattle.std.specs.List.{AllByRecursion}
use Rattle.ver_words.specs.Names.{is_word}
use Rattle.fir_base.specs.Lists.{In}
use Rattle.fir_base.proofs.Each.{all_at, all_joined}
use Rattle.fir_base.proofs.Members.{in_either}
use Rattle.fir_ast.specs.Circuits.{CircuitTree}
use Rattle.fir_ast.specs.Statements.{Statement, connect, instance, invalid, memory, node, partial_connect, register, skip, when, wire, Block, done, then}
use Rattle.fir_meaning.specs.Elaborated.{AreScenes}
use Rattle.fir_meaning.specs.LeafPaths.{LeafPath, named}
use Rattle.fir_meaning.specs.ModuleScenes.{Scene}
use Rattle.fir_meaning.specs.SourceDependence.{PlacedModule, modules_of_design, modules_of_instances}
use Rattle.fir_meaning.specs.SourceDesigns.{AreInstances, InstanceOf, Instances, IsSourceDesignOf, SourceDesign, held, instances_of, instances_of_block, made_of, no_instances}
use Rattle.fir_design.proofs.NumberedScenes.{scene_own}
use Rattle.fir_design_faults.proofs.DesignScenes.{scene_in}
use Rattle.fir_flatten.specs.working.Words.{BlockHasWords, HasWords, ModuleHasWords, StatementHasWords}
use Rattle.fir_flatten.proofs.WordTexts.{AreWordSteps, IsWordStep}

abbrev pub IsCalled : InstanceOf → Type 0
IsCalled i = IsTrue (is_word i.named.name)

mutual
  statement_called : (x : Statement) → StatementHasWords x → AllByRecursion IsCalled (instances_of x)
  statement_called (wire p n begins t) h = tt
  statement_called (register p n begins t c r) h = tt
  statement_called (node p n e) h = tt
  statement_called (instance p n other) h = (h, tt)
  statement_called (memory p n parts) h = tt
  statement_called (when p c a b) h = all_joined IsCalled (instances_of_block a) (instances_of_block b) (block_called a h.0) (block_called b h.1)
  statement_called (connect p d e) h = tt
  statement_called (partial_connect p d e) h = tt
  statement_called (invalid p d) h = tt
  statement_called (skip p) h = tt

  block_called : (b : Block) → BlockHasWords b → AllByRecursion IsCalled (instances_of_block b)
  block_called done h = tt
  block_called ((then) x b) h = all_joined IsCalled (instances_of x) (instances_of_block b) (statement_called x h.0) (block_called b h.1)

module _ (c : CircuitTree) (words : HasWords c) (scenes : List Scene) (are : AreScenes c scenes) where
  pub called : (s : Scene) → In scenes s → AllByRecursion IsCalled (instances_of_block s.own.inside.body)
  called s i = block_called s.own.inside.body (all_at ModuleHasWords c.modules words.modules s.own.inside (scene_own c scenes are s i).inside).body

  mutual
    pub module_words : (t : SourceDesign) (s : Scene) → In scenes s → IsSourceDesignOf scenes s t → (at : LeafPath) → AreWordSteps at → (h : PlacedModule)
        → In (modules_of_design at t) h → AreWordSteps h.at
    module_words (made_of u trees) s i is at w h (inl e) = subst (λ (x : PlacedModule). AreWordSteps x.at) e w
    module_words (made_of u trees) s i is at w h (inr m) =
        instance_words trees s (instances_of_block s.own.inside.body) is.1 (called s i) at w h m

    instance_words : (trees : Instances) (s : Scene) (is : List InstanceOf) → AreInstances scenes s is trees → AllByRecursion IsCalled is → (at : LeafPath)
        → AreWordSteps at → (h : PlacedModule) → In (modules_of_instances at trees) h → AreWordSteps h.at
    instance_words no_instances s is a all at w h m = absurd m
    instance_words (held name d rest) s [] a all at w h m = absurd a
    instance_words (held name d rest) s (i ∷ is) a all at w h m =
        let own : IsTrue (is_word name) = subst (λ x. IsTrue (is_word x)) (sym a.0) all.0 in
        let below : AreWordSteps (at ++ named name ∷ []) = all_joined IsWordStep at (named name ∷ []) w (own, tt) in
        ⊎_elim
        (λ (l : In (modules_of_design (at ++ named name ∷ []) d) h).
        module_words d a.1.0 (scene_in scenes _ a.1.0 a.1.1) a.1.2 (at ++ named name ∷ []) below h l)
        (λ (r : In (modules_of_instances at rest) h). instance_words rest s is a.2 all.1 at w h r)
        (in_either (modules_of_design (at ++ named name ∷ []) d) (modules_of_instances at rest) h m)
