-- The path of each array of a design is one of words: behind the names of instances it begins with the name of its memory, and goes on with steps of the type of
-- the memory's data.
use Rattle.std.proofs.Common.{ℕ, List, [], ◌∷◌, ◌++◌, flat_map, refl, sym, subst, inl, inr, ⊎_elim}
use Rattle.std.specs.Prelude.{IsTrue}
use Rattle.std.specs.List.{AllByRecursion}
use Rattle.ver_words.specs.Names.{is_word}
use Rattle.fir_base.specs.Lists.{In}
use Rattle.fir_base.proofs.Each.{all_at, all_joined}
use Rattle.fir_base.proofs.Members.{in_either, in_map_from}
use Rattle.fir_ast.specs.Circuits.{CircuitTree}
use Rattle.fir_ast.specs.Statements.{MemoryPart, Statement, connect, instance, invalid, memory, node, partial_connect, register, skip, when, wire, Block, done, then}
use Rattle.fir_meaning.specs.Elaborated.{AreScenes}
use Rattle.fir_meaning.specs.FoundTypes.{leaves_of_data}
use Rattle.fir_meaning.specs.HeldTypes.{held_types}
use Rattle.fir_meaning.specs.LeafPaths.{LeafPath, named}
use Rattle.fir_meaning.specs.LeafTypes.{LeafType}
use Rattle.fir_meaning.specs.MemoryTypes.{data_of_part, first_one}
use Rattle.fir_meaning.specs.ModuleScenes.{Scene}
use Rattle.fir_meaning.specs.SizedMemories.{sized_array}
use Rattle.fir_meaning.specs.SourceCircuits.{PlacedArray, array_path, arrays_of_design, arrays_of_instances, placed_arrays}
use Rattle.fir_meaning.specs.SourceDesigns.{AreInstances, InstanceOf, Instances, IsSourceDesignOf, SourceDesign, held, instances_of_block, made_of, no_instances}
use Rattle.fir_meaning.specs.SourceRoles.{SourceArray, arrays_of_data, source_arrays, source_arrays_in, source_arrays_in_block}
use Rattle.fir_meaning.specs.TypeLeaves.{TypeLeaf}
use Rattle.fir_design.proofs.NumberedScenes.{scene_own}
use Rattle.fir_design_faults.proofs.DesignScenes.{scene_in}
use Rattle.fir_flatten.specs.working.Words.{BlockHasWords, HasWords, ModuleHasWords, StatementHasWords}
use Rattle.fir_flatten.proofs.InstanceWords.{IsCalled, called}
use Rattle.fir_flatten.proofs.LeafWords.{words_of_data}
use Rattle.fir_flatten.proofs.MemoryWords.{data_words}
use Rattle.fir_flatten.proofs.TypeWords.{LeafHasWords}
use Rattle.fir_flatten.proofs.WordTexts.{AreWordSteps, IsWordPath, IsWordStep, path_behind}

-- those of a memory
of_data : (name : List ℕ) → IsTrue (is_word name) → (parts : List MemoryPart) (ls : List TypeLeaf) → AllByRecursion LeafHasWords ls → (hs : List LeafType)
    (a : SourceArray) → In (arrays_of_data name parts ls hs) a → IsWordPath a.path
of_data name word parts [] all hs a among = absurd among
of_data name word parts (l ∷ ls) all [] a among = absurd among
of_data name word parts (l ∷ ls) all (h ∷ hs) a (inl e) =
    subst (λ (b : SourceArray). IsWordPath b.path) e (record { name = name; rest = l.path; is = refl; word = word; steps = all.0 })
of_data name word parts (l ∷ ls) all (h ∷ hs) a (inr among) = of_data name word parts ls all.1 hs a among

-- of a module
module _ (s : Scene) where
  mutual
    of_statement : (x : Statement) → StatementHasWords x → (a : SourceArray) → In (source_arrays_in s x) a → IsWordPath a.path
    of_statement (memory p n parts) h a among =
        of_data n.name h.0 parts (leaves_of_data (first_one (flat_map data_of_part parts)))
        (words_of_data (first_one (flat_map data_of_part parts)) (data_words parts h.1)) (held_types s.widths (sized_array parts)) a among
    of_statement (when p c b e) h a among =
        ⊎_elim (λ (l : In (source_arrays_in_block s b) a). of_block b h.0 a l) (λ (r : In (source_arrays_in_block s e) a). of_block e h.1 a r)
        (in_either (source_arrays_in_block s b) (source_arrays_in_block s e) a among)
    of_statement (wire p n begins t) h a among = absurd among
    of_statement (register p n begins t c r) h a among = absurd among
    of_statement (node p n e) h a among = absurd among
    of_statement (instance p n other) h a among = absurd among
    of_statement (connect p d e) h a among = absurd among
    of_statement (partial_connect p d e) h a among = absurd among
    of_statement (invalid p d) h a among = absurd among
    of_statement (skip p) h a among = absurd among

    of_block : (b : Block) → BlockHasWords b → (a : SourceArray) → In (source_arrays_in_block s b) a → IsWordPath a.path
    of_block done h a among = absurd among
    of_block ((then) x b) h a among =
        ⊎_elim (λ (l : In (source_arrays_in s x) a). of_statement x h.0 a l) (λ (r : In (source_arrays_in_block s b) a). of_block b h.1 a r)
        (in_either (source_arrays_in s x) (source_arrays_in_block s b) a among)

-- of a design
module _ (c : CircuitTree) (words : HasWords c) (scenes : List Scene) (are : AreScenes c scenes) where
  of_scene : (s : Scene) → In scenes s → (a : SourceArray) → In (source_arrays s) a → IsWordPath a.path
  of_scene s i =
      of_block s s.own.inside.body (all_at ModuleHasWords c.modules words.modules s.own.inside (scene_own c scenes are s i).inside).body

  mutual
    pub array_words : (t : SourceDesign) (s : Scene) → In scenes s → IsSourceDesignOf scenes s t → (at : LeafPath) → AreWordSteps at → (p : PlacedArray)
        → In (arrays_of_design at t) p → IsWordPath (array_path p)
    array_words (made_of u trees) s i is at w p among =
        ⊎_elim
        (λ (l : In (placed_arrays at (source_arrays u)) p).
        let from = in_map_from (λ (a : SourceArray). record { at = at; array = a }) (source_arrays u) p l in
        let own : IsWordPath from.0.path = of_scene s i from.0 (subst (λ (z : Scene). In (source_arrays z) from.0) is.0 from.1) in
        subst (λ (q : PlacedArray). IsWordPath (array_path q)) from.2 (path_behind at from.0.path w own))
        (λ (r : In (arrays_of_instances at trees) p).
        of_instances trees s (instances_of_block s.own.inside.body) is.1 (called c words scenes are s i) at w p r)
        (in_either (placed_arrays at (source_arrays u)) (arrays_of_instances at trees) p among)

    of_instances : (trees : Instances) (s : Scene) (is : List InstanceOf) → AreInstances scenes s is trees → AllByRecursion IsCalled is → (at : LeafPath)
        → AreWordSteps at → (p : PlacedArray) → In (arrays_of_instances at trees) p → IsWordPath (array_path p)
    of_instances no_instances s is a all at w p among = absurd among
    of_instances (held name d rest) s [] a all at w p among = absurd a
    of_instances (held name d rest) s (i ∷ is) a all at w p among =
        let own : IsTrue (is_word name) = subst (λ x. IsTrue (is_word x)) (sym a.0) all.0 in
        let below : AreWordSteps (at ++ named name ∷ []) = all_joined IsWordStep at (named name ∷ []) w (own, tt) in
        ⊎_elim
        (λ (l : In (arrays_of_design (at ++ named name ∷ []) d) p).
        array_words d a.1.0 (scene_in scenes _ a.1.0 a.1.1) a.1.2 (at ++ named name ∷ []) below p l)
        (λ (r : In (arrays_of_instances at rest) p). of_instances rest s is a.2 all.1 at w p r)
        (in_either (arrays_of_design (at ++ named name ∷ []) d) (arrays_of_instances at rest) p among)
