-- In each module of a circuit without a fault of names or types, the terms of expressions read by paths what the expressions read, and the targets of
-- references name what these name.
use Rattle.std.proofs.Common.{◌≡◌, ℕ, ◌<◌, List, [], ◌∷◌, length, map, slice_get, Option, Some, None, refl, sym, ap, ap₂, ◌∙◌, subst, inl, inr, arith}
use Rattle.std.specs.List.{AllByRecursion}
use Rattle.std.proofs.lemmas.Option.{get_or_from_slice_get, slice_get_within}
use Rattle.fir_base.proofs.Elements.{beside}
use Rattle.fir_ast.specs.Expressions.{Expression}
use Rattle.fir_ast.specs.Statements.{SinkReference}
use Rattle.fir_ast.specs.Types.{DataType}
use Rattle.fir_meaning.specs.LeafPaths.{LeafPath}
use Rattle.fir_meaning.specs.working.Leafed.{target_of, terms}
use Rattle.fir_meaning.specs.working.LeafedBlocks.{term_at}
use Rattle.fir_meaning.specs.ModuleScenes.{Scene}
use Rattle.fir_meaning.specs.working.LeafedModules.{module_leaves}
use Rattle.fir_meaning.specs.Reaching.{Reached}
use Rattle.fir_meaning.specs.SourceReads as tree
use Rattle.fir_meaning.specs.working.Targets.{Target}
use Rattle.fir_meaning.specs.working.TermReads.{reads}
use Rattle.fir_meaning.specs.working.Terms.{zeros}
use Rattle.fir_meaning.specs.TypeLeaves.{TypeLeaf, type_leaves, leaf_count}
use Rattle.fir_meaning.specs.TypedScopes.{TypedScope}
use Rattle.fir_meaning.specs.working.WellTyped.{HasType, Reaches}
use Rattle.fir_meaning.proofs.LeafSteps.{path_of}
use Rattle.fir_leaf.specs.working.LeafLaws.{path_at, Begins}
use Rattle.fir_leaf.specs.working.LeafNumbers.{AllBelow}
use Rattle.fir_leaf.proofs.AlikeTypes.{leaf_paths}
use Rattle.fir_leaf.proofs.LeafPlaces.{get_mapped, leaves_counted}
use Rattle.fir_leaf.proofs.OwnPaths.{path_once}
use Rattle.fir_leaf.proofs.TargetNumbers.{TargetWithin}
use Rattle.fir_leaf.proofs.TermNumbers.{sink_within}
use Rattle.fir_design.proofs.FineScenes.{IsFineScene, fine_scene, leaf_path, leaves_long, whole_scope}
use Rattle.fir_source_faults.specs.working.ReadsByPath.{ModulesReadByPath, NamesByPath, ReadsByPath, leaves_from, leaves_of_target, path_in, paths_in}
use Rattle.fir_source_faults.proofs.ReadPaths.{name_along, sink_reads, term_reads, terms_read}

each_below : (n m : ℕ) (xs : List ℕ) → n ≡ m → AllBelow n xs → AllByRecursion (λ x. x < m) xs
each_below n m [] e h = tt
each_below n m (x ∷ xs) e h = (let lt = h x (inl refl) in omega arith, each_below n m xs e (λ y i. h y (inr i)))

-- of each leaf of its type a target names leaves below a bound
target_below : (n : ℕ) (r : Target) (k : ℕ) → TargetWithin n r → k < leaf_count r.data_type → AllBelow n (leaves_of_target r k)
target_below n r k within lt = by r.base refl
  where
    by : (o : Option ℕ) → r.base ≡ o → AllBelow n (leaves_from o r.picks k)
    by None e = λ y i. absurd i
    by (Some b) e = within.each b k e lt

module _ (s : Scene) (f : IsFineScene s) where
  pub same_paths : (xs : List ℕ) → paths_in s xs ≡ map (path_at (whole_scope s)) xs
  same_paths [] = refl
  same_paths (x ∷ xs) = ap₂ (λ (path : LeafPath) (rest : List LeafPath). path ∷ rest) (leaf_path s f x) (same_paths xs)

  expression_reads : (scope : TypedScope) (e : Expression) (t : DataType) (k : ℕ) (l : TypeLeaf) → Begins scope (whole_scope s) → HasType scope e t
      → slice_get (type_leaves t) k ≡ Some l → paths_in s (reads (term_at (terms scope e) k)) ≡ tree.reads scope e l.path
  expression_reads scope e t k l front typed at =
      let all = terms_read (whole_scope s) scope front e t typed in
      let one = beside (term_reads (whole_scope s)) (tree.reads scope e) (terms scope e) (leaf_paths t) all k l.path
      (get_mapped path_of (type_leaves t) k l at) in
      same_paths (reads (term_at (terms scope e) k))
      ∙ ap (term_reads (whole_scope s)) (get_or_from_slice_get (terms scope e) k one.0 zeros one.1) ∙ one.2

  target_names : (scope : TypedScope) (sink : SinkReference) (r : Reached) (k : ℕ) (l : TypeLeaf) → Begins scope (whole_scope s) → Reaches scope sink r
      → slice_get (type_leaves r.data_type) k ≡ Some l → NamesByPath s scope sink k l
  target_names scope sink r k l front h at =
      let to = sink_reads (whole_scope s) scope front sink r h in
      let own : slice_get (type_leaves (target_of scope sink).data_type) k ≡ Some l =
      subst (λ t. slice_get (type_leaves t) k ≡ Some l) (sym to.data_type) at in
      let below = slice_get_within (type_leaves (target_of scope sink).data_type) k l own in
      record {
        leaves = same_paths (leaves_of_target (target_of scope sink) k) ∙ to.has.each k l own
            ∙ name_along (whole_scope s) scope front sink.name h.0 sink.parts l.path h.1;
        within =
            each_below _ (length (module_leaves s)) (leaves_of_target (target_of scope sink) k) (sym (leaves_long s f))
            (target_below _ (target_of scope sink) k (sink_within scope (whole_scope s) front sink r h).within
            (omega (arith, below, leaves_counted (target_of scope sink).data_type)));
        picked = to.picked;
        indices = same_paths _ ∙ to.indices;
      }

  once : (x y : ℕ) → x < length (module_leaves s) → y < length (module_leaves s) → path_in s x ≡ path_in s y → x ≡ y
  once x y lt less e =
      path_once (whole_scope s) x y f.fine (omega (arith, leaves_long s f)) (omega (arith, leaves_long s f)) (sym (leaf_path s f x) ∙ e ∙ leaf_path s f y)

  pub scene_reads : ReadsByPath s
  scene_reads = record { expression = expression_reads; target = target_names; once = once }

pub modules_read : ModulesReadByPath
modules_read c s names types i = scene_reads s (fine_scene c s names types i)
