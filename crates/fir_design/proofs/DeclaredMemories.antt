-- A memory that a module declares: its leaves stand behind those declared before it, and no two of its ports have one name.
use Rattle.std.proofs.Common.{◌≡◌, ◌+◌, List, [], ◌∷◌, ◌++◌, map, flat_map, Some, refl, sym, ap, ◌∙◌, subst, append_assoc, inl}
use Rattle.fir_base.specs.Lists.{In}
use Rattle.fir_base.proofs.Members.{in_right}
use Rattle.fir_ast.specs.Types.{DataType}
use Rattle.fir_ast.specs.Statements.{MemoryPart, PlacedName}
use Rattle.fir_meaning.specs.Components.{Declaration}
use Rattle.fir_meaning.specs.Components as component
use Rattle.fir_meaning.specs.ComponentTypes.{known_as, typed_scope}
use Rattle.fir_meaning.specs.LeafPaths.{named}
use Rattle.fir_meaning.specs.MemoryTypes.{memory_bundle, memory_type}
use Rattle.fir_meaning.specs.Mentions.{type_mentions}
use Rattle.fir_meaning.specs.NameGroups.{faults_in}
use Rattle.fir_meaning.specs.TypedScopes.{Known, TypedScope}
use Rattle.fir_meaning.specs.TypeLeaves.{TypeLeaf, type_leaves}
use Rattle.fir_meaning.specs.Visibility.{Before, declaration_at, declarations, with_declaration}
use Rattle.fir_meaning.specs.working.WellTyped.{MemoryIsLegal}
use Rattle.fir_meaning.proofs.LeafSteps.{behind_step, path_of}
use Rattle.fir_leaf.specs.working.LeafLaws as law
use Rattle.fir_meaning.specs.ModuleScenes.{Scene, scope_before}
use Rattle.fir_meaning.specs.working.LeafedModules.{module_leaves}
use Rattle.fir_meaning.specs.working.Targets.{leaves_so_far}
use Rattle.fir_design.specs.working.SameRoles.{path_at}
use Rattle.fir_meaning.specs.SourceRoles.{NamedPort, kind_of, ports_of_part}
use Rattle.fir_design.proofs.DeclaredInstances.{Grows}
use Rattle.fir_design.proofs.FineScenes.{IsFineScene, leaf_path, whole_scope}
use Rattle.fir_design.proofs.KnownDeclarations.{known_behind}
use Rattle.fir_design.proofs.KnownLeaves.{leaf_there}
use Rattle.fir_design.proofs.MemoryLeafPaths.{memory_paths}
use Rattle.fir_design.proofs.MemoryPortNames.{port_found}
use Rattle.fir_design.proofs.MemoryPortPaths.{port_paths}
use Rattle.fir_design.proofs.StandingLists.{Stands, stands_mapped}

module _ (s : Scene) (f : IsFineScene s) (before : Before) (n : PlacedName) (parts : List MemoryPart)
    (g : Grows (with_declaration before n (component.memory parts)).declared (declarations s.own.inside)) (legal : MemoryIsLegal parts) where
  abbrev pub word_bundle : DataType
  word_bundle = memory_bundle n.place parts legal.word_type legal.words

  abbrev own : Declaration
  own = declaration_at before n (component.memory parts)

  abbrev front : TypedScope
  front = scope_before s before

  abbrev k : Known
  k = known_as s.own.modules front own

  abbrev rest : (rest : TypedScope) × (front ++ k ∷ rest ≡ typed_scope s.own.modules (before.declared ++ own ∷ g.0))
  rest = known_behind s.own.modules before.declared own g.0

  whole_is : front ++ k ∷ rest.0 ≡ whole_scope s
  whole_is = rest.1 ∙ ap (typed_scope s.own.modules) (sym (append_assoc before.declared (own ∷ []) g.0) ∙ g.1)

  pub type_is : memory_type n.place parts ≡ Some word_bundle
  type_is = rw (legal.one_data, legal.one_depth) refl

  leaves_stand : Stands (path_at (module_leaves s)) (λ (l : TypeLeaf). named n.name ∷ l.path) (leaves_so_far (scope_before s before))
      (type_leaves word_bundle)
  leaves_stand = record {
    each = λ x l e.
        leaf_path s f (leaves_so_far front + x) ∙ ap (λ scope. law.path_at scope (leaves_so_far front + x)) (sym whole_is)
        ∙ leaf_there front k rest.0 word_bundle type_is x l e;
  }

  fields_once : faults_in (type_mentions word_bundle) ≡ []
  fields_once = f.fine.fields k word_bundle (subst (λ scope. In scope k) whole_is (in_right front (k ∷ rest.0) k (inl refl))) type_is

  pub ports_stand : Stands (path_at (module_leaves s)) (behind_step (named n.name)) (leaves_so_far (scope_before s before))
      (flat_map (port_paths (map path_of (type_leaves legal.word_type))) (flat_map ports_of_part parts))
  ports_stand =
      let first = leaves_so_far front in
      let at = path_at (module_leaves s) in
      subst (Stands at (behind_step (named n.name)) first) (memory_paths n.place legal.word_type legal.words parts)
      (stands_mapped at (behind_step (named n.name)) first path_of (type_leaves word_bundle) leaves_stand)

  pub ports_found : (q : NamedPort) → In (flat_map ports_of_part parts) q → kind_of (flat_map ports_of_part parts) q.name ≡ Some q.kind
  ports_found = port_found n.place legal.word_type legal.words parts fields_once
