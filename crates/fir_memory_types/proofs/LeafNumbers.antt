-- The leaves of a memory stand where its view says, and hold what its type does.
use Rattle.std.proofs.Common.{◌≡◌, ℕ, ◌+◌, List, [], ◌∷◌, ◌++◌, map, length, slice_get, Option, Some, None, refl, sym, ap, ◌∙◌, subst, arith, length-append}
use Rattle.std.proofs.lemmas.List.{length-map}
use Rattle.std.proofs.lemmas.Option.{slice_get_within}
use Rattle.fir_ast.specs.Types.{DataType}
use Rattle.fir_meaning.specs.Components.{Declarations}
use Rattle.fir_meaning.specs.Components as component
use Rattle.fir_meaning.specs.ComponentTypes.{typed_scope}
use Rattle.fir_meaning.specs.Costs.{leaves_where}
use Rattle.fir_meaning.specs.MemoryTypes.{memory_type}
use Rattle.fir_meaning.specs.TypedScopes.{Known, TypedScope}
use Rattle.fir_meaning.specs.Visibility.{declaration_at, declarations}
use Rattle.fir_meaning.specs.WidthExpressions.{Widths}
use Rattle.fir_meaning.specs.SizedScopes.{SizedName, SizedScope}
use Rattle.fir_meaning.specs.SizedMemories.{sized_memory}
use Rattle.fir_meaning.specs.SizedDeclarations.{numbered_behind}
use Rattle.fir_meaning.specs.LeafTypes.{LeafType}
use Rattle.fir_meaning.specs.HeldTypes.{held_types}
use Rattle.fir_meaning.specs.ModuleScenes.{Scene, scope_before}
use Rattle.fir_meaning.specs.working.LeafModules.{LeafDeclared}
use Rattle.fir_meaning.specs.working.LeafedModules.{module_leaves}
use Rattle.fir_meaning.specs.working.Targets.{leaves_so_far}
use Rattle.fir_leaf.proofs.LeafPlaces.{get_right}
use Rattle.fir_leaf_types.proofs.HeldPlaces.{counted_by_type}
use Rattle.fir_leaf_types.proofs.ScopesStandTyped.{NameStands, ScopeStands, TypeStands, held_along, held_where}
use Rattle.fir_leaf_types.proofs.DeclarationsGrow.{Grows}
use Rattle.fir_leaf_types.proofs.DeclarationsStandTyped.{held_longer, held_one, stands_behind}
use Rattle.fir_leaf_types.proofs.LeavesHold.{holds_at, module_holds}
use Rattle.fir_memory_types.proofs.MemoryVisits.{MemoryVisit}
use Rattle.fir_memory_types.proofs.PortsTyped.{Stand}

-- names hold a type for each leaf that is counted
where_counted : (w : Widths) (k : Known) (s : SizedName) → NameStands w k s → length (held_where w k.data_type s.sized) ≡ leaves_where k.data_type
where_counted w k s h = by k.data_type (λ t e. h.stands t e)
  where
    by : (o : Option DataType) → ((t : DataType) → o ≡ Some t → TypeStands w t s.sized) → length (held_where w o s.sized) ≡ leaves_where o
    by None f = refl
    by (Some t) f = counted_by_type w s.sized t (f t refl).shape

along_counted : (w : Widths) (ks : TypedScope) (ss : SizedScope) → ScopeStands w ks ss → length (held_along w ks ss) ≡ leaves_so_far ks
along_counted w [] [] h = refl
along_counted w [] (s ∷ ss) h = absurd h
along_counted w (k ∷ ks) [] h = absurd h
along_counted w (k ∷ ks) (s ∷ ss) h =
    omega (arith, length-append (held_where w k.data_type s.sized) (held_along w ks ss), where_counted w k s h.0, along_counted w ks ss h.1)

module _ (s : Scene) (none : s.own.start.scope ≡ []) (v : MemoryVisit)
    (grows : Grows (v.before.declared ++ declaration_at v.before v.named (component.memory v.parts) ∷ []) (declarations s.own.inside)) (t : DataType)
    (typed : memory_type v.named.place v.parts ≡ Some t) where
  abbrev held_by : List LeafType
  held_by = held_types s.widths (sized_memory v.named.place v.parts)

  there : (j : ℕ) (h : LeafType) → slice_get (held_types s.widths (sized_memory v.named.place v.parts)) j ≡ Some h
      → slice_get (map (λ (l : LeafDeclared). l.holds) (module_leaves s)) (leaves_so_far (scope_before s v.before) + j) ≡ Some h
  there j h e =
      let w = s.widths in
      let modules = s.own.modules in
      let start = s.own.start in
      let ds = v.before.declared in
      let d = declaration_at v.before v.named (component.memory v.parts) in
      let x = leaves_so_far (typed_scope modules ds) + j in
      let held_of = λ (es : Declarations). held_along w (typed_scope modules es) (numbered_behind modules start es).scope in
      let own : slice_get (held_where w (memory_type v.named.place v.parts) (sized_memory v.named.place v.parts)) j ≡ Some h =
      subst (λ o. slice_get (held_where w o (sized_memory v.named.place v.parts)) j ≡ Some h) (sym typed) e in
      let counted = along_counted w (typed_scope modules ds) (numbered_behind modules start ds).scope (stands_behind w modules start none ds) in
      let here : slice_get (held_of (ds ++ d ∷ [])) x ≡ Some h =
      ap (λ l. slice_get l x) (held_one w modules start none ds d)
      ∙ get_right (held_of ds) (held_where w (memory_type v.named.place v.parts) (sized_memory v.named.place v.parts))
      (leaves_so_far (typed_scope modules ds)) j counted
      ∙ own in
      let far : slice_get (held_of ((ds ++ d ∷ []) ++ grows.0)) x ≡ Some h = held_longer w modules start none (ds ++ d ∷ []) grows.0 x h here in
      ap (λ l. slice_get l x) (module_holds s none) ∙ subst (λ es. slice_get (held_of es) x ≡ Some h) grows.1 far

  pub leaves_stand : Stand (module_leaves s) (leaves_so_far (scope_before s v.before)) (held_types s.widths (sized_memory v.named.place v.parts))
  leaves_stand = record {
    each = λ j h e.
        let at = there j h e in (
          omega (
            arith,
            slice_get_within (map (λ (l : LeafDeclared). l.holds) (module_leaves s)) (leaves_so_far (scope_before s v.before) + j) h at,
            length-map (module_leaves s) (λ (l : LeafDeclared). l.holds),
          ),
          holds_at (module_leaves s) (leaves_so_far (scope_before s v.before) + j) h at,
        );
  }
