-- The texts of all leaves of a module, declaration by declaration.
use Rattle.std.proofs.Common.{◌≡◌, ℕ, ◌+◌, ◌<◌, ◌≤◌, List, [], ◌∷◌, ◌++◌, Bool, get_or, length, map, take, None, Some, refl, sym, ap, ◌∙◌, arith}
use Rattle.std.specs.Prelude.{slice_get}
use Rattle.std.proofs.lemmas.Grind.{flat_map-append}
use Rattle.std.proofs.lemmas.List.{append-nil, length-map, map-append, take_all, take_more}
use Rattle.std.proofs.lemmas.Option.{get_or_from_slice_get, same_Some, slice_get_read}
use Rattle.fir_base.proofs.Elements.{get_in, there}
use Rattle.fir_ast.specs.Circuits.{CircuitTree, ModuleTree}
use Rattle.fir_ast.specs.Types.{DataType}
use Rattle.fir_meaning.specs.ComponentTypes.{typed_scope}
use Rattle.fir_meaning.specs.FoundTypes.{leaves_of_data}
use Rattle.fir_meaning.specs.working.LeafModules.{LeafDeclared}
use Rattle.fir_meaning.specs.LeafPaths.{named, path_text}
use Rattle.fir_meaning.specs.working.LeafedModules.{module_leaves}
use Rattle.fir_meaning.specs.SizedDeclarations.{numbered_modules}
use Rattle.fir_meaning.specs.TypeLeaves.{TypeLeaf}
use Rattle.fir_meaning.specs.TypedScopes.{Known, TypedScope}
use Rattle.fir_meaning.specs.Visibility.{declarations}
use Rattle.fir_type_table.specs.working.Tables.{shown}
use Rattle.fir_types.specs.working.TypedModules.{type_declared}
use Rattle.fir_leaf.specs.working.LeafLaws.{known_paths, scope_paths}
use Rattle.fir_leaf.specs.working.TableLaws.{LeavesAreDeclared}
use Rattle.fir_leaf_text.specs.working.DeclaredNames.{names_in_module}
use Rattle.fir_leaf_text.specs.working.TextsOfLeaves.{AreTextsOf, declared_texts}
use Rattle.fir_leaf_text.specs.working.TypePaths.{paths_of, texts_behind, type_paths}
use Rattle.fir_leaf_text.proofs.DeclaredTexts.{shown_paths, type_known}
use Rattle.fir_leaf_text.proofs.NamedDeclarations.{name_of_known, names_are}
use Rattle.fir_leaf_text.proofs.SceneLeaves.{inside_there}

-- those of what is known
abbrev scope_texts : TypedScope → List (List ℕ)
scope_texts ks = map path_text (scope_paths ks)

texts_of_leaves : (name : List ℕ) (ls : List TypeLeaf) → map path_text (map (λ (l : TypeLeaf). named name ∷ l.path) ls) ≡ texts_behind name (paths_of ls)
texts_of_leaves name [] = refl
texts_of_leaves name (l ∷ ls) = ap (λ ts. path_text (named name ∷ l.path) ∷ ts) (texts_of_leaves name ls)

texts_more : (ks : TypedScope) (k : Known) → scope_texts (ks ++ k ∷ []) ≡ scope_texts ks ++ texts_behind k.name (paths_of (leaves_of_data k.data_type))
texts_more ks k =
    ap (map path_text) (flat_map-append known_paths ks (k ∷ []) ∙ ap (λ paths. scope_paths ks ++ paths) (append-nil (known_paths k)))
    ∙ map-append path_text (scope_paths ks) (known_paths k) ∙ ap (λ ts. scope_texts ks ++ ts) (texts_of_leaves k.name (leaves_of_data k.data_type))

module _ (c : CircuitTree) (module_number : ℕ) where
  -- those of the first declarations
  pub record AreTextsSoFar (position : ℕ) (texts : List (List ℕ)) : Type 0 where
    pub are : (m : ModuleTree) → slice_get c.modules module_number ≡ Some m → texts ≡ scope_texts (take position (typed_scope c.modules (declarations m)))

  module _ (inside : ModuleTree) (here : slice_get c.modules module_number ≡ Some inside) (names : List (List ℕ))
      (named : names ≡ names_in_module inside) (position : ℕ) (texts : List (List ℕ)) (so_far : AreTextsSoFar position texts) where
    abbrev scope : TypedScope
    scope = typed_scope c.modules (declarations inside)

    counted : length names ≡ length scope
    counted = ap length (named ∙ sym (names_are c.modules inside)) ∙ length-map scope (λ (k : Known). k.name)

    pub one_declared : (name : List ℕ) (new : List (List ℕ)) → position < length names → name ≡ get_or names position name
        → new ≡ texts ++ declared_texts c module_number position name → AreTextsSoFar (position + 1) new
    one_declared name new within at put =
        let found = there scope position (omega (arith, counted)) in
        let k = found.0 in
        let is_named : name ≡ k.name =
        same_Some name k.name
        (sym (slice_get_read names (length names) position name refl within at) ∙ ap (λ ns. slice_get ns position) named
        ∙ name_of_known c.modules inside position k found.1) in
        let next : take (position + 1) scope ≡ take position scope ++ k ∷ [] =
        take_more scope position k (omega (arith, counted)) ∙ ap (λ x. take position scope ++ x ∷ []) (get_or_from_slice_get scope position k k found.1) in
        let own : declared_texts c module_number position name ≡ texts_behind k.name (paths_of (leaves_of_data k.data_type)) =
        ap (λ t. texts_behind name (paths_of (leaves_of_data t))) (type_known c module_number position inside k here found.1)
        ∙ ap (λ n. texts_behind n (paths_of (leaves_of_data k.data_type))) is_named in
        let all : new ≡ scope_texts (take (position + 1) scope) =
        put ∙ ap (λ ts. ts ++ declared_texts c module_number position name) (so_far.are inside here)
        ∙ ap (λ ts. scope_texts (take position scope) ++ ts) own ∙ sym (texts_more (take position scope) k) ∙ ap scope_texts (sym next) in
        record {
          are = λ m is_module.
              all
              ∙ ap (λ (x : ModuleTree). scope_texts (take (position + 1) (typed_scope c.modules (declarations x))))
              (same_Some inside m (sym here ∙ is_module));
        }

    pub all_declared : LeavesAreDeclared → length names ≤ position → AreTextsOf c module_number texts
    all_declared law past = λ s scene.
        let own = inside_there c module_number s.own scene.own in
        let same = same_Some inside s.own.inside (sym here ∙ own) in
        let among = get_in (numbered_modules c) module_number s.own scene.own in
        so_far.are inside here ∙ ap scope_texts (take_all position scope (omega (arith, counted)))
        ∙ ap (λ (x : ModuleTree). scope_texts (typed_scope c.modules (declarations x))) same ∙ ap (map path_text) (sym (law c s among))
        ∙ texts_of_paths (module_leaves s)
      where
        texts_of_paths : (ls : List LeafDeclared) → map path_text (map (λ (l : LeafDeclared). l.path) ls) ≡ map (λ (l : LeafDeclared). path_text l.path) ls
        texts_of_paths [] = refl
        texts_of_paths (l ∷ ls) = ap (λ ts. path_text l.path ∷ ts) (texts_of_paths ls)

-- those of what is found, or of nothing
pub none_declared : (c : CircuitTree) (module_number position : ℕ) (name : List ℕ) (old : List (List ℕ)) → None ≡ type_declared c module_number position
    → old ≡ old ++ declared_texts c module_number position name
none_declared c module_number position name old none =
    sym (append-nil old) ∙ ap (λ t. old ++ texts_behind name (paths_of (leaves_of_data t))) none

pub found_declared : (c : CircuitTree) (module_number position : ℕ) (name path : List ℕ) (t : DataType) (old new : List (List ℕ))
    → Some t ≡ type_declared c module_number position → path ≡ name → new ≡ old ++ texts_behind path (type_paths t)
    → new ≡ old ++ declared_texts c module_number position name
found_declared c module_number position name path t old new found same put =
    put ∙ ap (λ p. old ++ texts_behind p (type_paths t)) same ∙ ap (λ o. old ++ texts_behind name (paths_of (leaves_of_data o))) found

pub shown_texts : (is_bare : Bool) (t u : DataType) (path : List ℕ) (old new : List (List ℕ)) → u ≡ shown is_bare t
    → new ≡ old ++ texts_behind path (type_paths t) → new ≡ old ++ texts_behind path (type_paths u)
shown_texts is_bare t u path old new same put =
    put ∙ ap (λ paths. old ++ texts_behind path paths) (sym (ap type_paths same ∙ shown_paths is_bare t))
