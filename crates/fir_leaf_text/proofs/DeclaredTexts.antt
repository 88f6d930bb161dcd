-- The text of a leaf of what a module declares: its name is that of the declaration, and its steps are found by the type.
use Rattle.std.proofs.Common.{◌≡◌, ℕ, ◌<◌, ◌++◌, List, [], Bool, true, false, get_or, length, map, None, Option, Some, refl, ap, sym, ◌∙◌, append_assoc}
use Rattle.std.specs.Prelude.{flat_map, slice_get, unwrap_or}
use Rattle.std.proofs.lemmas.Option.{none-some, same_Some, slice_get_read}
use Rattle.fir_ast.specs.declared.circuit.Circuit.{Circuit}
use Rattle.fir_ast.specs.declared.circuit.Module.{Module}
use Rattle.fir_ast.specs.Circuits.{CircuitTree, ModuleTree}
use Rattle.fir_ast.specs.Types.{DataType}
use Rattle.fir_ast.specs.working.Views.{circuit_of, module_of}
use Rattle.fir_meaning.specs.ComponentTypes.{typed_scope}
use Rattle.fir_meaning.specs.FoundTypes.{leaves_of_data}
use Rattle.fir_meaning.specs.LeafPaths.{LeafPath, path_text, step_text}
use Rattle.fir_meaning.specs.TypedScopes.{Known}
use Rattle.fir_meaning.specs.Visibility.{declarations}
use Rattle.fir_type_table.specs.working.Tables.{shown}
use Rattle.fir_types.specs.working.TypedModules.{at_position, type_declared}
use Rattle.fir_leaf.proofs.AlikeTypes.{bare_paths}
use Rattle.fir_leaf.proofs.LeafPlaces.{get_mapped}
use Rattle.fir_leaf_text.specs.working.DeclaredLeaves.{IsDeclaredLeaf}
use Rattle.fir_leaf_text.specs.working.DeclaredNames.{names_in_module}
use Rattle.fir_leaf_text.specs.working.TypePaths.{WritesPath, paths_of, type_paths}
use Rattle.fir_leaf_text.proofs.NamedDeclarations.{name_of_known}

-- a module of the code, as it is read
pub part_there : (tree read : Circuit) (modules : List Module) (k : ℕ) (part : Module) → read ≡ tree → modules ≡ read.modules.items → k < length modules
    → part ≡ get_or modules k part → slice_get tree.modules.items k ≡ Some part
part_there tree read modules k part tree_is modules_are within at =
    ap (λ (t : Circuit). slice_get t.modules.items k) (sym tree_is) ∙ ap (λ (ms : List Module). slice_get ms k) (sym modules_are)
    ∙ slice_get_read modules (length modules) k part refl within at

-- the type of what is known
pub type_known : (c : CircuitTree) (module_number position : ℕ) (m : ModuleTree) (k : Known) → slice_get c.modules module_number ≡ Some m
    → slice_get (typed_scope c.modules (declarations m)) position ≡ Some k → type_declared c module_number position ≡ k.data_type
type_known c module_number position m k is_module is_known =
    let of_module : ModuleTree → List (Option DataType) = λ m. map (λ (k : Known). k.data_type) (typed_scope c.modules (declarations m)) in
    let own = get_mapped of_module c.modules module_number m is_module in
    let one = get_mapped (λ (k : Known). k.data_type) (typed_scope c.modules (declarations m)) position k is_known in
    ap (λ o. at_position (unwrap_or o []) position) own ∙ ap (λ o. unwrap_or o None) one

module _ (c : CircuitTree) (module_number position number : ℕ) (path : LeafPath) (leaf : IsDeclaredLeaf c module_number position number path) where
  pub type_is : type_declared c module_number position ≡ leaf.known.data_type
  type_is = type_known c module_number position leaf.inside leaf.known leaf.is_module leaf.is_known

  -- the name stands among those of its module
  pub name_among : (m : ModuleTree) (names : List (List ℕ)) → slice_get c.modules module_number ≡ Some m → names ≡ names_in_module m
      → slice_get names position ≡ Some leaf.known.name
  name_among m names there named =
      ap (λ ns. slice_get ns position) (named ∙ ap names_in_module (same_Some m leaf.inside (sym there ∙ leaf.is_module)))
      ∙ name_of_known c.modules leaf.inside position leaf.known leaf.is_known

  -- the type that is found has the leaf
  pub steps_there : (t : DataType) → Some t ≡ leaf.known.data_type → slice_get (type_paths t) number ≡ Some leaf.steps
  steps_there t same = ap (λ o. slice_get (paths_of (leaves_of_data o)) number) same ∙ leaf.among

  -- and one is found
  pub one_found : None ≡ leaf.known.data_type → ⊥
  one_found same = none-some leaf.steps (ap (λ o. slice_get (paths_of (leaves_of_data o)) number) same ∙ leaf.among)

  -- the name and the steps come to the text
  pub both_written : (old mid new : List ℕ) → mid ≡ old ++ leaf.known.name → new ≡ mid ++ flat_map step_text leaf.steps → new ≡ old ++ path_text path
  both_written old mid new name steps =
      steps ∙ ap (λ l. l ++ flat_map step_text leaf.steps) name ∙ append_assoc old leaf.known.name (flat_map step_text leaf.steps)
      ∙ ap (λ p. old ++ path_text p) (sym leaf.begins)

-- as the code reads it
pub name_there : (tree : Circuit) (module_number position number : ℕ) (path : LeafPath)
    (leaf : IsDeclaredLeaf (circuit_of tree) module_number position number path) (part : Module) → slice_get tree.modules.items module_number ≡ Some part
    → slice_get (names_in_module (module_of part)) position ≡ Some leaf.known.name
name_there tree module_number position number path leaf part there =
    name_among (circuit_of tree) module_number position number path leaf (module_of part) (names_in_module (module_of part))
    (get_mapped module_of tree.modules.items module_number part there) refl

-- a type without its widths has the same paths
pub shown_paths : (is_bare : Bool) (t : DataType) → type_paths (shown is_bare t) ≡ type_paths t
shown_paths true t = bare_paths t
shown_paths false t = refl

pub writes_shown : (is_bare : Bool) (t u : DataType) (number : ℕ) (old new : List ℕ) → u ≡ shown is_bare t → WritesPath t number old new
    → WritesPath u number old new
writes_shown is_bare t u number old new same writes = λ path there.
    writes path (ap (λ paths. slice_get paths number) (sym (ap type_paths same ∙ shown_paths is_bare t)) ∙ there)
