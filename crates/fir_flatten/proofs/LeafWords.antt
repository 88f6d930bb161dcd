-- The path of each leaf of a module is one of words: it begins with the name of what it is a leaf of, and goes on with steps of the type of that.
use Rattle.std.proofs.Common.{◌≡◌, [], Option, Some, None}
use Rattle.std.specs.Prelude.{IfSome}
use Rattle.std.specs.List.{AllByRecursion}
use Rattle.fir_base.specs.Lists.{In}
use Rattle.fir_base.proofs.Each.{all_at}
use Rattle.fir_base.proofs.Elements.{all_there}
use Rattle.fir_ast.specs.Types.{DataType}
use Rattle.fir_ast.specs.Circuits.{CircuitTree}
use Rattle.fir_meaning.specs.Components.{Declarations}
use Rattle.fir_meaning.specs.FoundTypes.{leaves_of_data}
use Rattle.fir_meaning.specs.working.LeafModules.{LeafDeclared}
use Rattle.fir_meaning.specs.ModuleScenes.{Scene}
use Rattle.fir_meaning.specs.TypeGroup.{type_faults}
use Rattle.fir_meaning.specs.working.LeafedModules.{module_leaves}
use Rattle.fir_meaning.specs.working.NameGroups.{HasNames}
use Rattle.fir_meaning.specs.SizedDeclarations.{numbered_modules}
use Rattle.fir_meaning.specs.TypedScopes.{TypedScope}
use Rattle.fir_meaning.specs.ComponentTypes.{typed_scope}
use Rattle.fir_meaning.specs.Visibility.{declarations}
use Rattle.fir_leaf.specs.working.TableLaws.{IsLeafOf, LeavesFollowTypes}
use Rattle.fir_leaf.proofs.DeclaredLeaves.{own_module}
use Rattle.fir_flatten.specs.working.Words.{HasWords, TypeHasWords, ModuleHasWords}
use Rattle.fir_flatten.proofs.WordTexts.{IsWordPath}
use Rattle.fir_flatten.proofs.TypeWords.{LeafHasWords, leaf_words}
use Rattle.fir_flatten.proofs.ExpressionWords.{KnownHasWords}
use Rattle.fir_flatten.proofs.ScopeWords.{scope_words}

pub words_of_data : (o : Option DataType) → IfSome o TypeHasWords → AllByRecursion LeafHasWords (leaves_of_data o)
words_of_data None h = tt
words_of_data (Some t) h = leaf_words t h

leaf_is_word : (scope : TypedScope) (ds : Declarations) (l : LeafDeclared) → AllByRecursion KnownHasWords scope → IsLeafOf scope ds l → IsWordPath l.path
leaf_is_word scope ds l all h =
    let k = all_there KnownHasWords scope all l.declaration h.known h.is_known in
    record {
      name = h.known.name;
      rest = h.leaf.path;
      is = h.path;
      word = k.name;
      steps = all_at LeafHasWords (leaves_of_data h.known.data_type) (words_of_data h.known.data_type k.data_type) h.leaf h.among;
    }

-- so it is for all leaves of a module, where no fault of names or types stands
pub leaf_words_of : LeavesFollowTypes → (c : CircuitTree) (s : Scene) → HasWords c → HasNames c → type_faults c ≡ [] → In (numbered_modules c) s.own
    → (l : LeafDeclared) → In (module_leaves s) l → IsWordPath l.path
leaf_words_of follow c s words names types own l i =
    let m = s.own.inside in
    let module_has_words = all_at ModuleHasWords c.modules words.modules m (own_module c s.own own).inside in
    let all = scope_words c.modules words.modules m module_has_words in
    leaf_is_word (typed_scope c.modules (declarations m)) (declarations m) l all (follow c s names types own l i)
