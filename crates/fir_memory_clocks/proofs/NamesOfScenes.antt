-- What a module declares has the names that are listed of it.
use Rattle.std.proofs.Common.{◌≡◌, List, [], ◌∷◌, ◌++◌, map, sym, ap, ◌∙◌, append_assoc, append-nil}
use Rattle.std.proofs.lemmas.List.{map-append}
use Rattle.std.proofs.lemmas.Simd.{map-map}
use Rattle.fir_ast.specs.Circuits.{ModuleTree}
use Rattle.fir_ast.specs.Statements.{PlacedName}
use Rattle.fir_leaf_text.specs.working.DeclaredNames.{names_in_module}
use Rattle.fir_leaf_text.proofs.NamedDeclarations.{names_are}
use Rattle.fir_meaning.specs.ComponentTypes.{known_as, typed_behind}
use Rattle.fir_meaning.specs.Components.{Declaration, Declarations}
use Rattle.fir_meaning.specs.ModuleScenes.{Scene}
use Rattle.fir_meaning.specs.TypedScopes.{Known, TypedScope}
use Rattle.fir_meaning.specs.Visibility.{declarations}
use Rattle.fir_meaning.specs.working.LeafedModules.{leafed_module}

known_named : (modules : List ModuleTree) (scope : TypedScope) (ds : Declarations)
    → map (λ (k : Known). k.name) (typed_behind modules scope ds) ≡ map (λ (k : Known). k.name) scope ++ map (λ (d : Declaration). d.named.name) ds
known_named modules scope [] = sym (append-nil (map (λ (k : Known). k.name) scope))
known_named modules scope (d ∷ ds) =
    let k = known_as modules scope d in
    let later = map (λ (d : Declaration). d.named.name) ds in
    known_named modules (scope ++ k ∷ []) ds ∙ ap (λ ns. ns ++ later) (map-append (λ (k : Known). k.name) scope (k ∷ []))
    ∙ append_assoc (map (λ (k : Known). k.name) scope) (d.named.name ∷ []) later

pub names_of_scene : (s : Scene) → names_in_module s.own.inside ≡ map (λ (n : PlacedName). n.name) (leafed_module s).declared
names_of_scene s =
    sym (names_are s.own.modules s.own.inside) ∙ known_named s.own.modules [] (declarations s.own.inside)
    ∙ sym (map-map (λ (n : PlacedName). n.name) (λ (d : Declaration). d.named) (declarations s.own.inside))
