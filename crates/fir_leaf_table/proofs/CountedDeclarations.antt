-- Behind a declaration as many leaves and arrays more are counted as it has.
use Rattle.std.proofs.Common.{◌≡◌, ℕ, ◌+◌, List, [], ◌∷◌, ◌++◌, map, ap, ◌∙◌, arith}
use Rattle.fir_ast.specs.Circuits.{ModuleTree}
use Rattle.fir_ast.specs.Statements.{PlacedName}
use Rattle.fir_meaning.specs.Components.{Component, Declaration}
use Rattle.fir_meaning.specs.ComponentTypes.{component_type, known_as}
use Rattle.fir_meaning.specs.Costs.{leaves_where, sum_of}
use Rattle.fir_meaning.specs.TypedScopes.{Known}
use Rattle.fir_meaning.specs.TypeGroup.{scope_at}
use Rattle.fir_meaning.specs.Visibility.{Before, declaration_at, with_declaration}
use Rattle.fir_meaning.proofs.KnownNames.{typed_more}
use Rattle.fir_meaning.specs.working.LeafMemories.{arrays_of}
use Rattle.fir_meaning.specs.working.Targets.{leaves_so_far}

sum_more : {A : Type 0} (f : A → ℕ) (xs : List A) (x : A) → sum_of (map f (xs ++ x ∷ [])) ≡ sum_of (map f xs) + f x
sum_more f [] x = omega arith
sum_more f (y ∷ xs) x = omega (arith, sum_more f xs x)

pub leaves_more : (modules : List ModuleTree) (before : Before) (n : PlacedName) (c : Component)
    → leaves_so_far (scope_at modules (with_declaration before n c))
    ≡ leaves_so_far (scope_at modules before) + leaves_where (component_type modules (scope_at modules before) n.place c)
leaves_more modules before n c =
    let d = declaration_at before n c in
    ap leaves_so_far (typed_more modules [] before.declared d)
    ∙ sum_more (λ (k : Known). leaves_where k.data_type) (scope_at modules before) (known_as modules (scope_at modules before) d)

pub arrays_more : (before : Before) (n : PlacedName) (c : Component)
    → sum_of (map (λ (d : Declaration). arrays_of d.component) (with_declaration before n c).declared)
    ≡ sum_of (map (λ (d : Declaration). arrays_of d.component) before.declared) + arrays_of c
arrays_more before n c = sum_more (λ (d : Declaration). arrays_of d.component) before.declared (declaration_at before n c)
