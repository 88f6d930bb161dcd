-- What stands under the numbers of the leaves at a place of a module: the leaves of each declaration, from its first number on.
use Rattle.std.specs.Prelude.{◌≡◌, ℕ, List, [], ◌∷◌, Some}
use Rattle.fir_ast.specs.Types.{DataType}
use Rattle.fir_meaning.specs.TypeKinds.{bare}
use Rattle.fir_meaning.specs.TypedScopes.{Known, TypedScope}
use Rattle.fir_meaning.specs.Visibility.{Before, declarations}
use Rattle.fir_meaning.specs.TypeGroup.{scope_at}
use Rattle.fir_meaning.specs.WidthExpressions.{Width}
use Rattle.fir_meaning.specs.SizedTypes.{bare_type}
use Rattle.fir_meaning.specs.SizedScopes.{SizedName, SizedScope}
use Rattle.fir_meaning.specs.SizedDeclarations.{NumberedModule, sized_at}
use Rattle.fir_types.specs.working.Walked.{Begins}
use Rattle.fir_width.specs.working.FlatWidths.{flat}
use Rattle.fir_width.specs.working.StandingWidths.{Stands}

-- a name stands for one type on both sides, and its leaves stand from the number on
pub record StandsFor (meant : List Width) (first : ℕ) (k : Known) (s : SizedName) : Type 0 where
  pub name : k.name ≡ s.name
  pub shape : (t : DataType) → k.data_type ≡ Some t → bare_type s.sized ≡ bare t
  pub stands : (t : DataType) → k.data_type ≡ Some t → Stands meant first (flat s.sized)

-- declaration by declaration
abbrev pub AllStand : List Width → List ℕ → TypedScope → SizedScope → Type 0
AllStand meant firsts [] [] = Unit {0}
AllStand meant (first ∷ firsts) (k ∷ ks) (s ∷ ss) = StandsFor meant first k s × AllStand meant firsts ks ss
AllStand meant _ _ _ = ⊥

-- before each place of the module
abbrev pub StandsInModule : List Width → List ℕ → NumberedModule → Type 0
StandsInModule meant firsts m =
    (before : Before) → Begins before.declared (declarations m.inside) → AllStand meant firsts (scope_at m.modules before) (sized_at m before)
