-- The leaves that a statement declares, and the registers among them.
use Rattle.std.proofs.Common.{◌≡◌, ℕ, List, [], ◌∷◌, Option, Some, None, refl, sym, ap, ◌∙◌, inl, inr}
use Rattle.std.specs.Prelude.{option_map}
use Rattle.fir_base.specs.Lists.{In}
use Rattle.fir_ast.specs.Statements.{PlacedName, Reset}
use Rattle.fir_ast.specs.Types.{DataType}
use Rattle.fir_meaning.specs.Components as component
use Rattle.fir_meaning.specs.FoundTypes.{leaves_of_data}
use Rattle.fir_meaning.specs.LeafTypes.{LeafType}
use Rattle.fir_meaning.specs.LeafPaths.{named}
use Rattle.fir_meaning.specs.ModuleScenes.{Scene, held_by_declared, scope_before, type_of_declared}
use Rattle.fir_meaning.specs.SourceRoles.{SourceLeaf, SourceReset, SourceRole, register, source_leaves_of, source_reset}
use Rattle.fir_meaning.specs.TypeLeaves.{TypeLeaf}
use Rattle.fir_meaning.specs.Visibility.{Before, with_declaration}
use Rattle.fir_source_laws.specs.working.DeclaredRegisters.{AreDeclared, declared_reset}

pub declared : (name : List ℕ) (role_of : TypeLeaf → SourceRole) (ls : List TypeLeaf) (hs : List LeafType) (x : SourceLeaf)
    → In (source_leaves_of name role_of ls hs) x → (l : TypeLeaf) × (x.path ≡ named name ∷ l.path) × (x.role ≡ role_of l)
declared name role_of [] hs x among = absurd among
declared name role_of (l ∷ ls) [] x among = absurd among
declared name role_of (l ∷ ls) (h ∷ hs) x (inl is) = (l, ap (λ (y : SourceLeaf). y.path) (sym is), ap (λ (y : SourceLeaf). y.role) (sym is))
declared name role_of (l ∷ ls) (h ∷ hs) x (inr m) = declared name role_of ls hs x m

declared_reset_is : (s : Scene) (before : Before) (n : PlacedName) (data_type : DataType) (r : Option Reset)
    → option_map (source_reset s (scope_before s (with_declaration before n (component.register data_type)))) r
    ≡ declared_reset s before n data_type r
declared_reset_is s before n data_type None = refl
declared_reset_is s before n data_type (Some r) = refl

pub are_declared : AreDeclared
are_declared s before place n begins data_type clock r x among =
    let d =
    declared n.name
    (λ (l : TypeLeaf). register (scope_before s before) clock
    (option_map (source_reset s (scope_before s (with_declaration before n (component.register data_type)))) r) l.path)
    (leaves_of_data (type_of_declared s (record { named = n; component = component.register data_type; before = before })))
    (held_by_declared s (record { named = n; component = component.register data_type; before = before })) x among in (
      d.0.path,
      d.1,
      d.2
          ∙ ap (λ (o : Option SourceReset). register (scope_before s before) clock o d.0.path) (declared_reset_is s before n data_type r),
    )
