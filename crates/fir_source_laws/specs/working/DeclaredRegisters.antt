-- What the statement of a register makes of its leaves (FIRRTL spec, "Registers").
-- Each is a register with the clock and the reset of the statement, and takes the leaf of the init at its own path. A register is known in its reset, and not in
-- its clock.
use Rattle.std.specs.Prelude.{◌≡◌, ◌∷◌, Option, Some, None}
use Rattle.fir_base.specs.Lists.{In}
use Rattle.fir_ast.specs.declared.place.Place.{Place}
use Rattle.fir_ast.specs.Expressions.{Expression}
use Rattle.fir_ast.specs.Statements as statement
use Rattle.fir_ast.specs.Statements.{PlacedName, Reset}
use Rattle.fir_ast.specs.Types.{DataType}
use Rattle.fir_meaning.specs.Components as component
use Rattle.fir_meaning.specs.LeafPaths.{LeafPath, named}
use Rattle.fir_meaning.specs.ModuleScenes.{Scene, scope_before}
use Rattle.fir_meaning.specs.AsyncResets.{is_async_reset}
use Rattle.fir_meaning.specs.SourceRoles.{SourceLeaf, SourceReset, register, sources_in}
use Rattle.fir_meaning.specs.Visibility.{Before, with_declaration}

abbrev pub declared_reset : Scene → Before → PlacedName → DataType → Option Reset → Option SourceReset
declared_reset s before n data_type None = None
declared_reset s before n data_type (Some r) =
    Some (record {
      scope = scope_before s (with_declaration before n (component.register data_type));
      is_async = is_async_reset s.is_async (scope_before s (with_declaration before n (component.register data_type))) r.condition;
      condition = r.condition;
      init = r.init;
    })

abbrev pub AreDeclared : Type 0
AreDeclared =
    (s : Scene) (before : Before) (place : Place) (n : PlacedName) (begins : Place) (data_type : DataType) (clock : Expression) (r : Option Reset)
    (x : SourceLeaf) → In (sources_in s before (statement.register place n begins data_type clock r)) x
    → (q : LeafPath) × (x.path ≡ named n.name ∷ q)
    × (x.role ≡ register (scope_before s before) clock (declared_reset s before n data_type r) q)
