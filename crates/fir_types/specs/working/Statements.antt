-- The faults of declarations, with what stands before them.
use Rattle.std.specs.Prelude.{List, ◌++◌, false, slice_get, Option, Some, None, option_map}
use Rattle.fir_ast.specs.Types.{DataType}
use Rattle.fir_ast.specs.Expressions.{Expression}
use Rattle.fir_ast.specs.Statements.{PlacedName, Reset}
use Rattle.fir_ast.specs.Circuits.{ModuleTree}
use Rattle.fir_ast.specs.Faults.{Fault}
use Rattle.fir_meaning.specs.Components as component
use Rattle.fir_names.specs.declared.declaration.Component.{Component}
use Rattle.fir_names.specs.declared.declaration.Component.TheVariants as code
use Rattle.fir_names.specs.declared.declaration.Declaration.{Declaration}
use Rattle.fir_type_table.specs.declared.kind.TypeId.{TypeId}
use Rattle.fir_types.specs.declared.found.Found.{Found}
use Rattle.fir_types.specs.declared.found.Found.TheVariants as found
use Rattle.fir_meaning.specs.Visibility.{Before, with_declaration}
use Rattle.fir_meaning.specs.Checked.{shown_after}
use Rattle.fir_meaning.specs.ExpressionTypes.{expression_type}
use Rattle.fir_meaning.specs.TypeGroup.{register_type_faults, clock_faults, reset_faults, flipped_faults, scope_at}

abbrev pub register_faults : List ModuleTree → Before → PlacedName → DataType → Expression → Option Reset → List Fault
register_faults modules before n t c r =
    register_type_faults n t ++ clock_faults (scope_at modules before) c
    ++ reset_faults (scope_at modules (with_declaration before n (component.register t))) t r

abbrev pub node_faults : List ModuleTree → Before → PlacedName → Expression → List Fault
node_faults modules before n e = shown_after (expression_type (scope_at modules before) e) (flipped_faults n)

-- the bundle of an instance's module, by the module's number
abbrev pub bundle_at : List TypeId → Component → Option Found
bundle_at bundles (code.Instance number) = option_map (λ id. found.Type id false) (slice_get bundles number)
bundle_at bundles _ = None

abbrev pub found_bundle : List TypeId → Option Declaration → Option Found
found_bundle bundles None = None
found_bundle bundles (Some d) = bundle_at bundles d.component
