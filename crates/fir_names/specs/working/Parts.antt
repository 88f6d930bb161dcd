-- Parts of the code's tree as plain data, and what a register mentions.
use Rattle.std.specs.Prelude.{List, ◌∷◌, ◌++◌, Option}
use Rattle.fir_ast.specs.declared.place.Place.{Place}
use Rattle.fir_ast.specs.declared.expressions.Part.{Part, fold-Part}
use Rattle.fir_ast.specs.declared.statements.When.{When, fold-When}
use Rattle.fir_ast.specs.Types.{DataType}
use Rattle.fir_ast.specs.Expressions.{Expression, Parts, no_parts}
use Rattle.fir_ast.specs.Statements.{PlacedName, SinkReference, Reset, Statement}
use Rattle.fir_ast.specs.working.Views.{expr_step, part_step, reference_step, stmt_step, when_step}
use Rattle.fir_meaning.specs.Components as component
use Rattle.fir_meaning.specs.Visibility.{Before, with_declaration}
use Rattle.fir_meaning.specs.Mentions.{Mention, declares, names_declared, type_mentions, expression_mentions, reset_mentions}

-- what a part puts before those behind it
abbrev pub part_of : Part → Parts → Parts
part_of = fold-Part Expression (Parts → Parts) SinkReference expr_step part_step reference_step

-- a part with none behind it
abbrev pub part_view : Part → Parts
part_view p = part_of p no_parts

-- a when at a place
abbrev pub when_view : When → Place → Statement
when_view = fold-When Statement (Place → Statement) stmt_step when_step

abbrev pub register_mentions : Before → PlacedName → DataType → Expression → Option Reset → List Mention
register_mentions before n t c r =
    declares (names_declared before) n
    ∷ (type_mentions t ++ expression_mentions before.visible c ++ reset_mentions (with_declaration before n (component.register t)).visible r)
