-- The values of an expression, one for each leaf of its type, by paths (FIRRTL spec, "Expressions").
use Rattle.std.specs.Prelude.{List, map}
use Rattle.fir_bits.specs.declared.values.Num.{Num}
use Rattle.fir_ast.specs.Types.{DataType}
use Rattle.fir_ast.specs.Expressions.{Expression}
use Rattle.fir_meaning.specs.TypeLeaves.{type_leaves}
use Rattle.fir_meaning.specs.TypedScopes.{TypedScope}
use Rattle.fir_meaning.specs.TreeValues.{TypesByPath, ValuesByPath, value}

module _ (scope : TypedScope) (holds : TypesByPath) (env : ValuesByPath) where
  -- those of all leaves of a type, in its order
  abbrev pub values : DataType → Expression → List Num
  values t e = map (λ l. value scope holds env e l.path) (type_leaves t)
