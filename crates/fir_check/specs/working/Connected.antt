-- The two sides of a connect, as the code has them.
use Rattle.std.specs.Prelude.{◌≡◌, List, [], Option, Some, None, option_map, Result, Ok, Err}
use Rattle.fir_base.specs.declared.refused.Refused.{Refused}
use Rattle.fir_ast.specs.declared.fault.FirFault.{FirFault}
use Rattle.fir_ast.specs.Types.{DataType}
use Rattle.fir_ast.specs.Expressions.{Expression, reference}
use Rattle.fir_meaning.specs.LeafPaths.{LeafPath}
use Rattle.fir_meaning.specs.TypedScopes.{TypedScope}
use Rattle.fir_meaning.specs.Reaching.{Reached}
use Rattle.fir_meaning.specs.ExpressionTypes.{expression_type, reached_by}
use Rattle.fir_check.specs.declared.connects.Source.{Source}
use Rattle.fir_types.specs.declared.reach.Reach.{Reach}
use Rattle.fir_types.specs.working.Seen.{found_type, reached_as, sink_path}
use Rattle.fir_types.specs.working.Judged.{Is, IsFirstOf}

-- the path of an expression that is a reference
abbrev pub source_path : Expression → LeafPath
source_path (reference p n ps) = sink_path (record { place = p; name = n; parts = ps })
source_path e = []

-- what the right side reaches
abbrev pub right_of : List DataType → Expression → Source → Option Reached
right_of ts e s = option_map (reached_as ts (source_path e)) s.reach

-- both are those of the expression, where it is something
abbrev pub IsRight : List DataType → TypedScope → Expression → Option Source → Type 0
IsRight ts typed e None = Unit {0}
IsRight ts typed e (Some s) = reached_by typed e ≡ right_of ts e s

abbrev pub IsSource : List DataType → TypedScope → Expression → Result (Option Source) (Refused FirFault) → Type 0
IsSource ts typed e (Ok s) = Is (expression_type typed e) (option_map (λ s. found_type ts s.found) s) × IsRight ts typed e s
IsSource ts typed e (Err r) = IsFirstOf (expression_type typed e).shows r

-- what is reached is reached by a reference
abbrev pub IsByReference : Expression → Option Reach → Type 0
IsByReference (reference p n ps) r = Unit {0}
IsByReference e r = r ≡ None
