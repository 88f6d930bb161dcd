-- Which resets of registers are asynchronous (FIRRTL spec, "Reset Types", "Registers").
use Rattle.std.specs.Prelude.{Bool, true, false, Option, Some, None}
use Rattle.fir_ast.specs.Types.{DataType, reset, async_reset}
use Rattle.fir_ast.specs.Expressions.{Expression}
use Rattle.fir_meaning.specs.LeafPaths.{LeafPath}
use Rattle.fir_meaning.specs.TypedScopes.{TypedScope}
use Rattle.fir_meaning.specs.Reaching.{Reached}
use Rattle.fir_meaning.specs.ExpressionTypes.{expression_type, reached_by}

-- the path that a condition reaches, the first element for each index
abbrev pub async_where : (LeafPath → Bool) → Option LeafPath → Bool
async_where is_async None = false
async_where is_async (Some path) = is_async path

abbrev pub async_reached : (LeafPath → Bool) → Option Reached → Bool
async_reached is_async None = false
async_reached is_async (Some r) = async_where is_async r.path

abbrev pub async_by : (LeafPath → Bool) → Option Reached → Option DataType → Bool
async_by is_async r (Some reset) = async_reached is_async r
async_by is_async r (Some async_reset) = true
async_by is_async r _ = false

-- whether a register's reset is asynchronous
abbrev pub is_async_reset : (LeafPath → Bool) → TypedScope → Expression → Bool
is_async_reset is_async scope e = async_by is_async (reached_by scope e) (expression_type scope e).has
