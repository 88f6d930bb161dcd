-- What tells whether the reset of a register is asynchronous (FIRRTL spec, "Reset Type", "Reset Inference").
use Rattle.std.specs.Prelude.{ℕ, nat_lt, ◌&&◌, List, [], ◌∷◌, Bool, true, if◌then◌else◌, Option, Some, None, option_map}
use Rattle.fir_ast.specs.Types.{DataType, reset, async_reset}
use Rattle.fir_ast.specs.Expressions.{Expression, reference}
use Rattle.fir_ast.specs.Statements.{SinkReference}
use Rattle.fir_meaning.specs.TypedScopes.{TypedScope}
use Rattle.fir_meaning.specs.ExpressionTypes.{expression_type, reaching}
use Rattle.fir_type_table.specs.working.Saturated.{saturated}
use Rattle.fir_types.specs.working.Notes.{LeafRange, Pick, range_behind, range_where, root_range}
use Rattle.fir_ground.specs.declared.reset_kind.ResetKind.{ResetKind}
use Rattle.fir_ground.specs.declared.reset_kind.ResetKind.TheVariants.{Synchronous, Asynchronous, Inferred}

-- its type; or what is inferred of the Reset that it names: of a leaf of what is declared behind so many declarations of the module, behind so many leaves of
-- it, where all elements of a vector share their leaves; at most 2^64 - 1
pub data KindMeant : Type 0 where
  synchronous_kind : KindMeant
  asynchronous_kind : KindMeant
  inferred_kind : ℕ → ℕ → KindMeant

-- the leaves that a reference names
abbrev pub sink_range : TypedScope → SinkReference → Option LeafRange
sink_range scope s = range_where (reaching scope s).has (option_map (λ r. range_behind r s.parts) (root_range scope s.name))

-- those of an expression that is one
abbrev pub range_named : TypedScope → Expression → Option LeafRange
range_named scope (reference p n ps) = sink_range scope (record { place = p; name = n; parts = ps })
range_named scope _ = None

-- whether each vector that an index picks from has elements
abbrev pub all_there : List Pick → Bool
all_there [] = true
all_there (p ∷ ps) = nat_lt 0 p.length && all_there ps

-- below a vector without elements there is no Reset: what is read there is zeros
abbrev pub inferred_by : Option LeafRange → KindMeant
inferred_by None = synchronous_kind
inferred_by (Some r) = if all_there r.picks then inferred_kind r.declaration (saturated r.shared_offset) else synchronous_kind

abbrev pub kind_by : Option LeafRange → Option DataType → KindMeant
kind_by r (Some reset) = inferred_by r
kind_by r (Some async_reset) = asynchronous_kind
kind_by r _ = synchronous_kind

abbrev pub kind_of_reset : TypedScope → Expression → KindMeant
kind_of_reset scope e = kind_by (range_named scope e) (expression_type scope e).has

-- what the code's kind stands for
abbrev pub kind_seen : ResetKind → KindMeant
kind_seen Synchronous = synchronous_kind
kind_seen Asynchronous = asynchronous_kind
kind_seen (Inferred declaration shared_offset) = inferred_kind declaration shared_offset
