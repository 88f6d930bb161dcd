-- What the code's values are, in plain data, beside the trees of the language.
use Rattle.std.specs.Prelude.{◌≡◌, ℕ, ◌<◌, ◌≤◌, List, [], ◌∷◌, map, Result, Ok, Err, Box}
use Rattle.std.specs.Global.{Global}
use Rattle.fir_ast.specs.declared.place.Place.{Place}
use Rattle.fir_ast.specs.declared.types.Ty.{Ty}
use Rattle.fir_ast.specs.declared.types.Field.{Field}
use Rattle.fir_ast.specs.declared.expressions.Expr.{Expr}
use Rattle.fir_ast.specs.declared.expressions.Part.{Part, fold-Part}
use Rattle.fir_ast.specs.declared.expressions.Reference.{Reference}
use Rattle.fir_ast.specs.declared.fault.FirFault.TheVariants.{Unsupported, Depth}
use Rattle.fir_ast.specs.Types.{DataType}
use Rattle.fir_ast.specs.Expressions.{Expression, Parts}
use Rattle.fir_ast.specs.Statements.{SinkReference}
use Rattle.fir_ast.specs.View.{fields_of}
use Rattle.fir_ast.specs.working.TypeViews.{type_of}
use Rattle.fir_ast.specs.working.Views.{expr_of, sink_of, expr_step, part_step, reference_step}
use Rattle.fir_ast.specs.working.BundleText.{field_of}
use Rattle.fir_parse.specs.declared.parser.Tall.{Tall}
use Rattle.fir_parse.specs.declared.types.WrittenType.{WrittenType}
use Rattle.fir_parse.specs.declared.references.Index.{Index}
use Rattle.fir_parse.specs.declared.references.Index.TheVariants as index
use Rattle.fir_parse.specs.declared.stop.Stop.{Stop}
use Rattle.fir_parse.specs.declared.stop.Stop.TheVariants as stop
use Rattle.fir_parse.specs.declared.terminals.Natural.{Natural}
use Rattle.fir_parse.specs.declared.bundles.BundleFields.{BundleFields}
use Rattle.fir_parse.specs.Heights.{type_height, height, height_with}
use Rattle.fir_parse.specs.working.TypeRules.{type_at}
use Rattle.fir_parse.specs.working.Symbols.{Natural as NaturalTree, TypeTree, FieldTree, FieldsTree, IndexTree, plain_index, computed_index}

abbrev pub natural_of : Natural → NaturalTree
natural_of n = record { place = n.place; number = n.number }

-- the fault of a form that is not in the language, unless memory ran out
abbrev pub IsUnsupported : Place → List ℕ → Stop → Type 0
IsUnsupported p w stop.AtEnd = ⊥
IsUnsupported p w (stop.Fault f) = f ≡ Unsupported p w
IsUnsupported p w stop.Memory = Unit {0}

-- one more block or bracket is within the limit, where so many are open
abbrev pub IsOpened : ℕ → Place → Result (Unit {0}) Stop → Type 0
IsOpened d p (Ok u) = d < 256
IsOpened d p (Err s) = (256 ≤ d) × (s ≡ stop.Fault (Depth p))

abbrev pub IsEnded : ℕ → Place → Result (Unit {0}) Stop → Type 0
IsEnded h p (Ok u) = h ≤ 256
IsEnded h p (Err s) = (256 < h) × (s ≡ stop.Fault (Depth p))

abbrev pub tall_type : Tall Ty → DataType
tall_type t = type_of t.tree

-- a type with the place where it begins
abbrev pub placed_type : WrittenType → TypeTree
placed_type t = type_at t.place (type_of t.ty)

abbrev pub tall_placed_type : Tall WrittenType → TypeTree
tall_placed_type t = placed_type t.tree

-- a type that begins at a place
abbrev pub tall_type_at : Place → Tall Ty → TypeTree
tall_type_at p t = type_at p (type_of t.tree)

abbrev pub placed_type_height : TypeTree → ℕ
placed_type_height t = type_height t.data_type

abbrev pub tall_expression : Tall Expr → Expression
tall_expression t = expr_of t.tree

abbrev pub boxed_expr_of : Box Expr Global → Expression
boxed_expr_of e = expr_of e.value

abbrev pub tall_boxed : Tall (Box Expr Global) → Expression
tall_boxed t = boxed_expr_of t.tree

abbrev pub tall_sink : Tall Reference → SinkReference
tall_sink t = sink_of t.tree

abbrev pub sink_height : SinkReference → ℕ
sink_height s = height_with s.parts 1

-- a field before those behind it
abbrev pub field_tree : Field → FieldTree
field_tree f = record { place = f.place; flip = f.flip; name = f.name; type_place = f.type_place; data_type = type_of f.ty }

abbrev pub tall_field : Tall Field → FieldTree
tall_field t = field_tree t.tree

abbrev pub field_height : FieldTree → ℕ
field_height f = type_height f.data_type

-- the fields of a bundle, and where it is closed
abbrev pub bundle_fields : BundleFields → FieldsTree
bundle_fields b = record { fields = fields_of (map field_of b.fields.items); close = b.close }

abbrev pub index_tree : Index → IndexTree
index_tree (index.Plain p n) = plain_index p n
index_tree (index.Computed e) = computed_index (expr_of e)

-- parts before those behind them
abbrev pub part_of : Part → Parts → Parts
part_of = fold-Part Expression (Parts → Parts) SinkReference expr_step part_step reference_step

abbrev pub onto : {A : Type 0} → List (A → A) → A → A
onto [] rest = rest
onto (f ∷ fs) rest = f (onto fs rest)

-- the height of an index: a plain number has none
abbrev pub index_height : IndexTree → ℕ
index_height (plain_index p n) = 0
index_height (computed_index e) = height e
