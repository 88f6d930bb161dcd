-- What the code's expressions stand for, form by form.
use Rattle.std.proofs.Common.{◌≡◌, ℕ, List, [], map, refl, sym, ap, ◌∙◌, Vec, Global}
use Rattle.fir_ast.specs.declared.place.Place.{Place}
use Rattle.fir_ast.specs.declared.expressions.Literal.{Literal}
use Rattle.fir_ast.specs.declared.expressions.Expr.{fold-roll-Expr}
use Rattle.fir_ast.specs.declared.expressions.Expr.TheVariants as code
use Rattle.fir_ast.specs.declared.expressions.Expr.TheOpen as layer
use Rattle.fir_ast.specs.declared.expressions.Part.{Part, fold-roll-Part}
use Rattle.fir_ast.specs.declared.expressions.Part.TheVariants as part
use Rattle.fir_ast.specs.declared.expressions.Reference.{Reference, fold_out-Reference}
use Rattle.fir_ast.specs.Expressions.{Expression, Parts, reference, literal, no_parts, subfield}
use Rattle.fir_ast.specs.Statements.{SinkReference}
use Rattle.fir_ast.specs.working.Views.{expr_of, sink_of, parts_of, expr_step, part_step, reference_step}
use Rattle.fir_parse.specs.working.Trees.{part_of}

-- a reference that is read, as an expression
abbrev pub with_sink : SinkReference → Expression
with_sink s = reference s.place s.name s.parts

pub sink_view : (r : Reference) → sink_of r ≡ record { place = r.place; name = r.name; parts = parts_of (map part_of r.parts.items) }
sink_view r = fold_out-Reference Expression (Parts → Parts) SinkReference expr_step part_step reference_step r

pub reference_view : (r : Reference) → expr_of (code.Ref r) ≡ with_sink (sink_of r)
reference_view r = ap expr_of (sym (code.rolls-Ref r)) ∙ fold-roll-Expr Expression (Parts → Parts) SinkReference expr_step part_step reference_step (layer.Ref r)

pub literal_view : (l : Literal) → expr_of (code.Literal l) ≡ literal l
literal_view l = ap expr_of (sym (code.rolls-Literal l)) ∙ fold-roll-Expr Expression (Parts → Parts) SinkReference expr_step part_step reference_step (layer.Literal l)

pub field_view : (q p : Place) (w : List ℕ) → part_of (part.Field q p w) ≡ subfield q p w
field_view q p w = ap part_of (sym (part.rolls-Field q p w)) ∙ fold-roll-Part Expression (Parts → Parts) SinkReference expr_step part_step reference_step (layer.Field q p w)

-- a name with no parts
pub name_view : (p : Place) (n w : List ℕ) (v : Vec Part Global) → n ≡ w → v.items ≡ [] → expr_of (code.Ref (record { place = p; name = n; parts = v })) ≡ reference p w no_parts
name_view p n w v e empty = reference_view _ ∙ ap with_sink (sink_view _) ∙ rw (e, empty) refl
