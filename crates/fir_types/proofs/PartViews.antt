-- What the code's references and their parts stand for.
use Rattle.std.proofs.Common.{◌≡◌, ℕ, ◌+◌, ◌<◌, List, ◌++◌, map, drop, length, get_or, refl, sym, ap, ◌∙◌, subst, Box, Global}
use Rattle.std.proofs.lemmas.List.{drop_more}
use Rattle.fir_ast.specs.declared.place.Place.{Place}
use Rattle.fir_ast.specs.declared.expressions.Literal.{Literal}
use Rattle.fir_ast.specs.declared.expressions.Expr.{Expr, fold-roll-Expr}
use Rattle.fir_ast.specs.declared.expressions.Expr.TheVariants as expr
use Rattle.fir_ast.specs.declared.expressions.Expr.TheOpen.{Part-F}
use Rattle.fir_ast.specs.declared.expressions.Expr.TheOpen as layer
use Rattle.fir_ast.specs.declared.expressions.Reference.{Reference, fold_out-Reference}
use Rattle.fir_ast.specs.declared.expressions.Part.{Part, fold-roll-Part, fold_out-Part}
use Rattle.fir_ast.specs.declared.expressions.Part.TheVariants as part
use Rattle.fir_ast.specs.Expressions.{Expression, literal, reference, Parts, no_parts, subfield, subindex, subaccess}
use Rattle.fir_ast.specs.Statements.{SinkReference}
use Rattle.fir_ast.specs.working.Views.{expr_of, parts_of, sink_of, expr_step, part_step, reference_step}
use Rattle.fir_names.specs.working.Parts.{part_of}
use Rattle.fir_types.specs.working.Seen.{steps_of}

pub literal_view : (l : Literal) → expr_of (expr.Literal l) ≡ literal l
literal_view l = ap expr_of (sym (expr.rolls-Literal l)) ∙ fold-roll-Expr Expression (Parts → Parts) SinkReference expr_step part_step reference_step (layer.Literal l)

pub reference_view : (r : Reference) → expr_of (expr.Ref r) ≡ reference (sink_of r).place (sink_of r).name (sink_of r).parts
reference_view r = ap expr_of (sym (expr.rolls-Ref r)) ∙ fold-roll-Expr Expression (Parts → Parts) SinkReference expr_step part_step reference_step (layer.Ref r)

pub sink_view : (r : Reference) → sink_of r ≡ record { place = r.place; name = r.name; parts = parts_of (map part_of r.parts.items) }
sink_view r = fold_out-Reference Expression (Parts → Parts) SinkReference expr_step part_step reference_step r

pub field_view : (first q : Place) (x : List ℕ) → part_of (part.Field first q x) ≡ subfield first q x
field_view first q x =
    ap part_of (sym (part.rolls-Field first q x)) ∙ fold-roll-Part Expression (Parts → Parts) SinkReference expr_step part_step reference_step (layer.Field first q x)

pub index_view : (first q : Place) (i : ℕ) → part_of (part.Index first q i) ≡ subindex first q i
index_view first q i =
    ap part_of (sym (part.rolls-Index first q i)) ∙ fold-roll-Part Expression (Parts → Parts) SinkReference expr_step part_step reference_step (layer.Index first q i)

pub access_view : (first : Place) (e : Box Expr Global) → part_of (part.Access first e) ≡ subaccess first (expr_of e.value)
access_view first e =
    ap part_of (sym (part.rolls-Access first e)) ∙ fold-roll-Part Expression (Parts → Parts) SinkReference expr_step part_step reference_step (layer.Access first e)

-- the parts from a number on
pub parts_left : (ps : List Part) (i : ℕ) (x : Part) → i < length ps → x ≡ get_or ps i x → parts_of (map part_of (drop i ps)) ≡ part_of x (parts_of (map part_of (drop (i + 1) ps)))
parts_left ps i x h e = ap (λ l. parts_of (map part_of l)) (drop_more ps i x h) ∙ ap (λ y. part_of y (parts_of (map part_of (drop (i + 1) ps)))) (sym e)

steps_behind : (q : Part-F Expression (Parts → Parts) SinkReference) (rest : Parts) → steps_of (part_step q rest) ≡ steps_of (part_step q no_parts) ++ steps_of rest
steps_behind (layer.Field first q x) rest = refl
steps_behind (layer.Index first q i) rest = refl
steps_behind (layer.Access first e) rest = refl

pub part_steps : (q : Part) (rest : Parts) → steps_of (part_of q rest) ≡ steps_of (part_of q no_parts) ++ steps_of rest
part_steps q rest =
    subst
    (λ (view : Parts → Parts). steps_of (view rest) ≡ steps_of (view no_parts) ++ steps_of rest)
    (sym (fold_out-Part Expression (Parts → Parts) SinkReference expr_step part_step reference_step q))
    (steps_behind _ rest)
