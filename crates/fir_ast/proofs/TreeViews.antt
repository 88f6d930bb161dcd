-- What the code's operations, choices, registers, nodes and connects stand for.
use Rattle.std.proofs.Common.{◌≡◌, ℕ, map, sym, ap, ◌∙◌, Vec, Box, Global}
use Rattle.std.specs.Prelude.{option_map}
use Rattle.fir_bits.specs.declared.operators.PrimOp.{PrimOp}
use Rattle.fir_ast.specs.declared.place.Place.{Place}
use Rattle.fir_ast.specs.declared.expressions.Expr.{Expr, fold-roll-Expr}
use Rattle.fir_ast.specs.declared.expressions.Expr.TheVariants as code_expr
use Rattle.fir_ast.specs.declared.expressions.Expr.TheOpen as expr_layer
use Rattle.fir_ast.specs.declared.expressions.Reference.{Reference, fold_out-Reference}
use Rattle.fir_ast.specs.declared.statements.Ident.{Ident}
use Rattle.fir_ast.specs.declared.statements.Register.{Register}
use Rattle.fir_ast.specs.declared.statements.Stmt.{fold-roll-Stmt}
use Rattle.fir_ast.specs.declared.statements.Stmt.TheVariants as code
use Rattle.fir_ast.specs.declared.statements.Stmt.TheOpen as layer
use Rattle.fir_ast.specs.Expressions.{Expression, Parts, operation, mux, validif}
use Rattle.fir_ast.specs.Statements.{SinkReference, Statement, register, node, connect}
use Rattle.fir_ast.specs.working.TypeViews.{type_of}
use Rattle.fir_ast.specs.working.Views.{expr_of, expressions_of, sink_of, named_of, reset_of, stmt_of, expr_step, part_step, reference_step, stmt_step, when_step}

pub operation_view : (p : Place) (op : PrimOp) (es : Vec Expr Global) (ks : Vec ℕ Global) → expr_of (code_expr.Op p op es ks) ≡ operation p op (expressions_of (map expr_of es.items)) ks.items
operation_view p op es ks = ap expr_of (sym (code_expr.rolls-Op p op es ks)) ∙ fold-roll-Expr Expression (Parts → Parts) SinkReference expr_step part_step reference_step (expr_layer.Op p op es ks)

pub mux_view : (p : Place) (c a b : Box Expr Global) → expr_of (code_expr.Mux p c a b) ≡ mux p (expr_of c.value) (expr_of a.value) (expr_of b.value)
mux_view p c a b = ap expr_of (sym (code_expr.rolls-Mux p c a b)) ∙ fold-roll-Expr Expression (Parts → Parts) SinkReference expr_step part_step reference_step (expr_layer.Mux p c a b)

pub validif_view : (p : Place) (c a : Box Expr Global) → expr_of (code_expr.Validif p c a) ≡ validif p (expr_of c.value) (expr_of a.value)
validif_view p c a = ap expr_of (sym (code_expr.rolls-Validif p c a)) ∙ fold-roll-Expr Expression (Parts → Parts) SinkReference expr_step part_step reference_step (expr_layer.Validif p c a)

abbrev pub tree_of_register : Place → Register → Statement
tree_of_register p r = register p (named_of r.ident) r.type_place (type_of r.ty) (expr_of r.clock) (option_map reset_of r.reset)

pub register_view : (p : Place) (boxed : Box Register Global) (r : Register) → r ≡ boxed.value → stmt_of (code.Reg p boxed) ≡ tree_of_register p r
register_view p boxed r is =
    ap stmt_of (sym (code.rolls-Reg p boxed)) ∙ fold-roll-Stmt Statement (Place → Statement) stmt_step when_step (layer.Reg p boxed)
    ∙ ap (tree_of_register p) (sym is)

pub node_view : (p : Place) (i : Ident) (e : Expr) → stmt_of (code.Node p i e) ≡ node p (named_of i) (expr_of e)
node_view p i e = ap stmt_of (sym (code.rolls-Node p i e)) ∙ fold-roll-Stmt Statement (Place → Statement) stmt_step when_step (layer.Node p i e)

pub connect_view : (p : Place) (r : Reference) (e : Expr) → stmt_of (code.Connect p r e) ≡ connect p (sink_of r) (expr_of e)
connect_view p r e = ap stmt_of (sym (code.rolls-Connect p r e)) ∙ fold-roll-Stmt Statement (Place → Statement) stmt_step when_step (layer.Connect p r e)

pub sink_name : (r : Reference) → (sink_of r).name ≡ r.name
sink_name r = ap (λ (s : SinkReference). s.name) (fold_out-Reference Expression (Parts → Parts) SinkReference expr_step part_step reference_step r)
