-- What a statement of the code stands for.
use Rattle.std.proofs.Common.{◌≡◌, map, option_map, sym, ap, ◌∙◌, Box, Global}
use Rattle.fir_ast.specs.declared.place.Place.{Place}
use Rattle.fir_ast.specs.declared.expressions.Expr.{Expr}
use Rattle.fir_ast.specs.declared.expressions.Reference.{Reference}
use Rattle.fir_ast.specs.declared.statements.Ident.{Ident}
use Rattle.fir_ast.specs.declared.statements.Register.{Register}
use Rattle.fir_ast.specs.declared.statements.Stmt.{fold-roll-Stmt}
use Rattle.fir_ast.specs.declared.statements.Stmt.TheVariants as code
use Rattle.fir_ast.specs.declared.statements.Stmt.TheOpen as layer
use Rattle.fir_ast.specs.declared.statements.When.{When, fold_out-When}
use Rattle.fir_ast.specs.declared.types.Ty.{Ty}
use Rattle.fir_ast.specs.Statements.{Statement, wire, register, node, when, connect, partial_connect, invalid}
use Rattle.fir_ast.specs.working.Views.{stmt_of, block_of, expr_of, named_of, reset_of, sink_of, stmt_step, when_step}
use Rattle.fir_ast.specs.working.TypeViews.{type_of}

pub wire_view : (p : Place) (n : Ident) (q : Place) (t : Ty) → stmt_of (code.Wire p n q t) ≡ wire p (named_of n) q (type_of t)
wire_view p n q t = ap stmt_of (sym (code.rolls-Wire p n q t)) ∙ fold-roll-Stmt Statement (Place → Statement) stmt_step when_step (layer.Wire p n q t)

pub register_view : (p : Place) (b : Box Register Global) → stmt_of (code.Reg p b) ≡ register p (named_of b.value.ident) b.value.type_place (type_of b.value.ty) (expr_of b.value.clock) (option_map reset_of b.value.reset)
register_view p b = ap stmt_of (sym (code.rolls-Reg p b)) ∙ fold-roll-Stmt Statement (Place → Statement) stmt_step when_step (layer.Reg p b)

pub node_view : (p : Place) (n : Ident) (e : Expr) → stmt_of (code.Node p n e) ≡ node p (named_of n) (expr_of e)
node_view p n e = ap stmt_of (sym (code.rolls-Node p n e)) ∙ fold-roll-Stmt Statement (Place → Statement) stmt_step when_step (layer.Node p n e)

pub connect_view : (p : Place) (r : Reference) (e : Expr) → stmt_of (code.Connect p r e) ≡ connect p (sink_of r) (expr_of e)
connect_view p r e = ap stmt_of (sym (code.rolls-Connect p r e)) ∙ fold-roll-Stmt Statement (Place → Statement) stmt_step when_step (layer.Connect p r e)

pub partial_connect_view : (p : Place) (r : Reference) (e : Expr) → stmt_of (code.PartialConnect p r e) ≡ partial_connect p (sink_of r) (expr_of e)
partial_connect_view p r e = ap stmt_of (sym (code.rolls-PartialConnect p r e)) ∙ fold-roll-Stmt Statement (Place → Statement) stmt_step when_step (layer.PartialConnect p r e)

pub when_view : (p : Place) (w : When) → stmt_of (code.When p w) ≡ when p (expr_of w.condition) (block_of (map stmt_of w.then_block.items)) (block_of (map stmt_of w.else_block.items))
when_view p w =
    ap stmt_of (sym (code.rolls-When p w)) ∙ fold-roll-Stmt Statement (Place → Statement) stmt_step when_step (layer.When p w)
    ∙ ap (λ (g : Place → Statement). g p) (fold_out-When Statement (Place → Statement) stmt_step when_step w)

pub invalid_view : (p : Place) (r : Reference) → stmt_of (code.Invalid p r) ≡ invalid p (sink_of r)
invalid_view p r = ap stmt_of (sym (code.rolls-Invalid p r)) ∙ fold-roll-Stmt Statement (Place → Statement) stmt_step when_step (layer.Invalid p r)
