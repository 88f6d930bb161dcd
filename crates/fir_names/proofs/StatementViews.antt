-- What the code's wires, connects and whens stand for.
use Rattle.std.proofs.Common.{◌≡◌, List, map, sym, ap, ◌∙◌}
use Rattle.fir_ast.specs.declared.place.Place.{Place}
use Rattle.fir_ast.specs.declared.types.Ty.{Ty}
use Rattle.fir_ast.specs.declared.expressions.Expr.{Expr}
use Rattle.fir_ast.specs.declared.expressions.Reference.{Reference}
use Rattle.fir_ast.specs.declared.statements.Ident.{Ident}
use Rattle.fir_ast.specs.declared.statements.Stmt.{Stmt, fold-roll-Stmt}
use Rattle.fir_ast.specs.declared.statements.Stmt.TheVariants as code
use Rattle.fir_ast.specs.declared.statements.Stmt.TheOpen as layer
use Rattle.fir_ast.specs.declared.statements.When.{When, fold_out-When}
use Rattle.fir_ast.specs.Statements.{Statement, wire, when, partial_connect, invalid}
use Rattle.fir_ast.specs.working.Views.{block_of, expr_of, named_of, sink_of, stmt_of, stmt_step, when_step}
use Rattle.fir_ast.specs.working.TypeViews.{type_of}
use Rattle.fir_names.specs.working.Parts.{when_view}

pub wire_view : (p : Place) (i : Ident) (begins : Place) (t : Ty) → stmt_of (code.Wire p i begins t) ≡ wire p (named_of i) begins (type_of t)
wire_view p i begins t =
    ap stmt_of (sym (code.rolls-Wire p i begins t)) ∙ fold-roll-Stmt Statement (Place → Statement) stmt_step when_step (layer.Wire p i begins t)

pub partial_connect_view : (p : Place) (r : Reference) (e : Expr) → stmt_of (code.PartialConnect p r e) ≡ partial_connect p (sink_of r) (expr_of e)
partial_connect_view p r e =
    ap stmt_of (sym (code.rolls-PartialConnect p r e)) ∙ fold-roll-Stmt Statement (Place → Statement) stmt_step when_step (layer.PartialConnect p r e)

pub invalid_view : (p : Place) (r : Reference) → stmt_of (code.Invalid p r) ≡ invalid p (sink_of r)
invalid_view p r = ap stmt_of (sym (code.rolls-Invalid p r)) ∙ fold-roll-Stmt Statement (Place → Statement) stmt_step when_step (layer.Invalid p r)

pub when_is : (w : When) (p : Place) (xs ys : List Stmt) → xs ≡ w.then_block.items → ys ≡ w.else_block.items
    → when_view w p ≡ when p (expr_of w.condition) (block_of (map stmt_of xs)) (block_of (map stmt_of ys))
when_is w p xs ys first second =
    ap (λ (view : Place → Statement). view p) (fold_out-When Statement (Place → Statement) stmt_step when_step w)
    ∙ ap (λ s. when p (expr_of w.condition) (block_of (map stmt_of s)) (block_of (map stmt_of w.else_block.items))) (sym first)
    ∙ ap (λ s. when p (expr_of w.condition) (block_of (map stmt_of xs)) (block_of (map stmt_of s))) (sym second)
