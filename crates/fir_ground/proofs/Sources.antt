-- The source of a connect, where it is a reference and where it is none.
use Rattle.std.proofs.Common.{◌≡◌, None, sym, ap, ◌∙◌}
use Rattle.fir_ast.specs.declared.expressions.Expr.{Expr, fold-roll-Expr, out-Expr, roll-Expr, roll-out-Expr}
use Rattle.fir_ast.specs.declared.expressions.Expr.TheVariants as code_expr
use Rattle.fir_ast.specs.declared.expressions.Expr.TheOpen.{Expr-F}
use Rattle.fir_ast.specs.declared.expressions.Expr.TheOpen as layer
use Rattle.fir_ast.specs.declared.expressions.Part.{Part}
use Rattle.fir_ast.specs.declared.expressions.Reference.{Reference}
use Rattle.fir_ast.specs.Expressions.{Expression, Parts}
use Rattle.fir_ast.specs.Statements.{SinkReference}
use Rattle.fir_ast.specs.working.Views.{expr_of, expr_step, part_step, reference_step}
use Rattle.fir_meaning.specs.TypedScopes.{TypedScope}
use Rattle.fir_meaning.specs.working.Leafed.{target_read}

module _ (typed : TypedScope) where
  rolled : (l : Expr-F Expr Part Reference) → ((r : Reference) → roll-Expr l ≡ code_expr.Ref r → ⊥) → target_read typed (expr_of (roll-Expr l)) ≡ None
  rolled (layer.Ref r) other = absurd (other r (code_expr.rolls-Ref r))
  rolled (layer.Literal l) other = ap (target_read typed) (fold-roll-Expr Expression (Parts → Parts) SinkReference expr_step part_step reference_step (layer.Literal l))
  rolled (layer.Op p op es ks) other = ap (target_read typed) (fold-roll-Expr Expression (Parts → Parts) SinkReference expr_step part_step reference_step (layer.Op p op es ks))
  rolled (layer.Mux p x y z) other = ap (target_read typed) (fold-roll-Expr Expression (Parts → Parts) SinkReference expr_step part_step reference_step (layer.Mux p x y z))
  rolled (layer.Validif p x y) other = ap (target_read typed) (fold-roll-Expr Expression (Parts → Parts) SinkReference expr_step part_step reference_step (layer.Validif p x y))

  pub no_target : (e : Expr) → ((r : Reference) → e ≡ code_expr.Ref r → ⊥) → target_read typed (expr_of e) ≡ None
  no_target e other =
      ap (λ x. target_read typed (expr_of x)) (sym (roll-out-Expr e)) ∙ rolled (out-Expr e) (λ r is. other r (sym (roll-out-Expr e) ∙ is))
