-- What the code's instances and whens stand for.
use Rattle.std.proofs.Common.{◌≡◌, sym, ap, ◌∙◌}
use Rattle.fir_ast.specs.declared.place.Place.{Place}
use Rattle.fir_ast.specs.declared.statements.Ident.{Ident}
use Rattle.fir_ast.specs.declared.statements.Stmt.{fold-roll-Stmt}
use Rattle.fir_ast.specs.declared.statements.Stmt.TheVariants as code
use Rattle.fir_ast.specs.declared.statements.Stmt.TheOpen as layer
use Rattle.fir_ast.specs.declared.statements.When.{When}
use Rattle.fir_ast.specs.Statements.{Statement, instance}
use Rattle.fir_ast.specs.working.Views.{named_of, stmt_of, stmt_step, when_step}
use Rattle.fir_names.specs.working.Parts.{when_view}

pub instance_view : (p : Place) (i m : Ident) → stmt_of (code.Inst p i m) ≡ instance p (named_of i) (named_of m)
instance_view p i m =
    ap stmt_of (sym (code.rolls-Inst p i m)) ∙ fold-roll-Stmt Statement (Place → Statement) stmt_step when_step (layer.Inst p i m)

pub when_at : (p : Place) (w : When) → stmt_of (code.When p w) ≡ when_view w p
when_at p w = ap stmt_of (sym (code.rolls-When p w)) ∙ fold-roll-Stmt Statement (Place → Statement) stmt_step when_step (layer.When p w)
