use Rattle.std.proofs.Common.{ℕ, arith}
use Rattle.std.proofs.lemmas.Result.{err_from_is_err_and}
use Rattle.fir_base.specs.Lists.{In}
use Rattle.ver_ast.specs.Nets.{nets, width_among}
use Rattle.ver_valid.specs.working.Operands.{IsPart}
use Rattle.ver_valid.proofs.Judging.{denied_more}
use Rattle.ver_valid.proofs.Fine.{width_of_net}
use Rattle.ver_valid.proofs.OperandForms.{known_width}
use Rattle.ver_valid.proofs.operand.part_width.Goals as goal
use Rattle.ver_valid.proofs.operand.part_width.Goals.{else-width-ge2-via-then-width-ge2+then-low-high+else-high-width, else-width-ge2-via-then-width-ge2+else-low-high, else-width-ge2-via-else-width-ge2}

pub returns-in_err-width : goal.returns-in_err-width
returns-in_err-width c =
    λ v t. let p = err_from_is_err_and c.from_residual.result c.from_residual.ensures.1 in rw (p.1, p.2)
    (denied_more _ ((u : ℕ) × In (nets v) (c.args.name.now, u)) ((u : ℕ) × IsPart (nets v) c.args.name.now c.args.high c.args.low u)
    (λ q. let two = q.1.0 in (width_among (nets v) c.args.name.now, width_of_net (nets v) c.args.name.now (omega arith))) (c.in_err-width.ensures v t))

pub returns-then-high-width : goal.returns-then-high-width
returns-then-high-width c =
    λ v t.
    let is = known_width c.args.scope.now v t c.args.name.now c.in_ok-width.width (c.in_ok-width.ensures v t).0 in
    ((omega arith, omega arith, omega arith, omega arith), λ u q. let wide = q.3 in omega arith)

pub returns-else-width-ge2 : goal.returns-else-width-ge2
returns-else-width-ge2 c =
    λ v t q.
    let is = known_width c.args.scope.now v t c.args.name.now c.in_ok-width.width (c.in_ok-width.ensures v t).0 in
    let two = q.1.0 in let order = q.1.1 in let within = q.1.2 in
    elim c.else-width-ge2.branch [
      | else-width-ge2-via-then-width-ge2+then-low-high+else-high-width w ↦ omega arith
      | else-width-ge2-via-then-width-ge2+else-low-high w ↦ omega arith
      | else-width-ge2-via-else-width-ge2 w ↦ omega arith
    ]
