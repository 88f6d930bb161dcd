use Rattle.std.proofs.Common.{◌+◌, ap, ◌∙◌}
use Rattle.fir_ast.specs.working.Views.{circuit_of}
use Rattle.fir_type_table.specs.working.Saturated.{saturated}
use Rattle.fir_infer_resets.specs.working.Holding.{path_of}
use Rattle.fir_infer_resets.proofs.PathNumbers.{no_type_number, no_offset_number, no_first_number, the_number}
use Rattle.fir_infer_resets.proofs.leaf_numbers.number_below.Goals as goal

pub returns-in_err-found : goal.returns-in_err-found
returns-in_err-found c =
    c.from_residual-in_err-found.ensures
    ∙ no_type_number (circuit_of c.args.named.now) c.args.module_number c.in_ok-position.position c.args.name.now (path_of c.args.steps.now) c.in_ok-position.ensures
    (c.in_err-found.ensures (circuit_of c.args.named.now) c.requires)

pub returns-in_err-before : goal.returns-in_err-before
returns-in_err-before c =
    c.from_residual-in_err-before.ensures
    ∙ no_offset_number (circuit_of c.args.named.now) c.args.module_number c.in_ok-position.position c.args.name.now (path_of c.args.steps.now) c.in_ok-position.ensures
    _ (c.in_ok-found.ensures (circuit_of c.args.named.now) c.requires) c.in_err-before.ensures

pub returns-in_err-first : goal.returns-in_err-first
returns-in_err-first c =
    c.from_residual-in_err-first.ensures
    ∙ no_first_number (circuit_of c.args.named.now) c.args.module_number c.in_ok-position.position c.args.name.now (path_of c.args.steps.now) c.in_ok-position.ensures
    (c.in_err-first.ensures (circuit_of c.args.named.now) c.requires)

pub returns : goal.returns
returns c =
    the_number (circuit_of c.args.named.now) c.args.module_number c.in_ok-position.position c.args.name.now (path_of c.args.steps.now) c.in_ok-position.ensures
    _ (c.in_ok-found.ensures (circuit_of c.args.named.now) c.requires) c.in_ok-before.before c.in_ok-first.first c.saturating_add.result c.in_ok-before.ensures
    (c.in_ok-first.ensures (circuit_of c.args.named.now) c.requires) (c.saturating_add.ensures ∙ ap (λ n. saturated (n + c.in_ok-before.before)) c.number.ensures)
