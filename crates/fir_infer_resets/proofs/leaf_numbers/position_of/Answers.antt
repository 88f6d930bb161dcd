use Rattle.std.proofs.Common.{None, Some, ◌∙◌}
use Rattle.fir_ast.specs.working.Views.{circuit_of}
use Rattle.fir_meaning.specs.Mentions.{module_names}
use Rattle.fir_infer_resets.proofs.PathNumbers.{found_position}
use Rattle.fir_infer_resets.proofs.leaf_numbers.position_of.Goals as goal

pub returns-in_err-declaration : goal.returns-in_err-declaration
returns-in_err-declaration c = λ m is.
    let tree = circuit_of c.args.named.now in
    let x = c.args.name.now in
    c.from_residual-in_err-declaration.ensures
    ∙ found_position (module_names tree) tree.modules m x None (c.in_err-declaration.ensures ∙ (c.in_ok-names.ensures m is).by_name x)

pub returns : goal.returns
returns c = λ m is.
    let tree = circuit_of c.args.named.now in
    let x = c.args.name.now in
    found_position (module_names tree) tree.modules m x (Some c.in_ok-declaration.declaration.now)
    (c.in_ok-declaration.ensures ∙ (c.in_ok-names.ensures m is).by_name x)
