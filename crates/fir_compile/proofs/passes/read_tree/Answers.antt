use Rattle.std.proofs.lemmas.Result.{err_from_is_err_and}
use Rattle.fir_ast.specs.working.CodeFaults.{fault_of}
use Rattle.fir_ast.specs.working.Views.{circuit_of}
use Rattle.fir_compile.proofs.ReadTrees.{fault_read, tree_read, without_tokens}
use Rattle.fir_compile.proofs.passes.read_tree.Goals as goal

pub returns-in_err-tokens : goal.returns-in_err-tokens
returns-in_err-tokens c =
    let p = err_from_is_err_and c.from_residual.result c.from_residual.ensures.1 in
    rw (p.1, p.2) (without_tokens c.faults_form_by_form.ensures c.args.bytes.now c.in_err-tokens.field-0.0 c.in_err-tokens.ensures.tokens)

pub returns-in-Ok : goal.returns-in-Ok
returns-in-Ok c =
    tree_read c.lexed_form_by_form.ensures c.args.bytes.now c.in_ok-tokens.tokens.tokens c.in_ok-tokens.ensures.tokens (circuit_of c.in-Ok.tree)
    c.in-Ok.ensures

pub returns-in-Err-Fault : goal.returns-in-Err-Fault
returns-in-Err-Fault c =
    let first = rw c.in-Err-Fault.field-0-is at c.in-Err-Fault.ensures in
    fault_read c.lexed_form_by_form.ensures c.args.bytes.now c.in_ok-tokens.tokens.tokens c.in_ok-tokens.ensures.tokens c.in_ok-tokens.tokens.text
    c.in_ok-tokens.ensures.text (fault_of c.in-Err-Fault.fault) first.0
