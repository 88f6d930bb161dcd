use Rattle.std.proofs.Common.{ap, ◌∙◌, ◌++◌}
use Rattle.fir_ast.specs.Faults.{fault_line}
use Rattle.fir_ast.specs.working.CodeFaults.{fault_of}
use Rattle.fir_commands.proofs.refusal.refusal.Goals as goal

pub returns-in-Ok : goal.returns-in-Ok
returns-in-Ok c = c.in-Ok.ensures.line ∙ ap (λ front. front ++ fault_line (fault_of c.args.fault.now)) c.new-line.ensures.items
