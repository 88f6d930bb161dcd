use Rattle.std.proofs.Common.{◌≡◌, [], subst}
use Rattle.std.specs.Prelude.{IfOk}
use Rattle.fir_ast.specs.working.Views.{circuit_of}
use Rattle.fir_ast.specs.working.CodeFaults.{fault_of}
use Rattle.fir_pass.specs.working.Law.{IfFault}
use Rattle.fir_meaning.specs.ResetWalks.{ShowsResets}
use Rattle.fir_meaning.specs.TypeGroup.{type_faults}
use Rattle.fir_reset.specs.working.Inferred.{AreInferred}
use Rattle.fir_infer_resets.proofs.infer.infer_resets.Goals as goal

pub joined_of-requires-clause-typed : goal.joined_of-requires-clause-typed
joined_of-requires-clause-typed c = rw c.named-named.ensures.tree c.findings-findings.ensures

pub found_in-requires-clause-types : goal.found_in-requires-clause-types
found_in-requires-clause-types c = rw c.named-named.ensures.tree c.named-named.ensures.clear

pub found_in-requires-clause-typed : goal.found_in-requires-clause-typed
found_in-requires-clause-typed c = rw c.named-named.ensures.tree c.findings-findings.ensures

pub returns-clause-resets : goal.returns-clause-resets
returns-clause-resets c = subst (λ t. IfOk c.found_in.result (AreInferred (circuit_of t))) c.named-named.ensures.tree c.found_in.ensures.resets

pub returns-clause-fault : goal.returns-clause-fault
returns-clause-fault c =
    subst (λ t. IfFault c.found_in.result (λ f. ShowsResets (circuit_of t) (fault_of f))) c.named-named.ensures.tree c.found_in.ensures.fault
