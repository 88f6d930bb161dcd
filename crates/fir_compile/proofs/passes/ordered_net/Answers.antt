use Rattle.std.proofs.Common.{refl, sym, subst}
use Rattle.fir_ast.specs.working.Views.{circuit_of}
use Rattle.fir_outcome.specs.Refusals.{RefusedFor}
use Rattle.fir_compile.proofs.ChainFaults.{refused, takes}
use Rattle.fir_compile.proofs.passes.ordered_net.Goals as goal

pub returns-in-Ok-clause-counted : goal.returns-in-Ok-clause-counted
returns-in-Ok-clause-counted c =
    let circuit = circuit_of c.in_ok-circuit.circuit in
    let made = c.in-Ok.ensures.ok circuit refl in
    record {
      compiles = record { circuit = circuit; taken = takes c.args.bytes.now circuit c.in_ok-circuit.ensures made.1; flattened = made.0.0.flattens; one = made.0.1.one };
      counted = made.0.0.counted;
    }

pub returns-in-Ok-clause-in_order : goal.returns-in-Ok-clause-in_order
returns-in-Ok-clause-in_order c = let made = c.in-Ok.ensures.ok (circuit_of c.in_ok-circuit.circuit) refl in made.0.1.order

pub returns-in-Err-Fault-clause-counted : goal.returns-in-Err-Fault-clause-counted
returns-in-Err-Fault-clause-counted c =
    let circuit = circuit_of c.in_ok-circuit.circuit in
    let reported = rw c.in-Err-Fault.field-0-is at c.in-Err-Fault.ensures.fault in
    subst (RefusedFor c.args.bytes.now) (sym c.into_fault.ensures)
    (refused c.args.bytes.now circuit c.in_ok-circuit.ensures c.in-Err-Fault.fault (reported circuit refl))
