-- The fault that is told of one that either of two passes reported.
use Rattle.fir_ast.specs.Faults.{Fault}
use Rattle.fir_pass.specs.declared.alternative.Either.{Either}
use Rattle.fir_pass.specs.declared.alternative.Either.TheVariants.{One, Two}

abbrev pub told_by : {A B : Type 0} → (A → Fault) → (B → Fault) → Either A B → Fault
told_by first second (One a) = first a
told_by first second (Two b) = second b
