-- What a pass keeps, and what its fault shows.
-- Of whichever circuit a tree is a stage, what a pass makes of it is a stage of that circuit too.
use Rattle.std.specs.Prelude.{Result, Ok, Err}
use Rattle.fir_base.specs.declared.refused.Refused.{Refused}
use Rattle.fir_base.specs.declared.refused.Refused.TheVariants.{Fault, Memory}
use Rattle.fir_ast.specs.Circuits.{CircuitTree}

-- from one stage to another, of a circuit that is clear of the faults that were looked for
abbrev pub Passes : {X Y : Type 0} → (CircuitTree → X → Type 0) → (CircuitTree → Y → Type 0) → (CircuitTree → Type 0) → X → Y → Type 0
Passes is_given is_made clear x y = (c : CircuitTree) → is_given c x → is_made c y × clear c

-- the fault is one of the circuit that is reported
abbrev pub Reports : {X F : Type 0} → (CircuitTree → X → Type 0) → (CircuitTree → F → Type 0) → X → F → Type 0
Reports is_given reports x f = (c : CircuitTree) → is_given c x → reports c f

-- P of the fault, where there is one
abbrev pub IfFaulty : {F : Type 0} → Refused F → (F → Type 0) → Type 0
IfFaulty (Fault f) P = P f
IfFaulty Memory P = Unit {0}

abbrev pub IfFault : {T F : Type 0} → Result T (Refused F) → (F → Type 0) → Type 0
IfFault (Ok x) P = Unit {0}
IfFault (Err refused) P = IfFaulty refused P
