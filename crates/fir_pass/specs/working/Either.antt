-- Two passes as one, and a fault of one of them.
use Rattle.fir_ast.specs.Circuits.{CircuitTree}
use Rattle.fir_pass.specs.working.Law.{Passes}
use Rattle.fir_pass.specs.declared.alternative.Either.{Either}
use Rattle.fir_pass.specs.declared.alternative.Either.TheVariants.{One, Two}

abbrev pub clear_of_both : (CircuitTree → Type 0) → (CircuitTree → Type 0) → CircuitTree → Type 0
clear_of_both first second c = first c × second c

-- what the second pass reports is a fault of a circuit that is clear of what the first looks for
abbrev pub reported_by :
    {A B : Type 0} → (CircuitTree → Type 0) → (CircuitTree → A → Type 0) → (CircuitTree → B → Type 0) → CircuitTree → Either A B → Type 0
reported_by clear first second c (One a) = first c a
reported_by clear first second c (Two b) = clear c × second c b

-- the first pass hands back what was given, the second what the first made of it
abbrev pub HandsBack :
    {X Y A B : Type 0} → (CircuitTree → X → Type 0) → (CircuitTree → Y → Type 0) → (CircuitTree → Type 0) → (X → A → Type 0) → (Y → B → Type 0) → X
    → Either A B → Type 0
HandsBack is_given is_made clear first second x (One a) = first x a
HandsBack {Y = Y} is_given is_made clear first second x (Two b) = (y : Y) × Passes is_given is_made clear x y × second y b
