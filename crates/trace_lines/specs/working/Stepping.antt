-- What comes of one step of a simulation.
use Rattle.std.specs.Prelude.{◌≡◌, ℕ, List, ◌++◌, Bool, true, false, Result, Ok, Err}
use Rattle.fir_base.specs.declared.refused.Refused.{Refused}
use Rattle.fir_base.specs.declared.refused.Refused.TheVariants.{Fault, Memory}
use Rattle.trace_lines.specs.declared.simulation.Lack.{Lack}
use Rattle.trace_lines.specs.declared.simulation.Stop.{Stop}
use Rattle.trace_lines.specs.declared.simulation.Stop.TheVariants as stop
use Rattle.trace_text.specs.TraceSpells.{TraceSpells}
use Rattle.trace_text.specs.BadLine.{BadLine}
use Rattle.trace_lines.specs.Saying.{Saying}

-- after these lines: one line more, behind those that were gathered, or none
abbrev pub Steps : (Saying → List ℕ → Type 0) → (List ℕ → Lack → List ℕ → Type 0) → List ℕ → (List ℕ → Type 0) → List ℕ → List ℕ → List ℕ → Result Bool (Refused Stop) → Type 0
Steps Ran Lacked trace HasMade printed old lines (Ok true) = (line : List ℕ) × (lines ≡ old ++ line) × HasMade (printed ++ line)
Steps Ran Lacked trace HasMade printed old lines (Ok false) = (lines ≡ old) × Ran (TraceSpells trace) printed
Steps Ran Lacked trace HasMade printed old lines (Err (Fault (stop.BadLine fault))) = (lines ≡ old) × Ran (λ s init ticks. BadLine trace s init ticks fault) printed
Steps Ran Lacked trace HasMade printed old lines (Err (Fault (stop.Lacking lack))) = (lines ≡ old) × Lacked trace lack printed
Steps Ran Lacked trace HasMade printed old lines (Err Memory) = lines ≡ old
