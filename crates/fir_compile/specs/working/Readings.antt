-- What comes of a text.
use Rattle.std.specs.Prelude.{ℕ, List, Result, Ok, Err}
use Rattle.fir_base.specs.declared.refused.Refused.{Refused}
use Rattle.fir_base.specs.declared.refused.Refused.TheVariants as refused
use Rattle.fir_ast.specs.declared.fault.FirFault.{FirFault}
use Rattle.fir_ast.specs.working.CodeFaults.{fault_of}
use Rattle.fir_ast.specs.declared.circuit.Circuit.{Circuit}
use Rattle.fir_ast.specs.Circuits.{CircuitTree}
use Rattle.fir_ast.specs.working.Views.{circuit_of}
use Rattle.fir_parse.specs.Spells.{Spells}
use Rattle.fir_parse.specs.TextFaults.{TextFault}
use Rattle.fir_net.specs.declared.net.FlatNet.{FlatNet}
use Rattle.fir_net.specs.working.One.{One}
use Rattle.fir_flatten.specs.working.FlattensTo.{FlattensTo}
use Rattle.fir_compile.specs.declared.compiled.Compiled.{Compiled}
use Rattle.fir_outcome.specs.Emits.{Emits, Takes}
use Rattle.fir_outcome.specs.Refusals.{RefusedFor}

-- the tree that the text spells, or its fault, unless memory ran out
abbrev pub IsTree : List ℕ → Result Circuit (Refused FirFault) → Type 0
IsTree bytes (Ok t) = Spells bytes (circuit_of t)
IsTree bytes (Err (refused.Fault f)) = TextFault bytes (fault_of f)
IsTree bytes (Err refused.Memory) = Unit {0}

-- the net is the flat net of a circuit that the text spells and that is taken, and has one choice of values at every tick
pub record CompilesText (bytes : List ℕ) (net : FlatNet) : Type 0 where
  pub circuit : CircuitTree
  pub taken : Takes bytes circuit
  pub flattened : FlattensTo circuit net
  pub one : One net

-- so is a compiled net, or this is the fault for which the text is refused
abbrev pub IsCompiled : List ℕ → Result Compiled (Refused FirFault) → Type 0
IsCompiled bytes (Ok compiled) = CompilesText bytes compiled.net
IsCompiled bytes (Err (refused.Fault f)) = RefusedFor bytes (fault_of f)
IsCompiled bytes (Err refused.Memory) = Unit {0}

-- what is emitted for the text, or the fault for which it is refused
abbrev pub IsEmitted : List ℕ → {A : Type 0} → (A → List ℕ) → Result A (Refused FirFault) → Type 0
IsEmitted bytes view (Ok text) = Emits bytes (view text)
IsEmitted bytes view (Err (refused.Fault f)) = RefusedFor bytes (fault_of f)
IsEmitted bytes view (Err refused.Memory) = Unit {0}
