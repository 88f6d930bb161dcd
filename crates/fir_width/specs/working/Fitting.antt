-- The widths that the code finds of a circuit, and the fault that it tells.
use Rattle.std.specs.Prelude.{◌≡◌, ℕ, List, ◌++◌, Some, Result, Ok, Err, slice_get}
use Rattle.std.specs.declared.vec.Vec.{Vec}
use Rattle.std.specs.declared.alloc.Global.{Global}
use Rattle.fir_base.specs.declared.refused.Refused.{Refused}
use Rattle.fir_ast.specs.declared.fault.FirFault.{FirFault}
use Rattle.fir_ast.specs.Circuits.{CircuitTree}
use Rattle.fir_ast.specs.Faults.{Fault}
use Rattle.fir_ast.specs.working.CodeFaults.{fault_of}
use Rattle.fir_pass.specs.Groups.{first_of}
use Rattle.fir_pass.specs.working.Law.{IfFaulty}
use Rattle.fir_meaning.specs.WidthExpressions.{Width, Widths, width_under}
use Rattle.fir_meaning.specs.WidthRules.{AreWidths}
use Rattle.fir_meaning.specs.OverFaults.{over_faults}
use Rattle.fir_meaning.specs.LegalFaults.{legal_faults}
use Rattle.fir_meaning.specs.working.WidthLaws.{FitsAll}
use Rattle.fir_meaning.specs.working.AssignedWidths.{assigned}
use Rattle.fir_width.specs.working.DeclaredWidths.{leaf_widths}

-- the widths of a circuit fit, and the code has that of each leaf that is declared
pub record HasWidths (c : CircuitTree) (found : List ℕ) : Type 0 where
  pub fits : FitsAll c
  pub each : (number : ℕ) (e : Width) → slice_get (leaf_widths c) number ≡ Some e → assigned found number ≡ width_under e fits.widths

-- what is over comes before what is not legal
pub record IsFirstWidthFault (c : CircuitTree) (f : Fault) : Type 0 where
  pub widths : Widths
  pub are : AreWidths c widths
  pub first : first_of (over_faults c widths ++ legal_faults c widths) ≡ Some f

abbrev pub JudgesWidths : CircuitTree → Result (Vec ℕ Global) (Refused FirFault) → Type 0
JudgesWidths c (Ok found) = HasWidths c found.items
JudgesWidths c (Err e) = IfFaulty e (λ f. IsFirstWidthFault c (fault_of f))
