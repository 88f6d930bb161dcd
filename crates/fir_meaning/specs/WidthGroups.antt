-- The groups of widths: E19; and E20 to E22, each in the order of the text (FIRRTL spec, "Width Inference").
use Rattle.std.specs.Prelude.{◌≡◌, List, Some}
use Rattle.fir_base.specs.Lists.{In}
use Rattle.fir_ast.specs.Circuits.{CircuitTree}
use Rattle.fir_ast.specs.Faults.{Fault}
use Rattle.fir_pass.specs.Groups.{Group, first_of}
use Rattle.fir_meaning.specs.WidthExpressions.{Widths}
use Rattle.fir_meaning.specs.WidthRules.{AreWidths}
use Rattle.fir_meaning.specs.OverFaults.{over_faults}
use Rattle.fir_meaning.specs.LegalFaults.{legal_faults}

-- what stands in a circuit under its widths
abbrev pub under_widths : CircuitTree → (Widths → List Fault) → Group
under_widths c faults = record {
  shows = λ f. (w : Widths) × AreWidths c w × In (faults w) f;
  tells = λ f. (w : Widths) × AreWidths c w × (first_of (faults w) ≡ Some f);
}

abbrev pub over_group : CircuitTree → Group
over_group c = under_widths c (over_faults c)

abbrev pub legal_group : CircuitTree → Group
legal_group c = under_widths c (legal_faults c)
