-- How the source of a circuit runs, and the widths of its outputs (FIRRTL spec, "Circuits", "Registers").
use Rattle.std.specs.Prelude.{ℕ, List}
use Rattle.fir_base.specs.Ticks.{IsRun, Tick, TickResult}
use Rattle.fir_meaning.specs.SourceAllows.{Allows}
use Rattle.fir_meaning.specs.SourceCircuits.{is_sink_role, ports_where, widths_of_leaves}
use Rattle.fir_meaning.specs.SourceDesigns.{SourceDesign}
use Rattle.fir_meaning.specs.LeafTypes.{has_bits}

abbrev pub SourceRun : SourceDesign → List ℕ → List Tick → List TickResult → Type 0
SourceRun t = IsRun (Allows t)

-- the widths of the outputs, in their order
abbrev pub output_widths : SourceDesign → List ℕ
output_widths t = widths_of_leaves (ports_where is_sink_role has_bits t)
