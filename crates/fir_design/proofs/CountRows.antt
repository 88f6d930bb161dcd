-- What is counted in a circuit, computed from its text (FIRRTL spec, "Registers", "Memories").
use Rattle.std.proofs.Common.{refl}
use Rattle.fir_bits.specs.Literals.{least_width}
use Rattle.fir_meaning.specs.SourceMeaning.{circuit_meaning}
use Rattle.fir_leaf.proofs.TextTrees as text
use Rattle.fir_design.proofs.WrittenSources.{source_of, written_source}

-- The leaves are clock, a, o, r, and the addr, en and clk of the port p with the x and the y of its data: nine. The register r is declared; the two pipes
-- behind p.data show state too, but nobody declares them. The memory has an array for each leaf of its data.
counted_counts : (circuit_meaning text.counted).has_counts (record { leaves = 9; registers = 1; memories = 2 })
unfolding circuit_meaning least_width
counted_counts = (source_of text.counted, written_source text.counted refl, refl)
