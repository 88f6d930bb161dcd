-- The ports, the words and the arrays of the state of a source, as rows that can be compared (FIRRTL spec, "Ports", "Registers", "Memories"). Each leaf and
-- array is named by its path, and the leaves of a port stand in the order of its type; a flipped leaf of an output is an input. What has no bits has no row.
use Rattle.std.specs.Prelude.{ℕ, List, [], flat_map, map}
use Rattle.fir_base.specs.declared.direction.Direction.TheVariants as direction
use Rattle.fir_meaning.specs.LeafTypes.{LeafType, a_clock, number, number_type}
use Rattle.fir_meaning.specs.LeafPaths.{path_text}
use Rattle.fir_meaning.specs.SourceCircuits.{PlacedArray, PlacedLeaf, array_path, leaf_path, main_ports, state_arrays, state_words}
use Rattle.fir_meaning.specs.SourceDesigns.{SourceDesign}
use Rattle.fir_meaning.specs.SourceRoles.{SourceRole, sink, source}
use Rattle.fir_net.specs.Paths.{base_name}
use Rattle.fir_net.specs.Rows.{ArrayRow, Row, Word, clock_row, row, word}

-- the name of a leaf, before it is made one of Verilog
abbrev pub leaf_name : PlacedLeaf → List ℕ
leaf_name p = base_name (path_text (leaf_path p))

abbrev pub role_row : SourceRole → LeafType → List ℕ → List Row
role_row source (number t) name = row name direction.Input t.width
role_row source a_clock name = clock_row name direction.Input
role_row sink (number t) name = row name direction.Output t.width
role_row sink a_clock name = clock_row name direction.Output
role_row _ h name = []

abbrev pub source_rows : SourceDesign → List Row
source_rows t = flat_map (λ (p : PlacedLeaf). role_row p.leaf.role p.leaf.holds (leaf_name p)) (main_ports t)

abbrev pub source_words : SourceDesign → List Word
source_words t = flat_map (λ (p : PlacedLeaf). word (leaf_name p) (number_type p.leaf.holds).width) (state_words t)

abbrev pub array_row : PlacedArray → ArrayRow
array_row p = record { name = base_name (path_text (array_path p)); width = (number_type p.array.holds).width; depth = p.array.words }

abbrev pub source_array_rows : SourceDesign → List ArrayRow
source_array_rows t = map array_row (state_arrays t)
