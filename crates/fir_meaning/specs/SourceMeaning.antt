-- What a circuit means, as the law of passes sees it: what the source below its main module allows at each tick, and the faults of the circuit.
use Rattle.std.specs.Prelude.{◌≡◌, [], ◌++◌, Bool, true, false, filter, length, map}
use Rattle.fir_ast.specs.Circuits.{CircuitTree}
use Rattle.fir_pass.specs.Groups.{Groups, no_groups, then_group, in_order, group_at}
use Rattle.fir_pass.specs.Meaning.{Meaning, ShapeNames, Counts}
use Rattle.fir_meaning.specs.CostGroup.{cost_group}
use Rattle.fir_meaning.specs.Elaborated.{IsSourceOf}
use Rattle.fir_meaning.specs.LeafPaths.{path_text}
use Rattle.fir_meaning.specs.NameGroups.{name_group, main_group, hierarchy_group}
use Rattle.fir_meaning.specs.ResetWalks.{reset_group}
use Rattle.fir_meaning.specs.SourceAllows.{Allows}
use Rattle.fir_meaning.specs.SourceClocks.{clock_group}
use Rattle.fir_meaning.specs.SourceInits.{init_group}
use Rattle.fir_meaning.specs.SourceLoops.{loop_group}
use Rattle.fir_meaning.specs.SourceMemoryClocks.{memory_clock_group}
use Rattle.fir_meaning.specs.SourceUndrivenGroup.{undriven_group}
use Rattle.fir_meaning.specs.SourceCircuits.{all_arrays, all_leaves, array_path, clock_inputs, inputs, outputs, paths_of, source_shape, state_arrays, state_words}
use Rattle.fir_meaning.specs.SourceDesigns.{SourceDesign}
use Rattle.fir_meaning.specs.SourceOne.{One}
use Rattle.fir_meaning.specs.SourceRoles.{SourceRole, register}
use Rattle.fir_meaning.specs.TypeGroup.{type_group}
use Rattle.fir_meaning.specs.WidthGroups.{over_group, legal_group}

-- in the order of the table of faults: none of the text; E08, E09; E10; E11; E12 to E17; E18; E19; E20 to E22; E23; E24; E25; E26; E27; E28
abbrev pub circuit_groups : CircuitTree → Groups
circuit_groups c =
    then_group (in_order []) (then_group (name_group c) (then_group (main_group c) (then_group (hierarchy_group c)
    (then_group (type_group c) (then_group (reset_group c) (then_group (over_group c) (then_group (legal_group c)
    (then_group (cost_group c) (then_group (undriven_group c)
    (then_group (clock_group c) (then_group (memory_clock_group c) (then_group (init_group c) (then_group (loop_group c) no_groups)))))))))))))

abbrev pub source_names : CircuitTree → SourceDesign → ShapeNames
source_names c t = record {
  circuit = c.named.name;
  inputs = map path_text (inputs t);
  clocks = map path_text (clock_inputs t);
  outputs = map path_text (outputs t);
  state = map path_text (paths_of (state_words t) ++ map array_path (state_arrays t));
}

-- a register that is declared; a pipe is none
abbrev pub is_register : SourceRole → Bool
is_register (register scope clock reset q) = true
is_register _ = false

abbrev pub source_counts : SourceDesign → Counts
source_counts t = record {
  leaves = length (all_leaves t);
  registers = length (filter (λ p. is_register p.leaf.role) (all_leaves t));
  memories = length (all_arrays t);
}

-- P of the source of the circuit
abbrev pub OfSource : CircuitTree → (SourceDesign → Type 0) → Type 0
OfSource c P = (t : SourceDesign) × IsSourceOf c t × P t

unfoldable pub circuit_meaning : CircuitTree → Meaning
circuit_meaning c = record {
  allows = λ state tick shown clocks after. OfSource c (λ t. Allows t state tick shown clocks after);
  one = OfSource c One;
  group = group_at (circuit_groups c);
  has_shape = λ shape. OfSource c (λ t. source_shape t ≡ shape);
  has_names = λ names. OfSource c (λ t. source_names c t ≡ names);
  has_counts = λ counts. OfSource c (λ t. source_counts t ≡ counts);
}
