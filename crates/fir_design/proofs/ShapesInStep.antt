-- A circuit and a tree that go in step have one shape.
use Rattle.std.proofs.Common.{◌≡◌, ℕ, List, [], ◌++◌, flat_map, length, map, replicate, slice_get, sym, ap, ap₂, ◌∙◌}
use Rattle.std.proofs.lemmas.List.{length-map}
use Rattle.std.proofs.lemmas.Simd.{map-map}
use Rattle.fir_base.specs.Ticks.{Shape}
use Rattle.fir_base.proofs.Members.{in_left, map_same}
use Rattle.fir_bits.specs.declared.types.NumTy.{NumTy}
use Rattle.fir_meaning.specs.LeafPaths.{LeafPath}
use Rattle.fir_meaning.specs.working.LeafCircuits.{LeafCircuit, type_of_leaf}
use Rattle.fir_meaning.specs.LeafTypes.{LeafType, number_type, has_bits}
use Rattle.fir_meaning.specs.working.LeafStates as over
use Rattle.fir_meaning.specs.working.LeafStates.{shape}
use Rattle.fir_leaf.specs.working.SoundDesigns.{circuit_path}
use Rattle.fir_meaning.specs.SourceCircuits.{PlacedLeaf, all_arrays, all_leaves, is_source_role, leaf_path, leaves_of_design, main_ports, ports_where, source_shape, state_arrays, state_words, widths_in, widths_of_leaves}
use Rattle.fir_meaning.specs.SourceDesigns.{SourceDesign}
use Rattle.fir_meaning.specs.SourceValues.{source_holds}
use Rattle.fir_design.proofs.InStep.{InStep}
use Rattle.fir_design.proofs.LeavesInStep.{holds_there, types_are}
use Rattle.fir_design.proofs.PathLookups.{flat_mapped_same, in_filter, mapped_same}

module _ (c : LeafCircuit) (t : SourceDesign) (s : InStep c t) where
  abbrev width_on : LeafPath → ℕ
  width_on x = (source_holds t x).width

  input_widths : over.widths_of c c.inputs ≡ widths_of_leaves (ports_where is_source_role has_bits t)
  input_widths =
      ap (λ (holds : ℕ → NumTy). map (λ x. (holds x).width) c.inputs) (types_are c t s) ∙ sym (map-map width_on (circuit_path c) c.inputs)
      ∙ ap (map width_on) s.inputs_are ∙ map-map width_on leaf_path (ports_where is_source_role has_bits t)
      ∙ map_same _ _ (ports_where is_source_role has_bits t)
      (λ (p : PlacedLeaf) m.
      ap (λ (h : LeafType). (number_type h).width)
      (holds_there c t s p (in_left (main_ports t) (leaves_of_design [] t) p (in_filter _ (main_ports t) p m))))

  word_widths : over.widths_of c c.words ≡ widths_of_leaves (state_words t)
  word_widths =
      mapped_same (slice_get (all_leaves t)) (λ x. (type_of_leaf c x).width) (λ (p : PlacedLeaf). (number_type p.leaf.holds).width) c.words
      (state_words t) s.words
      (λ x p e. ap (λ (h : LeafType). (number_type h).width) (s.each x p e).holds)

  array_widths : flat_map (over.widths_in c) c.array_order ≡ flat_map widths_in (state_arrays t)
  array_widths =
      flat_mapped_same (slice_get (all_arrays t)) (over.widths_in c) widths_in c.array_order (state_arrays t) s.array_order
      (λ k a e. ap₂ (λ (n : ℕ) (h : LeafType). replicate n (number_type h).width) (s.each_array k a e).words (s.each_array k a e).holds)

pub shape_is_same : (c : LeafCircuit) (t : SourceDesign) → InStep c t → shape c ≡ source_shape t
shape_is_same c t s =
    let made = λ (inputs : List ℕ) (clocks : ℕ) (state : List ℕ).
    let r : Shape = record { inputs = inputs; clocks = clocks; state = state } in r in
    ap₂ (λ (inputs state : List ℕ). made inputs (length c.clock_inputs) state) (input_widths c t s)
    (ap₂ (λ (xs ys : List ℕ). xs ++ ys) (word_widths c t s) (array_widths c t s))
    ∙ ap (λ (n : ℕ). made (source_shape t).inputs n (source_shape t).state)
    (sym (length-map c.clock_inputs (circuit_path c)) ∙ ap length s.clock_inputs_are)
