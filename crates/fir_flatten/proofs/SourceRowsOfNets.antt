-- The rows of a flat net are those of its source: ports, words of the state, and the widths of outputs.
use Rattle.std.proofs.Common.{◌≡◌, ℕ, List, [], ◌∷◌, ◌++◌, map, length, flat_map, slice_get, true, false, Some, refl, sym, ap, ap₂, ◌∙◌, arith, length-append, subst, true≢false}
use Rattle.std.proofs.lemmas.Option.{get_or_from_slice_get, slice_get_within}
use Rattle.std.proofs.lemmas.List.Folds.{flat_map-map}
use Rattle.std.proofs.lemmas.Simd.{map-map}
use Rattle.fir_base.proofs.Elements.{get_left, there}
use Rattle.fir_base.proofs.Members.{in_left, map_same}
use Rattle.fir_base.specs.declared.direction.Direction.TheVariants as direction
use Rattle.fir_bits.specs.declared.types.NumTy.{NumTy}
use Rattle.fir_meaning.specs.working.LeafCircuits.{LeafCircuit, role_of, type_of_leaf}
use Rattle.fir_meaning.specs.LeafTypes.{LeafType, a_clock, number, number_type, has_bits}
use Rattle.fir_meaning.specs.working.LeafModules.{LeafArray, Role, computed, leaf_at, pipe, reading, register, sink, source}
use Rattle.fir_meaning.specs.LeafPaths.{LeafPath, path_text}
use Rattle.fir_meaning.specs.SourceCircuits.{PlacedArray, PlacedLeaf, all_arrays, array_path, all_leaves, is_sink_role, leaf_path, leaves_of_design, main_ports, ports_where, state_arrays, state_words}
use Rattle.fir_meaning.specs.SourceDesigns.{SourceDesign}
use Rattle.fir_meaning.specs.SourceRoles as tree
use Rattle.fir_meaning.specs.SourceRoles.{SourceRole}
use Rattle.fir_meaning.specs.SourceValues.{source_holds}
use Rattle.fir_leaf.specs.working.DesignStates.{array_at, no_array}
use Rattle.fir_leaf.specs.working.SoundDesigns.{circuit_path}
use Rattle.fir_design.proofs.InStep.{InStep, SameArray, SameRoleBelow}
use Rattle.fir_design.proofs.LeavesInStep.{holds_there, types_are}
use Rattle.fir_design.proofs.PathLookups.{flat_mapped_same, in_filter}
use Rattle.fir_net.specs.Paths.{base_name}
use Rattle.fir_net.specs.Rows.{Word, row, word}
use Rattle.fir_net.specs.working.Rows.{leaf_word, net_arrays, net_rows, net_words}
use Rattle.fir_net.specs.working.Rows as net_told
use Rattle.fir_net.specs.declared.array.Array.{Array}
use Rattle.fir_net.specs.declared.leaf.Leaf.{Leaf}
use Rattle.fir_net.specs.declared.leaf.Role as net_leaf
use Rattle.fir_net.specs.declared.leaf.Role.TheVariants as role
use Rattle.fir_net.specs.declared.net.FlatNet.{FlatNet}
use Rattle.fir_net.specs.working.IsNet.{IsNet, is_port}
use Rattle.fir_net.specs.working.Settled.{is_clock, outputs, registers}
use Rattle.fir_net.specs.working.Values.{leaf_width}
use Rattle.fir_flat.specs.working.FlatCircuits.{HasWordsOf, IsArrayOf}
use Rattle.fir_flat.proofs.FlatLeaves.{output_widths_are, same_list, type_at, words_plain}
use Rattle.fir_flatten.specs.SourceRows.{array_row, leaf_name, role_row, source_array_rows, source_rows, source_words}
use Rattle.fir_flatten.specs.working.FlattensTo.{output_widths}
use Rattle.fir_flatten.proofs.PlainNets.{IsPlainNet}
use Rattle.fir_flatten.proofs.FlatNumbers.{told_beside}
use Rattle.fir_flatten.proofs.LeafRoles.{IsShaped, clocked_port, driven_port, net_width}

-- the width of the words of an array
words_wide : (a : Array) (h : LeafType) → HasWordsOf a h → a.width ≡ (number_type h).width
words_wide a (number t) has = has.1
words_wide a a_clock has = absurd has

-- of a port
source_is : (c : LeafCircuit) (at : LeafPath) (q : SourceRole) → SameRoleBelow c at source q → q ≡ tree.source
source_is c at tree.source same = refl
source_is c at q same = absurd same

sink_is : (c : LeafCircuit) (at : LeafPath) (q : SourceRole) → SameRoleBelow c at sink q → q ≡ tree.sink
sink_is c at tree.sink same = refl
sink_is c at q same = absurd same

no_port : {A : Type 0} → (x y : net_leaf.Role) → x ≡ y → is_port y ≡ false → is_port x ≡ true → A
no_port x y e inner port = absurd (true≢false (sym port ∙ ap is_port e ∙ inner))

row_same : (c : LeafCircuit) (at : LeafPath) (x : net_leaf.Role) (h : LeafType) (r : Role) (q : SourceRole) (name : List ℕ) (w : ℕ) → IsShaped x h r
    → is_port x ≡ true → w ≡ net_width h → SameRoleBelow c at r q → net_told.role_row x name w ≡ role_row q h name
row_same c at x (number t) source q name w is port e same =
    ap (λ y. net_told.role_row y name w) is ∙ ap (row name direction.Input) e ∙ ap (λ p. role_row p (number t) name) (sym (source_is c at q same))
row_same c at x a_clock source q name w is port e same =
    ap (λ y. net_told.role_row y name w) is ∙ ap (λ p. role_row p a_clock name) (sym (source_is c at q same))
row_same c at x (number t) sink q name w is port e same =
    ap (λ y. net_told.role_row y name w) (driven_port x is.0 is.1 port) ∙ ap (row name direction.Output) e
    ∙ ap (λ p. role_row p (number t) name) (sym (sink_is c at q same))
row_same c at x (number t) (computed d) q name w is port e same = no_port x (role.Wire is.0) is.1 refl port
row_same c at x (number t) (register clock reset) q name w is port e same = no_port x (role.Register is.0) is.1 refl port
row_same c at x a_clock sink q name w is port e same =
    ap (λ y. net_told.role_row y name w) (clocked_port x is.0 is.1 port) ∙ ap (λ p. role_row p a_clock name) (sym (sink_is c at q same))
row_same c at x a_clock (computed d) q name w is port e same = no_port x (role.ClockWire is.0) is.1 refl port
row_same c at x (number t) (reading m) q name w is port e same = no_port x (role.Reading is.0) is.1 refl port
row_same c at x (number t) (pipe m clock under) q name w is port e same = no_port x (role.Pipe is.0) is.1 refl port
row_same c at x h r q name w is port e same = absurd is

no_row : (x : net_leaf.Role) (name : List ℕ) (w : ℕ) → is_port x ≡ false → net_told.role_row x name w ≡ []
no_row (role.Wire r) name w inner = refl
no_row (role.Register g) name w inner = refl
no_row (role.Reading r) name w inner = refl
no_row (role.Pipe p) name w inner = refl
no_row (role.ClockWire c) name w inner = refl
no_row _ name w inner = absurd (true≢false inner)

module _ (c : LeafCircuit) (ports : ℕ) (net : FlatNet) (whole : IsNet net) (net_is : IsPlainNet c ports net) (t : SourceDesign) (step : InStep c t)
    (long : length (main_ports t) ≡ ports) where
  port_row : (k : ℕ) (l : Leaf) (p : PlacedLeaf) → slice_get net.leaves k ≡ Some l → slice_get (main_ports t) k ≡ Some p
      → net_told.role_row l.role (base_name l.path) l.width ≡ role_row p.leaf.role p.leaf.holds (leaf_name p)
  port_row k l p at e =
      let inside = slice_get_within (main_ports t) k p e in
      let same = step.each k p (get_left (main_ports t) (leaves_of_design [] t) k inside ∙ e) in
      let own = net_is.each k l at in
      row_same c p.at l.role (leaf_at c.leaves k).holds (role_of c k) p.leaf.role (base_name l.path) l.width own.shaped
      (net_is.outer k l at (omega (arith, inside, long))) own.width same.role
      ∙ ap₂ (role_row p.leaf.role) same.holds (ap base_name (net_is.named.paths k l at ∙ ap path_text same.path))

  pub rows_are : net_rows net ≡ source_rows t
  rows_are =
      let count = net_is.flat.count in
      let many = step.many in
      told_beside _ _ net.leaves (main_ports t) (omega (arith, count, many, length-append (main_ports t) (leaves_of_design [] t))) port_row
      (λ k l at le. no_row l.role (base_name l.path) l.width (net_is.inner k l at (omega (arith, le, long))))

  -- a word by the number of its leaf
  abbrev word_at : ℕ → List Word
  word_at x = word (base_name (path_text (circuit_path c x))) (type_of_leaf c x).width

  abbrev net_word : ℕ → List Word
  net_word x = leaf_word (slice_get net.leaves x)

  word_is : (x : ℕ) (l : Leaf) → slice_get net.leaves x ≡ Some l → is_clock l.role ≡ false → net_word x ≡ word_at x
  word_is x l at plain =
      ap leaf_word at
      ∙ ap₂ (λ (q : List ℕ) (w : ℕ). word (base_name q) w) (net_is.named.paths x l at) (ap (λ (h : NumTy). h.width) (type_at c net net_is.flat x l at plain))

  pub words_are : net_words net ≡ source_words t
  words_are =
      sym (flat_map-map (λ ws. ws) net_word (registers net))
      ∙ ap (flat_map (λ ws. ws)) (same_list net.leaves false (registers net) (words_plain net whole) net_word word_at word_is)
      ∙ flat_map-map (λ ws. ws) word_at (registers net) ∙ ap (flat_map word_at) net_is.flat.words
      ∙ flat_mapped_same (slice_get (all_leaves t)) word_at _ c.words (state_words t) step.words
      (λ x p e.
      let same = step.each x p e in
      ap₂ (λ (q : LeafPath) (h : LeafType). word (base_name (path_text q)) (number_type h).width) same.path same.holds)

  -- an array by its number
  array_row_is : (k : ℕ) (p : PlacedArray) → slice_get (all_arrays t) k ≡ Some p → net_told.array_row (slice_get net.arrays k) ≡ array_row p ∷ []
  array_row_is k p e =
      let inside = slice_get_within (all_arrays t) k p e in
      let many = step.many_arrays in
      let count = net_is.flat.array_count in
      let a = there net.arrays k (omega (arith, inside, many, count)) in
      let m = there c.arrays k (omega (arith, inside, many)) in
      let own : array_at c.arrays k ≡ m.0 = get_or_from_slice_get c.arrays k m.0 no_array m.1 in
      let same : SameArray c m.0 p = subst (λ (d : LeafArray). SameArray c d p) own (step.each_array k p e) in
      let of : IsArrayOf net.nodes a.0 m.0 = net_is.flat.arrays k a.0 m.0 a.1 m.1 in
      let name : base_name a.0.path ≡ base_name (path_text (array_path p)) = ap base_name (net_is.array_paths k a.0 m.0 a.1 m.1 ∙ ap path_text same.path) in
      let wide : a.0.width ≡ (number_type p.array.holds).width =
      words_wide a.0 m.0.holds of.holds ∙ ap (λ (h : LeafType). (number_type h).width) same.holds in
      let deep : a.0.words ≡ p.array.words = of.words ∙ same.words in
      ap net_told.array_row a.1
      ∙ ap (λ (q : List ℕ). record { name = q; width = a.0.width; depth = a.0.words } ∷ []) name
      ∙ ap₂ (λ (w d : ℕ). record { name = base_name (path_text (array_path p)); width = w; depth = d } ∷ []) wide deep

  array_rows_are : (ks : List ℕ) (ps : List PlacedArray) → map (slice_get (all_arrays t)) ks ≡ map Some ps
      → flat_map (λ k. net_told.array_row (slice_get net.arrays k)) ks ≡ map array_row ps
  array_rows_are [] [] e = refl
  array_rows_are [] (p ∷ ps) e = cc
  array_rows_are (k ∷ ks) [] e = cc
  array_rows_are (k ∷ ks) (p ∷ ps) e =
      let here : slice_get (all_arrays t) k ≡ Some p = cc in
      let rest : map (slice_get (all_arrays t)) ks ≡ map Some ps = cc in
      ap₂ (λ xs ys. xs ++ ys) (array_row_is k p here) (array_rows_are ks ps rest)

  pub arrays_are : net_arrays net ≡ source_array_rows t
  arrays_are =
      ap (flat_map (λ k. net_told.array_row (slice_get net.arrays k))) net_is.flat.array_order
      ∙ array_rows_are c.array_order (state_arrays t) step.array_order

  abbrev width_on : LeafPath → ℕ
  width_on x = (source_holds t x).width

  pub widths_are : map (leaf_width net.leaves) (outputs net) ≡ output_widths t
  widths_are =
      output_widths_are c net net_is.flat ∙ ap (λ (holds : ℕ → NumTy). map (λ x. (holds x).width) c.outputs) (types_are c t step)
      ∙ sym (map-map width_on (circuit_path c) c.outputs) ∙ ap (map width_on) step.outputs_are
      ∙ map-map width_on leaf_path (ports_where is_sink_role has_bits t)
      ∙ map_same _ _ (ports_where is_sink_role has_bits t)
      (λ (p : PlacedLeaf) m.
      ap (λ (h : LeafType). (number_type h).width)
      (holds_there c t step p (in_left (main_ports t) (leaves_of_design [] t) p (in_filter _ (main_ports t) p m))))
