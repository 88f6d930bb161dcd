-- What is made of a net's leaves is a shape, and it is the shape of the net's states and ticks.
use Rattle.std.proofs.Common.{◌≡◌, ℕ, ◌≤◌, List, [], ◌∷◌, ◌++◌, Bool, true, false, map, refl, sym, ap, ap₂, ◌∙◌, inl, inr, subst, arith, unwrap_or, Option, Some, None, replicate}
use Rattle.std.specs.Prelude.{flat_map, nat_eq, count_by, sum_by, slice_get, is_some, is_none, IsTrue, MatchBool}
use Rattle.std.specs.List.{AllByRecursion}
use Rattle.std.proofs.lemmas.Bool.{eqb-false}
use Rattle.std.proofs.lemmas.List.{map-append}
use Rattle.std.proofs.lemmas.List.Concat.{flat_map-append}
use Rattle.std.proofs.lemmas.List.Sums.{sum_by-append, sum_by-cons}
use Rattle.fir_base.specs.Ticks.{Shape}
use Rattle.fir_base.specs.Lists.{In}
use Rattle.fir_base.proofs.Each.{all_from, all_joined, all_left, all_mapped, all_right}
use Rattle.fir_base.proofs.Elements.{number_of, all_there}
use Rattle.ver_words.specs.Names.{is_word, IsName}
use Rattle.fir_net.specs.declared.leaf.Role.{Role}
use Rattle.fir_net.specs.declared.leaf.Role.TheVariants as role
use Rattle.fir_net.specs.declared.leaf.Leaf.{Leaf}
use Rattle.fir_net.specs.declared.node.Node.{Node}
use Rattle.fir_net.specs.declared.net.FlatNet.{FlatNet}
use Rattle.fir_net.specs.Paths.{base_name}
use Rattle.fir_net.specs.Rows.{Word}
use Rattle.fir_net.specs.working.Rows.{leaf_word}
use Rattle.fir_net.specs.working.Settled.{shape as net_shape}
use Rattle.fir_net.specs.working.Values.{leaf_width}
use Rattle.fir_net.specs.working.IsNet.{IsLeaf, IsNet}
use Rattle.fir_net.proofs.StateWords.{StateAt, state_at}
use Rattle.fir_net.proofs.WholeValues.{width_at}
use Rattle.fir_net_names.specs.declared.name_table.NameTable.{NameTable}
use Rattle.fir_net_names.specs.working.IsTable.{IsTable}
use Rattle.fir_net_names.specs.working.LeafNamed.{somes}
use Rattle.fir_net_names.specs.working.TableNames.{table_names}
use Rattle.trace_text.specs.declared.shape.StateWord.{StateWord}
use Rattle.trace_text.specs.Shapes.{TraceShape, plain, size_of, state_widths, WordKind, word_kinds}
use Rattle.trace_text.specs.working.Shapes.{shape_of, IsWidth, IsStateWord, AreArrays, AreRegistersFirst, array_size, IsShape}
use Rattle.fir_tick.specs.working.Shapes.{IsShapeOf}
use Rattle.fir_tick.specs.working.StateWords.{input_width, input_widths, is_clock, array_word, state_word, state_words}
use Rattle.fir_tick.proofs.ShapeArrays.{are_arrays, array_is_word, array_kinds, array_sizes, array_there, array_widths_are}
use Rattle.fir_tick.proofs.ShapeNames.{name_spelled, word_named, port_names, ports_before, words_distinct}
use Rattle.fir_tick.proofs.ShapeNumbers.{input_widths_are, clock_count_is}

input_first : (r : Role) (w : ℕ) (widths : List ℕ) → w ≤ 128 → AllByRecursion IsWidth widths → AllByRecursion IsWidth (input_width r w ++ widths)
input_first role.Input w widths narrow rest = choose (nat_eq w 0) refl
  where
    choose : (b : Bool) → nat_eq w 0 ≡ b → AllByRecursion IsWidth (input_width role.Input w ++ widths)
    choose true e = rw e rest
    choose false e = let other = eqb-false w 0 e in rw e ((omega arith, narrow), rest)
input_first _ w widths narrow rest = rest

inputs_narrow : (leaves : List Leaf) (nodes : List Node) (ls : List Leaf) → AllByRecursion (IsLeaf leaves nodes) ls → AllByRecursion IsWidth (input_widths ls)
inputs_narrow leaves nodes [] are = tt
inputs_narrow leaves nodes (l ∷ ls) are = input_first l.role l.width (input_widths ls) are.0.narrow (inputs_narrow leaves nodes ls are.1)

-- a word of the state has its leaf's width, and no depth
abbrev of_register : Word → WordKind
of_register w = (w.width, None)

module _ (net : FlatNet) (names : List (Option (List ℕ))) where
  abbrev words : List ℕ → List StateWord
  words = map (state_word net names)

  registers_first : (others : List StateWord) → AreArrays others → (ks : List ℕ) → AreRegistersFirst (words ks ++ others)
  registers_first [] are [] = tt
  registers_first (o ∷ others) are [] = only o.depth are.0
    where
      only : (d : Option ℕ) → is_some d ≡ true → MatchBool (is_none d) (AreRegistersFirst others) (AreArrays others)
      only None e = absurd (cc)
      only (Some n) e = are.1
  registers_first others are (k ∷ ks) = registers_first others are ks

  no_array_words : (ks : List ℕ) → sum_by array_size (words ks) ≡ 0
  no_array_words [] = refl
  no_array_words (k ∷ ks) = let rest = no_array_words ks in omega (arith, sum_by-cons array_size (state_word net names k) (words ks))

  widths_are : (ks : List ℕ) → state_widths (words ks) ≡ map (leaf_width net.leaves) ks
  widths_are [] = refl
  widths_are (k ∷ ks) = ap (λ (ws : List ℕ). leaf_width net.leaves k ∷ ws) (widths_are ks)

  leaf_word_is : (k : ℕ) (r : StateAt net.leaves k) → leaf_word (slice_get net.leaves k) ≡ record { name = base_name r.leaf.path; width = r.leaf.width } ∷ []
  leaf_word_is k r = ap leaf_word r.at ∙ rw r.bits refl

  kinds_are : (ks : List ℕ) → ((k : ℕ) → In ks k → StateAt net.leaves k) → word_kinds (words ks) ≡ map of_register (flat_map (λ k. leaf_word (slice_get net.leaves k)) ks)
  kinds_are [] are = refl
  kinds_are (k ∷ ks) are =
      let r = are k (inl refl) in
      ap₂ (λ (w : ℕ) (kinds : List WordKind). (w, None) ∷ kinds) (width_at net.leaves k r.leaf r.at) (kinds_are ks (λ j m. are j (inr m)))
      ∙ sym (ap (λ (first : List Word). map of_register (first ++ flat_map (λ k. leaf_word (slice_get net.leaves k)) ks)) (leaf_word_is k r))

same_shape : (v w s t : List ℕ) (k n : ℕ) → v ≡ w → k ≡ n → s ≡ t → ◌≡◌ {A = Shape} (record { inputs = v; clocks = k; state = s }) (record { inputs = w; clocks = n; state = t })
same_shape v w s t k n e f g = rw (e, f, g) refl

module _ (net : FlatNet) (table : NameTable) where
  -- what is made of the net's leaves and their names
  abbrev pub made : TraceShape
  made = shape_of (input_widths net.leaves) (count_by (λ l. is_clock l.role) net.leaves) (state_words net table.leaves table.arrays)

  -- what the code makes
  pub made_by : (inputs : List ℕ) (clocks : ℕ) (state : List StateWord) (leaves : List Leaf) → leaves ≡ net.leaves → inputs ≡ input_widths leaves → clocks ≡ count_by (λ l. is_clock l.role) leaves
      → state ≡ state_words net table.leaves table.arrays → shape_of inputs clocks state ≡ made
  made_by inputs clocks state leaves same e f g = rw (e, f, g, same) refl

  abbrev registers : List StateWord
  registers = map (state_word net table.leaves) net.state

  abbrev arrays : List StateWord
  arrays = map (array_word net table.arrays) net.array_order

  module _ (whole : IsNet net) (is : IsTable net table) where
    word_register : (k : ℕ) → In net.state k → StateAt net.leaves k
    word_register k m = let place = number_of net.state k m in state_at whole.state place.0 k place.1

    word_is_word : AllByRecursion IsName (somes table.leaves) → (k : ℕ) → In net.state k → IsStateWord (state_word net table.leaves k)
    word_is_word spelled k m =
        let r = word_register k m in
        let has = word_named net table is k m in
        let bits = eqb-false r.leaf.width 0 r.bits in
        let narrow = (all_there (IsLeaf net.leaves net.nodes) net.leaves whole.leaves k r.leaf r.at).narrow in
        let wide : leaf_width net.leaves k ≡ r.leaf.width = width_at net.leaves k r.leaf r.at in
        record {
          word = subst (λ (o : Option (List ℕ)). IsTrue (is_word (unwrap_or o []))) (sym has.1) (name_spelled table.leaves spelled k has.0 has.1).spelled;
          narrow = (omega arith, omega arith);
          filled = omega arith;
        }

    pub made_is_shape : AllByRecursion IsName (table_names table) → IsShape made
    made_is_shape spelled = record {
      inputs_narrow = inputs_narrow net.leaves net.nodes net.leaves whole.leaves;
      words =
          all_joined IsStateWord registers arrays
          (all_mapped IsStateWord (state_word net table.leaves) net.state
          (all_from (λ k. IsStateWord (state_word net table.leaves k)) net.state (word_is_word (all_left IsName (somes table.leaves) (somes table.arrays) spelled))))
          (all_mapped IsStateWord (array_word net table.arrays) net.array_order
          (all_from (λ k. IsStateWord (array_word net table.arrays k)) net.array_order (array_is_word net table whole is (all_right IsName (somes table.leaves) (somes table.arrays) spelled))));
      registers_first = registers_first net table.leaves arrays (are_arrays net table.arrays net.array_order) net.state;
      distinct = words_distinct net table is;
      few =
          let few = whole.few_words in
          let sizes = array_sizes net table.arrays net.array_order in
          omega (arith, few, sizes, no_array_words net table.leaves net.state, sum_by-append array_size registers arrays);
    }

    made_plain : plain made ≡ net_shape net
    made_plain =
        same_shape _ _ _ _ _ _ (input_widths_are net.leaves) (clock_count_is net.leaves)
        (flat_map-append (λ s. replicate (size_of s) s.width) registers arrays ∙ ap₂ (λ (ws us : List ℕ). ws ++ us) (widths_are net table.leaves net.state) (array_widths_are net table.arrays net.array_order))

    pub made_of_net : IsShapeOf net made
    made_of_net = record {
      values = made_plain;
      words =
          map-append (λ (s : StateWord). (s.width, s.depth)) registers arrays
          ∙ ap₂ (λ (ks js : List WordKind). ks ++ js) (kinds_are net table.leaves net.state word_register) (array_kinds net table.arrays net.array_order (array_there net whole));
      table = table;
      named = is;
      ports = port_names net table is;
      names = ports_before net table is;
    }
