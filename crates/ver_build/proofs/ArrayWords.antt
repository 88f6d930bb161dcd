-- The words of arrays in a state that fits the tree: each array has its own, where the net says.
use Rattle.std.proofs.Common.{◌≡◌, ℕ, ◌+◌, ◌<◌, ◌≤◌, List, length, map, take, drop, sym, ap, ◌∙◌, subst, arith, Some}
use Rattle.std.specs.Prelude.{slice_get}
use Rattle.std.proofs.lemmas.List.{length-drop, length-map, length-take}
use Rattle.std.proofs.lemmas.Simd.{map-map}
use Rattle.fir_base.specs.Lists.{In, Distinct}
use Rattle.fir_base.specs.Ticks.{FitEach}
use Rattle.fir_base.proofs.Members.{in_map}
use Rattle.fir_base.proofs.Twins.{apart}
use Rattle.fir_net.specs.declared.reads.Read.{Read}
use Rattle.fir_net.specs.declared.net.FlatNet.{FlatNet}
use Rattle.fir_net.specs.working.Arrays.{begin_of, word_in, words_of}
use Rattle.fir_net.specs.working.Counted.{is_register}
use Rattle.fir_net.specs.working.Values.{leaf_width}
use Rattle.fir_net_names.specs.declared.name_table.NameTable.{NameTable}
use Rattle.fir_net_names.specs.working.LeafNamed.{name_at, somes}
use Rattle.ver_ast.specs.declared.tree.Verilog.{Verilog}
use Rattle.ver_ast.specs.Nets.{SizedNet, Variable, variable_names, variable_widths, variables, names_of, regs, widths_of}
use Rattle.ver_ast.specs.Stores.{store_of}
use Rattle.ver_build.specs.declared.places.Places.{Places}
use Rattle.ver_build.proofs.Premises.{Premises}
use Rattle.ver_build.proofs.OrderedLeaves.{ordered_names, ordered_leaves, ordered_all_once, ordered_once}
use Rattle.ver_build.proofs.Parts.{in_parts}
use Rattle.ver_build.proofs.LeafKinds.{picked, picked_names}
use Rattle.ver_build.proofs.Picked.{picked_named, picked_once}
use Rattle.ver_build.proofs.Nets.{arrays_are, registers_sized}
use Rattle.ver_build.proofs.Shapes.{register_widths}
use Rattle.ver_build.proofs.StateArrays.{array_name, array_names_are, array_names_once, state_variable, state_variables}
use Rattle.ver_build.proofs.StateWords.{array_stored, word_there}

module _ (net : FlatNet) (t : NameTable) (p : Places) (order : List Read) (is : Premises net t p order) where
  abbrev v : Verilog
  v = in_parts net t p order

  regs_named : names_of (regs (in_parts net t p order)) ≡ picked is_register (ordered_names net t) (ordered_leaves net)
  regs_named = ap names_of (registers_sized net t p order) ∙ picked_names is_register (ordered_names net t) (ordered_leaves net)

  pub regs_many : length (regs (in_parts net t p order)) ≡ length net.state
  regs_many =
      sym (length-map (regs v) (λ (r : SizedNet). r.1))
      ∙ ap length (ap widths_of (registers_sized net t p order) ∙ register_widths net t is.whole is.table is.pipes)
      ∙ length-map net.state (leaf_width net.leaves)

  pub regs_once : Distinct (names_of (regs (in_parts net t p order)))
  regs_once = subst Distinct (sym regs_named) (picked_once is_register (ordered_names net t) (ordered_leaves net) (ordered_once net t is.whole is.table))

  -- the name of an array is none of a leaf
  pub array_no_leaf : (x : List ℕ) → In (somes (ordered_names net t)) x → In (variable_names (state_variables net t)) x → ⊥
  array_no_leaf x m n =
      apart (somes (ordered_names net t)) (somes (map (name_at t.arrays) net.array_order)) (ordered_all_once net t is.whole is.table) x m
      (subst (λ (ns : List (List ℕ)). In ns x) (array_names_are net t is.whole is.table) n)

  pub array_no_register : (x : List ℕ) → In (names_of (regs (in_parts net t p order))) x → In (variable_names (state_variables net t)) x → ⊥
  array_no_register x m n =
      array_no_leaf x (picked_named is_register (ordered_names net t) (ordered_leaves net) x (subst (λ (ns : List (List ℕ)). In ns x) regs_named m)) n

  pub array_named : (k : ℕ) → In net.array_order k → In (variable_names (state_variables net t)) (array_name t k)
  array_named k m =
      in_map (λ (y : Variable). y.name) (state_variables net t) (state_variable net t k) (in_map (state_variable net t) net.array_order k m)

  pub arrays_once : Distinct (map (array_name t) net.array_order)
  arrays_once =
      subst Distinct (map-map (λ (y : Variable). y.name) (state_variable net t) net.array_order) (array_names_once net t is.whole is.table)

  pub array_words : (state : List ℕ) → FitEach (variable_widths (variables (in_parts net t p order))) state → (k : ℕ) → In net.array_order k
      → (place : ℕ) × (begin_of net k ≡ Some place)
      × (store_of (variables (in_parts net t p order)) state (array_name t k) ≡ take (words_of net.arrays k) (drop place state))
      × (place + words_of net.arrays k ≤ length state)
  array_words state fit k m =
      array_stored v state regs_once fit net t (arrays_are net t p order is.whole is.table) arrays_once regs_many k m
      (λ n. array_no_register (array_name t k) n (array_named k m))

  -- the word at an address
  pub array_word : (state : List ℕ) → FitEach (variable_widths (variables (in_parts net t p order))) state → (k : ℕ) → In net.array_order k → (i : ℕ)
      → i < words_of net.arrays k
      → slice_get (store_of (variables (in_parts net t p order)) state (array_name t k)) i ≡ Some (word_in state (begin_of net k) i)
  array_word state fit k m i less =
      let w = array_words state fit k m in
      ap (λ (xs : List ℕ). slice_get xs i) w.2 ∙ word_there state w.0 (words_of net.arrays k) i w.3 less
      ∙ ap Some (sym (ap (λ o. word_in state o i) w.1))

  pub array_long : (state : List ℕ) → FitEach (variable_widths (variables (in_parts net t p order))) state → (k : ℕ) → In net.array_order k
      → length (store_of (variables (in_parts net t p order)) state (array_name t k)) ≡ words_of net.arrays k
  array_long state fit k m =
      let w = array_words state fit k m in
      let many = words_of net.arrays k in
      let within = w.3 in
      ap length w.2 ∙ omega (arith, length-take many (drop w.0 state), length-drop w.0 state)
