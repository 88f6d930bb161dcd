-- A valid tree whose names are spelled as names has a shape that a trace can have.
use Rattle.std.proofs.Common.{◌≡◌, ℕ, ◌+◌, ◌≤◌, List, [], ◌∷◌, ◌++◌, map, inl, inr, refl, sym, ap, ◌∙◌, subst, arith}
use Rattle.std.specs.Prelude.{flat_map, sum_by, Some, None}
use Rattle.std.specs.List.{AllByRecursion}
use Rattle.std.proofs.lemmas.List.{map-append}
use Rattle.std.proofs.lemmas.List.Sums.{sum_by-append, sum_by-cons}
use Rattle.fir_base.specs.Lists.{In, Distinct}
use Rattle.fir_base.proofs.Each.{all_from, all_joined, all_mapped}
use Rattle.fir_base.proofs.Members.{in_left}
use Rattle.trace_text.specs.declared.shape.StateWord.{StateWord}
use Rattle.trace_text.specs.working.Shapes.{AreArrays, AreRegistersFirst, array_size, IsShape, IsStateWord, IsWidth}
use Rattle.ver_ast.specs.declared.tree.Verilog.{Verilog}
use Rattle.ver_ast.specs.declared.tree.Item.{Item}
use Rattle.ver_ast.specs.declared.tree.Item.TheVariants as item
use Rattle.ver_ast.specs.Nets.{SizedNet, Variable, arrays, input_nets, item_array, reg_net, reg_variable, regs, variable_names, variables, widths_of}
use Rattle.ver_ast.specs.Spells.{HasItemNames, HasNames}
use Rattle.ver_ast.specs.Valid.{Valid}
use Rattle.ver_ast.proofs.Nets.{source_is_net, reg_is_net}
use Rattle.ver_ast.proofs.Processes.{variables_once}
use Rattle.ver_sim.specs.TraceShapes.{array_word, reg_word, trace_shape}

abbrev AreNarrow : List SizedNet → Type 0
AreNarrow ns = (n : SizedNet) → In ns n → IsWidth n.1

abbrev AreNarrowWords : List Variable → Type 0
AreNarrowWords ks = (k : Variable) → In ks k → IsWidth k.width

register_words : (is : List Item) → AllByRecursion HasItemNames is → AreNarrow (flat_map reg_net is) → AllByRecursion IsStateWord (flat_map reg_word is)
register_words [] names narrow = tt
register_words (item.Reg n ∷ is) names narrow = (
  record { word = names.0.0.0.spelled; narrow = narrow (n.name, n.width) (inl refl); filled = omega arith },
  register_words is names.1 (λ m i. narrow m (inr i)),
)
register_words (item.Wire n ∷ is) names narrow = register_words is names.1 narrow
register_words (item.Array a ∷ is) names narrow = register_words is names.1 narrow
register_words (item.Assign a ∷ is) names narrow = register_words is names.1 narrow
register_words (item.Always b ∷ is) names narrow = register_words is names.1 narrow
register_words (item.Resetting b ∷ is) names narrow = register_words is names.1 narrow
register_words (item.Writing b ∷ is) names narrow = register_words is names.1 narrow

array_words : (is : List Item) → AllByRecursion HasItemNames is → AreNarrowWords (flat_map item_array is) → AllByRecursion IsStateWord (flat_map array_word is)
array_words [] names narrow = tt
array_words (item.Array a ∷ is) names narrow = (
  record { word = names.0.0.0.spelled; narrow = narrow (record { name = a.name; width = a.width; depth = a.last + 1 }) (inl refl); filled = omega arith },
  array_words is names.1 (λ k i. narrow k (inr i)),
)
array_words (item.Reg n ∷ is) names narrow = array_words is names.1 narrow
array_words (item.Wire n ∷ is) names narrow = array_words is names.1 narrow
array_words (item.Assign a ∷ is) names narrow = array_words is names.1 narrow
array_words (item.Always b ∷ is) names narrow = array_words is names.1 narrow
array_words (item.Resetting b ∷ is) names narrow = array_words is names.1 narrow
array_words (item.Writing b ∷ is) names narrow = array_words is names.1 narrow

are_arrays : (is : List Item) → AreArrays (flat_map array_word is)
are_arrays [] = tt
are_arrays (item.Array a ∷ is) = (refl, are_arrays is)
are_arrays (item.Reg n ∷ is) = are_arrays is
are_arrays (item.Wire n ∷ is) = are_arrays is
are_arrays (item.Assign a ∷ is) = are_arrays is
are_arrays (item.Always b ∷ is) = are_arrays is
are_arrays (item.Resetting b ∷ is) = are_arrays is
are_arrays (item.Writing b ∷ is) = are_arrays is

arrays_alone : (is : List Item) → AreRegistersFirst (flat_map array_word is)
arrays_alone [] = tt
arrays_alone (item.Array a ∷ is) = are_arrays is
arrays_alone (item.Reg n ∷ is) = arrays_alone is
arrays_alone (item.Wire n ∷ is) = arrays_alone is
arrays_alone (item.Assign a ∷ is) = arrays_alone is
arrays_alone (item.Always b ∷ is) = arrays_alone is
arrays_alone (item.Resetting b ∷ is) = arrays_alone is
arrays_alone (item.Writing b ∷ is) = arrays_alone is

registers_first : (is : List Item) (ws : List StateWord) → AreRegistersFirst ws → AreRegistersFirst (flat_map reg_word is ++ ws)
registers_first [] ws h = h
registers_first (item.Reg n ∷ is) ws h = registers_first is ws h
registers_first (item.Array a ∷ is) ws h = registers_first is ws h
registers_first (item.Wire n ∷ is) ws h = registers_first is ws h
registers_first (item.Assign a ∷ is) ws h = registers_first is ws h
registers_first (item.Always b ∷ is) ws h = registers_first is ws h
registers_first (item.Resetting b ∷ is) ws h = registers_first is ws h
registers_first (item.Writing b ∷ is) ws h = registers_first is ws h

abbrev word_names : List StateWord → List (List ℕ)
word_names = map (λ w. w.name)

register_names : (is : List Item) → word_names (flat_map reg_word is) ≡ variable_names (map reg_variable (flat_map reg_net is))
register_names [] = refl
register_names (item.Reg n ∷ is) = ap (λ ns. n.name ∷ ns) (register_names is)
register_names (item.Array a ∷ is) = register_names is
register_names (item.Wire n ∷ is) = register_names is
register_names (item.Assign a ∷ is) = register_names is
register_names (item.Always b ∷ is) = register_names is
register_names (item.Resetting b ∷ is) = register_names is
register_names (item.Writing b ∷ is) = register_names is

array_names : (is : List Item) → word_names (flat_map array_word is) ≡ variable_names (flat_map item_array is)
array_names [] = refl
array_names (item.Array a ∷ is) = ap (λ ns. a.name ∷ ns) (array_names is)
array_names (item.Reg n ∷ is) = array_names is
array_names (item.Wire n ∷ is) = array_names is
array_names (item.Assign a ∷ is) = array_names is
array_names (item.Always b ∷ is) = array_names is
array_names (item.Resetting b ∷ is) = array_names is
array_names (item.Writing b ∷ is) = array_names is

both_names : (v : Verilog) → word_names (trace_shape v).state ≡ variable_names (variables v)
both_names v =
    map-append (λ (w : StateWord). w.name) (flat_map reg_word v.items) (flat_map array_word v.items)
    ∙ ap (λ ns. ns ++ word_names (flat_map array_word v.items)) (register_names v.items)
    ∙ ap (λ ns. variable_names (map reg_variable (regs v)) ++ ns) (array_names v.items)
    ∙ sym (map-append (λ (k : Variable). k.name) (map reg_variable (regs v)) (arrays v))

register_sizes : (is : List Item) → sum_by array_size (flat_map reg_word is) ≡ 0
register_sizes [] = refl
register_sizes (item.Reg n ∷ is) = sum_by-cons array_size (record { name = n.name; width = n.width; depth = None }) (flat_map reg_word is) ∙ ap (λ n. 0 + n) (register_sizes is)
register_sizes (item.Array a ∷ is) = register_sizes is
register_sizes (item.Wire n ∷ is) = register_sizes is
register_sizes (item.Assign a ∷ is) = register_sizes is
register_sizes (item.Always b ∷ is) = register_sizes is
register_sizes (item.Resetting b ∷ is) = register_sizes is
register_sizes (item.Writing b ∷ is) = register_sizes is

array_sizes : (is : List Item) → sum_by array_size (flat_map array_word is) ≡ sum_by (λ k. k.depth) (flat_map item_array is)
array_sizes [] = refl
array_sizes (item.Array a ∷ is) =
    sum_by-cons array_size (record { name = a.name; width = a.width; depth = Some (a.last + 1) }) (flat_map array_word is)
    ∙ ap (λ n. (a.last + 1) + n) (array_sizes is)
    ∙ sym (sum_by-cons (λ (k : Variable). k.depth) (record { name = a.name; width = a.width; depth = a.last + 1 }) (flat_map item_array is))
array_sizes (item.Reg n ∷ is) = array_sizes is
array_sizes (item.Wire n ∷ is) = array_sizes is
array_sizes (item.Assign a ∷ is) = array_sizes is
array_sizes (item.Always b ∷ is) = array_sizes is
array_sizes (item.Resetting b ∷ is) = array_sizes is
array_sizes (item.Writing b ∷ is) = array_sizes is

both_sizes : (v : Verilog) → sum_by array_size (trace_shape v).state ≡ sum_by (λ k. k.depth) (arrays v)
both_sizes v = omega (arith, sum_by-append array_size (flat_map reg_word v.items) (flat_map array_word v.items), register_sizes v.items, array_sizes v.items)

narrow_inputs : (v : Verilog) → Valid v → AllByRecursion IsWidth (widths_of (input_nets v))
narrow_inputs v valid =
    all_mapped IsWidth (λ (s : SizedNet). s.1) (input_nets v)
    (all_from (λ (s : SizedNet). IsWidth s.1) (input_nets v) (λ s i. valid.narrow s.0 s.1 (source_is_net v s (in_left (input_nets v) (regs v) s i))))

pub named_shape : (v : Verilog) → Valid v → HasNames v → IsShape (trace_shape v)
named_shape v valid names = record {
  inputs_narrow = narrow_inputs v valid;
  words =
      all_joined IsStateWord (flat_map reg_word v.items) (flat_map array_word v.items)
      (register_words v.items names.of_items (λ s i. valid.narrow s.0 s.1 (reg_is_net v s i)))
      (array_words v.items names.of_items valid.narrow_words);
  registers_first = registers_first v.items (flat_map array_word v.items) (arrays_alone v.items);
  distinct = subst Distinct (sym (both_names v)) (variables_once v valid);
  few = subst (λ n. n ≤ 4194304) (sym (both_sizes v)) valid.few_words;
}
