-- The words of the traces of a tree are its registers and its arrays, and where the tree is named after a source they are the source's.
use Rattle.std.proofs.Common.{◌≡◌, ℕ, List, ◌++◌, map, refl, sym, ap, ap₂, ◌∙◌}
use Rattle.std.proofs.lemmas.List.{append_assoc, map-append}
use Rattle.std.proofs.lemmas.Simd.{map-map}
use Rattle.std.specs.Prelude.{Some, None, flat_map}
use Rattle.trace_text.specs.declared.shape.StateWord.{StateWord}
use Rattle.trace_text.specs.Shapes.{WordKind, word_kinds}
use Rattle.ver_ast.specs.declared.tree.Verilog.{Verilog}
use Rattle.ver_ast.specs.declared.tree.Item.{Item}
use Rattle.ver_ast.specs.declared.tree.Item.TheVariants as item
use Rattle.ver_ast.specs.Nets.{SizedNet, Variable, arrays, item_array, names_of, reg_net, regs}
use Rattle.ver_sim.specs.TraceShapes.{array_word, reg_word, state_words}
use Rattle.ver_sim.proofs.PairLists.{map_parts}
use Rattle.fir_net.specs.Rows.{ArrayRow, Word}
use Rattle.ver_build.specs.NamedFor.{IsNamedFor, leaf_names, tree_array_names}
use Rattle.ver_build.specs.Ports.{port_names}
use Rattle.fir_flatten.specs.SourceRows.{source_array_rows, source_rows, source_words}
use Rattle.fir_meaning.specs.SourceDesigns.{SourceDesign}
use Rattle.fir_outcome.specs.Traces.{source_kinds}

abbrev word_of_net : SizedNet → StateWord
word_of_net n = record { name = n.0; width = n.1; depth = None }

abbrev word_of_array : Variable → StateWord
word_of_array k = record { name = k.name; width = k.width; depth = Some k.depth }

of_reg : (i : Item) → reg_word i ≡ map word_of_net (reg_net i)
of_reg (item.Reg n) = refl
of_reg _ = refl

of_array : (i : Item) → array_word i ≡ map word_of_array (item_array i)
of_array (item.Array a) = refl
of_array _ = refl

module _ (is : List Item) where
  reg_words : flat_map reg_word is ≡ map word_of_net (flat_map reg_net is)
  reg_words = (λ k. flat_map (λ i. of_reg i k) is) ∙ map_parts word_of_net reg_net is

  array_words : flat_map array_word is ≡ map word_of_array (flat_map item_array is)
  array_words = (λ k. flat_map (λ i. of_array i k) is) ∙ map_parts word_of_array item_array is

  words : state_words is ≡ map word_of_net (flat_map reg_net is) ++ map word_of_array (flat_map item_array is)
  words = ap₂ (λ (xs ys : List StateWord). xs ++ ys) reg_words array_words

-- what is read of each word is read of each register, and then of each array
read_words : {B : Type 0} → (f : StateWord → B) (v : Verilog)
    → map f (state_words v.items) ≡ map (λ (n : SizedNet). f (word_of_net n)) (regs v) ++ map (λ (k : Variable). f (word_of_array k)) (arrays v)
read_words {B} f v =
    ap (map f) (words v.items)
    ∙ map-append f (map word_of_net (regs v)) (map word_of_array (arrays v))
    ∙ ap₂ (λ (xs ys : List B). xs ++ ys) (map-map f word_of_net (regs v)) (map-map f word_of_array (arrays v))

-- the names of the ports, and behind them those of the words, are the names of the leaves
pub names_read : (v : Verilog) → port_names v ++ map (λ (w : StateWord). w.name) (state_words v.items) ≡ leaf_names v
names_read v =
    ap (λ (names : List (List ℕ)). port_names v ++ names) (read_words (λ (w : StateWord). w.name) v)
    ∙ sym (append_assoc (port_names v) (names_of (regs v)) (tree_array_names v))

-- where two lists read alike, so does what is made of that
made_alike : {A B C D : Type 0} → (h : C → D) (f : A → C) (g : B → C) (xs : List A) (ys : List B) → map f xs ≡ map g ys
    → map (λ x. h (f x)) xs ≡ map (λ y. h (g y)) ys
made_alike h f g xs ys e = sym (map-map h f xs) ∙ ap (map h) e ∙ map-map h g ys

abbrev register_kind : ℕ → WordKind
register_kind width = (width, None)

abbrev array_kind : ℕ × ℕ → WordKind
array_kind size = (size.0, Some size.1)

pub kinds_are : (t : SourceDesign) (v : Verilog) (name : List ℕ) → IsNamedFor name (source_rows t) (source_words t) (source_array_rows t) v
    → word_kinds (state_words v.items) ≡ source_kinds t
kinds_are t v name named =
    read_words (λ (w : StateWord). (w.width, w.depth)) v
    ∙ ap₂ (λ (xs ys : List WordKind). xs ++ ys)
    (made_alike register_kind (λ (n : SizedNet). n.1) (λ (w : Word). w.width) (regs v) (source_words t) named.state)
    (made_alike array_kind (λ (k : Variable). (k.width, k.depth)) (λ (a : ArrayRow). (a.width, a.depth)) (arrays v) (source_array_rows t) named.array_state)
