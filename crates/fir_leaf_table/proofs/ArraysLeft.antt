-- A walk over the data leaves of a memory, each of which has an array.
use Rattle.std.proofs.Common.{◌≡◌, ℕ, suc, ◌+◌, ◌<◌, ◌≤◌, List, [], ◌∷◌, ◌++◌, map, drop, length, get_or, false, Vec, Global, sym, ap, ◌∙◌, arith, append_assoc}
use Rattle.std.proofs.lemmas.List.{append-nil, drop-map, drop_more, drop_all, map_push}
use Rattle.fir_ast.specs.Types.{clock}
use Rattle.fir_meaning.specs.TypeLeaves.{TypeLeaf}
use Rattle.fir_meaning.specs.working.LeafMemories.{LeafMemory, arrays_from, writings_from}
use Rattle.fir_meaning.specs.working.LeafModules as view
use Rattle.fir_meaning.specs.LeafTypes.{LeafType}
use Rattle.fir_leaf_circuit.specs.declared.array.LeafArray.{LeafArray}
use Rattle.fir_leaf_circuit.specs.declared.array.Writing.{Writing}
use Rattle.fir_leaf_circuit.specs.declared.leaf.LeafType.{LeafType as TypeOfCode}
use Rattle.fir_leaf_table.specs.declared.memory.Memory.{Memory}
use Rattle.fir_leaf_table.specs.working.Memories.{IsMemory}
use Rattle.fir_leaf_circuit.specs.working.Seen.{array_seen, type_seen, unnamed_array, writing_seen}

-- the array of a data leaf, without its path
abbrev pub array_of : LeafMemory → ℕ → LeafType → view.LeafArray
array_of m i h = record {
  declaration = m.declaration;
  path = [];
  holds = h;
  words = m.words;
  writings = writings_from m.data_leaves i m.first m.ports;
}

abbrev pub arrays_left : LeafMemory → List TypeLeaf → List LeafType → ℕ → List view.LeafArray
arrays_left m leaves holds i = map unnamed_array (arrays_from m i (drop i leaves) (drop i holds))

module _ (m : Memory) (meant : LeafMemory) (holds : List LeafType) (is : IsMemory m meant holds) where
  pub array_same : (i : ℕ) (x : TypeOfCode) (writings : Vec Writing Global)
      → map writing_seen writings.items ≡ writings_from meant.data_leaves i meant.first meant.ports
      → array_seen (record { declaration = m.declaration; holds = x; words = m.words; writings = writings }) ≡ array_of meant i (type_seen x)
  array_same i x writings write =
      let declaration : m.declaration ≡ meant.declaration = is.declaration in
      let words : m.words ≡ meant.words = is.words in
      cc

  -- what the leaf at a place holds
  holds_at : (i : ℕ) (d : TypeOfCode) → i < length m.data.items → drop i holds ≡ type_seen (get_or m.data.items i d) ∷ drop (i + 1) holds
  holds_at i d within =
      ap (drop i) (sym is.holds_are) ∙ drop-map type_seen i m.data.items ∙ ap (map type_seen) (drop_more m.data.items i d within)
      ∙ ap (λ hs. type_seen (get_or m.data.items i d) ∷ hs) (sym (drop-map type_seen (i + 1) m.data.items) ∙ ap (drop (i + 1)) is.holds_are)

  module _ (leaves : List TypeLeaf) (long : length leaves ≡ length m.data.items) where
    pub arrays_next : (i : ℕ) (x d : TypeOfCode) (now new : List LeafArray) (a : LeafArray) (all : List view.LeafArray) → i < length m.data.items
        → x ≡ get_or m.data.items i d → array_seen a ≡ array_of meant i (type_seen x) → new ≡ now ++ a ∷ []
        → map array_seen now ++ arrays_left meant leaves holds i ≡ all → map array_seen new ++ arrays_left meant leaves holds (i + 1) ≡ all
    arrays_next i x d now new a all within at same grown left =
        let none : TypeLeaf = record { path = []; flip = false; ground_type = clock } in
        let here : i < length leaves = omega arith in
        let next : suc i ≡ i + 1 = omega arith in
        let h = type_seen (get_or m.data.items i d) in
        let split : arrays_left meant leaves holds i ≡ array_of meant i h ∷ arrays_left meant leaves holds (i + 1) =
        ap (λ ls. map unnamed_array (arrays_from meant i ls (drop i holds))) (drop_more leaves i none here)
        ∙ ap (λ hs. map unnamed_array (arrays_from meant i (get_or leaves i none ∷ drop (i + 1) leaves) hs)) (holds_at i d within)
        ∙ ap (λ k. array_of meant i h ∷ map unnamed_array (arrays_from meant k (drop (i + 1) leaves) (drop (i + 1) holds))) next in
        let one : array_seen a ≡ array_of meant i h = same ∙ ap (λ y. array_of meant i (type_seen y)) at in
        ap (λ l. map array_seen l ++ arrays_left meant leaves holds (i + 1)) grown
        ∙ ap (λ l. l ++ arrays_left meant leaves holds (i + 1)) (map_push array_seen now a)
        ∙ append_assoc (map array_seen now) (array_seen a ∷ []) (arrays_left meant leaves holds (i + 1))
        ∙ ap (λ y. map array_seen now ++ y ∷ arrays_left meant leaves holds (i + 1)) one
        ∙ ap (λ l. map array_seen now ++ l) (sym split) ∙ left

    pub arrays_done : (i : ℕ) (now : List LeafArray) (all : List view.LeafArray) → length m.data.items ≤ i
        → map array_seen now ++ arrays_left meant leaves holds i ≡ all → map array_seen now ≡ all
    arrays_done i now all past left =
        let gone : length leaves ≤ i = omega arith in
        let nothing : arrays_left meant leaves holds i ≡ [] =
        ap (λ ls. map unnamed_array (arrays_from meant i ls (drop i holds))) (drop_all i leaves gone) in
        sym (append-nil (map array_seen now)) ∙ ap (λ l. map array_seen now ++ l) (sym nothing) ∙ left
