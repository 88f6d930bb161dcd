-- The leaves and the arrays of the code's module are those of the definitions: so many, the same words among them, and the same arrays that have bits.
use Rattle.std.proofs.Common.{◌≡◌, ℕ, zero, suc, ◌+◌, ◌-◌, List, [], ◌∷◌, Bool, ◌&&◌, length, map, slice_get, refl, sym, ap, ap₂, ◌∙◌}
use Rattle.std.proofs.lemmas.List.{length-map}
use Rattle.std.proofs.lemmas.List.Elements.{filter_agree}
use Rattle.std.specs.List.{range_with_len}
use Rattle.fir_leaf.specs.declared.node.Node.{Node}
use Rattle.fir_meaning.specs.LeafTypes.{has_bits}
use Rattle.fir_meaning.specs.working.LeafModules.{LeafArray, LeafDeclared, LeafModule, leaf_at}
use Rattle.fir_meaning.specs.working.Numberings.{number}
use Rattle.fir_meaning.specs.working.StateWalks.{is_state}
use Rattle.fir_leaf.specs.working.DesignStates.{array_at}
use Rattle.fir_leaf_circuit.specs.declared.array.LeafArray.{LeafArray as ArrayOfCode}
use Rattle.fir_leaf_circuit.specs.declared.leaf.Leaf.{Leaf}
use Rattle.fir_leaf_circuit.specs.declared.leaf.LeafRole.{LeafRole}
use Rattle.fir_leaf_circuit.specs.declared.leaf.LeafRole.TheVariants as role
use Rattle.fir_leaf_circuit.specs.declared.leaf_module.LeafModule.{LeafModule as ModuleOfCode}
use Rattle.fir_leaf_circuit.specs.working.Seen.{HasView, array_seen, leaf_seen, leaves_seen, role_seen, type_seen, unnamed, unnamed_array}
use Rattle.fir_elaborate.specs.declared.numbers.Numbers.{Numbers}
use Rattle.fir_elaborate.specs.working.Walks.{array_numbers, arrays_among, bits_there, has_bits_of, is_word_of, numbering_of, shows_state, word_numbers, word_there, words_among}

state_same : (nodes : List Node) (r : LeafRole) (bits : Bool) → shows_state r bits ≡ (is_state (role_seen nodes r) && bits)
state_same nodes role.Source bits = refl
state_same nodes role.Sink bits = refl
state_same nodes (role.Computed id) bits = refl
state_same nodes (role.Register clock reset) bits = refl
state_same nodes (role.Reading r) bits = refl
state_same nodes (role.Pipe r clock under) bits = refl

word_same : (nodes : List Node) (ls : List Leaf) (vs : List LeafDeclared) → leaves_seen nodes ls ≡ map unnamed vs → (x : ℕ)
    → word_there (slice_get ls x) ≡ (is_state (leaf_at vs x).role && has_bits (leaf_at vs x).holds)
word_same nodes [] [] e x = refl
word_same nodes [] (v ∷ vs) e x = absurd (cc)
word_same nodes (l ∷ ls) [] e x = absurd (cc)
word_same nodes (l ∷ ls) (v ∷ vs) e zero =
    let same : leaf_seen nodes l ≡ unnamed v = cc in
    state_same nodes l.role (has_bits (type_seen l.holds))
    ∙ ap (λ (z : LeafDeclared). is_state z.role && has_bits z.holds) same
word_same nodes (l ∷ ls) (v ∷ vs) e (suc x) = let rest : leaves_seen nodes ls ≡ map unnamed vs = cc in word_same nodes ls vs rest x

bits_same : (xs : List ArrayOfCode) (vs : List LeafArray) → map array_seen xs ≡ map unnamed_array vs → (x : ℕ)
    → bits_there (slice_get xs x) ≡ has_bits (array_at vs x).holds
bits_same [] [] e x = refl
bits_same [] (v ∷ vs) e x = absurd (cc)
bits_same (a ∷ xs) [] e x = absurd (cc)
bits_same (a ∷ xs) (v ∷ vs) e zero = let same : array_seen a ≡ unnamed_array v = cc in ap (λ (z : LeafArray). has_bits z.holds) same
bits_same (a ∷ xs) (v ∷ vs) e (suc x) = let rest : map array_seen xs ≡ map unnamed_array vs = cc in bits_same xs vs rest x

declared_same : (xs : List ArrayOfCode) (vs : List LeafArray) → map array_seen xs ≡ map unnamed_array vs
    → map (λ (a : ArrayOfCode). a.declaration) xs ≡ map (λ (a : LeafArray). a.declaration) vs
declared_same [] [] e = refl
declared_same [] (v ∷ vs) e = absurd (cc)
declared_same (a ∷ xs) [] e = absurd (cc)
declared_same (a ∷ xs) (v ∷ vs) e =
    let same : array_seen a ≡ unnamed_array v = cc in
    let rest : map array_seen xs ≡ map unnamed_array vs = cc in
    ap₂ (λ y ys. y ∷ ys) (ap (λ (z : LeafArray). z.declaration) same) (declared_same xs vs rest)

module _ (part : ModuleOfCode) (m : LeafModule) (view : HasView part m) where
  pub as_many : length part.leaves.items ≡ length m.leaves
  as_many =
      sym (length-map part.leaves.items (leaf_seen part.nodes.items)) ∙ ap length view.leaves ∙ length-map m.leaves unnamed

  pub words_same : (at : Numbers) (from upto : ℕ) → word_numbers at part.leaves.items from upto ≡ words_among m (numbering_of at) from upto
  words_same at from upto =
      ap (map (number (numbering_of at)))
      (filter_agree (λ x. word_there (slice_get part.leaves.items x)) (is_word_of m) (word_same part.nodes.items part.leaves.items m.leaves view.leaves)
      (range_with_len from (upto - from)))

  pub as_many_arrays : length part.arrays.items ≡ length m.arrays
  as_many_arrays =
      sym (length-map part.arrays.items array_seen) ∙ ap length view.arrays ∙ length-map m.arrays unnamed_array

  pub declarations_same : map (λ (a : ArrayOfCode). a.declaration) part.arrays.items ≡ map (λ (a : LeafArray). a.declaration) m.arrays
  declarations_same = declared_same part.arrays.items m.arrays view.arrays

  pub arrays_same : (at : Numbers) (from upto : ℕ) → array_numbers at part.arrays.items from upto ≡ arrays_among m at.array from upto
  arrays_same at from upto =
      ap (map (λ x. at.array + x))
      (filter_agree (λ x. bits_there (slice_get part.arrays.items x)) (has_bits_of m) (bits_same part.arrays.items m.arrays view.arrays)
      (range_with_len from (upto - from)))
