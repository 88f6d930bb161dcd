-- Over values by path a circuit and a tree that go in step write and read the same words of arrays.
use Rattle.std.proofs.Common.{◌≡◌, ℕ, ◌<◌, List, [], ◌∷◌, Bool, ◌&&◌, nat_eq, if◌then◌else◌, length, map, slice_get, Some, refl, sym, ap, ap₂, ◌∙◌}
use Rattle.std.proofs.Math.Path.{fun_ext}
use Rattle.fir_ast.specs.declared.statements.ReadUnderWrite.{ReadUnderWrite}
use Rattle.fir_ast.specs.declared.statements.ReadUnderWrite.TheVariants.{New, Old, Undefined}
use Rattle.fir_meaning.specs.LeafPaths.{LeafPath}
use Rattle.fir_leaf.specs.working.DesignStates.{array_at}
use Rattle.fir_meaning.specs.working.LeafCircuits.{LeafCircuit}
use Rattle.fir_meaning.specs.working.LeafModules.{Reading, Writing}
use Rattle.fir_meaning.specs.working.Memories as over_memories
use Rattle.fir_meaning.specs.MemoryWords.{addresses}
use Rattle.fir_meaning.specs.ClockEdges.{has_edge}
use Rattle.fir_meaning.specs.SamePaths.{same_path}
use Rattle.fir_meaning.specs.SourceAllows as tree
use Rattle.fir_meaning.specs.SourceCircuits.{PlacedArray, all_arrays, array_path, state_arrays}
use Rattle.fir_meaning.specs.SourceDesigns.{SourceDesign}
use Rattle.fir_meaning.specs.SourceRoles.{PathReading, PathWriting}
use Rattle.fir_meaning.specs.SourceStores.{below}
use Rattle.fir_meaning.specs.SourceValues.{PathEnv, word_before}
use Rattle.fir_design.proofs.ArraysInStep.{array_found, array_there, array_within, path_of_array, word_before_same}
use Rattle.fir_design.proofs.InStep.{InStep, SameReading, SameWriting, SameWritings}
use Rattle.fir_design.proofs.PathLookups.{found, flat_mapped_same}
use Rattle.fir_design.proofs.ValuesInStep.{by_number, needs_same, read_before_same, read_same}

module _ (c : LeafCircuit) (t : SourceDesign) (s : InStep c t) (state edges : List ℕ) (env : PathEnv) where
  writes_same : (at : LeafPath) (w : Writing) (p : PathWriting) (address : ℕ) → SameWriting c at w p
      → over_memories.writes_at edges (by_number c env) w address ≡ tree.writes_at t state edges env at p address
  writes_same at w p address h =
      ap₂ (λ (a b : Bool). a && b)
      (ap₂ (λ (a b : Bool). a && b) (ap (λ y. has_edge edges (env.clocks y)) h.clock) (needs_same c t s env at w.needs p.needs h.needs))
      (ap (λ y. nat_eq (env.numbers y) address) h.address)

  after_same : (at : LeafPath) (ws : List Writing) (ps : List PathWriting) (address word : ℕ) → SameWritings c at ws ps
      → over_memories.word_after edges (by_number c env) ws address word ≡ tree.word_after t state edges env at ps address word
  after_same at [] [] address word h = refl
  after_same at [] (p ∷ ps) address word h = absurd h
  after_same at (w ∷ ws) [] address word h = absurd h
  after_same at (w ∷ ws) (p ∷ ps) address word h =
      ap (λ (v : ℕ). over_memories.word_after edges (by_number c env) ws address v)
      (ap₂ (λ (test : Bool) (v : ℕ). if test then v else word) (writes_same at w p address h.0) (ap env.numbers h.0.given))
      ∙ after_same at ws ps address (if tree.writes_at t state edges env at p address then env.numbers (below at (λ y. y) p.given) else word) h.1

  written_in : (arrays : List PlacedArray) (x : LeafPath) (address word : ℕ)
      → tree.word_written_in t state edges env arrays x address word
      ≡ found array_path (λ (a : PlacedArray). tree.word_after t state edges env a.at a.array.writings address word) word arrays x
  written_in [] x address word = refl
  written_in (a ∷ arrays) x address word =
      ap (λ (v : ℕ). if same_path (array_path a) x then tree.word_after t state edges env a.at a.array.writings address word else v)
      (written_in arrays x address word)

  written_same : (k : ℕ) → k < length c.arrays → (address : ℕ)
      → over_memories.word_written c state edges (by_number c env) k address ≡ tree.word_written t state edges env (path_of_array c k) address
  written_same k lt address =
      let a = array_there c t s k lt in
      let word = word_before t state (path_of_array c k) address in
      ap (λ (v : ℕ). over_memories.word_after edges (by_number c env) (array_at c.arrays k).writings address v)
      (word_before_same c t s state k lt address)
      ∙ after_same a.0.at (array_at c.arrays k).writings a.0.array.writings address word (s.each_array k a.0 a.1).writings
      ∙ sym (written_in (all_arrays t) (path_of_array c k) address word
      ∙ array_found c t s (λ (b : PlacedArray). tree.word_after t state edges env b.at b.array.writings address word) word k a.0 a.1)

  pub piped_same : (at : LeafPath) (r : Reading) (p : PathReading) (under : ReadUnderWrite) → SameReading c at r p
      → over_memories.piped c state edges (by_number c env) r under ≡ tree.piped t state edges env at p under
  piped_same at r p New h =
      read_same c t s env at r p (over_memories.word_written c state edges (by_number c env) r.array) _ h
      (λ address. written_same r.array h.within address ∙ ap (λ y. tree.word_written t state edges env y address) h.array)
  piped_same at r p Old h = read_before_same c t s env state at r p h
  piped_same at r p Undefined h = read_before_same c t s env state at r p h

  array_next_same : (k : ℕ) (a : PlacedArray) → slice_get (all_arrays t) k ≡ Some a
      → over_memories.array_next c state edges (by_number c env) k ≡ tree.array_next t state edges env a
  array_next_same k a e =
      ap₂ (λ (f : ℕ → ℕ) (n : ℕ). map f (addresses 0 n)) (fun_ext (written_same k (array_within c t s k a e))) (s.each_array k a e).words
      ∙ ap (λ y. map (tree.word_written t state edges env y) (addresses 0 a.array.words)) (s.each_array k a e).path

  pub arrays_next_same : over_memories.arrays_next c state edges (by_number c env) ≡ tree.arrays_next t state edges env
  arrays_next_same =
      flat_mapped_same (slice_get (all_arrays t)) (over_memories.array_next c state edges (by_number c env)) (tree.array_next t state edges env)
      c.array_order (state_arrays t) s.array_order array_next_same
