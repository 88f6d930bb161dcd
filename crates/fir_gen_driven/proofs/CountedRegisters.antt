-- What the source has of a block of the circuit's module: a leaf and a word of 16 bits for each register that is declared in it, and no memory.
use Rattle.std.proofs.Common.{◌≡◌, ℕ, zero, suc, ◌+◌, ◌-◌, ◌≤◌, List, [], ◌∷◌, length, map, replicate, filter, refl, ap, subst, arith}
use Rattle.fir_ast.specs.declared.place.Place.{Place}
use Rattle.fir_ast.specs.Expressions.{Expression}
use Rattle.fir_ast.specs.Statements.{Block, SinkReference, connect, done, then}
use Rattle.fir_meaning.specs.ModuleScenes.{Scene}
use Rattle.fir_meaning.specs.SourceCircuits.{PlacedArray, PlacedLeaf, array_order_in_block, placed, widths_of_leaves, within, words_in_block}
use Rattle.fir_meaning.specs.SourceMeaning.{is_register}
use Rattle.fir_meaning.specs.SourceRoles.{source_arrays_in_block, sources_in_block}
use Rattle.fir_meaning.specs.Visibility.{Before, behind}
use Rattle.fir_gen.specs.working.GenTree.{body, last_connect, register_at, step_when, steps}

module _ (at : ℕ → ℕ → Place) (s : Scene) (words_of : List ℕ → List PlacedLeaf) (arrays_of : List ℕ → List PlacedArray) where
  abbrev pub leaves_in : Before → Block → List PlacedLeaf
  leaves_in before b = placed [] (map within (sources_in_block s before b))

  pub record HasRegisters (before : Before) (count : ℕ) (b : Block) : Type 0 where
    pub leaves : length (leaves_in before b) ≡ count
    pub registers : length (filter (λ (p : PlacedLeaf). is_register p.leaf.role) (leaves_in before b)) ≡ count
    pub words : widths_of_leaves (words_in_block [] s words_of before b) ≡ replicate count 16
    pub arrays : source_arrays_in_block s b ≡ []
    pub stored : array_order_in_block [] s arrays_of b ≡ []

  behind_register : (k count : ℕ) (before : Before) (b : Block) → HasRegisters (behind before (register_at at k)) count b
      → HasRegisters before (suc count) ((then) (register_at at k) b)
  behind_register k count before b h = record {
    leaves = ap suc h.leaves;
    registers = ap suc h.registers;
    words = ap (λ ws. 16 ∷ ws) h.words;
    arrays = h.arrays;
    stored = h.stored;
  }

  behind_connect : (p : Place) (sink : SinkReference) (e : Expression) (count : ℕ) (before : Before) (b : Block) → HasRegisters before count b
      → HasRegisters before count ((then) (connect p sink e) b)
  behind_connect p sink e count before b h =
      record { leaves = h.leaves; registers = h.registers; words = h.words; arrays = h.arrays; stored = h.stored }

  behind_step : (j count : ℕ) (before : Before) (b : Block) → HasRegisters (behind before (step_when at j)) count b
      → HasRegisters before count ((then) (step_when at j) b)
  behind_step j count before b h =
      record { leaves = h.leaves; registers = h.registers; words = h.words; arrays = h.arrays; stored = h.stored }

  nothing_declared : (before : Before) → HasRegisters before 0 done
  nothing_declared before = record { leaves = refl; registers = refl; words = refl; arrays = refl; stored = refl }

  counted_steps : (j count : ℕ) (rest : Block) → ((before : Before) → HasRegisters before 0 rest) → (before : Before)
      → HasRegisters before count (steps at j count rest)
  unfolding steps
  counted_steps j zero rest h before = h before
  counted_steps j (suc count) rest h before =
      let next = behind before (register_at at (j + 1)) in
      let more = steps at (j + 1) count rest in
      behind_register (j + 1) count before ((then) (step_when at j) more)
      (behind_step j count next more (counted_steps (j + 1) count rest h (behind next (step_when at j))))

  pub counted_body : (n : ℕ) → 1 ≤ n → (before : Before) → HasRegisters before n (body at n)
  counted_body n some before =
      let last = (then) (last_connect at n) done in
      let rest = steps at 0 (n - 1) last in
      let later = behind before (register_at at 0) in
      let e : suc (n - 1) ≡ n = omega arith in
      subst (λ k. HasRegisters before k (body at n)) e
      (behind_register 0 (n - 1) before _
      (behind_connect _ _ _ (n - 1) later rest
      (counted_steps 0 (n - 1) last (λ before. behind_connect _ _ _ 0 before done (nothing_declared before)) later)))
