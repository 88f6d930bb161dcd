-- The leaves of a module of the code that statements must drive, and those that are covered.
use Rattle.std.specs.Prelude.{◌≡◌, ℕ, ◌<◌, List, map, length, Bool, true, false, Option, Some, None}
use Rattle.fir_meaning.specs.working.Choices.{covers_all}
use Rattle.fir_meaning.specs.working.LeafModules.{is_sink}
use Rattle.fir_leaf.specs.working.NodeBlocks.{block_in}
use Rattle.fir_leaf_circuit.specs.declared.leaf.Leaf.{Leaf}
use Rattle.fir_leaf_circuit.specs.declared.leaf.LeafRole.{LeafRole}
use Rattle.fir_leaf_circuit.specs.declared.leaf.LeafRole.TheVariants as role
use Rattle.fir_leaf_circuit.specs.declared.leaf_module.LeafModule.{LeafModule}
use Rattle.fir_leaf_circuit.specs.working.LeafStores.{depth_in, leaf_of_code}

abbrev pub is_sink_role : LeafRole → Bool
is_sink_role role.Sink = true
is_sink_role _ = false

abbrev pub depths_of : LeafModule → List ℕ
depths_of m = map (λ (l : Leaf). l.depth) m.leaves.items

abbrev pub is_sink_at : LeafModule → ℕ → Bool
is_sink_at m x = is_sink (leaf_of_code m x).role

abbrev pub is_covered_at : LeafModule → ℕ → Bool
is_covered_at m x = covers_all (depth_in m x) x (block_in m.nodes.items m.body.items) 0

abbrev pub AreCoveredBefore : LeafModule → ℕ → Type 0
AreCoveredBefore m n = (x : ℕ) → x < n → is_sink_at m x ≡ true → is_covered_at m x ≡ true

pub record IsNotCovered (m : LeafModule) (x : ℕ) : Type 0 where
  pub within : x < length m.leaves.items
  pub is_sink : is_sink_at m x ≡ true
  pub uncovered : is_covered_at m x ≡ false
  pub before : AreCoveredBefore m x

-- the first sink that is not covered, or none
abbrev pub IsFirstNotCovered : LeafModule → Option ℕ → Type 0
IsFirstNotCovered m None = AreCoveredBefore m (length m.leaves.items)
IsFirstNotCovered m (Some x) = IsNotCovered m x
