-- The table of a net's names: of the module, of its ports, of the words of its state and of its arrays.
use Rattle.std.specs.Prelude.{◌≡◌, ℕ, List, [], ◌++◌, length, map, Some, None}
use Rattle.fir_base.specs.Lists.{In}
use Rattle.fir_net.specs.declared.net.FlatNet.{FlatNet}
use Rattle.fir_net_names.specs.declared.name_table.NameTable.{NameTable}
use Rattle.ver_words.specs.Names.{module_name}
use Rattle.fir_net_names.specs.Names.{AreNamed}
use Rattle.fir_net_names.specs.working.LeafNamed.{somes, named_leaves, base_at, array_base, name_at}

-- there is an entry for each leaf and each array; the leaves that have names took them one after the other, and the arrays that have bits theirs behind them,
-- and no other leaf or array has one
pub record IsTable (net : FlatNet) (t : NameTable) : Type 0 where
  pub circuit : t.circuit ≡ module_name net.name
  pub count : length t.leaves ≡ length net.leaves
  pub array_count : length t.arrays ≡ length net.arrays
  pub named :
      AreNamed [] (map (base_at net) (named_leaves net) ++ map (array_base net) net.array_order)
      (somes (map (name_at t.leaves) (named_leaves net)) ++ somes (map (name_at t.arrays) net.array_order))
  pub has : (k : ℕ) → In (named_leaves net) k → (name : List ℕ) × (name_at t.leaves k ≡ Some name)
  pub only : (k : ℕ) → (In (named_leaves net) k → ⊥) → name_at t.leaves k ≡ None
  pub has_array : (k : ℕ) → In net.array_order k → (name : List ℕ) × (name_at t.arrays k ≡ Some name)
  pub only_array : (k : ℕ) → (In net.array_order k → ⊥) → name_at t.arrays k ≡ None
