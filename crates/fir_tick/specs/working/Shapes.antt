-- The shape of a net's traces.
-- A tick gives a value for each input and names clocks, and the words of the state are the registers and pipes and then the arrays; they have the names of the emitted
-- text.
use Rattle.std.specs.Prelude.{◌≡◌, ℕ, List, ◌++◌, Some, None, map}
use Rattle.fir_net.specs.declared.net.FlatNet.{FlatNet}
use Rattle.fir_net.specs.working.Rows.{net_arrays, net_words}
use Rattle.fir_net_names.specs.declared.name_table.NameTable.{NameTable}
use Rattle.fir_net.specs.working.Settled.{shape}
use Rattle.fir_net_names.specs.working.IsTable.{IsTable}
use Rattle.fir_net_names.specs.working.LeafNamed.{named_leaves, name_at, somes}
use Rattle.trace_text.specs.Shapes.{TraceShape, plain, word_kinds}

pub record IsShapeOf (net : FlatNet) (s : TraceShape) : Type 0 where
  pub values : plain s ≡ shape net
  -- a register or a pipe has no depth, and an array that of its words
  pub words : word_kinds s.state ≡ map (λ w. (w.width, None)) (net_words net) ++ map (λ a. (a.width, Some a.depth)) (net_arrays net)
  -- the leaves and arrays that have names in the table are the ports and then the words of the state, which have theirs
  pub table : NameTable
  pub named : IsTable net table
  pub ports : List (List ℕ)
  pub names : somes (map (name_at table.leaves) (named_leaves net)) ++ somes (map (name_at table.arrays) net.array_order) ≡ ports ++ map (λ w. w.name) s.state
