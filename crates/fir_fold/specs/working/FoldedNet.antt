-- The net that the way through a net ends at.
use Rattle.std.specs.Prelude.{map}
use Rattle.fir_net.specs.declared.net.FlatNet.{FlatNet}
use Rattle.fir_fold.specs.working.Standing.{leaf_read, written_array}
use Rattle.fir_fold.specs.working.Walking.{Walking, read_by}

abbrev pub folded_net : FlatNet → Walking → FlatNet
folded_net net w = record {
  name = net.name;
  leaves = map (leaf_read (read_by w)) net.leaves;
  nodes = w.nodes;
  state = net.state;
  arrays = map (written_array (read_by w)) net.arrays;
  array_order = net.array_order;
}
