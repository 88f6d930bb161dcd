use Rattle.std.proofs.Common.{length, take}
use Rattle.fir_bits.specs.Forms.{no_type}
use Rattle.fir_connect.specs.working.Lowered.{zero_of}
use Rattle.fir_leaf.specs.working.Nodes.{entries}
use Rattle.fir_merge.specs.working.Bounds.{StandsFor, types_in}
use Rattle.fir_merge.specs.working.Entries.{BoundsBelow, EntriesStand}
use Rattle.fir_merge.specs.working.NodeTerms.{Grows}
use Rattle.fir_merge.proofs.lower.lower_nodes.Given as goal

abbrev pub invariant-loop-place : goal.invariant-loop-place
invariant-loop-place l = record {
  grows : Grows l.fn.net l.net;
  nothing : StandsFor (types_in l.types) l.net l.nothing (zero_of no_type);
  below : BoundsBelow (length l.net) l.bounds.items;
  stand : EntriesStand (types_in l.types) l.net l.bounds.items (entries (take l.place l.nodes));
}
