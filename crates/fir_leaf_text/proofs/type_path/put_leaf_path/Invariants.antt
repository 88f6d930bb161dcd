use Rattle.std.proofs.Common.{◌≡◌, ◌<◌, ◌^◌, ◌-◌, Some}
use Rattle.std.specs.Prelude.{slice_get}
use Rattle.fir_meaning.specs.LeafPaths.{LeafPath}
use Rattle.fir_type_table.specs.working.Tables.{type_at, types_of}
use Rattle.fir_leaf_text.specs.working.TypePaths.{GoesOn, type_paths}
use Rattle.fir_leaf_text.proofs.type_path.put_leaf_path.Given as goal

abbrev pub invariant-loop-inner : goal.invariant-loop-inner
invariant-loop-inner l = record {
  fits : l.number < 2 ^ 64 - 1;
  left :
      (path : LeafPath) → slice_get (type_paths (type_at (types_of l.table) l.fn.id.number)) l.leaf ≡ Some path
      → GoesOn (type_at (types_of l.table) l.part.number) l.number l.fn.path.items l.path.items path;
}

abbrev pub decreases-loop-inner : goal.decreases-loop-inner
decreases-loop-inner l = l.part.number
