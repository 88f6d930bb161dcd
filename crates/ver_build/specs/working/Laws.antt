-- Laws about the definitions.
use Rattle.std.specs.Prelude.{List, [], ◌++◌, map}
use Rattle.fir_net.specs.declared.net.FlatNet.{FlatNet}
use Rattle.fir_net_names.specs.declared.name_table.NameTable.{NameTable}
use Rattle.fir_net.specs.working.IsNet.{IsNet}
use Rattle.fir_net_names.specs.working.IsTable.{IsTable}
use Rattle.fir_net_names.specs.working.LeafNamed.{somes, named_leaves, name_at}
use Rattle.fir_net_names.specs.Names.{AreNamed}
use Rattle.fir_net.specs.working.Rows.{net_arrays, net_rows, net_words}
use Rattle.fir_net.specs.Rows.{array_names, row_names, word_names}
use Rattle.ver_ast.specs.declared.place.VPlace.{VPlace}
use Rattle.ver_ast.specs.declared.tree.Verilog.{Verilog}
use Rattle.ver_ast.specs.working.Laws.{with_places}
use Rattle.ver_build.specs.working.Builds.{Builds}

-- in the table of a whole net the names of leaves and arrays, in the order in which they took them, are those for its ports and then for the words and the arrays
-- of its state
abbrev pub NamesAreForRows : Type 0
NamesAreForRows =
    (net : FlatNet) (t : NameTable) → IsNet net → IsTable net t
    → AreNamed [] (row_names (net_rows net) ++ word_names (net_words net) ++ array_names (net_arrays net))
    (somes (map (name_at t.leaves) (named_leaves net)) ++ somes (map (name_at t.arrays) net.array_order))

-- a tree that is built for a net is built for it with other places too
abbrev pub BuiltHasAnyPlaces : Type 0
BuiltHasAnyPlaces = (net : FlatNet) (v : Verilog) (places : List VPlace) → Builds net v → Builds net (with_places v places)
