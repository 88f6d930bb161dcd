-- All names of a table.
use Rattle.std.specs.Prelude.{ℕ, List, ◌++◌}
use Rattle.fir_net_names.specs.declared.name_table.NameTable.{NameTable}
use Rattle.fir_net_names.specs.working.LeafNamed.{somes}

-- those of the leaves, and then those of the arrays
abbrev pub table_names : NameTable → List (List ℕ)
table_names t = somes t.leaves ++ somes t.arrays
