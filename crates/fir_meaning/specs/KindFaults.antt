-- The faults of types and flows, E12 to E17, each with its place and its evidence.
use Rattle.std.specs.Prelude.{ℕ, List, ◌++◌, map, codes, decimal}
use Rattle.fir_ast.specs.declared.place.Place.{Place}
use Rattle.fir_ast.specs.Types.{DataType}
use Rattle.fir_ast.specs.Texts.{separated, type_text}
use Rattle.fir_ast.specs.Faults.{Fault, E12, E13, E14, E15, E16, E17}
use Rattle.fir_meaning.specs.LeafPaths.{LeafPath, path_text}

-- operands, or one type, of kinds that may not stand there
abbrev pub wrong_kinds : Place → List DataType → Fault
wrong_kinds p ts = record { code = E12; place = p; evidence = codes "kinds " ++ separated (codes "; ") (map type_text ts) }

abbrev pub no_field : Place → List ℕ → Fault
no_field p name = record { code = E12; place = p; evidence = codes "field " ++ name }

-- a connect, an init or the arms of a mux that do not fit
abbrev pub wrong_types : Place → DataType → DataType → Fault
wrong_types p t u = record { code = E13; place = p; evidence = codes "types " ++ type_text t ++ codes "; " ++ type_text u }

abbrev pub wrong_flow : Place → LeafPath → Fault
wrong_flow p leaf = record { code = E14; place = p; evidence = codes "flow " ++ path_text leaf }

abbrev pub not_passive : Place → DataType → Fault
not_passive p t = record { code = E15; place = p; evidence = codes "not passive " ++ type_text t }

abbrev pub out_of_range : Place → ℕ → ℕ → Fault
out_of_range p index length = record { code = E16; place = p; evidence = codes "index " ++ decimal index ++ codes " of " ++ decimal length }

abbrev pub memory_field : Place → List ℕ → List ℕ → Fault
memory_field p name part = record { code = E17; place = p; evidence = codes "memory " ++ name ++ codes " " ++ part }
