-- The faults of widths, E19 to E22, each with its place and its evidence (FIRRTL spec, "Width Inference", "Primitive Operations", "Conditionals").
use Rattle.std.specs.Prelude.{ℕ, List, ◌++◌, flat_map, codes, decimal, Bool}
use Rattle.fir_bits.specs.declared.operators.PrimOp.{PrimOp}
use Rattle.fir_bits.specs.OperatorWords.{operator_word}
use Rattle.fir_ast.specs.declared.place.Place.{Place}
use Rattle.fir_ast.specs.Texts.{sign_text}
use Rattle.fir_ast.specs.Faults.{Fault, E19, E20, E21, E22}
use Rattle.fir_meaning.specs.LeafPaths.{LeafPath, path_text}

-- an operator, a mux, a validif or a literal by its word, or a leaf by its path
abbrev pub word_over : Place → List ℕ → Fault
word_over p word = record { code = E19; place = p; evidence = codes "width over 128 " ++ word }

abbrev pub leaf_over : Place → LeafPath → Fault
leaf_over p leaf = word_over p (path_text leaf)

abbrev pub no_port_width : Place → LeafPath → Fault
no_port_width p leaf = record { code = E20; place = p; evidence = codes "port width " ++ path_text leaf }

-- the width of the operand and the integers
abbrev pub wrong_integers : Place → PrimOp → List ℕ → Fault
wrong_integers p op numbers = record { code = E21; place = p; evidence = codes "legality " ++ operator_word op ++ flat_map (λ n. codes " " ++ decimal n) numbers }

abbrev pub wrong_literal : Place → ℕ → Bool → ℕ → Fault
wrong_literal p width negative magnitude =
    record { code = E21; place = p; evidence = codes "legality literal " ++ decimal width ++ codes " " ++ sign_text negative ++ decimal magnitude }

abbrev pub wrong_condition : Place → ℕ → Fault
wrong_condition p width = record { code = E22; place = p; evidence = codes "condition width " ++ decimal width }
