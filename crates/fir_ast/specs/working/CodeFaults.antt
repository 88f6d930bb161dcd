-- What a fault of the code says: its code, its place and its evidence.
use Rattle.std.specs.Prelude.{ℕ, List, ◌++◌, map, flat_map, codes, decimal}
use Rattle.fir_ast.specs.declared.place.Place.{Place}
use Rattle.fir_ast.specs.declared.fault.FirFault.{FirFault}
use Rattle.fir_ast.specs.declared.fault.FirFault.TheVariants as fault
use Rattle.fir_ast.specs.declared.fault.ResetStep.{ResetStep}
use Rattle.fir_ast.specs.declared.fault.ResetStep.TheVariants as step
use Rattle.fir_ast.specs.Faults.{Code, E01, E02, E03, E04, E05, E06, E07, E08, E09, E10, E11, E12, E13, E14, E15, E16, E17, E18, E19, E20, E21, E22, E23, E24, E25, E26, E27, E28, Fault}
use Rattle.fir_ast.specs.working.TypeViews.{type_of}
use Rattle.fir_ast.specs.Texts.{place_text, type_text, separated, outcome_text, sign_text, hex_byte}

abbrev pub code_of : FirFault → Code
code_of (fault.Byte p b) = E01
code_of (fault.Indent p n) = E02
code_of (fault.Tab p) = E02
code_of (fault.BadLiteral p) = E03
code_of (fault.Syntax p) = E04
code_of (fault.Unsupported p word) = E05
code_of (fault.Depth p) = E06
code_of (fault.Version p n) = E07
code_of (fault.Unknown p name) = E08
code_of (fault.Twice p name first) = E09
code_of (fault.NoModule p name) = E10
code_of (fault.Recursive p walk) = E11
code_of (fault.Kinds p ts) = E12
code_of (fault.NoField p name) = E12
code_of (fault.Types p a b) = E13
code_of (fault.Flow p leaf) = E14
code_of (fault.NotPassive p t) = E15
code_of (fault.OutOfRange p index length) = E16
code_of (fault.MemoryField p name part) = E17
code_of (fault.Resets p walk) = E18
code_of (fault.Over p what) = E19
code_of (fault.PortWidth p leaf) = E20
code_of (fault.Legality p word numbers) = E21
code_of (fault.LiteralLegality p width negative size) = E21
code_of (fault.Condition p width) = E22
code_of (fault.Cost p n) = E23
code_of (fault.Undriven p leaf choice) = E24
code_of (fault.Clock p leaf a b) = E25
code_of (fault.MemoryClocks p leaf a b) = E26
code_of (fault.AsyncInit p walk) = E27
code_of (fault.Loop p walk) = E28

abbrev pub fault_place : FirFault → Place
fault_place (fault.Byte p b) = p
fault_place (fault.Indent p n) = p
fault_place (fault.Tab p) = p
fault_place (fault.BadLiteral p) = p
fault_place (fault.Syntax p) = p
fault_place (fault.Unsupported p word) = p
fault_place (fault.Depth p) = p
fault_place (fault.Version p n) = p
fault_place (fault.Unknown p name) = p
fault_place (fault.Twice p name first) = p
fault_place (fault.NoModule p name) = p
fault_place (fault.Recursive p walk) = p
fault_place (fault.Kinds p ts) = p
fault_place (fault.NoField p name) = p
fault_place (fault.Types p a b) = p
fault_place (fault.Flow p leaf) = p
fault_place (fault.NotPassive p t) = p
fault_place (fault.OutOfRange p index length) = p
fault_place (fault.MemoryField p name part) = p
fault_place (fault.Resets p walk) = p
fault_place (fault.Over p what) = p
fault_place (fault.PortWidth p leaf) = p
fault_place (fault.Legality p word numbers) = p
fault_place (fault.LiteralLegality p width negative size) = p
fault_place (fault.Condition p width) = p
fault_place (fault.Cost p n) = p
fault_place (fault.Undriven p leaf choice) = p
fault_place (fault.Clock p leaf a b) = p
fault_place (fault.MemoryClocks p leaf a b) = p
fault_place (fault.AsyncInit p walk) = p
fault_place (fault.Loop p walk) = p

abbrev pub reset_step_text : ResetStep → List ℕ
reset_step_text (step.Leaf name) = name
reset_step_text (step.At p) = place_text p

abbrev pub evidence_text : FirFault → List ℕ
evidence_text (fault.Byte p b) = codes "byte " ++ hex_byte b
evidence_text (fault.Indent p n) = codes "indent " ++ decimal n
evidence_text (fault.Tab p) = codes "tab"
evidence_text (fault.BadLiteral p) = codes "literal"
evidence_text (fault.Syntax p) = codes "syntax"
evidence_text (fault.Unsupported p word) = codes "unsupported " ++ word
evidence_text (fault.Depth p) = codes "depth 257"
evidence_text (fault.Version p n) = codes "version " ++ decimal n
evidence_text (fault.Unknown p name) = codes "unknown " ++ name
evidence_text (fault.Twice p name first) = codes "twice " ++ name ++ codes " " ++ place_text first
evidence_text (fault.NoModule p name) = codes "no module " ++ name
evidence_text (fault.Recursive p walk) = codes "recursive " ++ separated (codes " > ") walk
evidence_text (fault.Kinds p ts) = codes "kinds " ++ separated (codes "; ") (map (λ t. type_text (type_of t)) ts)
evidence_text (fault.NoField p name) = codes "field " ++ name
evidence_text (fault.Types p a b) = codes "types " ++ type_text (type_of a) ++ codes "; " ++ type_text (type_of b)
evidence_text (fault.Flow p leaf) = codes "flow " ++ leaf
evidence_text (fault.NotPassive p t) = codes "not passive " ++ type_text (type_of t)
evidence_text (fault.OutOfRange p index length) = codes "index " ++ decimal index ++ codes " of " ++ decimal length
evidence_text (fault.MemoryField p name part) = codes "memory " ++ name ++ codes " " ++ part
evidence_text (fault.Resets p walk) = codes "resets " ++ separated (codes " - ") (map reset_step_text walk)
evidence_text (fault.Over p what) = codes "width over 128 " ++ what
evidence_text (fault.PortWidth p leaf) = codes "port width " ++ leaf
evidence_text (fault.Legality p word numbers) = codes "legality " ++ word ++ flat_map (λ n. codes " " ++ decimal n) numbers
evidence_text (fault.LiteralLegality p width negative size) = codes "legality literal " ++ decimal width ++ codes " " ++ sign_text negative ++ decimal size
evidence_text (fault.Condition p width) = codes "condition width " ++ decimal width
evidence_text (fault.Cost p n) = codes "cost " ++ decimal n
evidence_text (fault.Undriven p leaf choice) = codes "undriven " ++ leaf ++ flat_map outcome_text choice
evidence_text (fault.Clock p leaf a b) = codes "clock " ++ leaf ++ codes " " ++ place_text a ++ codes " " ++ place_text b
evidence_text (fault.MemoryClocks p leaf a b) = codes "memory clocks " ++ leaf ++ codes " " ++ a ++ codes " " ++ b
evidence_text (fault.AsyncInit p walk) = codes "async init " ++ separated (codes " <- ") walk
evidence_text (fault.Loop p walk) = codes "loop " ++ separated (codes " <- ") walk

-- the fault of the definitions
abbrev pub fault_of : FirFault → Fault
fault_of f = record { code = code_of f; place = fault_place f; evidence = evidence_text f }
