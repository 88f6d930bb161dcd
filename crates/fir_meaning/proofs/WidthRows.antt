-- Worked circuits, computed: the rules that they make for widths.
use Rattle.std.proofs.Common.{◌≡◌, [], ◌∷◌, false, true, Some, None, refl}
use Rattle.std.specs.Prelude.{codes}
use Rattle.fir_bits.specs.declared.operators.PrimOp.TheVariants as op
use Rattle.fir_bits.specs.Literals.{least_width}
use Rattle.fir_ast.specs.Types.{uint, sint, clock, reset, bundle, vector, no_fields}
use Rattle.fir_ast.specs.Expressions.{reference, no_parts, subfield, subindex, subaccess, mux}
use Rattle.fir_ast.specs.Statements.{register, instance, memory, partial_connect, when, data_type, depth, reader}
use Rattle.fir_ast.specs.Circuits.{CircuitTree}
use Rattle.fir_meaning.specs.WidthExpressions.{known, unknown, single, pair, greater, guarded, width_under}
use Rattle.fir_meaning.specs.WidthRules.{rules}
use Rattle.fir_meaning.proofs.SmallTrees.{at, name_at, input, output, part_of, ref, element_of, picked_of, field_of, uint_literal, one, two, wire_at, node_at, assign_to, assign, block, module_at, circuit, main_only}

-- a register without a width that grows by one each tick
abbrev pub growing : CircuitTree
growing =
    main_only (input 3 11 (codes "clock") clock ∷ output 4 12 (codes "o") (uint (Some 8)) ∷ [])
    (register (at 5 5) (name_at 5 9 (codes "r")) (at 5 13) (uint None) (ref 5 19 (codes "clock")) None ∷ assign 6 5 (codes "o") (ref 6 10 (codes "r"))
    ∷ assign 7 5 (codes "r") (two 7 10 op.Add (ref 7 14 (codes "r")) (uint_literal 7 17 (Some 1) 1)) ∷ [])

pub growing_rules : rules growing ≡ record { number = 2; at_least = pair op.Add false (unknown 2) (known 1) } ∷ []
growing_rules = refl

-- two instances of one module share its widths
abbrev pub shared : CircuitTree
shared =
    circuit
    (module_at 2 10 (codes "M") (input 3 11 (codes "x") (uint None) ∷ output 4 12 (codes "y") (uint None) ∷ [])
    (assign 5 5 (codes "y") (ref 5 10 (codes "x")) ∷ [])
    ∷ module_at 6 10 (codes "T")
    (input 7 11 (codes "a") (uint (Some 3)) ∷ input 8 11 (codes "b") (uint (Some 5)) ∷ output 9 12 (codes "o") (uint None)
    ∷ output 10 12 (codes "p") (uint None) ∷ [])
    (instance (at 11 5) (name_at 11 10 (codes "i")) (name_at 11 15 (codes "M")) ∷ instance (at 12 5) (name_at 12 10 (codes "j")) (name_at 12 15 (codes "M"))
    ∷ assign_to 13 5 (codes "i") (subfield (at 13 6) (at 13 7) (codes "x") no_parts) (ref 13 12 (codes "a"))
    ∷ assign_to 14 5 (codes "j") (subfield (at 14 6) (at 14 7) (codes "x") no_parts) (ref 14 12 (codes "b"))
    ∷ assign 15 5 (codes "o") (field_of 15 10 (codes "i") (codes "y")) ∷ assign 16 5 (codes "p") (field_of 16 10 (codes "j") (codes "y")) ∷ [])
    ∷ [])

pub shared_rules : rules shared
    ≡ record { number = 1; at_least = unknown 0 } ∷ record { number = 0; at_least = known 3 } ∷ record { number = 0; at_least = known 5 }
    ∷ record { number = 4; at_least = unknown 1 } ∷ record { number = 5; at_least = unknown 1 } ∷ []
shared_rules = refl

-- a dynamic shift
abbrev shift : CircuitTree
shift =
    main_only (input 3 11 (codes "a") (uint (Some 4)) ∷ input 4 11 (codes "s") (uint (Some 2)) ∷ output 5 12 (codes "o") (uint None) ∷ [])
    (assign 6 5 (codes "o") (two 6 10 op.Dshl (ref 6 15 (codes "a")) (ref 6 18 (codes "s"))) ∷ [])

pub shift_rules : rules shift ≡ record { number = 2; at_least = pair op.Dshl false (known 4) (known 2) } ∷ []
shift_rules = refl

pub shift_width : width_under (pair op.Dshl false (known 4) (known 2)) (λ k. 0) ≡ 7
shift_width = refl

-- all elements of a vector share one leaf, and a dynamic index names it too
abbrev elements : CircuitTree
elements =
    main_only (input 3 11 (codes "a") (uint (Some 3)) ∷ input 4 11 (codes "i") (uint (Some 1)) ∷ [])
    (wire_at 5 5 (codes "v") (vector (uint None) 2) ∷ wire_at 6 5 (codes "u") (uint None)
    ∷ assign_to 7 5 (codes "v") (subindex (at 7 6) (at 7 7) 1 no_parts) (ref 7 13 (codes "a"))
    ∷ assign_to 8 5 (codes "v") (subaccess (at 8 6) (ref 8 7 (codes "i")) no_parts) (ref 8 13 (codes "i"))
    ∷ assign 9 5 (codes "u") (element_of 9 10 (codes "v") 0) ∷ [])

pub elements_rules : rules elements
    ≡ record { number = 2; at_least = known 3 } ∷ record { number = 2; at_least = known 1 } ∷ record { number = 3; at_least = unknown 2 } ∷ []
elements_rules = refl

-- a vector of length 0 has no leaf: without a written width its element has width 0, and a connect to it makes no rule
abbrev pub empty : CircuitTree
empty =
    main_only (input 3 11 (codes "a") (uint (Some 3)) ∷ input 4 11 (codes "i") (uint (Some 1)) ∷ output 5 12 (codes "o") (uint None) ∷ [])
    (wire_at 6 5 (codes "v") (vector (uint None) 0)
    ∷ assign_to 7 5 (codes "v") (subaccess (at 7 6) (ref 7 7 (codes "i")) no_parts) (ref 7 13 (codes "a"))
    ∷ assign 8 5 (codes "o") (picked_of 8 10 (codes "v") (ref 8 12 (codes "i"))) ∷ [])

pub empty_rules : rules empty ≡ record { number = 2; at_least = known 0 } ∷ []
empty_rules = refl

-- a flipped field is driven the other way
abbrev flipped : CircuitTree
flipped =
    main_only []
    (wire_at 3 5 (codes "p") (bundle (part_of false (codes "x") (uint None) (part_of true (codes "y") (sint (Some 2)) no_fields)))
    ∷ wire_at 4 5 (codes "q") (bundle (part_of false (codes "x") (uint (Some 5)) (part_of true (codes "y") (sint None) no_fields)))
    ∷ assign 5 5 (codes "p") (ref 5 10 (codes "q")) ∷ [])

pub flipped_rules : rules flipped ≡ record { number = 0; at_least = known 5 } ∷ record { number = 3; at_least = known 2 } ∷ []
flipped_rules = refl

-- a partial connect takes the fields that both have, and no element where one vector has none
abbrev partial : CircuitTree
partial =
    main_only []
    (wire_at 3 5 (codes "p")
    (bundle (part_of false (codes "x") (uint None) (part_of false (codes "v") (vector (uint None) 2) (part_of false (codes "w") (vector (uint None) 2) no_fields))))
    ∷ wire_at 4 5 (codes "q")
    (bundle
    (part_of false (codes "w") (vector (uint (Some 7)) 0) (part_of false (codes "v") (vector (uint (Some 6)) 3) (part_of false (codes "y") (uint (Some 5)) no_fields))))
    ∷ partial_connect (at 5 5) (record { place = at 5 5; name = codes "p"; parts = no_parts }) (ref 5 10 (codes "q")) ∷ [])

pub partial_rules : rules partial ≡ record { number = 1; at_least = known 6 } ∷ []
partial_rules = refl

-- an init and a node; a Reset counts as one bit
abbrev others : CircuitTree
others =
    main_only (input 3 11 (codes "clock") clock ∷ input 4 11 (codes "rst") reset ∷ [])
    (register (at 5 5) (name_at 5 9 (codes "r")) (at 5 13) (uint None) (ref 5 19 (codes "clock"))
    (Some (record { place = at 5 26; condition = ref 5 43 (codes "rst"); init = uint_literal 5 48 (Some 4) 9 }))
    ∷ node_at 6 5 (codes "n") (mux (at 6 14) (ref 6 18 (codes "r")) (one 6 21 op.AsUInt (ref 6 28 (codes "rst")) []) (ref 6 34 (codes "r"))) ∷ [])

pub others_rules : rules others
    ≡ record { number = 2; at_least = known 4 }
    ∷ record { number = 3; at_least = guarded (unknown 2) (greater (single op.AsUInt false (known 1) 0 0) (unknown 2)) } ∷ []
others_rules = refl

-- a literal without a width has the least that holds it, and a UInt that drives a Reset asks for nothing
abbrev literals : CircuitTree
literals =
    main_only []
    (wire_at 3 5 (codes "u") (uint None) ∷ wire_at 4 5 (codes "w") reset ∷ assign 5 5 (codes "u") (uint_literal 5 10 None 9)
    ∷ assign 6 5 (codes "w") (ref 6 10 (codes "u")) ∷ assign 7 5 (codes "u") (ref 7 10 (codes "w")) ∷ [])

pub literals_rules : rules literals ≡ record { number = 0; at_least = known 4 } ∷ record { number = 0; at_least = known 1 } ∷ []
unfolding least_width
literals_rules = refl

-- an instance has the numbers of its own module's ports, wherever that stands
abbrev third : CircuitTree
third =
    circuit
    (module_at 2 10 (codes "T") (output 3 12 (codes "o") (uint None) ∷ [])
    (instance (at 4 5) (name_at 4 10 (codes "i")) (name_at 4 15 (codes "B")) ∷ assign 5 5 (codes "o") (field_of 5 10 (codes "i") (codes "y")) ∷ [])
    ∷ module_at 6 10 (codes "A") (output 7 12 (codes "y") (uint None) ∷ output 8 12 (codes "z") (vector (uint None) 3) ∷ []) []
    ∷ module_at 9 10 (codes "B") (output 10 12 (codes "y") (uint None) ∷ []) (assign 11 5 (codes "y") (uint_literal 11 10 (Some 6) 1) ∷ []) ∷ [])

pub third_rules : rules third ≡ record { number = 0; at_least = unknown 3 } ∷ record { number = 3; at_least = known 6 } ∷ []
third_rules = refl

-- a vector of length 0 takes the numbers of its element, and a memory those of its type; an instance takes none
abbrev behind : CircuitTree
behind =
    circuit
    (module_at 2 10 (codes "T") (input 3 11 (codes "e") (vector (uint None) 0) ∷ output 4 12 (codes "o") (uint None) ∷ [])
    (wire_at 5 5 (codes "v") (vector (bundle (part_of false (codes "x") (uint None) (part_of false (codes "y") (uint None) no_fields))) 0)
    ∷ memory (at 6 5) (name_at 6 9 (codes "m"))
    (data_type (at 7 7) (at 7 20) (uint (Some 8)) ∷ depth (at 8 7) 4 ∷ reader (at 9 7) (name_at 9 17 (codes "r") ∷ []) ∷ [])
    ∷ instance (at 10 5) (name_at 10 10 (codes "i")) (name_at 10 15 (codes "M")) ∷ wire_at 11 5 (codes "u") (uint None)
    ∷ assign 12 5 (codes "u") (field_of 12 10 (codes "i") (codes "y"))
    ∷ assign 13 5 (codes "u") (reference (at 13 10) (codes "m") (subfield (at 13 11) (at 13 12) (codes "r") (subfield (at 13 13) (at 13 14) (codes "data") no_parts)))
    ∷ assign 14 5 (codes "o") (ref 14 10 (codes "u")) ∷ [])
    ∷ module_at 15 10 (codes "M") (output 16 12 (codes "y") (uint None) ∷ []) [] ∷ [])

pub behind_rules : rules behind
    ≡ record { number = 9; at_least = unknown 2 } ∷ record { number = 9; at_least = known 8 } ∷ record { number = 1; at_least = unknown 9 } ∷ []
unfolding least_width
behind_rules = refl

-- both blocks of a when make rules, and what they declare is numbered on
abbrev inside : CircuitTree
inside =
    main_only (input 3 11 (codes "a") (uint (Some 1)) ∷ [])
    (when (at 4 5) (ref 4 10 (codes "a"))
    (block (wire_at 5 7 (codes "u") (uint None) ∷ assign 6 7 (codes "u") (ref 6 12 (codes "a")) ∷ []))
    (block (wire_at 8 7 (codes "v") (uint None) ∷ assign 9 7 (codes "v") (two 9 12 op.Mul (ref 9 16 (codes "a")) (ref 9 19 (codes "a"))) ∷ []))
    ∷ node_at 10 5 (codes "n") (ref 10 14 (codes "a")) ∷ [])

pub inside_rules : rules inside
    ≡ record { number = 1; at_least = known 1 } ∷ record { number = 2; at_least = pair op.Mul false (known 1) (known 1) }
    ∷ record { number = 3; at_least = known 1 } ∷ []
inside_rules = refl
